-- The number of each fault: that of the phase that met it.
use Rattle.std.specs.Prelude.{ℕ}
use Rattle.modes.specs.Faults as modes
use Rattle.parser.specs.Faults as parser
use Rattle.tokens.specs.Faults as tokens
use Rattle.sheet.specs.declared.fault.Fault.{Fault}
use Rattle.sheet.specs.declared.fault.Fault.TheVariants.{Text, Grammar, Modes}

abbrev pub number_of : Fault → ℕ
number_of (Text f) = tokens.number_of f
number_of (Grammar f) = parser.number_of f
number_of (Modes f) = modes.number_of f
