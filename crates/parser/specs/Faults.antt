-- The number of each fault.
use Rattle.std.specs.Prelude.{ℕ}
use Rattle.parser.specs.declared.fault.Fault.{Fault}
use Rattle.parser.specs.declared.fault.Fault.TheVariants.{NotAllowed, TooDeep, MemoryShort}

abbrev pub number_of : Fault → ℕ
number_of NotAllowed = 7
number_of TooDeep = 8
number_of MemoryShort = 23
