-- The number of each fault.
use Rattle.std.specs.Prelude.{ℕ}
use Rattle.modes.specs.declared.fault.Fault.{Fault}
use Rattle.modes.specs.declared.fault.Fault.TheVariants.{DeclaredBefore, TooManyNames, NotDeclared, Unsuited, OtherPrimitive, TooFewReferences}

abbrev pub number_of : Fault → ℕ
number_of DeclaredBefore = 9
number_of TooManyNames = 10
number_of NotDeclared = 11
number_of Unsuited = 12
number_of OtherPrimitive = 13
number_of TooFewReferences = 14
