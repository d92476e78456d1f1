-- The number of each fault.
use Rattle.std.specs.Prelude.{ℕ}
use Rattle.tokens.specs.declared.fault.Fault.{Fault}
use Rattle.tokens.specs.declared.fault.Fault.TheVariants.{SourceTooLong, NoToken, UnknownWord, NameTooLong, ConstantTooLarge, TooManyTokens}

abbrev pub number_of : Fault → ℕ
number_of SourceTooLong = 1
number_of NoToken = 2
number_of UnknownWord = 3
number_of NameTooLong = 4
number_of ConstantTooLarge = 5
number_of TooManyTokens = 6
