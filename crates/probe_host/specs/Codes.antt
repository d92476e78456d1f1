-- Values as numbers of 32 bits.
use Rattle.std.specs.Prelude.{ℕ, ◌+◌, ◌-◌, true, false, cond, Ok, Err, Result, nat_le, ◌==◌}
use Rattle.std.specs.Result.{result_and}
use Rattle.hosts.specs.Meaning.{Item, judged, most_read}
use Rattle.hosts.specs.declared.exchange.Cause.{Cause}
use Rattle.hosts.specs.declared.exchange.Value.{Value}
use Rattle.hosts.specs.declared.exchange.Value.TheVariants.{Truth, Number}

-- what is read from a number of the input: 4,294,967,295 cannot be read
abbrev pub item_of : ℕ → Item
item_of n = cond (nat_le n most_read) (Ok (Number n)) (Err (record {}))

-- the number that a value is written as
abbrev pub code_of : Value → ℕ
code_of (Truth false) = 0
code_of (Truth true) = 1
code_of (Number n) = n + 2

-- the value that a number of the output was written for
abbrev pub value_of : ℕ → Value
value_of code = cond (code == 0) (Truth false) (cond (code == 1) (Truth true) (Number (code - 2)))

-- that number, or the cause why the value cannot be written
abbrev pub code_answer : Value → Result ℕ Cause
code_answer v = result_and (judged v) (Ok (code_of v))
