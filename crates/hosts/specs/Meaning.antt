-- What a host holds, and what its calls make of that.
use Rattle.std.specs.Prelude.{ℕ, ◌-◌, ◌≤◌, cond, List, [], ◌∷◌, ◌++◌, Some, None, Ok, Err, Option, Result, ◌==◌, nat_le}
use Rattle.hosts.specs.declared.exchange.Cause.{Cause}
use Rattle.hosts.specs.declared.exchange.Cause.TheVariants.{Full, Large}
use Rattle.hosts.specs.declared.exchange.Unreadable.{Unreadable}
use Rattle.hosts.specs.declared.exchange.Value.{Value}
use Rattle.hosts.specs.declared.exchange.Value.TheVariants as value

-- the greatest number that can be read, and the greatest that can be written
abbrev pub most_read : ℕ
most_read = 4294967294

abbrev pub most_written : ℕ
most_written = 2147483647

-- what is read: a value, or something that cannot be read
abbrev pub Item : Type 0
Item = Result Value Unreadable

-- no number among the items is above the greatest that can be read
abbrev pub Readable : List Item → Type 0
Readable [] = Unit {0}
Readable (Ok (value.Number n) ∷ is) = (n ≤ most_read) × Readable is
Readable (Ok (value.Truth b) ∷ is) = Readable is
Readable (Err _ ∷ is) = Readable is

-- the first item, if there is one
abbrev pub first : List Item → Option Item
first [] = None
first (i ∷ is) = Some i

-- the items behind the first
abbrev pub behind : List Item → List Item
behind [] = []
behind (i ∷ is) = is

-- the answer to a value where there is room
abbrev pub judged : Value → Result (Unit {0}) Cause
judged (value.Truth b) = Ok tt
judged (value.Number n) = cond (nat_le n most_written) (Ok tt) (Err Large)

-- the answer to a value with so much room
abbrev pub put_answer : ℕ → Value → Result (Unit {0}) Cause
put_answer room v = cond (room == 0) (Err Full) (judged v)

-- the values written, and the room, after that answer
abbrev pub put_said : Result (Unit {0}) Cause → Value → List Value → List Value
put_said (Ok _) v vs = vs ++ v ∷ []
put_said (Err _) v vs = vs

abbrev pub put_room : Result (Unit {0}) Cause → ℕ → ℕ
put_room (Ok _) room = room - 1
put_room (Err _) room = room

-- all that a host is known by: what is still to be read, what was written, and how much more is taken;
-- two hosts are alike if they hold the same
pub record Holding : Type 0 where
  pub left : List Item
  pub said : List Value
  pub room : ℕ

-- what a host holds, by the three members of its type
abbrev pub holding : {S : Type 0} → (S → List Item) → (S → List Value) → (S → ℕ) → S → Holding
holding left said room h = record { left = left h; said = said h; room = room h }
