-- Copying readings to the output of a host: what comes of it, and what that means.
use Rattle.std.specs.Prelude.{◌≡◌, ℕ, zero, suc, ◌+◌, ◌-◌, ◌<◌, List, [], ◌∷◌, ◌++◌, map, length, Some, None, Ok, Err, Option, Result}
use Rattle.hosts.specs.Meaning.{Holding, Item, behind, first, judged, most_written, put_answer}
use Rattle.hosts.specs.declared.copying.Copied.{Copied}
use Rattle.hosts.specs.declared.exchange.Cause.{Cause}
use Rattle.hosts.specs.declared.exchange.Cause.TheVariants.{Empty, Unreadable, Full, Large}
use Rattle.hosts.specs.declared.exchange.Value.{Value}
use Rattle.hosts.specs.declared.exchange.Value.TheVariants as value

-- the answer to copying an item with so much room
abbrev pub item_answer : Option Item → ℕ → Result (Unit {0}) Cause
item_answer None room = Err Empty
item_answer (Some (Ok v)) room = put_answer room v
item_answer (Some (Err _)) room = Err Unreadable

-- the value that an item is copied as, where it can be read
abbrev pub values_of : Option Item → List Value
values_of None = []
values_of (Some (Ok v)) = v ∷ []
values_of (Some (Err _)) = []

-- what a host holds after an item was copied, or not
abbrev pub copy_after : Result (Unit {0}) Cause → Holding → Holding
copy_after (Ok _) h = record { left = behind h.left; said = h.said ++ values_of (first h.left); room = h.room - 1 }
copy_after (Err _) h = h

abbrev pub copy_answer : Holding → Result (Unit {0}) Cause
copy_answer h = item_answer (first h.left) h.room

-- after one more was copied, or none was
abbrev pub counted : Result (Unit {0}) Cause → Copied × Holding → Holding → Copied × Holding
counted (Ok _) later h = (record { count = suc later.0.count; stop = later.0.stop }, later.1)
counted (Err c) later h = (record { count = 0; stop = Some c }, h)

-- up to so many readings, one after the other
abbrev pub copying : ℕ → Holding → Copied × Holding
copying zero h = (record { count = 0; stop = None }, h)
copying (suc n) h = counted (copy_answer h) (copying n (copy_after (copy_answer h) h)) h

-- each value is one that can be written
abbrev pub Writable : List Value → Type 0
Writable [] = Unit {0}
Writable (v ∷ vs) = (judged v ≡ Ok tt) × Writable vs

-- why a host that holds so much is not copied from any further
abbrev pub Stops : Cause → Holding → Type 0
Stops Empty h = h.left ≡ []
Stops Unreadable h = (is : List Item) × (h.left ≡ Err (record {}) ∷ is)
Stops Full h = (v : Value) × (is : List Item) × (h.left ≡ Ok v ∷ is) × (h.room ≡ 0)
Stops Large h = (n : ℕ) × (is : List Item) × (h.left ≡ Ok (value.Number n) ∷ is) × (0 < h.room) × (most_written < n)

-- as many were copied as were asked for, or fewer for a cause that holds still
abbrev pub Ends : ℕ → ℕ → Option Cause → Holding → Type 0
Ends most count None h = count ≡ most
Ends most count (Some c) h = (count < most) × Stops c h

-- these values were read one after the other and written one after the other, and nothing else was altered
pub record Copies (most : ℕ) (before : Holding) (r : Copied) (after : Holding) : Type 0 where
  pub values : List Value
  pub read : before.left ≡ map Ok values ++ after.left
  pub written : after.said ≡ before.said ++ values
  pub space : before.room ≡ after.room + length values
  pub could : Writable values
  pub counts : r.count ≡ length values
  pub ends : Ends most r.count r.stop after
