-- What a text host holds, read off its own memory.
use Rattle.std.specs.Prelude.{◌≡◌, ℕ, ◌*◌, ◌||◌, cond, List, [], ◌++◌, length, take, drop, nat_lt, Some, None, Ok, Err, Option, Result}
use Rattle.hosts.specs.Meaning.{Item}
use Rattle.hosts.specs.declared.exchange.Cause.{Cause}
use Rattle.hosts.specs.declared.exchange.Value.{Value}
use Rattle.hosts.specs.declared.fault.Fault.{Fault}
use Rattle.hosts.specs.declared.fault.Fault.TheVariants.{MemoryShort, InputTooLong}
use Rattle.refusals.specs.declared.refusal.Refusal.{Refusal}
use Rattle.text_host.specs.Items.{ahead, items}
use Rattle.text_host.specs.Lines.{decoded, line_bytes, line_of}
use Rattle.text_host.specs.declared.TextHost.{TextHost}

-- the limits: bytes of a text, and values
abbrev pub most_bytes : ℕ
most_bytes = 16384

abbrev pub most_values : ℕ
most_values = 4096

-- the memory that was lent, and the text written so far, which is at its front
abbrev pub memory : TextHost → List ℕ
memory h = h.output.now

abbrev pub written : TextHost → List ℕ
written h = take h.written (memory h)

-- memory with a text at its front, and behind that as it was
abbrev pub overlaid : List ℕ → List ℕ → List ℕ
overlaid text lent = text ++ drop (length text) lent

abbrev pub left : TextHost → List Item
left h = ahead h.first (items h.rest.now)

abbrev pub said : TextHost → List Value
said h = decoded (written h)

abbrev pub room : TextHost → ℕ
room h = h.room

-- what is wrong with a text, the memory that is lent and the room that is asked for
abbrev pub fault_of : List ℕ → List ℕ → ℕ → Option Fault
fault_of text lent space =
    cond (nat_lt most_bytes (length text)) (Some InputTooLong) (cond (nat_lt most_values space || nat_lt (length lent) (line_bytes * space)) (Some MemoryShort) None)

-- a host with all items of the text to read, nothing said, and the memory as it was lent; or the refusal of what is wrong
abbrev pub Opens : List ℕ → List ℕ → ℕ → Result TextHost (Refusal Fault) → Type 0
Opens text lent space (Ok h) =
    (fault_of text lent space ≡ None) × (left h ≡ items text) × (said h ≡ []) × (room h ≡ space) × (written h ≡ []) × (memory h ≡ lent)
Opens text lent space (Err x) = (fault_of text lent space ≡ Some x.fault) × (x.place ≡ 0)

-- the line that the answer to a value adds to the text
abbrev pub added : Result (Unit {0}) Cause → Value → List ℕ
added (Ok _) v = line_of v
added (Err _) v = []
