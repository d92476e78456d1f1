-- What a probe host holds, read off its memory, and what making it and its methods come to.
use Rattle.std.specs.Prelude.{◌≡◌, ℕ, ◌||◌, if◌then◌else◌, List, [], ◌∷◌, ◌++◌, length, map, take, Some, None, Option, Ok, Err, Result, slice_set, nat_lt}
use Rattle.hosts.specs.Meaning.{Item}
use Rattle.hosts.specs.declared.exchange.Cause.{Cause}
use Rattle.hosts.specs.declared.exchange.Value.{Value}
use Rattle.hosts.specs.declared.fault.Fault.{Fault}
use Rattle.hosts.specs.declared.fault.Fault.TheVariants.{InputTooLong, MemoryShort}
use Rattle.refusals.specs.declared.refusal.Refusal.{Refusal}
use Rattle.probe_host.specs.Codes.{code_of, item_of, value_of}
use Rattle.probe_host.specs.declared.ProbeHost.{ProbeHost}

-- all of the output memory, written or not
abbrev pub memory : ProbeHost → List ℕ
memory h = h.output.now

-- the numbers written so far, the oldest first: what stands at the front of the output memory
abbrev pub numbers_written : ProbeHost → List ℕ
numbers_written h = take h.count h.output.now

-- the three members by which a host is known
abbrev pub items_left : ProbeHost → List Item
items_left h = map item_of h.input.now

abbrev pub values_said : ProbeHost → List Value
values_said h = map value_of (numbers_written h)

abbrev pub room_of : ProbeHost → ℕ
room_of h = h.room

-- why no host is made of so many numbers, so much memory and so much room, if none is
abbrev pub fault_of : ℕ → ℕ → ℕ → Option Fault
fault_of numbers cells room =
    if nat_lt 4096 numbers then Some InputTooLong else (if nat_lt 4096 room || nat_lt cells room then Some MemoryShort else None)

-- a host is made exactly where there is no fault; it has all of the input left, has said nothing, and leaves the memory as it was
abbrev pub Made : List ℕ → List ℕ → ℕ → Result ProbeHost (Refusal Fault) → Type 0
Made input cells room (Ok h) =
    (fault_of (length input) (length cells) room ≡ None) × (items_left h ≡ map item_of input) × (numbers_written h ≡ []) × (room_of h ≡ room) × (memory h ≡ cells)
Made input cells room (Err refusal) =
    (fault_of (length input) (length cells) room ≡ Some refusal.fault) × (refusal.place ≡ 0)

-- the numbers written, and the memory, after an answer to a value: one more number, in the cell behind those written before, and all
-- other cells as they were
abbrev pub put_numbers : Result (Unit {0}) Cause → Value → List ℕ → List ℕ
put_numbers (Ok _) v ns = ns ++ code_of v ∷ []
put_numbers (Err _) v ns = ns

abbrev pub put_memory : Result (Unit {0}) Cause → Value → ℕ → List ℕ → List ℕ
put_memory (Ok _) v written cells = slice_set cells written (code_of v)
put_memory (Err _) v written cells = cells
