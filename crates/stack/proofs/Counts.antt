-- How many items a stack holds.
use Rattle.std.proofs.Common.{◌≡◌, ◌+◌, ◌≤◌, length, Some, Ok, ap, ◌∙◌}
use Rattle.std.proofs.lemmas.List.{length_push, length-take-le}
use Rattle.stack.specs.declared.Stack.{Stack}
use Rattle.stack.specs.Held.{held, room, Pushed, Popped}

pub count_is : {T : Type 0} (s : Stack T) → length (held s) ≡ s.height
unfolding held
count_is s = length-take-le s.height s.cells.now s.fits

-- no stack holds more than it has room for
pub held_fits : {T : Type 0} (s : Stack T) → length (held s) ≤ room s
unfolding room
held_fits s = rw count_is s.fits

pub one_more : {T : Type 0} (before : Stack T) (item : T) (after : Stack T) → Pushed before item (Ok tt) after → length (held after) ≡ length (held before) + 1
one_more before item after pushed = ap length pushed.1 ∙ length_push (held before) item

pub one_fewer : {T : Type 0} (before : Stack T) (item : T) (after : Stack T) → Popped before (Some item) after → length (held before) ≡ length (held after) + 1
one_fewer before item after popped = ap length popped ∙ length_push (held after) item
