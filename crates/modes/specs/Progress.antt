-- How far a judgement has come: the facts that the private functions hand to each other.
use Rattle.std.specs.Prelude.{◌≡◌, ℕ, ◌≤◌, List, [], ◌∷◌, map, length, reverse, Some, None, Ok, Err, vec_items, Option, Result}
use Rattle.grammar.specs.Tree.{Primitive}
use Rattle.modes.specs.Flatly.{Entry, Step, gone, halted}
use Rattle.modes.specs.Judging.{Judgement, has, wrong}
use Rattle.modes.specs.declared.fault.Fault.{Fault}
use Rattle.modes.specs.declared.judging.Stack.{Stack}
use Rattle.modes.specs.declared.judging.Value.{Value}
use Rattle.outline.specs.Names.{primitive_of}
use Rattle.outline.specs.declared.declared.Primitive as primitives
use Rattle.refusals.specs.declared.failure.Failure.{Failure}
use Rattle.refusals.specs.declared.failure.Failure.TheVariants.{Refused, Memory}
use Rattle.refusals.specs.declared.refusal.Refusal.{Refusal}

abbrev pub entry_of : Value → Entry
entry_of v = record { place = v.place; refs = v.refs; primitive = primitive_of v.primitive }

-- the stack: the last value of the vector is on top
abbrev pub entries : Stack → List Entry
entries s = reverse (map entry_of (vec_items s.values))

abbrev pub primitive_in : Option primitives.Primitive → Option Primitive
primitive_in None = None
primitive_in (Some m) = Some (primitive_of m)

-- the mode of a name that stands at a place
abbrev pub Finds : Judgement → ℕ → Result Value (Refusal Fault) → Type 0
Finds j p (Ok v) = (j ≡ has (record { refs = v.refs; primitive = primitive_of v.primitive })) × (v.place ≡ p)
Finds j p (Err x) = j ≡ wrong x.fault x.place

-- the top of a stack, and the stack below it
abbrev pub Takes : List Entry → Option Value → List Entry → Type 0
Takes st None left = (st ≡ []) × (left ≡ [])
Takes st (Some v) left = st ≡ entry_of v ∷ left

-- the two values on top of a stack, the upper one last, and the stack below them; a stack that has not two is emptied
abbrev pub TakesTwo : List Entry → Option (Value × Value) → List Entry → Type 0
TakesTwo st None left = (length st ≤ 1) × (left ≡ [])
TakesTwo st (Some x) left = st ≡ entry_of x.1 ∷ (entry_of x.0 ∷ left)

-- the answer to a step, and the stack after it
abbrev pub Steps : Step → Result (Unit {0}) (Failure Fault) → List Entry → Type 0
Steps s (Ok _) st = s ≡ gone st
Steps s (Err (Refused x)) st = s ≡ halted x.fault x.place
Steps s (Err (Memory e)) st = Unit {0}
