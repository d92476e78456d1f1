-- What a call does to a stack of which it is known what it holds.
use Rattle.std.proofs.Common.{◌≡◌, ◌<◌, true, is_some, List, [], ◌∷◌, ◌++◌, length, Some, None, Ok, Err, Option, Result, sym, refl, ap, ◌∙◌, arith}
use Rattle.std.proofs.lemmas.List.{length_push, same_from_push}
use Rattle.stack.specs.declared.Stack.{Stack}
use Rattle.stack.specs.declared.full.Full.{Full}
use Rattle.stack.proofs.Counts.{held_fits, one_fewer}
use Rattle.stack.specs.Held.{held, room, Pushed, Popped, Topped}

no_last : {T : Type 0} (below : List T) (item : T) → [] ≡ below ++ item ∷ [] → ⊥
no_last below item e = omega (arith, ap length e ∙ length_push below item)

-- where there is room, a push puts the item on top
pub push_done : {T : Type 0} (before : Stack T) (item : T) (r : Result (Unit {0}) Full) (after : Stack T) → length (held before) < room before → Pushed before item r after → (r ≡ Ok tt) × (held after ≡ held before ++ item ∷ [])
push_done before item (Ok u) after space pushed = (refl, pushed.1)
push_done before item (Err e) after space pushed = let none : ⊥ = omega arith in elim none [ ]

-- a pop gives the item that is known to be on top, and leaves those below
pub pop_gives : {T : Type 0} (before : Stack T) (r : Option T) (after : Stack T) (below : List T) (item : T) → held before ≡ below ++ item ∷ [] → Popped before r after → (r ≡ Some item) × (held after ≡ below)
pop_gives before (Some x) after below item known popped = let same = same_from_push (held after) below x item (sym popped ∙ known) in (ap Some same.1, same.0)
pop_gives before None after below item known popped = let none : ⊥ = no_last below item (sym popped.0 ∙ known) in elim none [ ]

pub top_gives : {T : Type 0} (s : Stack T) (r : Option T) (below : List T) (item : T) → held s ≡ below ++ item ∷ [] → Topped s r → r ≡ Some item
top_gives s (Some x) below item known topped = ap Some (same_from_push topped.0 below x item (sym topped.1 ∙ known)).1
top_gives s None below item known topped = let none : ⊥ = no_last below item (sym topped ∙ known) in elim none [ ]

-- where an item has been taken off, there is room for another
pub popped_room : {T : Type 0} (before : Stack T) (r : Option T) (after : Stack T) → Popped before r after → is_some r ≡ true → room after ≡ room before → length (held after) < room after
popped_room before (Some x) after popped some kept = omega (arith, held_fits before, one_fewer before x after popped, kept)
popped_room before None after popped some kept = absurd (grind arith)
