-- The top of a stack, in the cells.
use Rattle.std.proofs.Common.{◌≡◌, ◌+◌, ◌-◌, ◌<◌, ◌≤◌, [], ◌∷◌, ◌++◌, length, get_or, take, sym, ap, ◌∙◌, arith}
use Rattle.std.proofs.lemmas.List.{take_more}
use Rattle.stack.specs.declared.Stack.{Stack}
use Rattle.stack.specs.Held.{held}

-- the last of the first `height` cells is the top
pub top_apart : {T : Type 0} (s : Stack T) (d : T) → 0 < s.height → held s ≡ take (s.height - 1) s.cells.now ++ get_or s.cells.now (s.height - 1) d ∷ []
unfolding held
top_apart s d some =
    let within : s.height - 1 < length s.cells.now = omega arith in
    let whole : s.height - 1 + 1 ≡ s.height = omega arith in
    rw whole at (take_more s.cells.now (s.height - 1) d within)

-- the same of an item that was read there
pub top_read : {T : Type 0} (s : Stack T) (x : T) → 0 < s.height → x ≡ get_or s.cells.now (s.height - 1) x → held s ≡ take (s.height - 1) s.cells.now ++ x ∷ []
top_read s x some read = top_apart s x some ∙ ap (λ y. take (s.height - 1) s.cells.now ++ y ∷ []) (sym read)

pub none_held : {T : Type 0} (s : Stack T) → s.height ≤ 0 → held s ≡ []
unfolding held
none_held s none = let empty : s.height ≡ 0 = omega arith in rw empty
