-- What the machine does, in the words of the grammar.
use Rattle.std.specs.Prelude.{◌≡◌, List, ◌++◌, Some, None}
use Rattle.grammar.specs.Bnf.{Derives}
use Rattle.grammar.specs.Machine.{State, opening, go, runs}
use Rattle.grammar.specs.Tree.{Program}
use Rattle.tokens.specs.Tokens.{Placed}

-- some program begins with these tokens
abbrev pub Viable : List Placed → Type 0
Viable ts = (more : List Placed) × (p : Program) × Derives p (ts ++ more)

pub record Grammatical : Type 0 where
  -- the machine reads exactly what the grammar derives
  pub sound : (ts : List Placed) (p : Program) → runs (Some opening) ts ≡ Some p → Derives p ts
  pub whole : (ts : List Placed) (p : Program) → Derives p ts → runs (Some opening) ts ≡ Some p
  -- the tree of a program is one only
  pub unique : (ts : List Placed) (p q : Program) → Derives p ts → Derives q ts → p ≡ q
  -- what the machine takes can be completed, and what it does not take cannot
  pub viable : (ts : List Placed) (s : State) → go (Some opening) ts ≡ Some s → Viable ts
  pub stuck : (ts : List Placed) → go (Some opening) ts ≡ None → Viable ts → ⊥
