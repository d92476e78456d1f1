-- What a passed sheet is: its tokens derive a tree within the limits, the tree obeys the modes, and its code is the tree's.
use Rattle.std.specs.Prelude.{◌≡◌, false, List, [], ◌∷◌, Some, None, Option}
use Rattle.grammar.specs.Bnf.{Derives}
use Rattle.grammar.specs.Machine.{State, advance, opening}
use Rattle.grammar.specs.Tree.{Declared, Program, Train}
use Rattle.modes.specs.ModeRules.{AllAllowed, Distinct}
use Rattle.outline.specs.Code.{Op, flats}
use Rattle.parser.specs.Parsing.{deep}
use Rattle.tokens.specs.Tokens.{Placed}

-- nowhere on the way through the tokens is more open than the limits allow
abbrev pub Shallow : Option State → List Placed → Type 0
Shallow None ts = Unit {0}
Shallow (Some s) [] = deep s ≡ false
Shallow (Some s) (t ∷ ts) = (deep s ≡ false) × Shallow (advance s t) ts

-- a program of these tokens that the grammar, the limits and the modes allow
pub record Good (ts : List Placed) (p : Program) : Type 0 where
  pub derived : Derives p ts
  pub shallow : Shallow (Some opening) ts
  pub distinct : Distinct p.declared
  pub allowed : AllAllowed p.declared p.body

-- the same with what is compiled from it
pub record Correct (ts : List Placed) (ds : List Declared) (now : List Op) : Type 0 where
  pub body : Train
  pub good : Good ts (record { declared = ds; body = body })
  pub code : now ≡ flats body
