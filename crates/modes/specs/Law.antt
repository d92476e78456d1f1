-- What the judgements mean, in the words of the rules.
use Rattle.std.specs.Prelude.{◌≡◌, ℕ, ◌⊎◌, List, [], ◌∷◌, ◌++◌, length, Some, None}
use Rattle.grammar.specs.Tree.{Expr, Train, Declared}
use Rattle.modes.specs.Declaring.{Mode, declaring, most_names}
use Rattle.modes.specs.Flatly.{flatly}
use Rattle.modes.specs.Judging.{has, judge, judge_train}
use Rattle.modes.specs.ModeRules.{Among, AllAllowed, Distinct, HasMode}
use Rattle.modes.specs.declared.fault.Fault.{Fault}
use Rattle.modes.specs.declared.fault.Fault.TheVariants.{DeclaredBefore, TooManyNames}
use Rattle.outline.specs.Code.{flats}

-- the first name that is wrong: those before it are well, and it has the letters of one of them, or else is one too many
pub record FirstWrong (ds : List Declared) (f : Fault) (p : ℕ) : Type 0 where
  pub before : List Declared
  pub name : Declared
  pub after : List Declared
  pub parts : ds ≡ before ++ name ∷ after
  pub well : declaring before ≡ None
  pub place : p ≡ name.place
  pub fault : ((f ≡ DeclaredBefore) × Among name.letters before) ⊎ ((f ≡ TooManyNames) × (Among name.letters before → ⊥) × (length before ≡ most_names))

pub record Modal : Type 0 where
  -- nothing is wrong with declared names exactly if they are distinct and not too many
  pub sound : (ds : List Declared) → declaring ds ≡ None → Distinct ds
  pub whole : (ds : List Declared) → Distinct ds → declaring ds ≡ None
  -- what is told as wrong is the first wrong name
  pub earliest : (ds : List Declared) (f : Fault) (p : ℕ) → declaring ds ≡ Some (f, p) → FirstWrong ds f p
  -- an expression is judged to have a mode exactly if the rules give it that mode
  pub given : (ds : List Declared) (e : Expr) (m : Mode) → judge ds e ≡ has m → HasMode ds e m
  pub judged : (ds : List Declared) (e : Expr) (m : Mode) → HasMode ds e m → judge ds e ≡ has m
  -- nothing is wrong with a train exactly if the rules allow each statement
  pub allowed : (ds : List Declared) (t : Train) → judge_train ds t ≡ None → AllAllowed ds t
  pub passed : (ds : List Declared) (t : Train) → AllAllowed ds t → judge_train ds t ≡ None
  -- an expression has one mode only
  pub unique : (ds : List Declared) (e : Expr) (m n : Mode) → HasMode ds e m → HasMode ds e n → m ≡ n
  -- the flat form of a train is judged as the train
  pub flattened : (ds : List Declared) (t : Train) → flatly ds [] (flats t) ≡ judge_train ds t
