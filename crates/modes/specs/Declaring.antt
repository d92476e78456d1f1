-- Declared names: what is wrong with them, and the mode that a name has.
use Rattle.std.specs.Prelude.{ℕ, ◌+◌, Bool, false, cond, ◌||◌, List, [], ◌∷◌, ◌++◌, length, Some, None, Option, nat_lt}
use Rattle.grammar.specs.Tree.{Primitive, Declared}
use Rattle.modes.specs.declared.fault.Fault.{Fault}
use Rattle.modes.specs.declared.fault.Fault.TheVariants.{DeclaredBefore, TooManyNames}
use Rattle.std.specs.Str.{bytes_eq}

-- how many names may be declared
abbrev pub most_names : ℕ
most_names = 64

-- how many references lead from a value to its primitive, and which primitive
pub record Mode : Type 0 where
  pub refs : ℕ
  pub primitive : Primitive

-- nothing wrong, or a fault with its place
abbrev pub Verdict : Type 0
Verdict = Option (Fault × ℕ)

-- the first thing that is wrong
abbrev pub first : Verdict → Verdict → Verdict
first None later = later
first (Some x) later = Some x

-- one of the names has these letters
abbrev pub holds : List Declared → List ℕ → Bool
holds [] n = false
holds (d ∷ ds) n = bytes_eq d.letters n || holds ds n

-- what is wrong at a name, after the names before it
abbrev pub wrong_at : List Declared → Declared → Verdict
wrong_at before d =
    cond (holds before d.letters) (Some (DeclaredBefore, d.place)) (cond (nat_lt (length before) most_names) None (Some (TooManyNames, d.place)))

-- the first thing that is wrong with names, after the names before them
abbrev pub declaring_after : List Declared → List Declared → Verdict
declaring_after before [] = None
declaring_after before (d ∷ ds) = first (wrong_at before d) (declaring_after (before ++ d ∷ []) ds)

-- the first thing that is wrong with the declared names
abbrev pub declaring : List Declared → Verdict
declaring ds = declaring_after [] ds

-- a name itself is a reference, and each `ref` is one more
abbrev pub mode_of : Declared → Mode
mode_of d = record { refs = d.refs + 1; primitive = d.primitive }

-- the mode of the first declared name with these letters
abbrev pub lookup : List Declared → List ℕ → Option Mode
lookup [] n = None
lookup (d ∷ ds) n = cond (bytes_eq d.letters n) (Some (mode_of d)) (lookup ds n)
