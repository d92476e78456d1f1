-- The rules of modes, one constructor for each; and the rule of declarations.
use Rattle.std.specs.Prelude.{◌≡◌, ℕ, ◌-◌, ◌≤◌, Bool, List, ◌∷◌, ◌++◌, length, ◌≢◌}
use Rattle.grammar.specs.Tree.{int, bool, plus, times, equal, differ, Expr, variable, number, truth, binary, group, Stmt, assign, choose, choose_else, loop, input, output, Train, last, more, Declared}
use Rattle.modes.specs.Declaring.{Mode, mode_of, most_names}
use Rattle.modes.specs.Judging.{plain}

-- a name with these letters is among the declared
pub data Among (n : List ℕ) : List Declared → Type 0 where
  among_here : {d : Declared} {ds : List Declared} → d.letters ≡ n → Among n (d ∷ ds)
  among_later : {d : Declared} {ds : List Declared} → Among n ds → Among n (d ∷ ds)

-- no name has the letters of one before it, and there are not too many
pub record Distinct (ds : List Declared) : Type 0 where
  pub apart : (before after : List Declared) (d : Declared) → ds ≡ before ++ d ∷ after → Among d.letters before → ⊥
  pub few : length ds ≤ most_names

-- a name has the mode under which it is declared, first where that is more than once
pub data Declares (n : List ℕ) : List Declared → Mode → Type 0 where
  declares_here : {d : Declared} {ds : List Declared} → d.letters ≡ n → Declares n (d ∷ ds) (mode_of d)
  declares_later : {d : Declared} {ds : List Declared} {m : Mode} → (d.letters ≢ n) → Declares n ds m → Declares n (d ∷ ds) m

-- the mode of an expression
pub data HasMode (ds : List Declared) : Expr → Mode → Type 0 where
  -- a lone name keeps its references
  mode_name : {p : ℕ} {n : List ℕ} {m : Mode} → Declares n ds m → HasMode ds (variable p n) m
  -- constants and truths have none
  mode_number : {p n : ℕ} → HasMode ds (number p n) (plain int)
  mode_truth : {p : ℕ} {b : Bool} → HasMode ds (truth p b) (plain bool)
  -- the operands of `+` and `*` share their primitive, which is the result's
  mode_plus : {p : ℕ} {a b : Expr} {l r : Mode} → HasMode ds a l → HasMode ds b r → l.primitive ≡ r.primitive → HasMode ds (binary p plus a b) (plain l.primitive)
  mode_times : {p : ℕ} {a b : Expr} {l r : Mode} → HasMode ds a l → HasMode ds b r → l.primitive ≡ r.primitive → HasMode ds (binary p times a b) (plain l.primitive)
  -- both sides of `=` and `#` are int, and the result is bool
  mode_equal : {p : ℕ} {a b : Expr} {l r : Mode} → HasMode ds a l → HasMode ds b r → l.primitive ≡ int → r.primitive ≡ int → HasMode ds (binary p equal a b) (plain bool)
  mode_differ : {p : ℕ} {a b : Expr} {l r : Mode} → HasMode ds a l → HasMode ds b r → l.primitive ≡ int → r.primitive ≡ int → HasMode ds (binary p differ a b) (plain bool)
  -- parentheses leave no reference
  mode_group : {e : Expr} {m : Mode} → HasMode ds e m → HasMode ds (group e) (plain m.primitive)

mutual
  -- a statement is allowed
  pub data Allowed (ds : List Declared) : Stmt → Type 0 where
    -- equal primitives, and the target's references less one do not exceed those of the right side
    allowed_assign : {p : ℕ} {n : List ℕ} {e : Expr} {t m : Mode} → Declares n ds t → HasMode ds e m → t.primitive ≡ m.primitive → t.refs - 1 ≤ m.refs → Allowed ds (assign p n e)
    -- a condition is bool
    allowed_choose : {p : ℕ} {e : Expr} {t : Train} {m : Mode} → HasMode ds e m → m.primitive ≡ bool → AllAllowed ds t → Allowed ds (choose p e t)
    allowed_choose_else : {p : ℕ} {e : Expr} {t u : Train} {m : Mode} → HasMode ds e m → m.primitive ≡ bool → AllAllowed ds t → AllAllowed ds u → Allowed ds (choose_else p e t u)
    allowed_loop : {p : ℕ} {e : Expr} {t : Train} {m : Mode} → HasMode ds e m → m.primitive ≡ bool → AllAllowed ds t → Allowed ds (loop p e t)
    -- input is of a declared name, and output of any expression that has a mode
    allowed_input : {p q : ℕ} {n : List ℕ} {m : Mode} → Declares n ds m → Allowed ds (input p q n)
    allowed_output : {p : ℕ} {e : Expr} {m : Mode} → HasMode ds e m → Allowed ds (output p e)

  -- each statement of a train is allowed
  pub data AllAllowed (ds : List Declared) : Train → Type 0 where
    all_last : {s : Stmt} → Allowed ds s → AllAllowed ds (last s)
    all_more : {s : Stmt} {t : Train} → Allowed ds s → AllAllowed ds t → AllAllowed ds (more s t)
