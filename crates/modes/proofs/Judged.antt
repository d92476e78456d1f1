-- The judgement of a tree and the rules of modes agree.
use Rattle.std.proofs.Common.{◌≡◌, ℕ, ◌-◌, ◌≤◌, Bool, true, false, cond, leb, List, [], ◌∷◌, Some, None, Option, refl, ap, ◌∙◌, subst, arith}
use Rattle.grammar.specs.Tree.{Primitive, int, bool, Operator, plus, times, equal, differ, Expr, variable, number, truth, binary, group, Stmt, assign, choose, choose_else, loop, input, output, Train, last, more, Declared}
use Rattle.modes.specs.Declaring.{Mode, Verdict, first, lookup, mode_of}
use Rattle.modes.specs.Judging.{Judgement, has, wrong, plain, onward, upon, named, shared, compared, result_of, suited, judge, condition, reaching, assigning, judge_statement, judge_train}
use Rattle.modes.specs.ModeRules.{Declares, declares_here, declares_later, HasMode, mode_name, mode_number, mode_truth, mode_plus, mode_times, mode_equal, mode_differ, mode_group, Allowed, allowed_assign, allowed_choose, allowed_choose_else, allowed_loop, allowed_input, allowed_output, AllAllowed, all_last, all_more}
use Rattle.modes.specs.declared.fault.Fault.TheVariants.{TooFewReferences}
use Rattle.std.proofs.lemmas.Slice.Eq.{bytes_eq-Decides}
use Rattle.std.proofs.lemmas.Bool.{cond-true, cond-false, leb-true, le-leb}
use Rattle.std.proofs.lemmas.Bool.Decides.{not_from_Decides}
use Rattle.std.specs.Str.{bytes_eq}

-- names
given_name : (ds : List Declared) (n : List ℕ) (m : Mode) → lookup ds n ≡ Some m → Declares n ds m
given_name [] n m e = absurd (grind arith)
given_name (d ∷ ds) n m e = go (bytes_eq d.letters n) refl e (given_name ds n m)
  where
    go : (t : Bool) → bytes_eq d.letters n ≡ t → cond t (Some (mode_of d)) (lookup ds n) ≡ Some m → (lookup ds n ≡ Some m → Declares n ds m) → Declares n (d ∷ ds) m
    go true same is later =
        let it : mode_of d ≡ m = cc in
        subst (Declares n (d ∷ ds)) it (declares_here ((bytes_eq-Decides d.letters n).0 same))
    go false same is later =
        declares_later (not_from_Decides (bytes_eq d.letters n) (bytes_eq-Decides d.letters n) same) (later is)

unlike : (xs ys : List ℕ) (t : Bool) → bytes_eq xs ys ≡ t → (xs ≡ ys → ⊥) → bytes_eq xs ys ≡ false
unlike xs ys true e apart = absurd (apart ((bytes_eq-Decides xs ys).0 e))
unlike xs ys false e apart = e

looked_up : {n : List ℕ} {ds : List Declared} {m : Mode} → Declares n ds m → lookup ds n ≡ Some m
looked_up {n = n} (declares_here {d} h) = cond-true _ _ _ ((bytes_eq-Decides d.letters n).1 h)
looked_up {n = n} (declares_later {d} apart r) = cond-false _ _ _ (unlike d.letters n (bytes_eq d.letters n) refl apart) ∙ looked_up r

-- what a judgement with a mode came from
named_is : (p : ℕ) (o : Option Mode) (m : Mode) → named p o ≡ has m → o ≡ Some m
named_is p None m e = absurd (grind arith)
named_is p (Some n) m e = let it : n ≡ m = cc in ap Some it

shared_is : (x y z : Primitive) → shared x y ≡ Some z → (x ≡ y) × (x ≡ z)
shared_is int int z e = (refl, cc)
shared_is int bool z e = absurd (grind arith)
shared_is bool int z e = absurd (grind arith)
shared_is bool bool z e = (refl, cc)

shared_from : (x y : Primitive) → x ≡ y → shared x y ≡ Some x
shared_from int int e = refl
shared_from int bool e = absurd (grind arith)
shared_from bool int e = absurd (grind arith)
shared_from bool bool e = refl

compared_is : (x y z : Primitive) → compared x y ≡ Some z → (x ≡ int) × (y ≡ int) × (bool ≡ z)
compared_is int int z e = (refl, refl, cc)
compared_is int bool z e = absurd (grind arith)
compared_is bool int z e = absurd (grind arith)
compared_is bool bool z e = absurd (grind arith)

compared_from : (x y : Primitive) → x ≡ int → y ≡ int → compared x y ≡ Some bool
compared_from x y e f = ap (λ v. compared v y) e ∙ ap (compared int) f

suited_is : (p : ℕ) (o : Option Primitive) (m : Mode) → suited p o ≡ has m → (z : Primitive) × (o ≡ Some z) × (plain z ≡ m)
suited_is p None m e = absurd (grind arith)
suited_is p (Some z) m e = (z, refl, cc)

onward_is : (j : Judgement) (next : Mode → Judgement) (m : Mode) → onward j next ≡ has m → (l : Mode) × (j ≡ has l) × (next l ≡ has m)
onward_is (has l) next m e = (l, refl, e)
onward_is (wrong f q) next m e = absurd (grind arith)

-- an operator over operands with modes
module _ (ds : List Declared) (p : ℕ) (a b : Expr) (l r : Mode) (left : HasMode ds a l) (right : HasMode ds b r) where
  by_operator : (op : Operator) (z : Primitive) → result_of op l.primitive r.primitive ≡ Some z → HasMode ds (binary p op a b) (plain z)
  by_operator plus z e =
      let h = shared_is l.primitive r.primitive z e in subst (λ v. HasMode ds (binary p plus a b) (plain v)) h.1 (mode_plus left right h.0)
  by_operator times z e =
      let h = shared_is l.primitive r.primitive z e in subst (λ v. HasMode ds (binary p times a b) (plain v)) h.1 (mode_times left right h.0)
  by_operator equal z e =
      let h = compared_is l.primitive r.primitive z e in subst (λ v. HasMode ds (binary p equal a b) (plain v)) h.2 (mode_equal left right h.0 h.1)
  by_operator differ z e =
      let h = compared_is l.primitive r.primitive z e in subst (λ v. HasMode ds (binary p differ a b) (plain v)) h.2 (mode_differ left right h.0 h.1)

pub given_mode : (ds : List Declared) (e : Expr) (m : Mode) → judge ds e ≡ has m → HasMode ds e m
given_mode ds (variable p n) m e = mode_name (given_name ds n m (named_is p (lookup ds n) m e))
given_mode ds (number p n) m e = let it : plain int ≡ m = cc in subst (HasMode ds (number p n)) it mode_number
given_mode ds (truth p b) m e = let it : plain bool ≡ m = cc in subst (HasMode ds (truth p b)) it mode_truth
given_mode ds (binary p op a b) m e =
    let h = onward_is (judge ds a) _ m e in
    let k = onward_is (judge ds b) _ m h.2 in
    let s = suited_is p (result_of op h.0.primitive k.0.primitive) m k.2 in
    subst (HasMode ds (binary p op a b)) s.2 (by_operator ds p a b h.0 k.0 (given_mode ds a h.0 h.1) (given_mode ds b k.0 k.1) op s.0 s.1)
given_mode ds (group a) m e =
    let h = onward_is (judge ds a) _ m e in
    let it : plain h.0.primitive ≡ m = let g = h.2 in cc in
    subst (HasMode ds (group a)) it (mode_group (given_mode ds a h.0 h.1))

combined : (p : ℕ) (op : Operator) (x y : Judgement) (l r : Mode) (z : Primitive) → x ≡ has l → y ≡ has r → result_of op l.primitive r.primitive ≡ Some z → onward x (λ v. onward y (λ w. suited p (result_of op v.primitive w.primitive))) ≡ has (plain z)
combined p op x y l r z e f g =
    ap (λ u. onward u (λ v. onward y (λ w. suited p (result_of op v.primitive w.primitive)))) e ∙ ap (λ u. onward u (λ w. suited p (result_of op l.primitive w.primitive))) f ∙ ap (suited p) g

pub judged_mode : {ds : List Declared} {e : Expr} {m : Mode} → HasMode ds e m → judge ds e ≡ has m
judged_mode (mode_name {p = p} d) = ap (named p) (looked_up d)
judged_mode mode_number = refl
judged_mode mode_truth = refl
judged_mode (mode_plus {p = p} {l = l} {r = r} left right same) =
    combined p plus _ _ l r _ (judged_mode left) (judged_mode right) (shared_from l.primitive r.primitive same)
judged_mode (mode_times {p = p} {l = l} {r = r} left right same) =
    combined p times _ _ l r _ (judged_mode left) (judged_mode right) (shared_from l.primitive r.primitive same)
judged_mode (mode_equal {p = p} {l = l} {r = r} left right i j) =
    combined p equal _ _ l r _ (judged_mode left) (judged_mode right) (compared_from l.primitive r.primitive i j)
judged_mode (mode_differ {p = p} {l = l} {r = r} left right i j) =
    combined p differ _ _ l r _ (judged_mode left) (judged_mode right) (compared_from l.primitive r.primitive i j)
judged_mode (mode_group h) = ap (λ j. onward j (λ m. has (plain m.primitive))) (judged_mode h)

pub one_mode : {ds : List Declared} {e : Expr} {m n : Mode} → HasMode ds e m → HasMode ds e n → m ≡ n
one_mode h k = let a = judged_mode h in let b = judged_mode k in cc

-- what a verdict with nothing wrong came from
pub first_is : (a b : Verdict) → first a b ≡ None → (a ≡ None) × (b ≡ None)
first_is None b e = (refl, e)
first_is (Some x) b e = absurd (grind arith)

pub first_from : (a b : Verdict) → a ≡ None → b ≡ None → first a b ≡ None
first_from a b e f = ap (λ v. first v b) e ∙ f

upon_is : (j : Judgement) (next : Mode → Verdict) → upon j next ≡ None → (m : Mode) × (j ≡ has m) × (next m ≡ None)
upon_is (has m) next e = (m, refl, e)
upon_is (wrong f q) next e = absurd (grind arith)

upon_from : (j : Judgement) (next : Mode → Verdict) (m : Mode) → j ≡ has m → next m ≡ None → upon j next ≡ None
upon_from j next m e f = ap (λ v. upon v next) e ∙ f

condition_is : (p : ℕ) (m : Primitive) → condition p m ≡ None → m ≡ bool
condition_is p int e = absurd (grind arith)
condition_is p bool e = refl

assigning_is : (p : ℕ) (x y : Primitive) (v : Verdict) → assigning p x y v ≡ None → (x ≡ y) × (v ≡ None)
assigning_is p int int v e = (refl, e)
assigning_is p int bool v e = absurd (grind arith)
assigning_is p bool int v e = absurd (grind arith)
assigning_is p bool bool v e = (refl, e)

assigning_from : (p : ℕ) (x y : Primitive) (v : Verdict) → x ≡ y → v ≡ None → assigning p x y v ≡ None
assigning_from p int int v e f = f
assigning_from p int bool v e f = absurd (grind arith)
assigning_from p bool int v e f = absurd (grind arith)
assigning_from p bool bool v e f = f

reaching_is : (p t r : ℕ) → reaching p t r ≡ None → t - 1 ≤ r
reaching_is p t r e = go (leb (t - 1) r) refl e
  where
    go : (b : Bool) → leb (t - 1) r ≡ b → cond {A = Verdict} b None (Some (TooFewReferences, p)) ≡ None → t - 1 ≤ r
    go true is e = leb-true (t - 1) r is
    go false is e = absurd (grind arith)

reaching_from : (p t r : ℕ) → t - 1 ≤ r → reaching p t r ≡ None
reaching_from p t r h = cond-true _ _ _ (le-leb (t - 1) r h)

mutual
  pub allowed_statement : (ds : List Declared) (s : Stmt) → judge_statement ds s ≡ None → Allowed ds s
  allowed_statement ds (assign p n e) none =
      let t = upon_is (named p (lookup ds n)) _ none in
      let m = upon_is (judge ds e) _ t.2 in
      let h = assigning_is p t.0.primitive m.0.primitive _ m.2 in
      allowed_assign (given_name ds n t.0 (named_is p (lookup ds n) t.0 t.1)) (given_mode ds e m.0 m.1) h.0 (reaching_is p t.0.refs m.0.refs h.1)
  allowed_statement ds (choose p e t) none =
      let m = upon_is (judge ds e) _ none in
      let h = first_is (condition p m.0.primitive) _ m.2 in
      allowed_choose (given_mode ds e m.0 m.1) (condition_is p m.0.primitive h.0) (allowed_train ds t h.1)
  allowed_statement ds (choose_else p e t u) none =
      let m = upon_is (judge ds e) _ none in
      let h = first_is (condition p m.0.primitive) _ m.2 in
      let k = first_is (judge_train ds t) _ h.1 in
      allowed_choose_else (given_mode ds e m.0 m.1) (condition_is p m.0.primitive h.0) (allowed_train ds t k.0) (allowed_train ds u k.1)
  allowed_statement ds (loop p e t) none =
      let m = upon_is (judge ds e) _ none in
      let h = first_is (condition p m.0.primitive) _ m.2 in
      allowed_loop (given_mode ds e m.0 m.1) (condition_is p m.0.primitive h.0) (allowed_train ds t h.1)
  allowed_statement ds (input p q n) none =
      let t = upon_is (named q (lookup ds n)) _ none in
      allowed_input (given_name ds n t.0 (named_is q (lookup ds n) t.0 t.1))
  allowed_statement ds (output p e) none =
      let m = upon_is (judge ds e) _ none in allowed_output (given_mode ds e m.0 m.1)

  pub allowed_train : (ds : List Declared) (t : Train) → judge_train ds t ≡ None → AllAllowed ds t
  allowed_train ds (last s) none = all_last (allowed_statement ds s none)
  allowed_train ds (more s t) none =
      let h = first_is (judge_statement ds s) _ none in all_more (allowed_statement ds s h.0) (allowed_train ds t h.1)

-- a condition that is bool, before what it governs
governs : (p : ℕ) (j : Judgement) (m : Mode) (v : Verdict) → j ≡ has m → m.primitive ≡ bool → v ≡ None → upon j (λ l. first (condition p l.primitive) v) ≡ None
governs p j m v e f g = upon_from j _ m e (first_from (condition p m.primitive) v (ap (condition p) f) g)

mutual
  pub passed_statement : {ds : List Declared} {s : Stmt} → Allowed ds s → judge_statement ds s ≡ None
  passed_statement (allowed_assign {p = p} {t = t} {m = m} d h same reach) =
      upon_from _ _ t (ap (named p) (looked_up d)) (upon_from _ _ m (judged_mode h) (assigning_from p t.primitive m.primitive _ same (reaching_from p t.refs m.refs reach)))
  passed_statement (allowed_choose {p = p} {m = m} h is a) = governs p _ m _ (judged_mode h) is (passed_train a)
  passed_statement (allowed_choose_else {p = p} {m = m} h is a b) =
      governs p _ m _ (judged_mode h) is (first_from _ _ (passed_train a) (passed_train b))
  passed_statement (allowed_loop {p = p} {m = m} h is a) = governs p _ m _ (judged_mode h) is (passed_train a)
  passed_statement (allowed_input {q = q} {m = m} d) = upon_from _ _ m (ap (named q) (looked_up d)) refl
  passed_statement (allowed_output {m = m} h) = upon_from _ _ m (judged_mode h) refl

  pub passed_train : {ds : List Declared} {t : Train} → AllAllowed ds t → judge_train ds t ≡ None
  passed_train (all_last a) = passed_statement a
  passed_train (all_more a b) = first_from _ _ (passed_statement a) (passed_train b)
