-- The flat form of a tree is judged as the tree.
use Rattle.std.proofs.Common.{◌≡◌, ℕ, List, [], ◌∷◌, ◌++◌, Some, None, Option, sym, refl, ap, ◌∙◌, append_assoc, append-nil}
use Rattle.grammar.specs.Tree.{Primitive, Operator, Expr, variable, number, truth, binary, group, Stmt, assign, choose, choose_else, loop, input, output, Train, last, more, Declared}
use Rattle.modes.specs.Declaring.{Mode, Verdict, first, lookup}
use Rattle.modes.specs.Flatly.{Entry, onto, worked_out, staying, known, going, flatly}
use Rattle.modes.specs.Judging.{Judgement, has, wrong, plain, onward, upon, named, result_of, suited, judge, condition, reaching, assigning, judge_statement, judge_train}
use Rattle.outline.specs.Code.{Op, apply, store, test, otherwise, join, enter, repeat, write, postfix, source, flat, flats}

abbrev entry : ℕ → ℕ → Primitive → Entry
entry p k m = record { place = p; refs = k; primitive = m }

-- the place of the last step of an expression
abbrev place_of : Expr → ℕ
place_of (variable p n) = p
place_of (number p n) = p
place_of (truth p b) = p
place_of (binary p op a b) = p
place_of (group e) = place_of e

-- how verdicts and judgements follow each other
upon_same : (j : Judgement) (f g : Mode → Verdict) → ((m : Mode) → f m ≡ g m) → upon j f ≡ upon j g
upon_same (has m) f g same = same m
upon_same (wrong x p) f g same = refl

upon_onward : (j : Judgement) (f : Mode → Judgement) (g : Mode → Verdict) → upon (onward j f) g ≡ upon j (λ m. upon (f m) g)
upon_onward (has m) f g = refl
upon_onward (wrong x p) f g = refl

first_upon : (j : Judgement) (f : Mode → Verdict) (v : Verdict) → first (upon j f) v ≡ upon j (λ m. first (f m) v)
first_upon (has m) f v = refl
first_upon (wrong x p) f v = refl

first_assoc : (a b c : Verdict) → first (first a b) c ≡ first a (first b c)
first_assoc None b c = refl
first_assoc (Some x) b c = refl

first_none : (a : Verdict) → first a None ≡ a
first_none None = refl
first_none (Some x) = refl

going_onto : (st : List Entry) (p : ℕ) (j : Judgement) (k : List Entry → Verdict) → going (onto st p j) k ≡ upon j (λ m. k (entry p m.refs m.primitive ∷ st))
going_onto st p (has m) k = refl
going_onto st p (wrong x q) k = refl

going_worked_out : (st : List Entry) (p : ℕ) (j : Judgement) (k : List Entry → Verdict) → going (worked_out st p j) k ≡ upon j (λ m. k (entry p 0 m.primitive ∷ st))
going_worked_out st p (has m) k = refl
going_worked_out st p (wrong x q) k = refl

going_staying : (st : List Entry) (v : Verdict) (k : List Entry → Verdict) → going (staying st v) k ≡ first v (k st)
going_staying st None k = refl
going_staying st (Some x) k = refl

going_known : (st : List Entry) (j : Judgement) (k : List Entry → Verdict) → going (known st j) k ≡ first (upon j (λ m. None)) (k st)
going_known st (has m) k = refl
going_known st (wrong x q) k = refl

-- an operator's result has no reference
no_reference : (p : ℕ) (o : Option Primitive) (k : ℕ → Primitive → Verdict) → upon (suited p o) (λ m. k m.refs m.primitive) ≡ upon (suited p o) (λ m. k 0 m.primitive)
no_reference p None k = refl
no_reference p (Some z) k = refl

module _ (ds : List Declared) where
  pub flat_value : (e : Expr) (st : List Entry) (rest : List Op) → flatly ds st (postfix e ++ rest) ≡ upon (judge ds e) (λ m. flatly ds (entry (place_of e) 0 m.primitive ∷ st) rest)
  flat_value (variable p n) st rest = going_worked_out st p (named p (lookup ds n)) (λ next. flatly ds next rest)
  flat_value (number p n) st rest = refl
  flat_value (truth p b) st rest = refl
  flat_value (binary p op a b) st rest =
      ap (flatly ds st) (append_assoc (postfix a) (postfix b ++ apply p op ∷ []) rest ∙ ap (λ l. postfix a ++ l) (append_assoc (postfix b) (apply p op ∷ []) rest)) ∙ flat_value a st (postfix b ++ (apply p op ∷ rest)) ∙ upon_same (judge ds a) _ _ (λ l. flat_value b (entry (place_of a) 0 l.primitive ∷ st) (apply p op ∷ rest) ∙ upon_same (judge ds b) _ _ (λ r. going_onto st p (suited p (result_of op l.primitive r.primitive)) (λ next. flatly ds next rest) ∙ no_reference p (result_of op l.primitive r.primitive) (λ k m. flatly ds (entry p k m ∷ st) rest)) ∙ sym (upon_onward (judge ds b) _ _)) ∙ sym (upon_onward (judge ds a) _ _)
  flat_value (group e) st rest = flat_value e st rest ∙ sym (upon_onward (judge ds e) _ _)

  -- what an operator or parentheses give has no reference
  plain_operator : (p : ℕ) (op : Operator) (x y : Judgement) (k : ℕ → Primitive → Verdict) → upon (onward x (λ l. onward y (λ r. suited p (result_of op l.primitive r.primitive)))) (λ m. k 0 m.primitive) ≡ upon (onward x (λ l. onward y (λ r. suited p (result_of op l.primitive r.primitive)))) (λ m. k m.refs m.primitive)
  plain_operator p op (has l) (has r) k = sym (no_reference p (result_of op l.primitive r.primitive) k)
  plain_operator p op (has l) (wrong f q) k = refl
  plain_operator p op (wrong f q) y k = refl

  plain_group : (x : Judgement) (k : ℕ → Primitive → Verdict) → upon (onward x (λ m. has (plain m.primitive))) (λ m. k 0 m.primitive) ≡ upon (onward x (λ m. has (plain m.primitive))) (λ m. k m.refs m.primitive)
  plain_group (has m) k = refl
  plain_group (wrong f q) k = refl

  pub flat_source : (e : Expr) (st : List Entry) (rest : List Op) → flatly ds st (source e ++ rest) ≡ upon (judge ds e) (λ m. flatly ds (entry (place_of e) m.refs m.primitive ∷ st) rest)
  flat_source (variable p n) st rest = going_onto st p (named p (lookup ds n)) (λ next. flatly ds next rest)
  flat_source (number p n) st rest = refl
  flat_source (truth p b) st rest = refl
  flat_source (binary p op a b) st rest =
      flat_value (binary p op a b) st rest ∙ plain_operator p op (judge ds a) (judge ds b) (λ k m. flatly ds (entry p k m ∷ st) rest)
  flat_source (group e) st rest =
      flat_value (group e) st rest ∙ plain_group (judge ds e) (λ k m. flatly ds (entry (place_of e) k m ∷ st) rest)

  -- an expression, a step that wants it to be bool, and what that governs
  flat_condition : (p : ℕ) (e : Expr) (st : List Entry) (rest : List Op) (v w : Verdict) (op : Op) → ((m : Primitive) → flatly ds (entry (place_of e) 0 m ∷ st) (op ∷ rest) ≡ first (condition p m) (flatly ds st rest)) → flatly ds st rest ≡ first v w → flatly ds st (postfix e ++ (op ∷ rest)) ≡ first (upon (judge ds e) (λ m. first (condition p m.primitive) v)) w
  flat_condition p e st rest v w op tests governed =
      flat_value e st (op ∷ rest) ∙ upon_same (judge ds e) _ _ (λ m. tests m.primitive ∙ ap (first (condition p m.primitive)) governed ∙ sym (first_assoc (condition p m.primitive) v w)) ∙ sym (first_upon (judge ds e) _ w)

  mutual
    pub flat_statement : (s : Stmt) (st : List Entry) (rest : List Op) → flatly ds st (flat s ++ rest) ≡ first (judge_statement ds s) (flatly ds st rest)
    flat_statement (assign p n e) st rest =
        going_onto st p (named p (lookup ds n)) (λ next. flatly ds next ((source e ++ store ∷ []) ++ rest)) ∙ upon_same (named p (lookup ds n)) _ _ (λ t. ap (flatly ds (entry p t.refs t.primitive ∷ st)) (append_assoc (source e) (store ∷ []) rest) ∙ flat_source e (entry p t.refs t.primitive ∷ st) (store ∷ rest) ∙ upon_same (judge ds e) _ _ (λ m. going_staying st (assigning p t.primitive m.primitive (reaching p t.refs m.refs)) (λ next. flatly ds next rest)) ∙ sym (first_upon (judge ds e) _ (flatly ds st rest))) ∙ sym (first_upon (named p (lookup ds n)) _ (flatly ds st rest))
    flat_statement (choose p e t) st rest =
        ap (flatly ds st) (append_assoc (postfix e) _ rest ∙ ap (λ l. postfix e ++ (test p ∷ l)) (append_assoc (flats t) (join ∷ []) rest)) ∙ flat_condition p e st (flats t ++ (join ∷ rest)) (judge_train ds t) (flatly ds st rest) (test p) (λ m. going_staying st (condition p m) _) (flat_train t st (join ∷ rest))
    flat_statement (choose_else p e t u) st rest =
        ap (flatly ds st) (append_assoc (postfix e) _ rest ∙ ap (λ l. postfix e ++ (test p ∷ l)) (append_assoc (flats t) _ rest ∙ ap (λ l. flats t ++ (otherwise ∷ l)) (append_assoc (flats u) (join ∷ []) rest))) ∙ flat_condition p e st (flats t ++ (otherwise ∷ (flats u ++ (join ∷ rest)))) (first (judge_train ds t) (judge_train ds u)) (flatly ds st rest) (test p) (λ m. going_staying st (condition p m) _) (flat_train t st (otherwise ∷ (flats u ++ (join ∷ rest))) ∙ ap (first (judge_train ds t)) (flat_train u st (join ∷ rest)) ∙ sym (first_assoc (judge_train ds t) (judge_train ds u) (flatly ds st rest)))
    flat_statement (loop p e t) st rest =
        ap (flatly ds st) (append_assoc (postfix e) _ rest ∙ ap (λ l. postfix e ++ (enter p ∷ l)) (append_assoc (flats t) (repeat ∷ []) rest)) ∙ flat_condition p e st (flats t ++ (repeat ∷ rest)) (judge_train ds t) (flatly ds st rest) (enter p) (λ m. going_staying st (condition p m) _) (flat_train t st (repeat ∷ rest))
    flat_statement (input p q n) st rest = going_known st (named q (lookup ds n)) (λ next. flatly ds next rest)
    flat_statement (output p e) st rest =
        ap (flatly ds st) (append_assoc (postfix e) (write p ∷ []) rest) ∙ flat_value e st (write p ∷ rest) ∙ sym (first_upon (judge ds e) (λ m. None) (flatly ds st rest))

    pub flat_train : (t : Train) (st : List Entry) (rest : List Op) → flatly ds st (flats t ++ rest) ≡ first (judge_train ds t) (flatly ds st rest)
    flat_train (last s) st rest = flat_statement s st rest
    flat_train (more s t) st rest =
        ap (flatly ds st) (append_assoc (flat s) (flats t) rest) ∙ flat_statement s st (flats t ++ rest) ∙ ap (first (judge_statement ds s)) (flat_train t st rest) ∙ sym (first_assoc (judge_statement ds s) (judge_train ds t) (flatly ds st rest))

pub flattened_train : (ds : List Declared) (t : Train) → flatly ds [] (flats t) ≡ judge_train ds t
flattened_train ds t =
    ap (flatly ds []) (sym (append-nil (flats t))) ∙ flat_train ds t [] [] ∙ first_none (judge_train ds t)
