-- What is told as wrong with declared names is what is wrong with them.
use Rattle.std.proofs.Common.{◌≡◌, ℕ, ◌+◌, ◌<◌, ◌≤◌, Bool, true, false, cond, ◌||◌, ltb, ◌⊎◌, List, [], ◌∷◌, ◌++◌, length, Some, None, sym, refl, ap, ◌∙◌, subst, inl, inr, append_assoc, append-nil, arith}
use Rattle.grammar.specs.Tree.{Declared}
use Rattle.modes.specs.Declaring.{Verdict, first, holds, wrong_at, declaring, declaring_after, most_names}
use Rattle.modes.specs.Law.{FirstWrong}
use Rattle.modes.specs.ModeRules.{Among, among_here, among_later, Distinct}
use Rattle.modes.proofs.Judged.{first_is, first_from}
use Rattle.modes.specs.declared.fault.Fault.{Fault}
use Rattle.modes.specs.declared.fault.Fault.TheVariants.{DeclaredBefore, TooManyNames}
use Rattle.std.proofs.lemmas.Slice.Eq.{bytes_eq-Decides}
use Rattle.std.proofs.lemmas.List.{length-append, length_push}
use Rattle.std.proofs.lemmas.Bool.{cond-true, cond-false, ltb-true, ltb-false, lt-ltb, or_left, or_right}
use Rattle.std.specs.Str.{bytes_eq}

-- `holds` tells whether letters are among the declared
held : (ds : List Declared) (n : List ℕ) → holds ds n ≡ true → Among n ds
held [] n e = absurd (grind arith)
held (d ∷ ds) n e = go (bytes_eq d.letters n) refl e (held ds n)
  where
    go : (t : Bool) → bytes_eq d.letters n ≡ t → (t || holds ds n) ≡ true → (holds ds n ≡ true → Among n ds) → Among n (d ∷ ds)
    go true same is later = among_here ((bytes_eq-Decides d.letters n).0 same)
    go false same is later = among_later (later is)

holding : {n : List ℕ} {ds : List Declared} → Among n ds → holds ds n ≡ true
holding {n = n} (among_here {d} h) = or_left _ _ ((bytes_eq-Decides d.letters n).1 h)
holding (among_later a) = or_right _ _ (holding a)

-- the parts of what is told as wrong
fault_in : Fault → Verdict → Fault
fault_in g None = g
fault_in g (Some x) = x.0

place_in : ℕ → Verdict → ℕ
place_in q None = q
place_in q (Some x) = x.1

same_told : (g f : Fault) (q p : ℕ) → ◌≡◌ {A = Verdict} (Some (g, q)) (Some (f, p)) → (p ≡ q) × (f ≡ g)
unfolding fault_in place_in
same_told g f q p e = (sym (ap (place_in q) e), sym (ap (fault_in g) e))

-- what is wrong at one name
module _ (before : List Declared) (d : Declared) where
  well_at : wrong_at before d ≡ None → (Among d.letters before → ⊥) × (length before < most_names)
  well_at e = go (holds before d.letters) (ltb (length before) most_names) refl refl e
    where
      go : (t u : Bool) → holds before d.letters ≡ t → ltb (length before) most_names ≡ u → cond {A = Verdict} t (Some (DeclaredBefore, d.place)) (cond {A = Verdict} u None (Some (TooManyNames, d.place))) ≡ None → (Among d.letters before → ⊥) × (length before < most_names)
      go true u h l e = absurd (grind arith)
      go false true h l e = (λ a. let x = holding a in absurd (grind arith), ltb-true (length before) most_names l)
      go false false h l e = absurd (grind arith)

  at_well : (Among d.letters before → ⊥) → length before < most_names → wrong_at before d ≡ None
  at_well apart few = go (holds before d.letters) refl
    where
      go : (t : Bool) → holds before d.letters ≡ t → wrong_at before d ≡ None
      go true h = absurd (apart (held before d.letters h))
      go false h = cond-false _ _ _ h ∙ cond-true _ _ _ (lt-ltb (length before) most_names few)

  abbrev Reason : Fault → Type 0
  Reason f =
      ((f ≡ DeclaredBefore) × Among d.letters before) ⊎ ((f ≡ TooManyNames) × (Among d.letters before → ⊥) × (length before ≡ most_names))

  reason : (f : Fault) (p : ℕ) → length before ≤ most_names → wrong_at before d ≡ Some (f, p) → (p ≡ d.place) × Reason f
  reason f p few e = go (holds before d.letters) (ltb (length before) most_names) refl refl e
    where
      go : (t u : Bool) → holds before d.letters ≡ t → ltb (length before) most_names ≡ u → cond {A = Verdict} t (Some (DeclaredBefore, d.place)) (cond {A = Verdict} u None (Some (TooManyNames, d.place))) ≡ Some (f, p) → (p ≡ d.place) × Reason f
      go true u h l e =
          let told = same_told DeclaredBefore f d.place p e in (told.0, inl (told.1, held before d.letters h))
      go false true h l e = absurd (grind arith)
      go false false h l e =
          let told = same_told TooManyNames f d.place p e in
          (told.0, inr (told.1, λ a. let x = holding a in absurd (grind arith), omega (arith, ltb-false (length before) most_names l)))

-- nothing is wrong exactly if nothing is wrong at any name
well_each : (before ds : List Declared) → declaring_after before ds ≡ None → (b after : List Declared) (d : Declared) → ds ≡ b ++ d ∷ after → wrong_at (before ++ b) d ≡ None
well_each before [] e [] after d is = absurd (omega (arith, ap length is))
well_each before [] e (x ∷ b) after d is = absurd (omega (arith, ap length is))
well_each before (c ∷ ds) e [] after d is =
    let here = (first_is (wrong_at before c) _ e).0 in
    let same : c ≡ d = cc in
    subst (λ l. wrong_at l d ≡ None) (sym (append-nil before)) (subst (λ x. wrong_at before x ≡ None) same here)
well_each before (c ∷ ds) e (x ∷ b) after d is =
    let same : c ≡ x = cc in
    let rest : ds ≡ b ++ d ∷ after = cc in
    subst (λ l. wrong_at l d ≡ None) (append_assoc before (c ∷ []) b ∙ ap (λ y. before ++ (y ∷ b)) same) (well_each (before ++ c ∷ []) ds (first_is (wrong_at before c) _ e).1 b after d rest)

each_well : (before ds : List Declared) → ((b after : List Declared) (d : Declared) → ds ≡ b ++ d ∷ after → wrong_at (before ++ b) d ≡ None) → declaring_after before ds ≡ None
each_well before [] each = refl
each_well before (d ∷ ds) each =
    first_from _ _ (subst (λ l. wrong_at l d ≡ None) (append-nil before) (each [] ds d refl)) (each_well (before ++ d ∷ []) ds (λ b after c is. subst (λ l. wrong_at l c ≡ None) (sym (append_assoc before (d ∷ []) b)) (each (d ∷ b) after c (ap (λ l. d ∷ l) is))))

counted : (before ds : List Declared) → length before ≤ most_names → declaring_after before ds ≡ None → length before + length ds ≤ most_names
counted before [] room e = omega arith
counted before (d ∷ ds) room e =
    let here = well_at before d (first_is (wrong_at before d) _ e).0 in
    let grown = length_push before d in
    let rest = counted (before ++ d ∷ []) ds (omega arith) (first_is (wrong_at before d) _ e).1 in
    omega arith

pub distinct : (ds : List Declared) → declaring ds ≡ None → Distinct ds
distinct ds e = record {
  apart = λ before after d is among. (well_at before d (well_each [] ds e before after d is)).0 among;
  few = let all = counted [] ds (omega arith) e in omega arith;
}

pub none_wrong : (ds : List Declared) → Distinct ds → declaring ds ≡ None
none_wrong ds apart =
    each_well [] ds (λ b after d is. at_well b d (apart.apart b after d is) (omega (arith, length-append b (d ∷ after), ap length is, apart.few)))

-- the first name at which something is wrong
record Found (before ds : List Declared) (f : Fault) (p : ℕ) : Type 0 where
  ahead : List Declared
  name : Declared
  behind : List Declared
  parts : ds ≡ ahead ++ name ∷ behind
  well : declaring_after before ahead ≡ None
  wrong : wrong_at (before ++ ahead) name ≡ Some (f, p)

found : (before ds : List Declared) (f : Fault) (p : ℕ) → declaring_after before ds ≡ Some (f, p) → Found before ds f p
found before [] f p e = absurd (grind arith)
found before (d ∷ ds) f p e = go (wrong_at before d) refl e (found (before ++ d ∷ []) ds f p)
  where
    go : (v : Verdict) → wrong_at before d ≡ v → first v (declaring_after (before ++ d ∷ []) ds) ≡ Some (f, p) → (declaring_after (before ++ d ∷ []) ds ≡ Some (f, p) → Found (before ++ d ∷ []) ds f p) → Found before (d ∷ ds) f p
    go None here is later =
        let s = later is in
        record {
          ahead = d ∷ s.ahead;
          name = s.name;
          behind = s.behind;
          parts = ap (λ l. d ∷ l) s.parts;
          well = first_from _ _ here s.well;
          wrong = subst (λ l. wrong_at l s.name ≡ Some (f, p)) (append_assoc before (d ∷ []) s.ahead) s.wrong;
        }
    go (Some x) here is later = record {
      ahead = [];
      name = d;
      behind = ds;
      parts = refl;
      well = refl;
      wrong = ap (λ l. wrong_at l d) (append-nil before) ∙ here ∙ is;
    }

pub first_wrong : (ds : List Declared) (f : Fault) (p : ℕ) → declaring ds ≡ Some (f, p) → FirstWrong ds f p
first_wrong ds f p e =
    let s = found [] ds f p e in
    let few = counted [] s.ahead (omega arith) s.well in
    let why = reason s.ahead s.name f p (omega arith) s.wrong in
    record {
      before = s.ahead;
      name = s.name;
      after = s.behind;
      parts = s.parts;
      well = s.well;
      place = why.0;
      fault = why.1;
    }
