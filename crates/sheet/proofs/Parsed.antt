-- What parsing says of the machine, and of the grammar above it.
use Rattle.std.proofs.Common.{◌≡◌, ℕ, Bool, true, false, cond, ◌⊎◌, List, [], ◌∷◌, ◌++◌, Some, None, Option, sym, refl, ap, ◌∙◌, subst, inl, inr, ⊎_elim, arith}
use Rattle.grammar.specs.Machine.{State, advance, go, program_of, runs}
use Rattle.grammar.specs.Tree.{Program}
use Rattle.parser.specs.Parsing.{at_end, deep, met, parse, passed, refused}
use Rattle.parser.specs.declared.fault.Fault.TheVariants.{NotAllowed, TooDeep, MemoryShort}
use Rattle.sheet.specs.Correct.{Shallow}
use Rattle.tokens.specs.Tokens.{Placed}

pub parse_passed : (end : ℕ) (s : State) (ts : List Placed) (p : Program) → deep s ≡ false → parse end s ts ≡ passed p → (runs (Some s) ts ≡ Some p) × Shallow (Some s) ts
parse_passed end s [] p d e = (go_end (program_of (Some s)) e, d)
  where
    go_end : (o : Option Program) → at_end o end ≡ passed p → o ≡ Some p
    go_end None e = absurd (grind arith)
    go_end (Some q) e = cc
parse_passed end s (t ∷ ts) p d e = step (advance s t) refl e (λ n. parse_passed end n ts p)
  where
    step : (o : Option State) → advance s t ≡ o → met t.place o (λ n. parse end n ts) ≡ passed p → ((n : State) → deep n ≡ false → parse end n ts ≡ passed p → (runs (Some n) ts ≡ Some p) × Shallow (Some n) ts) → (runs (advance s t) ts ≡ Some p) × ((deep s ≡ false) × Shallow (advance s t) ts)
    step None is e more = absurd (grind arith)
    step (Some n) is e more = level (deep n) refl e
      where
        level : (b : Bool) → deep n ≡ b → cond b (refused TooDeep t.place) (parse end n ts) ≡ passed p → (runs (advance s t) ts ≡ Some p) × ((deep s ≡ false) × Shallow (advance s t) ts)
        level true q e = absurd (grind arith)
        level false q e =
            let h = more n q e in
            (ap (λ o. runs o ts) is ∙ h.0, (d, subst (λ o. Shallow o ts) (sym is) h.1))

pub parse_good : (end : ℕ) (s : State) (ts : List Placed) (p : Program) → runs (Some s) ts ≡ Some p → Shallow (Some s) ts → parse end s ts ≡ passed p
parse_good end s [] p r h = ap (λ o. at_end o end) r
parse_good end s (t ∷ ts) p r h = step (advance s t) refl r h.1 (λ n. parse_good end n ts p)
  where
    step : (o : Option State) → advance s t ≡ o → runs o ts ≡ Some p → Shallow o ts → ((n : State) → runs (Some n) ts ≡ Some p → Shallow (Some n) ts → parse end n ts ≡ passed p) → met t.place (advance s t) (λ n. parse end n ts) ≡ passed p
    step None is r h more = absurd (none ts r)
      where
        none : (us : List Placed) → runs None us ≡ Some p → ⊥
        none [] r = grind arith
        none (u ∷ us) r = grind arith
    step (Some n) is r h more =
        ap (λ o. met t.place o (λ m. parse end m ts)) is ∙ ap (λ b. cond b (refused TooDeep t.place) (parse end n ts)) (shallow_first ts h) ∙ more n r h
      where
        shallow_first : (us : List Placed) → Shallow (Some n) us → deep n ≡ false
        shallow_first [] h = h
        shallow_first (u ∷ us) h = h.0

-- where parsing stops
pub record Stuck (s : State) (ts : List Placed) (p : ℕ) : Type 0 where
  pub before : List Placed
  pub token : Placed
  pub after : List Placed
  pub state : State
  pub parts : ts ≡ before ++ token ∷ after
  pub place : p ≡ token.place
  pub reached : go (Some s) before ≡ Some state
  pub none : advance state token ≡ None

pub record Early (s : State) (ts : List Placed) : Type 0 where
  pub state : State
  pub reached : go (Some s) ts ≡ Some state
  pub unfinished : program_of (Some state) ≡ None

pub parse_stuck : (end : ℕ) (s : State) (ts : List Placed) (p : ℕ) → parse end s ts ≡ refused NotAllowed p → Stuck s ts p ⊎ ((p ≡ end) × Early s ts)
parse_stuck end s [] p e = inr (ending (program_of (Some s)) refl e)
  where
    ending : (o : Option Program) → program_of (Some s) ≡ o → at_end o end ≡ refused NotAllowed p → (p ≡ end) × Early s []
    ending None is e = (cc, record { state = s; reached = refl; unfinished = is })
    ending (Some q) is e = absurd (grind arith)
parse_stuck end s (t ∷ ts) p e = step (advance s t) refl e (λ n. parse_stuck end n ts p)
  where
    step : (o : Option State) → advance s t ≡ o → met t.place o (λ n. parse end n ts) ≡ refused NotAllowed p → ((n : State) → parse end n ts ≡ refused NotAllowed p → Stuck n ts p ⊎ ((p ≡ end) × Early n ts)) → Stuck s (t ∷ ts) p ⊎ ((p ≡ end) × Early s (t ∷ ts))
    step None is e more = inl (record { before = []; token = t; after = ts; state = s; parts = refl; place = cc; reached = refl; none = is })
    step (Some n) is e more = level (deep n) e
      where
        level : (b : Bool) → cond b (refused TooDeep t.place) (parse end n ts) ≡ refused NotAllowed p → Stuck s (t ∷ ts) p ⊎ ((p ≡ end) × Early s (t ∷ ts))
        level true e = absurd (grind arith)
        level false e =
            ⊎_elim (λ k. inl (record { before = t ∷ k.before; token = k.token; after = k.after; state = k.state; parts = ap (λ l. t ∷ l) k.parts; place = k.place; reached = ap (λ o. go o k.before) is ∙ k.reached; none = k.none })) (λ k. inr (k.0, record { state = k.1.state; reached = ap (λ o. go o ts) is ∙ k.1.reached; unfinished = k.1.unfinished })) (more n e)

pub record Deeper (s : State) (ts : List Placed) (p : ℕ) : Type 0 where
  pub before : List Placed
  pub token : Placed
  pub after : List Placed
  pub state : State
  pub parts : ts ≡ before ++ token ∷ after
  pub place : p ≡ token.place
  pub shallow : Shallow (Some s) before
  pub reached : go (Some s) (before ++ token ∷ []) ≡ Some state
  pub deeper : deep state ≡ true

pub parse_deep : (end : ℕ) (s : State) (ts : List Placed) (p : ℕ) → deep s ≡ false → parse end s ts ≡ refused TooDeep p → Deeper s ts p
parse_deep end s [] p d e = absurd (ending (program_of (Some s)) e)
  where
    ending : (o : Option Program) → at_end o end ≡ refused TooDeep p → ⊥
    ending None e = grind arith
    ending (Some q) e = grind arith
parse_deep end s (t ∷ ts) p d e = step (advance s t) refl e (λ n. parse_deep end n ts p)
  where
    step : (o : Option State) → advance s t ≡ o → met t.place o (λ n. parse end n ts) ≡ refused TooDeep p → ((n : State) → deep n ≡ false → parse end n ts ≡ refused TooDeep p → Deeper n ts p) → Deeper s (t ∷ ts) p
    step None is e more = absurd (grind arith)
    step (Some n) is e more = level (deep n) refl e
      where
        level : (b : Bool) → deep n ≡ b → cond b (refused TooDeep t.place) (parse end n ts) ≡ refused TooDeep p → Deeper s (t ∷ ts) p
        level true q e = record { before = []; token = t; after = ts; state = n; parts = refl; place = cc; shallow = d; reached = is; deeper = q }
        level false q e =
            let k = more n q e in
            record { before = t ∷ k.before; token = k.token; after = k.after; state = k.state; parts = ap (λ l. t ∷ l) k.parts; place = k.place; shallow = (d, subst (λ o. Shallow o k.before) (sym is) k.shallow); reached = ap (λ o. go o (k.before ++ k.token ∷ [])) is ∙ k.reached; deeper = k.deeper }

pub no_memory : (end : ℕ) (s : State) (ts : List Placed) (p : ℕ) → parse end s ts ≡ refused MemoryShort p → ⊥
no_memory end s [] p e = ending (program_of (Some s)) e
  where
    ending : (o : Option Program) → at_end o end ≡ refused MemoryShort p → ⊥
    ending None e = grind arith
    ending (Some q) e = grind arith
no_memory end s (t ∷ ts) p e = step (advance s t) e (λ n. no_memory end n ts p)
  where
    step : (o : Option State) → met t.place o (λ n. parse end n ts) ≡ refused MemoryShort p → ((n : State) → parse end n ts ≡ refused MemoryShort p → ⊥) → ⊥
    step None e more = grind arith
    step (Some n) e more = level (deep n) e
      where
        level : (b : Bool) → cond b (refused TooDeep t.place) (parse end n ts) ≡ refused MemoryShort p → ⊥
        level true e = grind arith
        level false e = more n e
