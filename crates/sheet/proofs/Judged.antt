-- The judge's verdict is right in the words of the language.
use Rattle.std.proofs.Common.{◌≡◌, ℕ, ◌≤◌, Bool, true, false, cond, ltb, ◌⊎◌, List, [], ◌∷◌, ◌++◌, length, Some, None, Ok, Err, Result, MatchResult, map, vec_items, Vec, sym, refl, ap, ◌∙◌, subst, inl, inr, arith}
use Rattle.grammar.proofs.Grammatical.{grammatical}
use Rattle.grammar.proofs.Programs.{go_append}
use Rattle.grammar.specs.Machine.{go, opening, program_of}
use Rattle.grammar.specs.Tree.{Declared, Program, Train}
use Rattle.modes.proofs.Modal.{stands}
use Rattle.modes.specs.Declaring as declarations
use Rattle.modes.specs.Declaring.{declaring, first}
use Rattle.modes.specs.Judging.{judge_train}
use Rattle.outline.specs.Code.{Op, flats, ops}
use Rattle.outline.specs.declared.Outline.{Outline}
use Rattle.parser.specs.Answer as parsed-as
use Rattle.parser.specs.Parsing as parsing
use Rattle.parser.specs.Parsing.{most_parts, parse}
use Rattle.parser.specs.declared.fault.Fault as grammar
use Rattle.parser.specs.declared.fault.Fault.TheVariants.{NotAllowed, TooDeep, MemoryShort}
use Rattle.sheet.specs.Answer.{Answers, Checks}
use Rattle.sheet.specs.Correct.{Correct, Good}
use Rattle.sheet.specs.Judging.{after_declaring, after_parsing, after_reading, judging, passed, refused}
use Rattle.sheet.specs.Law.{Denied, Lawful, Misplaced, Nested, Passes}
use Rattle.sheet.specs.declared.Sheet.{Sheet}
use Rattle.sheet.specs.declared.fault.Fault.{Fault}
use Rattle.sheet.specs.declared.fault.Fault.TheVariants.{Text, Grammar, Modes}
use Rattle.refusals.specs.declared.failure.Failure.{Failure}
use Rattle.refusals.specs.declared.failure.Failure.TheVariants.{Refused, Memory}
use Rattle.modes.specs.Flatly.{flatly}
use Rattle.outline.specs.Names.{names}
use Rattle.std.proofs.lemmas.Bool.{cond-false, le-ltb, ltb-true, ltb-false}
use Rattle.std.specs.declared.alloc.Global.{Global}
use Rattle.tokens.specs.Answer as read-as
use Rattle.tokens.specs.Reading as texts
use Rattle.tokens.specs.Reading.{reading}
use Rattle.tokens.specs.Tokens.{Placed, placed, token_of}
use Rattle.tokens.specs.declared.fault.Fault as text
use Rattle.tokens.specs.declared.token.Token.{Token}
use Rattle.sheet.proofs.Parsed.{Stuck, Early, Deeper, no_memory, parse_deep, parse_good, parse_passed, parse_stuck}

-- what each phase has found where a source is passed
pub record Stages (memory : ℕ) (source : List ℕ) (p : Program) (ts : List Placed) : Type 0 where
  pub room : most_parts ≤ memory
  pub read : reading source ≡ texts.read ts
  pub parsed : parse (length source) opening ts ≡ parsing.passed p
  pub declared : declaring p.declared ≡ None
  pub judged : judge_train p.declared p.body ≡ None

both_none : (a b : declarations.Verdict) → first a b ≡ None → (a ≡ None) × (b ≡ None)
both_none None b e = (refl, e)
both_none (Some x) b e = absurd (grind arith)

pub stages : (memory : ℕ) (source : List ℕ) (p : Program) (ts : List Placed) → judging memory source ≡ passed p ts → Stages memory source p ts
stages memory source p ts e = by_memory (ltb memory most_parts) refl e
  where
    by_modes : (q : Program) (us : List Placed) (v : declarations.Verdict) → first (declaring q.declared) (judge_train q.declared q.body) ≡ v → after_declaring v q us ≡ passed p ts → (q ≡ p) × (us ≡ ts) × (v ≡ None)
    by_modes q us None is e = (cc, cc, refl)
    by_modes q us (Some x) is e = absurd (grind arith)

    by_grammar : most_parts ≤ memory → (us : List Placed) → reading source ≡ texts.read us → (v : parsing.Verdict) → parse (length source) opening us ≡ v → after_parsing v us ≡ passed p ts → Stages memory source p ts
    by_grammar room us read (parsing.refused f q) is e = absurd (grind arith)
    by_grammar room us read (parsing.passed q) is e =
        let m = by_modes q us _ refl e in
        let b = both_none _ _ m.2 in
        record {
          room = room;
          read = read ∙ ap texts.read m.1;
          parsed = subst (λ l. parse (length source) opening l ≡ parsing.passed p) m.1 (is ∙ ap parsing.passed m.0);
          declared = subst (λ x. declaring x.declared ≡ None) m.0 b.0;
          judged = subst (λ x. judge_train x.declared x.body ≡ None) m.0 b.1;
        }

    by_reading : most_parts ≤ memory → (v : texts.Reading) → reading source ≡ v → after_reading v (length source) ≡ passed p ts → Stages memory source p ts
    by_reading room (texts.refused f q) is e = absurd (grind arith)
    by_reading room (texts.read us) is e = by_grammar room us is (parse (length source) opening us) refl e

    by_memory : (b : Bool) → ltb memory most_parts ≡ b → cond b (refused (Grammar MemoryShort) 0) (after_reading (reading source) (length source)) ≡ passed p ts → Stages memory source p ts
    by_memory true is e = absurd (grind arith)
    by_memory false is e = by_reading (ltb-false memory most_parts is) (reading source) refl e

pub good : {memory : ℕ} {source : List ℕ} {p : Program} {ts : List Placed} → Stages memory source p ts → Good ts p
good {source = source} {p} {ts} s =
    let m = parse_passed (length source) opening ts p refl s.parsed in
    record {
      derived = grammatical.sound ts p m.0;
      shallow = m.1;
      distinct = stands.sound p.declared s.declared;
      allowed = stands.allowed p.declared p.body s.judged;
    }

-- a source that passes is passed
pub passes : (memory : ℕ) (source : List ℕ) → most_parts ≤ memory → (h : Passes source) → judging memory source ≡ passed h.1 h.0
passes memory source room h =
    let ts = h.0 in
    let p = h.1 in
    cond-false _ _ _ (le-ltb memory most_parts room) ∙ ap (λ v. after_reading v (length source)) h.2 ∙ ap (λ v. after_parsing v ts) (parse_good (length source) opening ts p (grammatical.whole ts p h.3.derived) h.3.shallow) ∙ ap (λ v. after_declaring (first v (judge_train p.declared p.body)) p ts) (stands.whole p.declared h.3.distinct) ∙ ap (λ v. after_declaring v p ts) (stands.passed p.declared p.body h.3.allowed)

unlike : (p : Program) (ts : List Placed) (f : Fault) (q : ℕ) → passed p ts ≡ refused f q → ⊥
unlike p ts f q e = grind arith

not_passed : (memory : ℕ) (source : List ℕ) (f : Fault) (q : ℕ) → most_parts ≤ memory → judging memory source ≡ refused f q → Passes source → ⊥
not_passed memory source f q room e h = unlike _ _ f q (sym (passes memory source room h) ∙ e)

misplaced : (ts : List Placed) (end p : ℕ) → Stuck opening ts p ⊎ ((p ≡ end) × Early opening ts) → Misplaced ts end p
misplaced ts end p (inl k) =
    inl (k.before, k.token, k.after, k.parts, k.place, grammatical.viable k.before k.state k.reached, grammatical.stuck (k.before ++ k.token ∷ []) (go_append (Some opening) k.before (k.token ∷ []) ∙ ap (λ o. go o (k.token ∷ [])) k.reached ∙ k.none))
misplaced ts end p (inr k) =
    inr (k.0, grammatical.viable ts k.1.state k.1.reached, λ q d. some_none q (sym (grammatical.whole ts q d) ∙ ap program_of k.1.reached ∙ k.1.unfinished))
  where
    some_none : (q : Program) → Some q ≡ None → ⊥
    some_none q e = grind arith

nested : (ts : List Placed) (p : ℕ) → Deeper opening ts p → Nested ts p
nested ts p k = (k.before, k.token, k.after, k.state, k.parts, k.place, k.shallow, k.reached, k.deeper)

same_read : (us ts : List Placed) → texts.read us ≡ texts.read ts → us ≡ ts
same_read us ts e = cc

pub denied : (memory : ℕ) (source : List ℕ) (f : Fault) (q : ℕ) → judging memory source ≡ refused f q → Denied memory source f q
denied memory source f q all = by_memory (ltb memory most_parts) refl all
  where
    same : (g : Fault) (r : ℕ) → refused g r ≡ refused f q → Denied memory source g r → Denied memory source f q
    same g r e d = let a : g ≡ f = cc in let b : r ≡ q = cc in subst (λ x. Denied memory source x q) a (subst (λ x. Denied memory source g x) b d)

    room_and : most_parts ≤ memory → Passes source → ⊥
    room_and room h = not_passed memory source f q room all h

    grammatically : most_parts ≤ memory → (us : List Placed) → reading source ≡ texts.read us → (g : grammar.Fault) (r : ℕ) → parse (length source) opening us ≡ parsing.refused g r → Denied memory source (Grammar g) r
    grammatically room us read NotAllowed r is =
        (room, room_and room, λ ts e. subst (λ l. Misplaced l (length source) r) (same_read us ts (sym read ∙ e)) (misplaced us (length source) r (parse_stuck (length source) opening us r is)))
    grammatically room us read TooDeep r is =
        (room, room_and room, λ ts e. subst (λ l. Nested l r) (same_read us ts (sym read ∙ e)) (nested us r (parse_deep (length source) opening us r refl is)))
    grammatically room us read MemoryShort r is = absurd (no_memory (length source) opening us r is)

    by_modes : most_parts ≤ memory → (p : Program) (us : List Placed) (v : declarations.Verdict) → after_declaring v p us ≡ refused f q → Denied memory source f q
    by_modes room p us None e = absurd (unlike p us f q e)
    by_modes room p us (Some x) e = same (Modes x.0) x.1 e (room, room_and room)

    by_grammar : most_parts ≤ memory → (us : List Placed) → reading source ≡ texts.read us → (v : parsing.Verdict) → parse (length source) opening us ≡ v → after_parsing v us ≡ refused f q → Denied memory source f q
    by_grammar room us read (parsing.refused g r) is e = same (Grammar g) r e (grammatically room us read g r is)
    by_grammar room us read (parsing.passed p) is e = by_modes room p us _ e

    by_reading : most_parts ≤ memory → (v : texts.Reading) → reading source ≡ v → after_reading v (length source) ≡ refused f q → Denied memory source f q
    by_reading room (texts.refused g r) is e = same (Text g) r e (room, room_and room)
    by_reading room (texts.read us) is e = by_grammar room us is (parse (length source) opening us) refl e

    by_memory : (b : Bool) → ltb memory most_parts ≡ b → cond b (refused (Grammar MemoryShort) 0) (after_reading (reading source) (length source)) ≡ refused f q → Denied memory source f q
    by_memory true is e = same (Grammar MemoryShort) 0 e (ltb-true memory most_parts is, refl)
    by_memory false is e = by_reading (ltb-false memory most_parts is) (reading source) refl e

-- from what the phases of the code found
pub staged : {memory : ℕ} {source : List ℕ} {p : Program} {ts : List Placed} → Stages memory source p ts → judging memory source ≡ passed p ts
staged {memory} {source} {p} {ts} s =
    cond-false _ _ _ (le-ltb memory most_parts s.room) ∙ ap (λ v. after_reading v (length source)) s.read ∙ ap (λ v. after_parsing v ts) s.parsed ∙ ap (λ v. after_declaring (first v (judge_train p.declared p.body)) p ts) s.declared ∙ ap (λ v. after_declaring v p ts) s.judged

pub correct : {memory : ℕ} {source : List ℕ} {ts : List Placed} {ds : List Declared} {code : List Op} {body : Train} → Stages memory source (record { declared = ds; body = body }) ts → code ≡ flats body → Correct ts ds code
correct {body = body} s coded = record { body = body; good = good s; code = coded }

pub lawful : (memory : ℕ) (source : List ℕ) (r : Result Sheet (Failure Fault)) → Answers (judging memory source) r → Lawful memory source r
lawful memory source (Ok s) a =
    let k = stages memory source _ _ a.1 in
    (k.room, k.read, (placed s.tokens, record { declared = names s.outline.declared; body = a.0 }, k.read, good k))
lawful memory source (Err (Refused x)) a = denied memory source x.fault x.place a
lawful memory source (Err (Memory x)) a = tt

-- where only errors are widened, the answer is what it was
unwidened : {T E : Type 0} (r : Result T E) (x : T) → MatchResult r (λ y. ◌≡◌ {A = Result T (Failure Fault)} (Ok x) (Ok y)) (λ e. ⊥) → r ≡ Ok x
unwidened (Ok y) x same = grind arith
unwidened (Err e) x same = absurd same

-- the first two phases have passed
pub record Read (memory : ℕ) (source : List ℕ) (tokens : Vec Token Global) (outline : Outline) : Type 0 where
  pub room : most_parts ≤ memory
  pub read : reading source ≡ texts.read (placed tokens)
  pub body : Train
  pub parsed : parsing.parsing memory (length source) (placed tokens) ≡ parsing.passed (record { declared = names outline.declared; body = body })
  pub code : ops outline.code ≡ flats body

pub phases_read : {memory : ℕ} {source : List ℕ} (tokens : Vec Token Global) (outline : Outline) (r : Result (Vec Token Global) (Failure text.Fault)) (l : List Token) (q : Result Outline (Failure grammar.Fault)) → most_parts ≤ memory → read-as.Answers (reading source) r → MatchResult r (λ y. ◌≡◌ {A = Result (Vec Token Global) (Failure Fault)} (Ok tokens) (Ok y)) (λ e. ⊥) → l ≡ vec_items tokens → parsed-as.Answers (parsing.parsing memory (length source) (map token_of l)) q → MatchResult q (λ y. ◌≡◌ {A = Result Outline (Failure Fault)} (Ok outline) (Ok y)) (λ e. ⊥) → Read memory source tokens outline
phases_read {memory} {source} tokens outline r l q room read kept same parsed kept' =
    let answered = subst (parsed-as.Answers (parsing.parsing memory (length source) (placed tokens))) (unwidened q outline kept') (subst (λ ts. parsed-as.Answers (parsing.parsing memory (length source) (map token_of ts)) q) same parsed) in
    record { room = room; read = subst (read-as.Answers (reading source)) (unwidened r tokens kept) read; body = answered.0; parsed = answered.1; code = answered.2 }

-- then the third and the fourth phase, on the outline
module _ {memory : ℕ} {source : List ℕ} {tokens : Vec Token Global} {outline : Outline} (r : Read memory source tokens outline) where
  abbrev program : Program
  program = record { declared = names outline.declared; body = r.body }

  parsed_at_once : parse (length source) opening (placed tokens) ≡ parsing.passed program
  parsed_at_once = sym (cond-false _ _ _ (le-ltb memory most_parts r.room)) ∙ r.parsed

  pub found : Checks (names outline.declared) (ops outline.code) (Ok tt) → Stages memory source program (placed tokens)
  found c = record {
    room = r.room;
    read = r.read;
    parsed = parsed_at_once;
    declared = c.0;
    judged = sym (stands.flattened (names outline.declared) r.body) ∙ ap (flatly (names outline.declared) []) (sym r.code) ∙ c.1;
  }

  pub checked : (e : Failure Fault) → Checks (names outline.declared) (ops outline.code) (Err e) → Answers (judging memory source) (Err e)
  checked (Refused x) bad =
      cond-false _ _ _ (le-ltb memory most_parts r.room) ∙ ap (λ v. after_reading v (length source)) r.read ∙ ap (λ v. after_parsing v (placed tokens)) parsed_at_once ∙ ap (λ v. after_declaring (first (declaring (names outline.declared)) v) program (placed tokens)) (sym (stands.flattened (names outline.declared) r.body) ∙ ap (flatly (names outline.declared) []) (sym r.code)) ∙ bad program (placed tokens)
  checked (Memory x) bad = tt
