-- What the token behind a statement does to the open parts, and to the code made so far.
use Rattle.std.proofs.Common.{◌≡◌, ℕ, ◌+◌, ◌≤◌, false, ◌||◌, ltb, List, [], ◌∷◌, ◌++◌, map, length, Some, None, Err, Option, sym, refl, ap, ◌∙◌, subst, append_assoc, append-nil, arith}
use Rattle.grammar.specs.Machine as machine
use Rattle.grammar.specs.Machine.{State, then_part, else_part, loop_part, inside, finished, wanted, complete, train_of, end_statement}
use Rattle.grammar.specs.Tree.{Declared, Expr, Stmt, Train, choose, choose_else, loop}
use Rattle.outline.specs.Code.{Op, flat, flats, head, enter, join, otherwise, postfix, repeat, test}
use Rattle.std.proofs.lemmas.Bool.{le-ltb, or_from}
use Rattle.tokens.specs.Tokens.{Placed}
use Rattle.parser.specs.Parsing.{Verdict, deep, most_parts, parse}
use Rattle.parser.specs.Parts.{but_innermost, innermost_of, turned}
use Rattle.parser.specs.Progress.{code}
use Rattle.parser.specs.declared.fault.Fault.{Fault}
use Rattle.parser.specs.declared.parser.Parser.{Parser}
use Rattle.parser.specs.declared.parts.OpenParts.{OpenParts}
use Rattle.outline.specs.declared.code.Instruction.{Instruction}
use Rattle.refusals.specs.declared.failure.Failure.{Failure}
use Rattle.refusals.specs.declared.failure.Failure.TheVariants.{Refused, Memory}
use Rattle.parser.specs.Trains.{CompleteAt, Ended, FinishedAt, Moves, WantedAt, closed_by, decide, emitted, flat_list, kind_of_part, sofar}
use Rattle.parser.specs.declared.train.Closer.{Closer}
use Rattle.parser.specs.declared.train.Closer.TheVariants as closer
use Rattle.parser.specs.declared.train.Ending.{Ending}
use Rattle.parser.specs.declared.train.Ending.TheVariants as ending
use Rattle.parser.specs.declared.train.Part.{Part}
use Rattle.parser.proofs.Expressions.{taken}

flat_more : (before : List Stmt) (s : Stmt) → flat_list (before ++ s ∷ []) ≡ flat_list before ++ flat s
flat_more [] s = append-nil (flat s)
flat_more (b ∷ before) s = ap (λ l. flat b ++ l) (flat_more before s) ∙ sym (append_assoc (flat b) (flat_list before) (flat s))

flat_train : (before : List Stmt) (s : Stmt) → flats (train_of before s) ≡ flat_list before ++ flat s
flat_train [] s = refl
flat_train (b ∷ before) s = ap (λ l. flat b ++ l) (flat_train before s) ∙ sym (append_assoc (flat b) (flat_list before) (flat s))

-- which part each ending needs
data Closing : Option Closer → List machine.Part → Option Ending → Type 0 where
  next : {parts : List machine.Part} → Closing (Some closer.Semicolon) parts (Some ending.Next)
  turn : {p : ℕ} {e : Expr} {outer : List Stmt} {ps : List machine.Part} → Closing (Some closer.Else) (then_part p e outer ∷ ps) (Some ending.Turn)
  join_then : {p : ℕ} {e : Expr} {outer : List Stmt} {ps : List machine.Part} → Closing (Some closer.Fi) (then_part p e outer ∷ ps) (Some ending.Join)
  join_else : {p : ℕ} {e : Expr} {t : Train} {outer : List Stmt} {ps : List machine.Part} → Closing (Some closer.Fi) (else_part p e t outer ∷ ps) (Some ending.Join)
  again : {p : ℕ} {e : Expr} {outer : List Stmt} {ps : List machine.Part} → Closing (Some closer.End) (loop_part p e outer ∷ ps) (Some ending.Repeat)
  finish : Closing (Some closer.End) [] (Some ending.Finish)
  wrong : {c : Option Closer} {parts : List machine.Part} → Closing c parts None

closing : (c : Option Closer) (parts : List machine.Part) → Closing c parts (decide c (innermost_of (map kind_of_part parts)))
closing None parts = wrong
closing (Some closer.Semicolon) parts = next
closing (Some closer.Else) [] = wrong
closing (Some closer.Else) (then_part p e outer ∷ ps) = turn
closing (Some closer.Else) (else_part p e t outer ∷ ps) = wrong
closing (Some closer.Else) (loop_part p e outer ∷ ps) = wrong
closing (Some closer.Fi) [] = wrong
closing (Some closer.Fi) (then_part p e outer ∷ ps) = join_then
closing (Some closer.Fi) (else_part p e t outer ∷ ps) = join_else
closing (Some closer.Fi) (loop_part p e outer ∷ ps) = wrong
closing (Some closer.End) [] = finish
closing (Some closer.End) (then_part p e outer ∷ ps) = wrong
closing (Some closer.End) (else_part p e t outer ∷ ps) = wrong
closing (Some closer.End) (loop_part p e outer ∷ ps) = again

calm : (n : ℕ) → n ≤ most_parts → (ltb 16 0 || ltb most_parts (n + 0)) ≡ false
calm n few = or_from _ _ refl (le-ltb most_parts (n + 0) (omega arith))

-- the code of what stands in a part, put together
one_train : (base test-code front last whole : List Op) (t o : Op) → whole ≡ front ++ last → (((base ++ (test-code ++ t ∷ [])) ++ front) ++ last) ++ o ∷ [] ≡ base ++ (test-code ++ (t ∷ (whole ++ o ∷ [])))
one_train base test-code front last whole t o e = rw e (simp append_assoc)

two_trains : (base test-code first front last whole : List Op) (t m o : Op) → whole ≡ front ++ last → (((base ++ (test-code ++ (t ∷ (first ++ m ∷ [])))) ++ front) ++ last) ++ o ∷ [] ≡ base ++ (test-code ++ (t ∷ (first ++ (m ∷ (whole ++ o ∷ [])))))
two_trains base test-code first front last whole t m o e = rw e (simp append_assoc)

one_loop : (base test-code front last whole : List Op) (h t o : Op) → whole ≡ front ++ last → (((base ++ (h ∷ (test-code ++ t ∷ []))) ++ front) ++ last) ++ o ∷ [] ≡ base ++ (h ∷ (test-code ++ (t ∷ (whole ++ o ∷ []))))
one_loop base test-code front last whole h t o e = rw e (simp append_assoc)

-- a statement is complete, and t stands behind it
record Behind (all : Verdict) (end : ℕ) (ds : List Declared) (ts us : List Placed) (t : Placed) (c : Option Closer) (parts : List machine.Part) (before : List Stmt) (s : Stmt) : Type 0 where
  few : length parts ≤ most_parts
  same : all ≡ parse end (inside ds parts before (complete s)) ts
  first : ts ≡ t ∷ us
  closes : end_statement ds parts before s t.kind ≡ closed_by ds parts before s c

module _ {all : Verdict} {end : ℕ} {ds : List Declared} {ts us : List Placed} {t : Placed} where
  onward : {c : Option Closer} {parts : List machine.Part} {before : List Stmt} {s : Stmt} → Behind all end ds ts us t c parts before s → (n : State) → closed_by ds parts before s c ≡ Some n → deep n ≡ false → all ≡ parse end n us
  onward {parts = parts} {before} {s} b n e quiet =
      b.same ∙ ap (parse end (inside ds parts before (complete s))) b.first ∙ taken t.place _ n (λ m. parse end m us) (b.closes ∙ e) quiet

  next_wanted : {c : Option Closer} {parts : List machine.Part} {before : List Stmt} {s : Stmt} {stack : List Part} {was : List Op} → Closing c parts (Some ending.Next) → Behind all end ds ts us t c parts before s → stack ≡ map kind_of_part parts → was ≡ emitted parts before ++ flat s → WantedAt all end ds us stack was
  next_wanted {before = before} {s} (next {parts = parts}) b stacked code = record {
    parts = parts;
    before = before ++ s ∷ [];
    stacked = stacked;
    few = b.few;
    code = code ∙ append_assoc (sofar parts) (flat_list before) (flat s) ∙ ap (λ l. sofar parts ++ l) (sym (flat_more before s));
    same = onward b _ refl (calm (length parts) b.few);
  }

  turn_wanted : {c : Option Closer} {parts : List machine.Part} {before : List Stmt} {s : Stmt} {now : List Op} {stack : List Part} → Closing c parts (Some ending.Turn) → Behind all end ds ts us t c parts before s → stack ≡ turned (map kind_of_part parts) → now ≡ (emitted parts before ++ flat s) ++ otherwise ∷ [] → WantedAt all end ds us stack now
  turn_wanted {before = before} {s} (turn {p} {e} {outer} {ps}) b stacked code = record {
    parts = else_part p e (train_of before s) outer ∷ ps;
    before = [];
    stacked = stacked;
    few = b.few;
    code = code ∙ one_train (sofar ps ++ flat_list outer) (postfix e) (flat_list before) (flat s) _ (test p) otherwise (flat_train before s) ∙ sym (append-nil _);
    same = onward b _ refl (calm (length (else_part p e (train_of before s) outer ∷ ps)) b.few);
  }

  join_complete : {c : Option Closer} {parts : List machine.Part} {before : List Stmt} {s : Stmt} {now : List Op} {stack : List Part} → Closing c parts (Some ending.Join) → Behind all end ds ts us t c parts before s → stack ≡ but_innermost (map kind_of_part parts) → now ≡ (emitted parts before ++ flat s) ++ join ∷ [] → CompleteAt all end ds us stack now
  join_complete {before = before} {s} (join_then {p} {e} {outer} {ps}) b stacked code = record {
    parts = ps;
    before = outer;
    statement = choose p e (train_of before s);
    stacked = stacked;
    few = omega (arith, b.few);
    code = code ∙ one_train (sofar ps ++ flat_list outer) (postfix e) (flat_list before) (flat s) _ (test p) join (flat_train before s);
    same = onward b _ refl (calm (length ps) (omega (arith, b.few)));
  }
  join_complete {before = before} {s} (join_else {p} {e} {t = u} {outer} {ps}) b stacked code = record {
    parts = ps;
    before = outer;
    statement = choose_else p e u (train_of before s);
    stacked = stacked;
    few = omega (arith, b.few);
    code = code ∙ two_trains (sofar ps ++ flat_list outer) (postfix e) (flats u) (flat_list before) (flat s) _ (test p) otherwise join (flat_train before s);
    same = onward b _ refl (calm (length ps) (omega (arith, b.few)));
  }

  repeat_complete : {c : Option Closer} {parts : List machine.Part} {before : List Stmt} {s : Stmt} {now : List Op} {stack : List Part} → Closing c parts (Some ending.Repeat) → Behind all end ds ts us t c parts before s → stack ≡ but_innermost (map kind_of_part parts) → now ≡ (emitted parts before ++ flat s) ++ repeat ∷ [] → CompleteAt all end ds us stack now
  repeat_complete {before = before} {s} (again {p} {e} {outer} {ps}) b stacked code = record {
    parts = ps;
    before = outer;
    statement = loop p e (train_of before s);
    stacked = stacked;
    few = omega (arith, b.few);
    code = code ∙ one_loop (sofar ps ++ flat_list outer) (postfix e) (flat_list before) (flat s) _ (head p) (enter p) repeat (flat_train before s);
    same = onward b _ refl (calm (length ps) (omega (arith, b.few)));
  }

  all_finished : {c : Option Closer} {parts : List machine.Part} {before : List Stmt} {s : Stmt} {was : List Op} → Closing c parts (Some ending.Finish) → Behind all end ds ts us t c parts before s → was ≡ emitted parts before ++ flat s → FinishedAt all end ds us was
  all_finished {before = before} {s} finish b code = record {
    body = train_of before s;
    code = code ∙ sym (flat_train before s);
    same = onward b _ refl refl;
  }

-- the same of a parser that stands behind a complete statement, with the token t before it
module _ {all : Verdict} {end : ℕ} {ds : List Declared} {ts us : List Placed} {stack : List Part} {was : List Op} (t : Placed) (first : ts ≡ t ∷ us) (c : Option Closer) (closes : (ds : List Declared) (parts : List machine.Part) (before : List Stmt) (s : Stmt) → end_statement ds parts before s t.kind ≡ closed_by ds parts before s c) (w : CompleteAt all end ds ts stack was) where
  behind : Behind all end ds ts us t c w.parts w.before w.statement
  behind = record { few = w.few; same = w.same; first = first; closes = closes ds w.parts w.before w.statement }

  decided : (e : Option Ending) → e ≡ decide c (innermost_of stack) → Closing c w.parts e
  decided e is = subst (Closing c w.parts) (sym (is ∙ ap (λ s. decide c (innermost_of s)) w.stacked)) (closing c w.parts)

  pub after_next : Some ending.Next ≡ decide c (innermost_of stack) → WantedAt all end ds us stack was
  after_next is = next_wanted (decided _ is) behind w.stacked w.code

  pub after_turn : {stack' : List Part} {now : List Op} → Some ending.Turn ≡ decide c (innermost_of stack) → stack' ≡ turned stack → now ≡ was ++ otherwise ∷ [] → WantedAt all end ds us stack' now
  after_turn is left pushed = turn_wanted (decided _ is) behind (left ∙ ap turned w.stacked) (pushed ∙ ap (λ l. l ++ otherwise ∷ []) w.code)

  pub after_join : {stack' : List Part} {now : List Op} → Some ending.Join ≡ decide c (innermost_of stack) → stack' ≡ but_innermost stack → now ≡ was ++ join ∷ [] → CompleteAt all end ds us stack' now
  after_join is left pushed = join_complete (decided _ is) behind (left ∙ ap but_innermost w.stacked) (pushed ∙ ap (λ l. l ++ join ∷ []) w.code)

  pub after_repeat : {stack' : List Part} {now : List Op} → Some ending.Repeat ≡ decide c (innermost_of stack) → stack' ≡ but_innermost stack → now ≡ was ++ repeat ∷ [] → CompleteAt all end ds us stack' now
  after_repeat is left pushed = repeat_complete (decided _ is) behind (left ∙ ap but_innermost w.stacked) (pushed ∙ ap (λ l. l ++ repeat ∷ []) w.code)

  pub after_finish : Some ending.Finish ≡ decide c (innermost_of stack) → FinishedAt all end ds us was
  after_finish is = all_finished (decided _ is) behind w.code

pub stopped : (all : Verdict) (ds : List Declared) (e : Failure Fault) (p : Parser Instruction) (parts : OpenParts) → Moves all ds (Err e) p parts → Ended all ds (Err e) (code p)
stopped all ds (Refused x) p parts m = m
stopped all ds (Memory x) p parts m = tt
