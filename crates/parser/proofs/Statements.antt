-- What the machine does at the tokens of a statement, held to what the parser does there.
use Rattle.std.proofs.Common.{◌≡◌, ℕ, ◌+◌, ◌≤◌, true, false, ◌||◌, ltb, List, [], ◌∷◌, ◌++◌, length, Some, refl, ap, ◌∙◌, append_assoc, arith}
use Rattle.grammar.specs.Machine.{Part, Point, Purpose, loop_part, then_part, State, complete, for_assign, for_choose, for_loop, for_output, fresh, input_name, inside, is_sign, operand, target, at_point}
use Rattle.grammar.specs.Tree.{Declared, Expr, Stmt, assign, input, output, variable}
use Rattle.outline.specs.Code as code
use Rattle.outline.specs.Code.{Op, flat, postfix, source}
use Rattle.parser.specs.Parsing.{begun, deep, most_parts, parse, parentheses_at, part_at}
use Rattle.parser.specs.Progress.{Around, Done, Fits, NoPlus, NoSum, Refuses, has, wants}
use Rattle.parser.specs.Statements.{Ended, EndedNot, Entered, EnteredNot, Headed, HeadedNot, Sourced, SourcedNot, choice_lead, loop_lead}
use Rattle.parser.specs.declared.fault.Fault.{Fault}
use Rattle.refusals.specs.declared.failure.Failure.{Failure}
use Rattle.refusals.specs.declared.failure.Failure.TheVariants.{Refused, Memory}
use Rattle.std.proofs.lemmas.Bool.{le-ltb, or_from}
use Rattle.tokens.specs.Tokens.{Kind, Placed, sign, name}
use Rattle.tokens.specs.declared.sign.Sign.TheVariants.{Becomes, Close, Differs, Equals}
use Rattle.tokens.specs.declared.word.Word.TheVariants.{Then, Do}
use Rattle.parser.proofs.Expressions.{after_none, at_leaf, sign_is, taken}

-- no parentheses are open, and few enough parts
calm : (parts : List Part) (pt : Point) → parentheses_at pt ≡ 0 → length parts + part_at pt ≤ most_parts → (ltb 16 (parentheses_at pt) || ltb most_parts (length parts + part_at pt)) ≡ false
calm parts pt none few = or_from _ _ (le-ltb 16 _ (omega arith)) (le-ltb most_parts _ few)

abbrev around : List Declared → List Part → List Stmt → Purpose → Around
around ds parts before u = record { declared = ds; parts = parts; before = before; purpose = u }

fits : (ds : List Declared) (parts : List Part) (before : List Stmt) (u : Purpose) → length parts + begun u ≤ most_parts → Fits (around ds parts before u) 16 []
fits ds parts before u few = record { parentheses = refl; parts = few }

-- the machine at a token whose kind is known
module _ (end : ℕ) (ds : List Declared) (parts : List Part) (before : List Stmt) where
  at_token : (pt : Point) (t : Placed) {ts us : List Placed} (x : Kind) (s : State) → ts ≡ t ∷ us → t.kind ≡ x → at_point ds parts before pt t.place x ≡ Some s → deep s ≡ false → parse end (inside ds parts before pt) ts ≡ parse end s us
  at_token pt t {us = us} x s first is e d =
      ap (parse end (inside ds parts before pt)) first ∙ taken t.place _ s (λ next. parse end next us) (ap (λ y. at_point ds parts before pt t.place y) is ∙ e) d

  -- an expression that has ended is a whole assignment or output
  assigned : (p : ℕ) (n : List ℕ) (e : Expr) (us : List Placed) → NoPlus us → parse end (has (around ds parts before (for_assign p n)) fresh [] e) us ≡ parse end (inside ds parts before (complete (assign p n e))) us
  assigned p n e [] plain = refl
  assigned p n e (t ∷ us) plain =
      rw (plain.0, plain.1, after_none (is_sign Equals t.kind), after_none (is_sign Differs t.kind), after_none (is_sign Close t.kind))

  written : (p : ℕ) (e : Expr) (us : List Placed) → NoPlus us → parse end (has (around ds parts before (for_output p)) fresh [] e) us ≡ parse end (inside ds parts before (complete (output p e))) us
  written p e [] plain = refl
  written p e (t ∷ us) plain =
      rw (plain.0, plain.1, after_none (is_sign Equals t.kind), after_none (is_sign Differs t.kind), after_none (is_sign Close t.kind))

module _ {end : ℕ} {ts us : List Placed} {was mid now : List Op} where
  pub output_done : (p : ℕ) → Done end 16 NoSum NoPlus ts us was mid → now ≡ mid ++ code.write p ∷ [] → Ended end (λ ds parts before. inside ds parts before (operand (for_output p) fresh [])) ts us was now
  output_done p d pushed = record {
    statement = output p d.tree;
    further = d.further;
    reads = λ ds parts before few. d.reads (around ds parts before (for_output p)) fresh [] (refl, refl) (fits ds parts before (for_output p) (omega arith)) ∙ written end ds parts before p d.tree us d.stops;
    code = pushed ∙ ap (λ l. l ++ code.write p ∷ []) d.code ∙ append_assoc was (postfix d.tree) (code.write p ∷ []);
  }

  -- the beginning of a part
  pub choice_done : (p : ℕ) → Entered end Then ts us was mid → now ≡ mid ++ code.test p ∷ [] → Headed end (for_choose p) then_part choice_lead p ts us was now
  choice_done p d pushed = record {
    tree = d.tree;
    further = d.further;
    reads = λ ds parts before few. d.reads (around ds parts before (for_choose p)) (fits ds parts before (for_choose p) (omega arith)) refl;
    code = pushed ∙ ap (λ l. l ++ code.test p ∷ []) d.code ∙ append_assoc was (postfix d.tree) (code.test p ∷ []);
  }

  pub repetition_done : (p : ℕ) {early : List Op} → early ≡ was ++ code.head p ∷ [] → Entered end Do ts us early mid → now ≡ mid ++ code.enter p ∷ [] → Headed end (for_loop p) loop_part loop_lead p ts us was now
  repetition_done p headed d pushed = record {
    tree = d.tree;
    further = d.further;
    reads = λ ds parts before few. d.reads (around ds parts before (for_loop p)) (fits ds parts before (for_loop p) (omega arith)) refl;
    code = pushed ∙ ap (λ l. l ++ code.enter p ∷ []) (d.code ∙ ap (λ l. l ++ postfix d.tree) headed) ∙ simp append_assoc;
  }

module _ {end : ℕ} {ts us : List Placed} {was now : List Op} where
  pub input_done : (p q : ℕ) (n : List ℕ) → ts ≡ record { place = q; kind = name n } ∷ us → now ≡ was ++ code.read p q n ∷ [] → Ended end (λ ds parts before. inside ds parts before (input_name p)) ts us was now
  input_done p q n first pushed = record {
    statement = input p q n;
    further = omega (arith, ap length first);
    reads = λ ds parts before few. at_token end ds parts before (input_name p) (record { place = q; kind = name n }) (name n) _ first refl refl (calm parts (complete (input p q n)) refl (omega arith));
    code = pushed;
  }

  -- the right side of an assignment: a lone name, or an expression that is none
  pub lone_done : (p : ℕ) (n : List ℕ) → ts ≡ record { place = p; kind = name n } ∷ us → NoPlus us → now ≡ was ++ code.refer p n ∷ [] → Sourced end ts us was now
  lone_done p n first plain pushed = record {
    tree = variable p n;
    further = omega (arith, ap length first);
    reads = λ k f. ap (parse end (wants k fresh [])) first ∙ at_leaf end k 16 fresh [] (record { place = p; kind = name n }) us (variable p n) f refl;
    stops = plain;
    code = pushed;
  }

-- an assignment, from its `:=` on
module _ (end : ℕ) {ts us : List Placed} (p : ℕ) (n : List ℕ) (t : Placed) (first : ts ≡ t ∷ us) (is : is_sign Becomes t.kind ≡ true) where
  becomes : (ds : List Declared) (parts : List Part) (before : List Stmt) → length parts ≤ most_parts → parse end (inside ds parts before (target p n)) ts ≡ parse end (wants (around ds parts before (for_assign p n)) fresh []) us
  becomes ds parts before few =
      at_token end ds parts before (target p n) t (sign Becomes) _ first (sign_is Becomes t.kind is) refl (calm parts (operand (for_assign p n) fresh []) refl (omega arith))

  pub assignment_done : {vs : List Placed} {was mid late now : List Op} → mid ≡ was ++ code.target p n ∷ [] → Sourced end us vs mid late → now ≡ late ++ code.store ∷ [] → Ended end (λ ds parts before. inside ds parts before (target p n)) ts vs was now
  assignment_done {vs} e s f = record {
    statement = assign p n s.tree;
    further = omega (arith, s.further, ap length first);
    reads = λ ds parts before few. becomes ds parts before few ∙ s.reads (around ds parts before (for_assign p n)) (fits ds parts before (for_assign p n) (omega arith)) ∙ assigned end ds parts before p n s.tree vs s.stops;
    code = f ∙ ap (λ l. l ++ code.store ∷ []) (s.code ∙ ap (λ l. l ++ source s.tree) e) ∙ simp append_assoc;
  }

  pub assignment_refused : (e : Failure Fault) → SourcedNot end us e → EndedNot end (λ ds parts before. inside ds parts before (target p n)) ts e
  assignment_refused (Refused x) bad = λ ds parts before few.
      becomes ds parts before few ∙ bad (around ds parts before (for_assign p n)) (fits ds parts before (for_assign p n) (omega arith))
  assignment_refused (Memory e) bad = tt

-- what is refused in a statement is refused wherever the statement stands
module _ (end : ℕ) (ts : List Placed) (p : ℕ) where
  pub output_refused : (e : Failure Fault) → Refuses end 16 NoSum ts e → EndedNot end (λ ds parts before. inside ds parts before (operand (for_output p) fresh [])) ts e
  output_refused (Refused x) bad = λ ds parts before few. bad (around ds parts before (for_output p)) fresh [] (refl, refl) (fits ds parts before (for_output p) (omega arith))
  output_refused (Memory e) bad = tt

  pub choice_refused : (e : Failure Fault) → EnteredNot end Then ts e → HeadedNot end (for_choose p) ts e
  choice_refused (Refused x) bad = λ ds parts before few. bad (around ds parts before (for_choose p)) (fits ds parts before (for_choose p) (omega arith)) refl
  choice_refused (Memory e) bad = tt

  pub repetition_refused : (e : Failure Fault) → EnteredNot end Do ts e → HeadedNot end (for_loop p) ts e
  repetition_refused (Refused x) bad = λ ds parts before few. bad (around ds parts before (for_loop p)) (fits ds parts before (for_loop p) (omega arith)) refl
  repetition_refused (Memory e) bad = tt
