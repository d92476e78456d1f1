-- Each step of the machine keeps the invariant, and so what the machine reads the grammar derives.
use Rattle.std.proofs.Common.{◌≡◌, ℕ, List, [], ◌∷◌, ◌++◌, Some, None, Option, refl, ap, subst, append_assoc, append-nil, add-zero, arith}
use Rattle.grammar.specs.Bnf.{at, declare, Exp, statement_transput, transput_input, Derives}
use Rattle.grammar.specs.Machine.{Level, fresh, Waiting, joined, factor_of, value_of, closed, Purpose, for_assign, for_choose, for_loop, for_output, Part, then_part, loop_part, Point, wanted, target, operand, operand_read, input_name, complete, State, opening, moding, naming, named, between, inside, finished, leaf, begin_statement, end_expression, with_operand, take_operand, compare_in, close_in, finish_in, take_operator, at_point, advance, go, program_of, runs}
use Rattle.grammar.specs.Tree.{Operator, plus, times, equal, differ, Expr, Stmt, assign, input, output, Declared, Program}
use Rattle.grammar.proofs.Expressions.{Comparing}
use Rattle.grammar.proofs.Invariant.{no_product, no_sum, Compares, equality, difference, Begins, assigning, choosing, looping, putting, Has, none_before, in_then, in_loop, Points, none_done, Inside, Holds, Allows, refused, allowed}
use Rattle.grammar.proofs.Tests.{after_sign, either_allows, name_allows, only_sign, only_word}
use Rattle.grammar.proofs.Declaring.{comma_read, declaration_read, mode_allows, more_declarations, name_read, no_more_declarations}
use Rattle.grammar.proofs.Operands.{Leaf, Whole, assign_read, choose_read, close_read, first_operand, leaf_read, not_compared, one_leaf, output_read, parenthesis_read, plus_read, star_read, value_read, while_read, whole_read}
use Rattle.grammar.proofs.Closings.{statement_allows}
use Rattle.tokens.specs.Tokens.{Kind, word, sign, name, Placed}
use Rattle.tokens.specs.declared.sign.Sign.TheVariants.{Semicolon, Comma, Becomes, Plus, Star, Equals, Differs, Open, Close}
use Rattle.tokens.specs.declared.word.Word.TheVariants.{Begin, If, Then, While, Do, Input, Output}

module _ (ds : List Declared) (parts : List Part) (before : List Stmt) (ts : List Placed) where
  -- one more token of the statement at hand
  go_on : {pt : Point} (h : Inside ds parts before pt ts) (t : Placed) (pt' : Point) → Points pt' (h.here ++ t ∷ []) → Inside ds parts before pt' (ts ++ t ∷ [])
  go_on h t pt' point = record {
    p = h.p;
    q = h.q;
    xs = h.xs;
    ps = h.ps;
    bs = h.bs;
    here = h.here ++ t ∷ [];
    declarations = h.declarations;
    outer = h.outer;
    earlier = h.earlier;
    point = point;
    same = rw h.same (simp append_assoc);
  }

  -- the same tokens at another point
  remain : {pt : Point} (h : Inside ds parts before pt ts) (pt' : Point) → Points pt' h.here → Inside ds parts before pt' ts
  remain h pt' point = record {
    p = h.p;
    q = h.q;
    xs = h.xs;
    ps = h.ps;
    bs = h.bs;
    here = h.here;
    declarations = h.declarations;
    outer = h.outer;
    earlier = h.earlier;
    point = point;
    same = h.same;
  }

  operand_allows : (u : Purpose) (l : Level) (ls : List Level) → Inside ds parts before (operand u l ls) ts → (p : ℕ) (k : Kind) → Allows (take_operand ds parts before u l ls p k) (ts ++ at p k ∷ [])
  operand_allows u l ls h p k = either_allows (leaf_allows (leaf k p) (leaf_read k p)) (only_sign p k ts Open (inside ds parts before (operand u fresh (l ∷ ls))) (go_on h (at p (sign Open)) (operand u fresh (l ∷ ls)) (parenthesis_read u l ls h.here h.point p)))
    where
      leaf_allows : (o : Option Expr) → Leaf o (at p k ∷ []) → Allows (with_operand ds parts before u l ls o) (ts ++ at p k ∷ [])
      leaf_allows None d = refused
      leaf_allows (Some e) (one_leaf d) = allowed _ (go_on h (at p k) (operand_read u l ls e) (record { xs = h.here; es = at p k ∷ []; wants = h.point; primary = d; same = refl }))

  compare_allows : (u : Purpose) (ls : List Level) (c : Comparing) (s w : Waiting) (e : Expr) (op : Operator) (p : ℕ) (k : Kind) → Inside ds parts before (operand_read u (record { compared = c; summed = s; multiplied = w }) ls e) ts → ((v : Expr) (xs : List Placed) → Exp v xs → Compares (Some (p, op, v)) (xs ++ at p k ∷ [])) → Allows (compare_in ds parts before u ls c p op (joined plus s (joined times w e))) (ts ++ at p k ∷ [])
  compare_allows u [] c s w e op p k h f = refused
  compare_allows u (m ∷ ls) None s w e op p k h f = allowed _ (go_on h (at p k) (operand u (record { compared = Some (p, op, joined plus s (joined times w e)); summed = None; multiplied = None }) (m ∷ ls)) (record {
    us = h.point.wants.us;
    bs = h.point.wants.bs;
    cs = h.point.wants.ss ++ (h.point.wants.ms ++ h.point.es) ++ at p k ∷ [];
    ss = [];
    ms = [];
    begins = h.point.wants.begins;
    levels = h.point.wants.levels;
    inner = tt;
    compares = f _ _ (value_read u (record { compared = None; summed = s; multiplied = w }) (m ∷ ls) e h.here h.point);
    sums = no_sum;
    products = no_product;
    same = rw (h.point.same, h.point.wants.same, not_compared h.point.wants.compares) (simp (append_assoc, append-nil));
  }))
  compare_allows u (m ∷ ls) (Some c) s w e op p k h f = refused

  close_allows : (u : Purpose) (l : Level) (ls : List Level) (e : Expr) → Inside ds parts before (operand_read u l ls e) ts → (p : ℕ) → Allows (close_in ds parts before u ls (closed l e)) (ts ++ at p (sign Close) ∷ [])
  close_allows u l [] e h p = refused
  close_allows u l (m ∷ ls) e h p = allowed _ (go_on h (at p (sign Close)) (operand_read u m ls (closed l e)) (subst (λ x. Has u m ls (closed l e) (x ++ at p (sign Close) ∷ [])) regroup (close_read h.point.wants.begins h.point.wants.levels h.point.wants.compares (value_read u l (m ∷ ls) e h.here h.point) p)))
    where
      regroup : h.point.wants.us ++ (h.point.wants.bs ++ (h.point.wants.cs ++ (h.point.wants.ss ++ (h.point.wants.ms ++ h.point.es)))) ≡ h.here
      regroup = rw (h.point.same, h.point.wants.same) (simp append_assoc)

module _ (ds : List Declared) (parts : List Part) (before : List Stmt) (ts : List Placed) where
  then_begins : {pt : Point} (h : Inside ds parts before pt ts) (a : ℕ) (e : Expr) → Whole (for_choose a) e h.here → (p : ℕ) → Inside ds (then_part a e before ∷ parts) [] wanted (ts ++ at p (word Then) ∷ [])
  then_begins h a e w p = record {
    p = h.p;
    q = h.q;
    xs = h.xs;
    ps = h.ps ++ (h.bs ++ at a (word If) ∷ (w.es ++ at p (word Then) ∷ []));
    bs = [];
    here = [];
    declarations = h.declarations;
    outer = in_then a p h.outer h.earlier w.expression;
    earlier = none_before;
    point = refl;
    same = rw h.same (simp (append_assoc, append-nil, choose_read w.es h.here w.begins w.same));
  }

  loop_begins : {pt : Point} (h : Inside ds parts before pt ts) (a : ℕ) (e : Expr) → Whole (for_loop a) e h.here → (p : ℕ) → Inside ds (loop_part a e before ∷ parts) [] wanted (ts ++ at p (word Do) ∷ [])
  loop_begins h a e w p = record {
    p = h.p;
    q = h.q;
    xs = h.xs;
    ps = h.ps ++ (h.bs ++ at a (word While) ∷ (w.es ++ at p (word Do) ∷ []));
    bs = [];
    here = [];
    declarations = h.declarations;
    outer = in_loop a p h.outer h.earlier w.expression;
    earlier = none_before;
    point = refl;
    same = rw h.same (simp (append_assoc, append-nil, while_read w.es h.here w.begins w.same));
  }

  expression_allows : {pt : Point} (h : Inside ds parts before pt ts) (u : Purpose) (e : Expr) → Whole u e h.here → (p : ℕ) (k : Kind) → Allows (end_expression ds parts before u e k) (ts ++ at p k ∷ [])
  expression_allows h (for_assign a n) e w p k =
      statement_allows ds ts before (assign a n e) parts (remain ds parts before ts h (complete (assign a n e)) (assign_read e w.es h.here w.begins w.expression w.same)) p k
  expression_allows h (for_choose a) e w p k = only_word p k ts Then (inside ds (then_part a e before ∷ parts) [] wanted) (then_begins h a e w p)
  expression_allows h (for_loop a) e w p k = only_word p k ts Do (inside ds (loop_part a e before ∷ parts) [] wanted) (loop_begins h a e w p)
  expression_allows h (for_output a) e w p k =
      statement_allows ds ts before (output a e) parts (remain ds parts before ts h (complete (output a e)) (output_read e w.es h.here w.begins w.expression w.same)) p k

  finish_allows : (u : Purpose) (l : Level) (ls : List Level) (e : Expr) → Inside ds parts before (operand_read u l ls e) ts → (p : ℕ) (k : Kind) → Allows (finish_in ds parts before u ls (value_of l e) k) (ts ++ at p k ∷ [])
  finish_allows u l [] e h p k = expression_allows h u (value_of l e) (whole_read u l e h.here h.point) p k
  finish_allows u l (m ∷ ls) e h p k = refused

  operator_allows : (u : Purpose) (l : Level) (ls : List Level) (e : Expr) → Inside ds parts before (operand_read u l ls e) ts → (p : ℕ) (k : Kind) → Allows (take_operator ds parts before u l ls e p k) (ts ++ at p k ∷ [])
  operator_allows u l ls e h p k =
      either_allows (only_sign p k ts Star (inside ds parts before (operand u (record { compared = l.compared; summed = l.summed; multiplied = Some (p, factor_of l e) }) ls)) (go_on ds parts before ts h (at p (sign Star)) (operand u (record { compared = l.compared; summed = l.summed; multiplied = Some (p, factor_of l e) }) ls) (star_read u l ls e h.here h.point p)))
      (either_allows (only_sign p k ts Plus (inside ds parts before (operand u (record { compared = l.compared; summed = Some (p, value_of l e); multiplied = None }) ls)) (go_on ds parts before ts h (at p (sign Plus)) (operand u (record { compared = l.compared; summed = Some (p, value_of l e); multiplied = None }) ls) (plus_read u l ls e h.here h.point p)))
      (either_allows (after_sign p k ts Equals (compare_in ds parts before u ls l.compared p equal (value_of l e)) (compare_allows ds parts before ts u ls l.compared l.summed l.multiplied e equal p (sign Equals) h (λ v xs d. equality p d)))
      (either_allows (after_sign p k ts Differs (compare_in ds parts before u ls l.compared p differ (value_of l e)) (compare_allows ds parts before ts u ls l.compared l.summed l.multiplied e differ p (sign Differs) h (λ v xs d. difference p d)))
      (either_allows (after_sign p k ts Close (close_in ds parts before u ls (closed l e)) (close_allows ds parts before ts u l ls e h p)) (finish_allows u l ls e h p k)))))

  -- the first token of a statement
  begin_expression : (h : Inside ds parts before wanted ts) (u : Purpose) (t : Placed) → Begins u (t ∷ []) → Inside ds parts before (operand u fresh []) (ts ++ t ∷ [])
  begin_expression h u t b = go_on ds parts before ts h t (operand u fresh []) (rw h.point (first_operand u (t ∷ []) b))

  begin_allows : Inside ds parts before wanted ts → (p : ℕ) (k : Kind) → Allows (begin_statement ds parts before p k) (ts ++ at p k ∷ [])
  begin_allows h p k =
      either_allows (name_allows k p (λ n. inside ds parts before (target p n)) ts (λ n. go_on ds parts before ts h (at p (name n)) (target p n) (ap (λ l. l ++ at p (name n) ∷ []) h.point))) (either_allows (only_word p k ts If (inside ds parts before (operand (for_choose p) fresh [])) (begin_expression h (for_choose p) (at p (word If)) (choosing p))) (either_allows (only_word p k ts While (inside ds parts before (operand (for_loop p) fresh [])) (begin_expression h (for_loop p) (at p (word While)) (looping p))) (either_allows (only_word p k ts Input (inside ds parts before (input_name p)) (go_on ds parts before ts h (at p (word Input)) (input_name p) (ap (λ l. l ++ at p (word Input) ∷ []) h.point))) (only_word p k ts Output (inside ds parts before (operand (for_output p) fresh [])) (begin_expression h (for_output p) (at p (word Output)) (putting p))))))

  point_allows : (pt : Point) → Inside ds parts before pt ts → (p : ℕ) (k : Kind) → Allows (at_point ds parts before pt p k) (ts ++ at p k ∷ [])
  point_allows wanted h p k = begin_allows h p k
  point_allows (target a n) h p k =
      only_sign p k ts Becomes (inside ds parts before (operand (for_assign a n) fresh [])) (go_on ds parts before ts h (at p (sign Becomes)) (operand (for_assign a n) fresh []) (rw h.point (first_operand (for_assign a n) (at a (name n) ∷ at p (sign Becomes) ∷ []) (assigning a n p))))
  point_allows (operand u l ls) h p k = operand_allows ds parts before ts u l ls h p k
  point_allows (operand_read u l ls e) h p k = operator_allows u l ls e h p k
  point_allows (input_name a) h p k =
      name_allows k p (λ n. inside ds parts before (complete (input a p n))) ts (λ n. go_on ds parts before ts h (at p (name n)) (complete (input a p n)) (rw h.point (statement_transput (transput_input a p n))))
  point_allows (complete s) h p k = statement_allows ds ts before s parts h p k

pub step : (s : State) (t : Placed) (ts : List Placed) → Holds s ts → Allows (advance s t) (ts ++ t ∷ [])
step opening t ts h = only_word t.place t.kind ts Begin (moding [] 0) (record { p = t.place; xs = []; rs = []; earlier = none_done; mode = λ k m ys d. rw (add-zero k) d; same = rw h })
step (moding ds refs) t ts h = mode_allows ds refs t.place t.kind ts h
step (naming ds refs m) t ts h = name_allows t.kind t.place (λ n. named (ds ++ declare t.place n refs m ∷ []) refs m) ts (λ n. name_read ds refs m ts h t.place n)
step (named ds refs m) t ts h = either_allows (only_sign t.place t.kind ts Comma (naming ds refs m) (comma_read ds refs m ts h t.place)) (only_sign t.place t.kind ts Semicolon (between ds) (declaration_read ds refs m ts h t.place))
step (between ds) t ts h = either_allows (mode_allows ds 0 t.place t.kind ts (more_declarations ds ts h)) (begin_allows ds [] [] ts (no_more_declarations ds ts h) t.place t.kind)
step (inside ds parts before pt) t ts h = point_allows ds parts before ts pt h t.place t.kind
step (finished ds body) t ts h = refused

-- the invariant after some tokens
pub steps : (o : Option State) (ts xs : List Placed) → Allows o xs → Allows (go o ts) (xs ++ ts)
steps o [] xs a = rw (append-nil xs) a
steps None (t ∷ ts) xs a = refused
steps (Some s) (t ∷ ts) xs (allowed _ h) = rw (← append_assoc xs (t ∷ []) ts) (steps (advance s t) ts (xs ++ t ∷ []) (step s t xs h))

read : (o : Option State) (ts : List Placed) (p : Program) → Allows o ts → program_of o ≡ Some p → Derives p ts
read None ts p a e = absurd (grind arith)
read (Some opening) ts p a e = absurd (grind arith)
read (Some (moding ds refs)) ts p a e = absurd (grind arith)
read (Some (naming ds refs m)) ts p a e = absurd (grind arith)
read (Some (named ds refs m)) ts p a e = absurd (grind arith)
read (Some (between ds)) ts p a e = absurd (grind arith)
read (Some (inside ds parts before pt)) ts p a e = absurd (grind arith)
read (Some (finished ds body)) ts p (allowed _ h) e = subst (λ x. Derives x ts) (cc) h

pub program_sound : (ts : List Placed) (p : Program) → runs (Some opening) ts ≡ Some p → Derives p ts
program_sound ts p e = read (go (Some opening) ts) ts p (steps (Some opening) ts [] (allowed opening refl)) e
