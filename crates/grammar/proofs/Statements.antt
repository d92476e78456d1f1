-- Each train of statements that the grammar derives, the machine reads.
use Rattle.std.proofs.Common.{◌≡◌, ℕ, false, List, [], ◌∷◌, ◌++◌, Some, None, Option, sym, refl, ap, ◌∙◌, append_assoc, append-nil}
use Rattle.grammar.specs.Bnf.{at, Statement, statement_assign, statement_cond, statement_loop, statement_transput, Assignment, assignment, Conditional, conditional, conditional_else, Loop, repeated, Transput, transput_input, transput_output, StmTrain, train_last, train_more}
use Rattle.grammar.specs.Machine.{fresh, for_assign, for_choose, for_loop, for_output, Part, then_part, else_part, loop_part, Point, wanted, complete, inside, between, train_of, is_sign, runs}
use Rattle.grammar.specs.Tree.{Expr, Stmt, assign, choose, choose_else, loop, output, Train, last, more, Declared, Program}
use Rattle.grammar.proofs.Expressions.{having, exp_whole}
use Rattle.tokens.specs.Tokens.{word, sign, Placed}
use Rattle.tokens.specs.declared.sign.Sign.TheVariants.{Semicolon, Star}
use Rattle.tokens.specs.declared.word.Word.TheVariants.{End, If, Then, Else, Fi, While, Do}

-- the tokens that follow a statement
pub data Follows : Placed → Type 0 where
  semicolon_follows : (p : ℕ) → Follows (at p (sign Semicolon))
  else_follows : (p : ℕ) → Follows (at p (word Else))
  fi_follows : (p : ℕ) → Follows (at p (word Fi))
  end_follows : (p : ℕ) → Follows (at p (word End))

no_star : {t : Placed} → Follows t → is_sign Star t.kind ≡ false
no_star (semicolon_follows p) = refl
no_star (else_follows p) = refl
no_star (fi_follows p) = refl
no_star (end_follows p) = refl

-- a train's last statement, and those before it
abbrev pub final : Train → Stmt
final (last s) = s
final (more s t) = final t

abbrev pub front : Train → List Stmt
front (last s) = []
front (more s t) = s ∷ front t

pub train_back : (t : Train) → train_of (front t) (final t) ≡ t
train_back (last s) = refl
train_back (more s t) = ap (more s) (train_back t)

module _ (ds : List Declared) where
  abbrev pub in_train : List Part → List Stmt → Point → List Placed → Option Program
  in_train parts before pt ts = runs (Some (inside ds parts before pt)) ts

  assign_read : (parts : List Part) (before : List Stmt) (p : ℕ) (n : List ℕ) (e : Expr) {t : Placed} (rest : List Placed) → Follows t → having ds parts before (for_assign p n) fresh [] e (t ∷ rest) ≡ in_train parts before (complete (assign p n e)) (t ∷ rest)
  assign_read parts before p n e rest (semicolon_follows q) = refl
  assign_read parts before p n e rest (else_follows q) = refl
  assign_read parts before p n e rest (fi_follows q) = refl
  assign_read parts before p n e rest (end_follows q) = refl

  output_read : (parts : List Part) (before : List Stmt) (p : ℕ) (e : Expr) {t : Placed} (rest : List Placed) → Follows t → having ds parts before (for_output p) fresh [] e (t ∷ rest) ≡ in_train parts before (complete (output p e)) (t ∷ rest)
  output_read parts before p e rest (semicolon_follows q) = refl
  output_read parts before p e rest (else_follows q) = refl
  output_read parts before p e rest (fi_follows q) = refl
  output_read parts before p e rest (end_follows q) = refl

  mutual
    statement_whole : {s : Stmt} {ts : List Placed} → Statement s ts → (parts : List Part) (before : List Stmt) (t : Placed) (rest : List Placed) → Follows t → in_train parts before wanted (ts ++ t ∷ rest) ≡ in_train parts before (complete s) (t ∷ rest)
    statement_whole (statement_assign d) parts before t rest f = assignment_whole d parts before t rest f
    statement_whole (statement_cond d) parts before t rest f = conditional_whole d parts before t rest f
    statement_whole (statement_loop d) parts before t rest f = loop_whole d parts before t rest f
    statement_whole (statement_transput d) parts before t rest f = transput_whole d parts before t rest f

    assignment_whole : {s : Stmt} {ts : List Placed} → Assignment s ts → (parts : List Part) (before : List Stmt) (t : Placed) (rest : List Placed) → Follows t → in_train parts before wanted (ts ++ t ∷ rest) ≡ in_train parts before (complete s) (t ∷ rest)
    assignment_whole (assignment p n q {e = e} d) parts before t rest f =
        exp_whole ds parts before (for_assign p n) d None [] t rest (no_star f) ∙ assign_read parts before p n e rest f

    conditional_whole : {s : Stmt} {ts : List Placed} → Conditional s ts → (parts : List Part) (before : List Stmt) (t : Placed) (rest : List Placed) → Follows t → in_train parts before wanted (ts ++ t ∷ rest) ≡ in_train parts before (complete s) (t ∷ rest)
    conditional_whole (conditional p q r {e = e} {t = u} {xs = xs} {ys = ys} d b) parts before t rest f =
        ap (λ l. in_train parts before wanted (at p (word If) ∷ l)) (append_assoc xs (at q (word Then) ∷ (ys ++ at r (word Fi) ∷ [])) (t ∷ rest)) ∙ exp_whole ds parts before (for_choose p) d None [] (at q (word Then)) (ys ++ at r (word Fi) ∷ [] ++ t ∷ rest) refl ∙ ap (in_train (then_part p e before ∷ parts) [] wanted) (append_assoc ys (at r (word Fi) ∷ []) (t ∷ rest)) ∙ train_whole b (then_part p e before ∷ parts) [] (at r (word Fi)) (t ∷ rest) (fi_follows r) ∙ ap (λ x. in_train parts before (complete (choose p e x)) (t ∷ rest)) (train_back u)
    conditional_whole (conditional_else p q r s {e = e} {t = u} {u = v} {xs = xs} {ys = ys} {zs = zs} d b c) parts before t rest f =
        ap (λ l. in_train parts before wanted (at p (word If) ∷ l)) (append_assoc xs (at q (word Then) ∷ (ys ++ at r (word Else) ∷ (zs ++ at s (word Fi) ∷ []))) (t ∷ rest)) ∙ exp_whole ds parts before (for_choose p) d None [] (at q (word Then)) (ys ++ at r (word Else) ∷ (zs ++ at s (word Fi) ∷ []) ++ t ∷ rest) refl ∙ ap (in_train (then_part p e before ∷ parts) [] wanted) (append_assoc ys (at r (word Else) ∷ (zs ++ at s (word Fi) ∷ [])) (t ∷ rest)) ∙ train_whole b (then_part p e before ∷ parts) [] (at r (word Else)) (zs ++ at s (word Fi) ∷ [] ++ t ∷ rest) (else_follows r) ∙ ap (λ x. in_train (else_part p e x before ∷ parts) [] wanted (zs ++ at s (word Fi) ∷ [] ++ t ∷ rest)) (train_back u) ∙ ap (in_train (else_part p e u before ∷ parts) [] wanted) (append_assoc zs (at s (word Fi) ∷ []) (t ∷ rest)) ∙ train_whole c (else_part p e u before ∷ parts) [] (at s (word Fi)) (t ∷ rest) (fi_follows s) ∙ ap (λ x. in_train parts before (complete (choose_else p e u x)) (t ∷ rest)) (train_back v)

    loop_whole : {s : Stmt} {ts : List Placed} → Loop s ts → (parts : List Part) (before : List Stmt) (t : Placed) (rest : List Placed) → Follows t → in_train parts before wanted (ts ++ t ∷ rest) ≡ in_train parts before (complete s) (t ∷ rest)
    loop_whole (repeated p q r {e = e} {t = u} {xs = xs} {ys = ys} d b) parts before t rest f =
        ap (λ l. in_train parts before wanted (at p (word While) ∷ l)) (append_assoc xs (at q (word Do) ∷ (ys ++ at r (word End) ∷ [])) (t ∷ rest)) ∙ exp_whole ds parts before (for_loop p) d None [] (at q (word Do)) (ys ++ at r (word End) ∷ [] ++ t ∷ rest) refl ∙ ap (in_train (loop_part p e before ∷ parts) [] wanted) (append_assoc ys (at r (word End) ∷ []) (t ∷ rest)) ∙ train_whole b (loop_part p e before ∷ parts) [] (at r (word End)) (t ∷ rest) (end_follows r) ∙ ap (λ x. in_train parts before (complete (loop p e x)) (t ∷ rest)) (train_back u)

    transput_whole : {s : Stmt} {ts : List Placed} → Transput s ts → (parts : List Part) (before : List Stmt) (t : Placed) (rest : List Placed) → Follows t → in_train parts before wanted (ts ++ t ∷ rest) ≡ in_train parts before (complete s) (t ∷ rest)
    transput_whole (transput_input p q n) parts before t rest f = refl
    transput_whole (transput_output p {e = e} d) parts before t rest f =
        exp_whole ds parts before (for_output p) d None [] t rest (no_star f) ∙ output_read parts before p e rest f

    pub train_whole : {u : Train} {ts : List Placed} → StmTrain u ts → (parts : List Part) (before : List Stmt) (t : Placed) (rest : List Placed) → Follows t → in_train parts before wanted (ts ++ t ∷ rest) ≡ in_train parts (before ++ front u) (complete (final u)) (t ∷ rest)
    train_whole (train_last {s = s} d) parts before t rest f =
        statement_whole d parts before t rest f ∙ ap (λ l. in_train parts l (complete s) (t ∷ rest)) (sym (append-nil before))
    train_whole (train_more p {s = s} {t = u} {xs = xs} {ys = ys} d b) parts before t rest f =
        ap (in_train parts before wanted) (append_assoc xs (at p (sign Semicolon) ∷ ys) (t ∷ rest)) ∙ statement_whole d parts before (at p (sign Semicolon)) (ys ++ t ∷ rest) (semicolon_follows p) ∙ train_whole b parts (before ++ s ∷ []) t rest f ∙ ap (λ l. in_train parts l (complete (final u)) (t ∷ rest)) (append_assoc before (s ∷ []) (front u))

  -- the first statement tells that the declarations are over
  first_statement : {s : Stmt} {ts : List Placed} → Statement s ts → (rest : List Placed) → runs (Some (between ds)) (ts ++ rest) ≡ in_train [] [] wanted (ts ++ rest)
  first_statement (statement_assign (assignment p n q d)) rest = refl
  first_statement (statement_cond (conditional p q r d b)) rest = refl
  first_statement (statement_cond (conditional_else p q r s d b c)) rest = refl
  first_statement (statement_loop (repeated p q r d b)) rest = refl
  first_statement (statement_transput (transput_input p q n)) rest = refl
  first_statement (statement_transput (transput_output p d)) rest = refl

  pub first_train : {u : Train} {ts : List Placed} → StmTrain u ts → (rest : List Placed) → runs (Some (between ds)) (ts ++ rest) ≡ in_train [] [] wanted (ts ++ rest)
  first_train (train_last d) rest = first_statement d rest
  first_train (train_more p {xs = xs} {ys = ys} d b) rest =
      ap (runs (Some (between ds))) (append_assoc xs (at p (sign Semicolon) ∷ ys) rest) ∙ first_statement d (at p (sign Semicolon) ∷ ys ++ rest) ∙ ap (in_train [] [] wanted) (sym (append_assoc xs (at p (sign Semicolon) ∷ ys) rest))
