-- The token after a statement keeps the invariant: it goes on with the train, or closes a part.
use Rattle.std.proofs.Common.{◌≡◌, ℕ, List, [], ◌∷◌, ◌++◌, refl, append_assoc, append-nil}
use Rattle.grammar.specs.Bnf.{at, DclTrain, statement_cond, statement_loop, conditional, conditional_else, repeated, StmTrain, Derives, program}
use Rattle.grammar.specs.Machine.{Part, then_part, else_part, loop_part, wanted, complete, inside, finished, train_of, close_then, turn_else, close_loop, end_statement}
use Rattle.grammar.specs.Tree.{Expr, Stmt, choose, choose_else, loop, Train, Declared}
use Rattle.grammar.proofs.Invariant.{none_before, before_train, before_more, Parts, no_parts, in_then, in_else, in_loop, Inside, Allows, refused, allowed}
use Rattle.grammar.proofs.Tests.{after_word, either_allows, only_sign}
use Rattle.tokens.specs.Tokens.{Kind, word, sign, Placed}
use Rattle.tokens.specs.declared.sign.Sign.TheVariants.{Semicolon}
use Rattle.tokens.specs.declared.word.Word.TheVariants.{Begin, End, If, Then, Else, Fi, While, Do}

module _ (ds : List Declared) (parts : List Part) (before : List Stmt) (ts : List Placed) where
  semicolon_read : (s : Stmt) → Inside ds parts before (complete s) ts → (p : ℕ) → Inside ds parts (before ++ s ∷ []) wanted (ts ++ at p (sign Semicolon) ∷ [])
  semicolon_read s h p = record {
    p = h.p;
    q = h.q;
    xs = h.xs;
    ps = h.ps;
    bs = h.bs ++ (h.here ++ at p (sign Semicolon) ∷ []);
    here = [];
    declarations = h.declarations;
    outer = h.outer;
    earlier = before_more h.earlier h.point p;
    point = refl;
    same = rw h.same (simp (append_assoc, append-nil));
  }

-- the token after a part, whose train has the tokens ws
module _ {ds : List Declared} {u : Train} {xs ws : List Placed} (ts : List Placed) (p q r : ℕ) (declarations : DclTrain ds xs) (train : StmTrain u ws) where
  else_read : {parts : List Part} {before : List Stmt} {a : ℕ} {e : Expr} {ps : List Placed} → Parts (then_part a e before ∷ parts) ps → ts ≡ at p (word Begin) ∷ (xs ++ at q (sign Semicolon) ∷ (ps ++ ws)) → Inside ds (else_part a e u before ∷ parts) [] wanted (ts ++ at r (word Else) ∷ [])
  else_read (in_then a b {xs = os} {ys = bs} {zs = es} o f d) same = record {
    p = p;
    q = q;
    xs = xs;
    ps = os ++ (bs ++ at a (word If) ∷ (es ++ at b (word Then) ∷ (ws ++ at r (word Else) ∷ [])));
    bs = [];
    here = [];
    declarations = declarations;
    outer = in_else a b r o f d train;
    earlier = none_before;
    point = refl;
    same = rw same (simp (append_assoc, append-nil));
  }

  then_read : {parts : List Part} {before : List Stmt} {a : ℕ} {e : Expr} {ps : List Placed} → Parts (then_part a e before ∷ parts) ps → ts ≡ at p (word Begin) ∷ (xs ++ at q (sign Semicolon) ∷ (ps ++ ws)) → Inside ds parts before (complete (choose a e u)) (ts ++ at r (word Fi) ∷ [])
  then_read (in_then a b {xs = os} {ys = bs} {zs = es} o f d) same = record {
    p = p;
    q = q;
    xs = xs;
    ps = os;
    bs = bs;
    here = at a (word If) ∷ (es ++ at b (word Then) ∷ (ws ++ at r (word Fi) ∷ []));
    declarations = declarations;
    outer = o;
    earlier = f;
    point = statement_cond (conditional a b r d train);
    same = rw same (simp append_assoc);
  }

  both_read : {parts : List Part} {before : List Stmt} {a : ℕ} {e : Expr} {v : Train} {ps : List Placed} → Parts (else_part a e v before ∷ parts) ps → ts ≡ at p (word Begin) ∷ (xs ++ at q (sign Semicolon) ∷ (ps ++ ws)) → Inside ds parts before (complete (choose_else a e v u)) (ts ++ at r (word Fi) ∷ [])
  both_read (in_else a b c {xs = os} {ys = bs} {zs = es} {ws = vs} o f d t) same = record {
    p = p;
    q = q;
    xs = xs;
    ps = os;
    bs = bs;
    here = at a (word If) ∷ (es ++ at b (word Then) ∷ (vs ++ at c (word Else) ∷ (ws ++ at r (word Fi) ∷ [])));
    declarations = declarations;
    outer = o;
    earlier = f;
    point = statement_cond (conditional_else a b c r d t train);
    same = rw same (simp append_assoc);
  }

  loop_read : {parts : List Part} {before : List Stmt} {a : ℕ} {e : Expr} {ps : List Placed} → Parts (loop_part a e before ∷ parts) ps → ts ≡ at p (word Begin) ∷ (xs ++ at q (sign Semicolon) ∷ (ps ++ ws)) → Inside ds parts before (complete (loop a e u)) (ts ++ at r (word End) ∷ [])
  loop_read (in_loop a b {xs = os} {ys = bs} {zs = es} o f d) same = record {
    p = p;
    q = q;
    xs = xs;
    ps = os;
    bs = bs;
    here = at a (word While) ∷ (es ++ at b (word Do) ∷ (ws ++ at r (word End) ∷ []));
    declarations = declarations;
    outer = o;
    earlier = f;
    point = statement_loop (repeated a b r d train);
    same = rw same (simp append_assoc);
  }

  all_read : {ps : List Placed} → Parts [] ps → ts ≡ at p (word Begin) ∷ (xs ++ at q (sign Semicolon) ∷ (ps ++ ws)) → Derives (record { declared = ds; body = u }) (ts ++ at r (word End) ∷ [])
  all_read no_parts same = rw (same, append_assoc xs (at q (sign Semicolon) ∷ ws) (at r (word End) ∷ [])) (program p q r declarations train)

module _ (ds : List Declared) (ts : List Placed) (before : List Stmt) (s : Stmt) where
  whole_train : {parts : List Part} (h : Inside ds parts before (complete s) ts) → StmTrain (train_of before s) (h.bs ++ h.here)
  whole_train h = before_train h.earlier h.point

  else_allows : (parts : List Part) → Inside ds parts before (complete s) ts → (r : ℕ) → Allows (turn_else ds parts before parts s) (ts ++ at r (word Else) ∷ [])
  else_allows [] h r = refused
  else_allows (then_part a e b ∷ ps) h r = allowed _ (else_read ts h.p h.q r h.declarations (whole_train h) h.outer h.same)
  else_allows (else_part a e t b ∷ ps) h r = refused
  else_allows (loop_part a e b ∷ ps) h r = refused

  fi_allows : (parts : List Part) → Inside ds parts before (complete s) ts → (r : ℕ) → Allows (close_then ds parts before parts s) (ts ++ at r (word Fi) ∷ [])
  fi_allows [] h r = refused
  fi_allows (then_part a e b ∷ ps) h r = allowed _ (then_read ts h.p h.q r h.declarations (whole_train h) h.outer h.same)
  fi_allows (else_part a e t b ∷ ps) h r = allowed _ (both_read ts h.p h.q r h.declarations (whole_train h) h.outer h.same)
  fi_allows (loop_part a e b ∷ ps) h r = refused

  end_allows : (parts : List Part) → Inside ds parts before (complete s) ts → (r : ℕ) → Allows (close_loop ds parts before parts s) (ts ++ at r (word End) ∷ [])
  end_allows [] h r = allowed (finished ds (train_of before s)) (all_read ts h.p h.q r h.declarations (whole_train h) h.outer h.same)
  end_allows (then_part a e b ∷ ps) h r = refused
  end_allows (else_part a e t b ∷ ps) h r = refused
  end_allows (loop_part a e b ∷ ps) h r = allowed _ (loop_read ts h.p h.q r h.declarations (whole_train h) h.outer h.same)

  pub statement_allows : (parts : List Part) → Inside ds parts before (complete s) ts → (p : ℕ) (k : Kind) → Allows (end_statement ds parts before s k) (ts ++ at p k ∷ [])
  statement_allows parts h p k =
      either_allows (only_sign p k ts Semicolon (inside ds parts (before ++ s ∷ []) wanted) (semicolon_read ds parts before ts s h p)) (either_allows (after_word p k ts Else (turn_else ds parts before parts s) (else_allows parts h p)) (either_allows (after_word p k ts Fi (close_then ds parts before parts s) (fi_allows parts h p)) (after_word p k ts End (close_loop ds parts before parts s) (end_allows parts h p))))
