-- The grammar, one constructor for each production: which tokens derive which tree.
use Rattle.std.specs.Prelude.{ℕ, suc, true, false, List, [], ◌∷◌, ◌++◌}
use Rattle.grammar.specs.Tree.{Primitive, int, bool, plus, times, equal, differ, Expr, variable, number, truth, binary, group, Stmt, assign, choose, choose_else, loop, input, output, Train, last, more, Declared, Program}
use Rattle.tokens.specs.Tokens.{Kind, word, sign, name, constant, Placed}
use Rattle.tokens.specs.declared.sign.Sign.TheVariants.{Semicolon, Comma, Becomes, Plus, Star, Equals, Differs, Open, Close}
use Rattle.tokens.specs.declared.word.Word.TheVariants.{Begin, End, Int, Bool, Ref, If, Then, Else, Fi, While, Do, Input, Output, True, False}

-- a token at a place
abbrev pub at : ℕ → Kind → Placed
at p k = record { place = p; kind = k }

abbrev pub declare : ℕ → List ℕ → ℕ → Primitive → Declared
declare p n k m = record { place = p; letters = n; refs = k; primitive = m }

-- mode: bool | int | ref mode
pub data Mode : ℕ → Primitive → List Placed → Type 0 where
  mode_bool : (p : ℕ) → Mode 0 bool (at p (word Bool) ∷ [])
  mode_int : (p : ℕ) → Mode 0 int (at p (word Int) ∷ [])
  mode_ref : (p : ℕ) {k : ℕ} {m : Primitive} {ts : List Placed} → Mode k m ts → Mode (suc k) m (at p (word Ref) ∷ ts)

-- idlist: id | id , idlist
pub data IdList : ℕ → Primitive → List Declared → List Placed → Type 0 where
  ids_last : (p : ℕ) (n : List ℕ) {k : ℕ} {m : Primitive} → IdList k m (declare p n k m ∷ []) (at p (name n) ∷ [])
  ids_more : (p : ℕ) (n : List ℕ) (q : ℕ) {k : ℕ} {m : Primitive} {ds : List Declared} {ts : List Placed} → IdList k m ds ts → IdList k m (declare p n k m ∷ ds) (at p (name n) ∷ at q (sign Comma) ∷ ts)

-- declaration: mode idlist
pub data Declaration : List Declared → List Placed → Type 0 where
  declaration : {k : ℕ} {m : Primitive} {ds : List Declared} {xs ys : List Placed} → Mode k m xs → IdList k m ds ys → Declaration ds (xs ++ ys)

-- dcl train: declaration | declaration ; dcl train
pub data DclTrain : List Declared → List Placed → Type 0 where
  dcl_last : {ds : List Declared} {ts : List Placed} → Declaration ds ts → DclTrain ds ts
  dcl_more : (p : ℕ) {ds es : List Declared} {xs ys : List Placed} → Declaration ds xs → DclTrain es ys → DclTrain (ds ++ es) (xs ++ at p (sign Semicolon) ∷ ys)

-- constant: bool constant | int constant
pub data Constant : Expr → List Placed → Type 0 where
  constant_true : (p : ℕ) → Constant (truth p true) (at p (word True) ∷ [])
  constant_false : (p : ℕ) → Constant (truth p false) (at p (word False) ∷ [])
  constant_int : (p n : ℕ) → Constant (number p n) (at p (constant n) ∷ [])

mutual
  -- exp: factor | exp + factor
  pub data Exp : Expr → List Placed → Type 0 where
    exp_factor : {e : Expr} {ts : List Placed} → Factor e ts → Exp e ts
    exp_plus : (p : ℕ) {a b : Expr} {xs ys : List Placed} → Exp a xs → Factor b ys → Exp (binary p plus a b) (xs ++ at p (sign Plus) ∷ ys)

  -- factor: primary | factor * primary
  pub data Factor : Expr → List Placed → Type 0 where
    factor_primary : {e : Expr} {ts : List Placed} → Primary e ts → Factor e ts
    factor_times : (p : ℕ) {a b : Expr} {xs ys : List Placed} → Factor a xs → Primary b ys → Factor (binary p times a b) (xs ++ at p (sign Star) ∷ ys)

  -- primary: id | constant | ( exp ) | ( compare )
  pub data Primary : Expr → List Placed → Type 0 where
    primary_id : (p : ℕ) (n : List ℕ) → Primary (variable p n) (at p (name n) ∷ [])
    primary_constant : {e : Expr} {ts : List Placed} → Constant e ts → Primary e ts
    primary_exp : (p q : ℕ) {e : Expr} {ts : List Placed} → Exp e ts → Primary (group e) (at p (sign Open) ∷ (ts ++ at q (sign Close) ∷ []))
    primary_compare : (p q : ℕ) {e : Expr} {ts : List Placed} → Compare e ts → Primary e (at p (sign Open) ∷ (ts ++ at q (sign Close) ∷ []))

  -- compare: exp = exp | exp # exp
  pub data Compare : Expr → List Placed → Type 0 where
    compare_equal : (p : ℕ) {a b : Expr} {xs ys : List Placed} → Exp a xs → Exp b ys → Compare (binary p equal a b) (xs ++ at p (sign Equals) ∷ ys)
    compare_differ : (p : ℕ) {a b : Expr} {xs ys : List Placed} → Exp a xs → Exp b ys → Compare (binary p differ a b) (xs ++ at p (sign Differs) ∷ ys)

mutual
  -- statement: asgt stm | cond stm | loop stm | transput stm
  pub data Statement : Stmt → List Placed → Type 0 where
    statement_assign : {s : Stmt} {ts : List Placed} → Assignment s ts → Statement s ts
    statement_cond : {s : Stmt} {ts : List Placed} → Conditional s ts → Statement s ts
    statement_loop : {s : Stmt} {ts : List Placed} → Loop s ts → Statement s ts
    statement_transput : {s : Stmt} {ts : List Placed} → Transput s ts → Statement s ts

  -- asgt stm: id := exp
  pub data Assignment : Stmt → List Placed → Type 0 where
    assignment : (p : ℕ) (n : List ℕ) (q : ℕ) {e : Expr} {ts : List Placed} → Exp e ts → Assignment (assign p n e) (at p (name n) ∷ at q (sign Becomes) ∷ ts)

  -- cond stm: if exp then stm train fi | if exp then stm train else stm train fi
  pub data Conditional : Stmt → List Placed → Type 0 where
    conditional : (p q r : ℕ) {e : Expr} {t : Train} {xs ys : List Placed} → Exp e xs → StmTrain t ys → Conditional (choose p e t) (at p (word If) ∷ (xs ++ at q (word Then) ∷ (ys ++ at r (word Fi) ∷ [])))
    conditional_else : (p q r s : ℕ) {e : Expr} {t u : Train} {xs ys zs : List Placed} → Exp e xs → StmTrain t ys → StmTrain u zs → Conditional (choose_else p e t u) (at p (word If) ∷ (xs ++ at q (word Then) ∷ (ys ++ at r (word Else) ∷ (zs ++ at s (word Fi) ∷ []))))

  -- loop stm: while exp do stm train end
  pub data Loop : Stmt → List Placed → Type 0 where
    repeated : (p q r : ℕ) {e : Expr} {t : Train} {xs ys : List Placed} → Exp e xs → StmTrain t ys → Loop (loop p e t) (at p (word While) ∷ (xs ++ at q (word Do) ∷ (ys ++ at r (word End) ∷ [])))

  -- transput stm: input id | output exp
  pub data Transput : Stmt → List Placed → Type 0 where
    transput_input : (p q : ℕ) (n : List ℕ) → Transput (input p q n) (at p (word Input) ∷ at q (name n) ∷ [])
    transput_output : (p : ℕ) {e : Expr} {ts : List Placed} → Exp e ts → Transput (output p e) (at p (word Output) ∷ ts)

  -- stm train: statement | statement ; stm train
  pub data StmTrain : Train → List Placed → Type 0 where
    train_last : {s : Stmt} {ts : List Placed} → Statement s ts → StmTrain (last s) ts
    train_more : (p : ℕ) {s : Stmt} {t : Train} {xs ys : List Placed} → Statement s xs → StmTrain t ys → StmTrain (more s t) (xs ++ at p (sign Semicolon) ∷ ys)

-- program: begin dcl train ; stm train end
pub data Derives : Program → List Placed → Type 0 where
  program : (p q r : ℕ) {ds : List Declared} {t : Train} {xs ys : List Placed} → DclTrain ds xs → StmTrain t ys → Derives (record { declared = ds; body = t }) (at p (word Begin) ∷ (xs ++ at q (sign Semicolon) ∷ (ys ++ at r (word End) ∷ [])))
