-- What the tokens read so far are, in each state of the machine.
use Rattle.std.proofs.Common.{◌≡◌, ℕ, ◌+◌, List, [], ◌∷◌, ◌++◌, Some, None, Option, append_assoc}
use Rattle.grammar.specs.Bnf.{at, Mode, IdList, DclTrain, Exp, exp_factor, exp_plus, Factor, factor_primary, factor_times, Primary, primary_exp, primary_compare, compare_equal, compare_differ, Statement, StmTrain, train_last, train_more, Derives}
use Rattle.grammar.specs.Machine.{Level, Waiting, joined, enclosed, Purpose, for_assign, for_choose, for_loop, for_output, Part, then_part, else_part, loop_part, Point, wanted, target, operand, operand_read, input_name, complete, State, opening, moding, naming, named, between, inside, finished, train_of}
use Rattle.grammar.specs.Tree.{Primitive, plus, times, equal, differ, Expr, Stmt, Train, Declared}
use Rattle.grammar.proofs.Expressions.{Comparing}
use Rattle.tokens.specs.Tokens.{word, sign, name, Placed}
use Rattle.tokens.specs.declared.sign.Sign.TheVariants.{Semicolon, Becomes, Plus, Star, Equals, Differs, Open, Close}
use Rattle.tokens.specs.declared.word.Word.TheVariants.{Begin, If, Then, Else, While, Do, Input, Output}

-- what waits for its right side
pub data Products : Waiting → List Placed → Type 0 where
  no_product : Products None []
  product : (p : ℕ) {a : Expr} {xs : List Placed} → Factor a xs → Products (Some (p, a)) (xs ++ at p (sign Star) ∷ [])

pub data Sums : Waiting → List Placed → Type 0 where
  no_sum : Sums None []
  sum : (p : ℕ) {a : Expr} {xs : List Placed} → Exp a xs → Sums (Some (p, a)) (xs ++ at p (sign Plus) ∷ [])

pub data Compares : Comparing → List Placed → Type 0 where
  no_comparison : Compares None []
  equality : (p : ℕ) {a : Expr} {xs : List Placed} → Exp a xs → Compares (Some (p, equal, a)) (xs ++ at p (sign Equals) ∷ [])
  difference : (p : ℕ) {a : Expr} {xs : List Placed} → Exp a xs → Compares (Some (p, differ, a)) (xs ++ at p (sign Differs) ∷ [])

pub product_joined : {w : Waiting} {e : Expr} {xs ys : List Placed} → Products w xs → Primary e ys → Factor (joined times w e) (xs ++ ys)
product_joined no_product d = factor_primary d
product_joined {ys = ys} (product p {xs = xs} f) d = rw (append_assoc xs (at p (sign Star) ∷ []) ys) (factor_times p f d)

pub sum_joined : {w : Waiting} {e : Expr} {xs ys : List Placed} → Sums w xs → Factor e ys → Exp (joined plus w e) (xs ++ ys)
sum_joined no_sum d = exp_factor d
sum_joined {ys = ys} (sum p {xs = xs} f) d = rw (append_assoc xs (at p (sign Plus) ∷ []) ys) (exp_plus p f d)

pub compare_joined : {c : Comparing} {e : Expr} {xs ys : List Placed} → Compares c xs → Exp e ys → (p q : ℕ) → Primary (enclosed c e) (at p (sign Open) ∷ (xs ++ ys ++ at q (sign Close) ∷ []))
compare_joined no_comparison d p q = primary_exp p q d
compare_joined {ys = ys} (equality r {xs = xs} f) d p q = rw (append_assoc xs (at r (sign Equals) ∷ []) ys) (primary_compare p q (compare_equal r f d))
compare_joined {ys = ys} (difference r {xs = xs} f) d p q = rw (append_assoc xs (at r (sign Differs) ∷ []) ys) (primary_compare p q (compare_differ r f d))

-- outside all parentheses there is no comparison
abbrev pub Inner : List Level → Comparing → Type 0
Inner [] c = c ≡ None
Inner (l ∷ ls) c = Unit {0}

pub data Levels : List Level → List Placed → Type 0 where
  no_levels : Levels [] []
  opened : (p : ℕ) {l : Level} {ls : List Level} {xs cs ss ms : List Placed} → Levels ls xs → Inner ls l.compared → Compares l.compared cs → Sums l.summed ss → Products l.multiplied ms → Levels (l ∷ ls) (xs ++ (cs ++ (ss ++ (ms ++ at p (sign Open) ∷ []))))

pub data Begins : Purpose → List Placed → Type 0 where
  assigning : (p : ℕ) (n : List ℕ) (q : ℕ) → Begins (for_assign p n) (at p (name n) ∷ at q (sign Becomes) ∷ [])
  choosing : (p : ℕ) → Begins (for_choose p) (at p (word If) ∷ [])
  looping : (p : ℕ) → Begins (for_loop p) (at p (word While) ∷ [])
  putting : (p : ℕ) → Begins (for_output p) (at p (word Output) ∷ [])

-- an operand is wanted: the tokens are those of the statement's beginning, of the levels around, and of what waits at this level
pub record Wants (u : Purpose) (l : Level) (ls : List Level) (ts : List Placed) : Type 0 where
  pub us : List Placed
  pub bs : List Placed
  pub cs : List Placed
  pub ss : List Placed
  pub ms : List Placed
  pub begins : Begins u us
  pub levels : Levels ls bs
  pub inner : Inner ls l.compared
  pub compares : Compares l.compared cs
  pub sums : Sums l.summed ss
  pub products : Products l.multiplied ms
  pub same : ts ≡ us ++ (bs ++ (cs ++ (ss ++ ms)))

-- an operand is read: its tokens are es
pub record Has (u : Purpose) (l : Level) (ls : List Level) (e : Expr) (ts : List Placed) : Type 0 where
  pub xs : List Placed
  pub es : List Placed
  pub wants : Wants u l ls xs
  pub primary : Primary e es
  pub same : ts ≡ xs ++ es

-- the statements before, each with its `;`
pub data Before : List Stmt → List Placed → Type 0 where
  none_before : Before [] []
  one_before : (p : ℕ) {s : Stmt} {ss : List Stmt} {xs ys : List Placed} → Statement s xs → Before ss ys → Before (s ∷ ss) (xs ++ at p (sign Semicolon) ∷ ys)

pub before_train : {ss : List Stmt} {s : Stmt} {xs ys : List Placed} → Before ss xs → Statement s ys → StmTrain (train_of ss s) (xs ++ ys)
before_train none_before d = train_last d
before_train {ys = ys} (one_before p {xs = zs} {ys = xs} b bs) d = rw (append_assoc zs (at p (sign Semicolon) ∷ xs) ys) (train_more p b (before_train bs d))

pub before_more : {ss : List Stmt} {s : Stmt} {xs ys : List Placed} → Before ss xs → Statement s ys → (p : ℕ) → Before (ss ++ s ∷ []) (xs ++ (ys ++ at p (sign Semicolon) ∷ []))
before_more none_before d p = one_before p d none_before
before_more {ys = ys} (one_before q {xs = zs} {ys = xs} b bs) d p = rw (append_assoc zs (at q (sign Semicolon) ∷ xs) (ys ++ at p (sign Semicolon) ∷ [])) (one_before q b (before_more bs d p))

-- the open parts, each with the statements before it
pub data Parts : List Part → List Placed → Type 0 where
  no_parts : Parts [] []
  in_then : (p q : ℕ) {e : Expr} {ss : List Stmt} {ps : List Part} {xs ys zs : List Placed} → Parts ps xs → Before ss ys → Exp e zs → Parts (then_part p e ss ∷ ps) (xs ++ (ys ++ at p (word If) ∷ (zs ++ at q (word Then) ∷ [])))
  in_else : (p q r : ℕ) {e : Expr} {t : Train} {ss : List Stmt} {ps : List Part} {xs ys zs ws : List Placed} → Parts ps xs → Before ss ys → Exp e zs → StmTrain t ws → Parts (else_part p e t ss ∷ ps) (xs ++ (ys ++ at p (word If) ∷ (zs ++ at q (word Then) ∷ (ws ++ at r (word Else) ∷ []))))
  in_loop : (p q : ℕ) {e : Expr} {ss : List Stmt} {ps : List Part} {xs ys zs : List Placed} → Parts ps xs → Before ss ys → Exp e zs → Parts (loop_part p e ss ∷ ps) (xs ++ (ys ++ at p (word While) ∷ (zs ++ at q (word Do) ∷ [])))

abbrev pub Points : Point → List Placed → Type 0
Points wanted ts = ts ≡ []
Points (target p n) ts = ts ≡ at p (name n) ∷ []
Points (operand u l ls) ts = Wants u l ls ts
Points (operand_read u l ls e) ts = Has u l ls e ts
Points (input_name p) ts = ts ≡ at p (word Input) ∷ []
Points (complete s) ts = Statement s ts

-- the declarations, each with its `;`
pub data Done : List Declared → List Placed → Type 0 where
  none_done : Done [] []
  done : (p : ℕ) {ds : List Declared} {xs : List Placed} → DclTrain ds xs → Done ds (xs ++ at p (sign Semicolon) ∷ [])

-- in a mode: rs are its `ref`s, which go before any mode
pub record Modes (ds : List Declared) (refs : ℕ) (ts : List Placed) : Type 0 where
  pub p : ℕ
  pub xs : List Placed
  pub rs : List Placed
  pub earlier : Done ds xs
  pub mode : (k : ℕ) (m : Primitive) (ys : List Placed) → Mode k m ys → Mode (k + refs) m (rs ++ ys)
  pub same : ts ≡ at p (word Begin) ∷ (xs ++ rs)

-- a name is wanted: es are declared before this declaration, fs in it
pub record Names (ds : List Declared) (refs : ℕ) (m : Primitive) (ts : List Placed) : Type 0 where
  pub p : ℕ
  pub es : List Declared
  pub fs : List Declared
  pub xs : List Placed
  pub ms : List Placed
  pub ys : List Placed
  pub earlier : Done es xs
  pub mode : Mode refs m ms
  pub names : (gs : List Declared) (zs : List Placed) → IdList refs m gs zs → IdList refs m (fs ++ gs) (ys ++ zs)
  pub both : ds ≡ es ++ fs
  pub same : ts ≡ at p (word Begin) ∷ (xs ++ (ms ++ ys))

-- a name is read
pub record Named (ds : List Declared) (refs : ℕ) (m : Primitive) (ts : List Placed) : Type 0 where
  pub p : ℕ
  pub es : List Declared
  pub fs : List Declared
  pub xs : List Placed
  pub ms : List Placed
  pub ys : List Placed
  pub earlier : Done es xs
  pub mode : Mode refs m ms
  pub names : IdList refs m fs ys
  pub both : ds ≡ es ++ fs
  pub same : ts ≡ at p (word Begin) ∷ (xs ++ (ms ++ ys))

pub record Between (ds : List Declared) (ts : List Placed) : Type 0 where
  pub p : ℕ
  pub q : ℕ
  pub xs : List Placed
  pub declarations : DclTrain ds xs
  pub same : ts ≡ at p (word Begin) ∷ (xs ++ at q (sign Semicolon) ∷ [])

-- in the statements: the declarations, the open parts, the statements before, and the statement at hand
pub record Inside (ds : List Declared) (parts : List Part) (before : List Stmt) (pt : Point) (ts : List Placed) : Type 0 where
  pub p : ℕ
  pub q : ℕ
  pub xs : List Placed
  pub ps : List Placed
  pub bs : List Placed
  pub here : List Placed
  pub declarations : DclTrain ds xs
  pub outer : Parts parts ps
  pub earlier : Before before bs
  pub point : Points pt here
  pub same : ts ≡ at p (word Begin) ∷ (xs ++ at q (sign Semicolon) ∷ (ps ++ (bs ++ here)))

abbrev pub Holds : State → List Placed → Type 0
Holds opening ts = ts ≡ []
Holds (moding ds refs) ts = Modes ds refs ts
Holds (naming ds refs m) ts = Names ds refs m ts
Holds (named ds refs m) ts = Named ds refs m ts
Holds (between ds) ts = Between ds ts
Holds (inside ds parts before pt) ts = Inside ds parts before pt ts
Holds (finished ds body) ts = Derives (record { declared = ds; body = body }) ts

-- a state, if there is one, holds
pub data Allows : Option State → List Placed → Type 0 where
  refused : {ts : List Placed} → Allows None ts
  allowed : (s : State) {ts : List Placed} → Holds s ts → Allows (Some s) ts
