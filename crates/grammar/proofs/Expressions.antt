-- Each expression that the grammar derives, the machine reads.
use Rattle.std.proofs.Common.{◌≡◌, ℕ, false, List, [], ◌∷◌, ◌++◌, Some, None, Option, refl, ap, ◌∙◌, append_assoc}
use Rattle.grammar.specs.Bnf.{at, Constant, constant_true, constant_false, constant_int, Exp, exp_factor, exp_plus, Factor, factor_primary, factor_times, Primary, primary_id, primary_constant, primary_exp, primary_compare, Compare, compare_equal, compare_differ}
use Rattle.grammar.specs.Machine.{Level, fresh, Waiting, Purpose, Part, operand, operand_read, inside, is_sign, runs}
use Rattle.grammar.specs.Tree.{Operator, plus, times, equal, differ, Expr, binary, Stmt, Declared, Program}
use Rattle.tokens.specs.Tokens.{sign, Placed}
use Rattle.tokens.specs.declared.sign.Sign.TheVariants.{Plus, Star, Equals, Differs, Close}

abbrev pub Comparing : Type 0
Comparing = Option (ℕ × Operator × Expr)

-- a level before its first term, and before its first factor
abbrev pub terms : Comparing → Level
terms c = record { compared = c; summed = None; multiplied = None }

abbrev pub factors : Comparing → Waiting → Level
factors c s = record { compared = c; summed = s; multiplied = None }

module _ (ds : List Declared) (parts : List Part) (before : List Stmt) (u : Purpose) where
  -- the answer where an operand is wanted, and where one is read
  abbrev pub wanting : Level → List Level → List Placed → Option Program
  wanting l ls ts = runs (Some (inside ds parts before (operand u l ls))) ts

  abbrev pub having : Level → List Level → Expr → List Placed → Option Program
  having l ls e ts = runs (Some (inside ds parts before (operand_read u l ls e))) ts

  -- a product that waits for its right side is as good as one that is read, and so is a sum where no product begins
  product_read : (c : Comparing) (s : Waiting) (p : ℕ) (a : Expr) (ls : List Level) (e : Expr) (ts : List Placed) → having (record { compared = c; summed = s; multiplied = Some (p, a) }) ls e ts ≡ having (factors c s) ls (binary p times a e) ts
  product_read c s p a ls e [] = refl
  product_read c s p a ls e (t ∷ ts) = refl

  sum_read : (c : Comparing) (p : ℕ) (a : Expr) (ls : List Level) (e : Expr) (t : Placed) (ts : List Placed) → is_sign Star t.kind ≡ false → having (factors c (Some (p, a))) ls e (t ∷ ts) ≡ having (terms c) ls (binary p plus a e) (t ∷ ts)
  sum_read c p a ls e t ts no_star = rw no_star

  constant_whole : {e : Expr} {ts : List Placed} → Constant e ts → (l : Level) (ls : List Level) (rest : List Placed) → wanting l ls (ts ++ rest) ≡ having l ls e rest
  constant_whole (constant_true p) l ls rest = refl
  constant_whole (constant_false p) l ls rest = refl
  constant_whole (constant_int p n) l ls rest = refl

  mutual
    pub exp_whole : {e : Expr} {ts : List Placed} → Exp e ts → (c : Comparing) (ls : List Level) (t : Placed) (rest : List Placed) → is_sign Star t.kind ≡ false → wanting (terms c) ls (ts ++ t ∷ rest) ≡ having (terms c) ls e (t ∷ rest)
    exp_whole (exp_factor d) c ls t rest no_star = factor_whole d c None ls (t ∷ rest)
    exp_whole (exp_plus p {a = a} {b = b} {xs = xs} {ys = ys} d f) c ls t rest no_star =
        ap (wanting (terms c) ls) (append_assoc xs (at p (sign Plus) ∷ ys) (t ∷ rest)) ∙ exp_whole d c ls (at p (sign Plus)) (ys ++ t ∷ rest) refl ∙ factor_whole f c (Some (p, a)) ls (t ∷ rest) ∙ sum_read c p a ls b t rest no_star

    factor_whole : {e : Expr} {ts : List Placed} → Factor e ts → (c : Comparing) (s : Waiting) (ls : List Level) (rest : List Placed) → wanting (factors c s) ls (ts ++ rest) ≡ having (factors c s) ls e rest
    factor_whole (factor_primary d) c s ls rest = primary_whole d (factors c s) ls rest
    factor_whole (factor_times p {a = a} {b = b} {xs = xs} {ys = ys} d f) c s ls rest =
        ap (wanting (factors c s) ls) (append_assoc xs (at p (sign Star) ∷ ys) rest) ∙ factor_whole d c s ls (at p (sign Star) ∷ ys ++ rest) ∙ primary_whole f (record { compared = c; summed = s; multiplied = Some (p, a) }) ls rest ∙ product_read c s p a ls b rest

    primary_whole : {e : Expr} {ts : List Placed} → Primary e ts → (l : Level) (ls : List Level) (rest : List Placed) → wanting l ls (ts ++ rest) ≡ having l ls e rest
    primary_whole (primary_id p n) l ls rest = refl
    primary_whole (primary_constant d) l ls rest = constant_whole d l ls rest
    primary_whole (primary_exp p q {ts = ts} d) l ls rest =
        ap (wanting fresh (l ∷ ls)) (append_assoc ts (at q (sign Close) ∷ []) rest) ∙ exp_whole d None (l ∷ ls) (at q (sign Close)) rest refl
    primary_whole (primary_compare p q {ts = ts} d) l ls rest =
        ap (wanting fresh (l ∷ ls)) (append_assoc ts (at q (sign Close) ∷ []) rest) ∙ compare_whole d l ls q rest

    compare_whole : {e : Expr} {ts : List Placed} → Compare e ts → (l : Level) (ls : List Level) (q : ℕ) (rest : List Placed) → wanting fresh (l ∷ ls) (ts ++ at q (sign Close) ∷ rest) ≡ having l ls e rest
    compare_whole (compare_equal p {a = a} {xs = xs} {ys = ys} d f) l ls q rest =
        ap (wanting fresh (l ∷ ls)) (append_assoc xs (at p (sign Equals) ∷ ys) (at q (sign Close) ∷ rest)) ∙ exp_whole d None (l ∷ ls) (at p (sign Equals)) (ys ++ at q (sign Close) ∷ rest) refl ∙ exp_whole f (Some (p, equal, a)) (l ∷ ls) (at q (sign Close)) rest refl
    compare_whole (compare_differ p {a = a} {xs = xs} {ys = ys} d f) l ls q rest =
        ap (wanting fresh (l ∷ ls)) (append_assoc xs (at p (sign Differs) ∷ ys) (at q (sign Close) ∷ rest)) ∙ exp_whole d None (l ∷ ls) (at p (sign Differs)) (ys ++ at q (sign Close) ∷ rest) refl ∙ exp_whole f (Some (p, differ, a)) (l ∷ ls) (at q (sign Close)) rest refl
