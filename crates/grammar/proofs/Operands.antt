-- The steps of the machine in an expression keep the invariant.
use Rattle.std.proofs.Common.{◌≡◌, ℕ, Bool, true, false, cond, List, [], ◌∷◌, ◌++◌, Some, None, Option, sym, refl, subst, append_assoc, append-nil}
use Rattle.grammar.specs.Bnf.{at, constant_true, constant_false, constant_int, Exp, Primary, primary_id, primary_constant, Statement, statement_assign, statement_transput, assignment, transput_output}
use Rattle.grammar.specs.Machine.{Level, fresh, factor_of, value_of, enclosed, Purpose, for_assign, for_choose, for_loop, for_output, is_word, leaf}
use Rattle.grammar.specs.Tree.{Expr, truth, assign, output}
use Rattle.grammar.proofs.Expressions.{Comparing}
use Rattle.grammar.proofs.Invariant.{no_product, product, no_sum, sum, Compares, no_comparison, product_joined, sum_joined, compare_joined, Levels, no_levels, opened, Begins, assigning, choosing, looping, putting, Wants, Has}
use Rattle.grammar.proofs.Tests.{is_that_word}
use Rattle.tokens.specs.Tokens.{Kind, word, sign, name, constant, Placed}
use Rattle.tokens.specs.declared.sign.Sign.TheVariants.{Plus, Star, Open, Close}
use Rattle.tokens.specs.declared.word.Word as words
use Rattle.tokens.specs.declared.word.Word.TheVariants.{If, While, True, False}

-- a token that is an operand by itself, if it is one
pub data Leaf : Option Expr → List Placed → Type 0 where
  no_leaf : {ts : List Placed} → Leaf None ts
  one_leaf : {e : Expr} {ts : List Placed} → Primary e ts → Leaf (Some e) ts

word_leaf : (a b : Bool) (p : ℕ) (w : words.Word) → is_word True (word w) ≡ a → is_word False (word w) ≡ b → Leaf (cond a (Some (truth p true)) (cond b (Some (truth p false)) None)) (at p (word w) ∷ [])
word_leaf true b p w e f = rw (is_that_word True (word w) e) (one_leaf (primary_constant (constant_true p)))
word_leaf false true p w e f = rw (is_that_word False (word w) f) (one_leaf (primary_constant (constant_false p)))
word_leaf false false p w e f = no_leaf

pub leaf_read : (k : Kind) (p : ℕ) → Leaf (leaf k p) (at p k ∷ [])
leaf_read (word w) p = word_leaf (is_word True (word w)) (is_word False (word w)) p w refl refl
leaf_read (sign s) p = no_leaf
leaf_read (name n) p = one_leaf (primary_id p n)
leaf_read (constant n) p = one_leaf (primary_constant (constant_int p n))

module _ (u : Purpose) (l : Level) (ls : List Level) where
  -- the first operand in parentheses is wanted
  pub parenthesis_read : (ts : List Placed) → Wants u l ls ts → (p : ℕ) → Wants u fresh (l ∷ ls) (ts ++ at p (sign Open) ∷ [])
  parenthesis_read ts h p = record {
    us = h.us;
    bs = h.bs ++ (h.cs ++ (h.ss ++ (h.ms ++ at p (sign Open) ∷ [])));
    cs = [];
    ss = [];
    ms = [];
    begins = h.begins;
    levels = opened p h.levels h.inner h.compares h.sums h.products;
    inner = tt;
    compares = no_comparison;
    sums = no_sum;
    products = no_product;
    same = rw h.same (simp (append_assoc, append-nil));
  }

  -- the value so far
  pub value_read : (e : Expr) (ts : List Placed) (h : Has u l ls e ts) → Exp (value_of l e) (h.wants.ss ++ (h.wants.ms ++ h.es))
  value_read e ts h = sum_joined h.wants.sums (product_joined h.wants.products h.primary)

  pub star_read : (e : Expr) (ts : List Placed) → Has u l ls e ts → (p : ℕ) → Wants u (record { compared = l.compared; summed = l.summed; multiplied = Some (p, factor_of l e) }) ls (ts ++ at p (sign Star) ∷ [])
  star_read e ts h p = record {
    us = h.wants.us;
    bs = h.wants.bs;
    cs = h.wants.cs;
    ss = h.wants.ss;
    ms = h.wants.ms ++ h.es ++ at p (sign Star) ∷ [];
    begins = h.wants.begins;
    levels = h.wants.levels;
    inner = h.wants.inner;
    compares = h.wants.compares;
    sums = h.wants.sums;
    products = product p (product_joined h.wants.products h.primary);
    same = rw (h.same, h.wants.same) (simp append_assoc);
  }

  pub plus_read : (e : Expr) (ts : List Placed) → Has u l ls e ts → (p : ℕ) → Wants u (record { compared = l.compared; summed = Some (p, value_of l e); multiplied = None }) ls (ts ++ at p (sign Plus) ∷ [])
  plus_read e ts h p = record {
    us = h.wants.us;
    bs = h.wants.bs;
    cs = h.wants.cs;
    ss = h.wants.ss ++ (h.wants.ms ++ h.es) ++ at p (sign Plus) ∷ [];
    ms = [];
    begins = h.wants.begins;
    levels = h.wants.levels;
    inner = h.wants.inner;
    compares = h.wants.compares;
    sums = sum p (value_read e ts h);
    products = no_product;
    same = rw (h.same, h.wants.same) (simp (append_assoc, append-nil));
  }

-- a value in parentheses, compared or not, closes them
pub close_read : {u : Purpose} {m : Level} {ls : List Level} {c : Comparing} {e : Expr} {us bs cs es : List Placed} → Begins u us → Levels (m ∷ ls) bs → Compares c cs → Exp e es → (q : ℕ) → Has u m ls (enclosed c e) (us ++ (bs ++ (cs ++ es)) ++ at q (sign Close) ∷ [])
close_read {us = us} {cs = ds} {es = es} b (opened p {xs = xs} {cs = cs} {ss = ss} {ms = ms} ls i c s m) d e q = record {
  xs = us ++ (xs ++ (cs ++ (ss ++ ms)));
  es = at p (sign Open) ∷ (ds ++ es ++ at q (sign Close) ∷ []);
  wants = record { us = us; bs = xs; cs = cs; ss = ss; ms = ms; begins = b; levels = ls; inner = i; compares = c; sums = s; products = m; same = refl };
  primary = compare_joined d e p q;
  same = simp append_assoc;
}

-- the first operand of an expression is wanted
pub first_operand : (u : Purpose) (us : List Placed) → Begins u us → Wants u fresh [] us
first_operand u us b =
    record { us = us; bs = []; cs = []; ss = []; ms = []; begins = b; levels = no_levels; inner = refl; compares = no_comparison; sums = no_sum; products = no_product; same = sym (append-nil us) }

pub not_compared : {cs : List Placed} → Compares None cs → cs ≡ []
not_compared no_comparison = refl

no_level : {bs : List Placed} → Levels [] bs → bs ≡ []
no_level no_levels = refl

-- an expression outside all parentheses is whole
pub record Whole (u : Purpose) (e : Expr) (ts : List Placed) : Type 0 where
  pub us : List Placed
  pub es : List Placed
  pub begins : Begins u us
  pub expression : Exp e es
  pub same : ts ≡ us ++ es

pub whole_read : (u : Purpose) (l : Level) (e : Expr) (ts : List Placed) → Has u l [] e ts → Whole u (value_of l e) ts
whole_read u l e ts h = record {
  us = h.wants.us;
  es = h.wants.ss ++ (h.wants.ms ++ h.es);
  begins = h.wants.begins;
  expression = value_read u l [] e ts h;
  same = rw (h.same, h.wants.same, no_level h.wants.levels, not_compared (subst (λ c. Compares c h.wants.cs) h.wants.inner h.wants.compares)) (simp append_assoc);
}

pub assign_read : {p : ℕ} {n : List ℕ} {us : List Placed} (e : Expr) (es ts : List Placed) → Begins (for_assign p n) us → Exp e es → ts ≡ us ++ es → Statement (assign p n e) ts
assign_read e es ts (assigning p n q) d same = rw same (statement_assign (assignment p n q d))

pub output_read : {p : ℕ} {us : List Placed} (e : Expr) (es ts : List Placed) → Begins (for_output p) us → Exp e es → ts ≡ us ++ es → Statement (output p e) ts
output_read e es ts (putting p) d same = rw same (statement_transput (transput_output p d))

pub choose_read : {p : ℕ} {us : List Placed} (es ts : List Placed) → Begins (for_choose p) us → ts ≡ us ++ es → ts ≡ at p (word If) ∷ es
choose_read es ts (choosing p) same = same

pub while_read : {p : ℕ} {us : List Placed} (es ts : List Placed) → Begins (for_loop p) us → ts ≡ us ++ es → ts ≡ at p (word While) ∷ es
while_read es ts (looping p) same = same
