-- The statements of a tree are counted on its code.
use Rattle.std.proofs.Common.{◌≡◌, ℕ, ◌+◌, Bool, true, false, cond, List, [], ◌∷◌, ◌++◌, map, refl, ap, ◌∙◌, arith}
use Rattle.grammar.specs.Tree.{Expr, variable, number, truth, binary, group, Stmt, assign, choose, choose_else, loop, input, output, Train, last, more}
use Rattle.outline.specs.Code.{Op, apply, enter, flat, flats, join, op_of, otherwise, postfix, repeat, source, store, test, write}
use Rattle.outline.specs.declared.code.Instruction.{Instruction}
use Rattle.std.proofs.lemmas.List.Recursion.{is_count_by}
use Rattle.std.specs.List.{count_by}
use Rattle.sheet.specs.Sizes.{size, size_of, stands_for_one}

-- how many such steps there are
abbrev pub counted : List Op → ℕ
counted [] = 0
counted (o ∷ os) = cond (stands_for_one o) 1 0 + counted os

counted_both : (a b : List Op) → counted (a ++ b) ≡ counted a + counted b
counted_both [] b = omega arith
counted_both (x ∷ a) b = omega (arith, counted_both a b)

no_statement : (e : Expr) → counted (postfix e) ≡ 0
no_statement (variable p n) = refl
no_statement (number p n) = refl
no_statement (truth p b) = refl
no_statement (binary p op a b) =
    omega (arith, counted_both (postfix a) (postfix b ++ apply p op ∷ []), counted_both (postfix b) (apply p op ∷ []), no_statement a, no_statement b)
no_statement (group e) = no_statement e

no_source : (e : Expr) → counted (source e) ≡ 0
no_source (variable p n) = refl
no_source (number p n) = refl
no_source (truth p b) = refl
no_source (binary p op a b) = no_statement (binary p op a b)
no_source (group e) = no_statement e

mutual
  counted_one : (s : Stmt) → counted (flat s) ≡ size_of s
  counted_one (assign p n e) = omega (arith, counted_both (source e) (store ∷ []), no_source e)
  counted_one (choose p e t) =
      omega (arith, counted_both (postfix e) (test p ∷ (flats t ++ join ∷ [])), no_statement e, counted_both (flats t) (join ∷ []), counted_all t)
  counted_one (choose_else p e t u) =
      omega (arith, counted_both (postfix e) (test p ∷ (flats t ++ (otherwise ∷ (flats u ++ join ∷ [])))), no_statement e, counted_both (flats t) (otherwise ∷ (flats u ++ join ∷ [])), counted_both (flats u) (join ∷ []), counted_all t, counted_all u)
  counted_one (loop p e t) =
      omega (arith, counted_both (postfix e) (enter p ∷ (flats t ++ repeat ∷ [])), no_statement e, counted_both (flats t) (repeat ∷ []), counted_all t)
  counted_one (input p q n) = refl
  counted_one (output p e) = omega (arith, counted_both (postfix e) (write p ∷ []), no_statement e)

  counted_all : (t : Train) → counted (flats t) ≡ size t
  counted_all (last s) = counted_one s
  counted_all (more s t) = omega (arith, counted_both (flat s) (flats t), counted_one s, counted_all t)

pub sized : (code : List Op) (t : Train) → code ≡ flats t → counted code ≡ size t
sized code t e = ap counted e ∙ counted_all t

one_more : (b : Bool) (n : ℕ) → cond b 1 0 + n ≡ cond b (1 + n) n
one_more true n = omega arith
one_more false n = omega arith

pub counted_code : (is : List Instruction) → counted (map op_of is) ≡ count_by (λ i. stands_for_one (op_of i)) is
counted_code is = is_count_by (λ js. counted (map op_of js)) (λ i. stands_for_one (op_of i)) refl (λ j js. one_more (stands_for_one (op_of j)) (counted (map op_of js))) is
