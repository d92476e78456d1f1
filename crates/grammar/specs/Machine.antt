-- A machine that reads the tokens of a program one by one. Its state is the tree read so far, with a hole.
use Rattle.std.specs.Prelude.{ℕ, ◌+◌, Bool, true, false, cond, List, [], ◌∷◌, ◌++◌, Some, None, Option, ◌==◌}
use Rattle.grammar.specs.Tree.{Primitive, int, bool, Operator, plus, times, equal, differ, Expr, variable, number, truth, binary, group, Stmt, assign, choose, choose_else, loop, input, output, Train, last, more, Declared, Program}
use Rattle.grammar.specs.Bnf.{declare}
use Rattle.tokens.specs.Tokens.{Kind, word, sign, name, constant, Placed}
use Rattle.tokens.specs.declared.sign.Sign as signs
use Rattle.tokens.specs.declared.sign.Sign.TheVariants.{Semicolon, Comma, Becomes, Plus, Star, Equals, Differs, Open, Close}
use Rattle.tokens.specs.declared.word.Word as words
use Rattle.tokens.specs.declared.word.Word.TheVariants.{Begin, End, Int, Bool as BoolWord, Ref, If, Then, Else, Fi, While, Do, Input, Output, True, False}

-- words and signs in a row, so that two can be compared
abbrev pub word_rank : words.Word → ℕ
word_rank Begin = 0
word_rank End = 1
word_rank Int = 2
word_rank BoolWord = 3
word_rank Ref = 4
word_rank If = 5
word_rank Then = 6
word_rank Else = 7
word_rank Fi = 8
word_rank While = 9
word_rank Do = 10
word_rank Input = 11
word_rank Output = 12
word_rank True = 13
word_rank False = 14

abbrev pub sign_rank : signs.Sign → ℕ
sign_rank Semicolon = 0
sign_rank Comma = 1
sign_rank Becomes = 2
sign_rank Plus = 3
sign_rank Star = 4
sign_rank Equals = 5
sign_rank Differs = 6
sign_rank Open = 7
sign_rank Close = 8

abbrev pub is_word : words.Word → Kind → Bool
is_word w (word v) = word_rank w == word_rank v
is_word w (sign s) = false
is_word w (name n) = false
is_word w (constant n) = false

abbrev pub is_sign : signs.Sign → Kind → Bool
is_sign s (word w) = false
is_sign s (sign t) = sign_rank s == sign_rank t
is_sign s (name n) = false
is_sign s (constant n) = false

-- the letters of a name
abbrev pub name_in : Kind → Option (List ℕ)
name_in (word w) = None
name_in (sign s) = None
name_in (name n) = Some n
name_in (constant n) = None

-- an operator's place and its left side, where one waits for its right side
abbrev pub Waiting : Type 0
Waiting = Option (ℕ × Expr)

-- what has been read inside one pair of parentheses, or in the whole expression, before the operand at hand:
-- the left side of a comparison, the left side of a sum, the left side of a product
pub record Level : Type 0 where
  pub compared : Option (ℕ × Operator × Expr)
  pub summed : Waiting
  pub multiplied : Waiting

abbrev pub fresh : Level
fresh = record { compared = None; summed = None; multiplied = None }

abbrev pub joined : Operator → Waiting → Expr → Expr
joined op None e = e
joined op (Some w) e = binary w.0 op w.1 e

-- the value of a level once its last operand is e
abbrev pub factor_of : Level → Expr → Expr
factor_of l e = joined times l.multiplied e

abbrev pub value_of : Level → Expr → Expr
value_of l e = joined plus l.summed (factor_of l e)

-- the same with the parentheses closed
abbrev pub enclosed : Option (ℕ × Operator × Expr) → Expr → Expr
enclosed None e = group e
enclosed (Some c) e = binary c.0 c.1 c.2 e

abbrev pub closed : Level → Expr → Expr
closed l e = enclosed l.compared (value_of l e)

-- what an expression is for
pub data Purpose : Type 0 where
  for_assign : ℕ → List ℕ → Purpose
  for_choose : ℕ → Purpose
  for_loop : ℕ → Purpose
  for_output : ℕ → Purpose

-- an open part: its place and condition, the first of two trains where that is read, and the statements before the part
pub data Part : Type 0 where
  then_part : ℕ → Expr → List Stmt → Part
  else_part : ℕ → Expr → Train → List Stmt → Part
  loop_part : ℕ → Expr → List Stmt → Part

-- where in a train: a statement is wanted, a target is read, an operand is wanted or read, an input's name is wanted, a statement is read
pub data Point : Type 0 where
  wanted : Point
  target : ℕ → List ℕ → Point
  operand : Purpose → Level → List Level → Point
  operand_read : Purpose → Level → List Level → Expr → Point
  input_name : ℕ → Point
  complete : Stmt → Point

-- `begin` is wanted; in a mode after some `ref`; a declared name is wanted, or read; a declaration is read with its `;`;
-- in the statements, with the open parts and the statements before the hole; all is read
pub data State : Type 0 where
  opening : State
  moding : List Declared → ℕ → State
  naming : List Declared → ℕ → Primitive → State
  named : List Declared → ℕ → Primitive → State
  between : List Declared → State
  inside : List Declared → List Part → List Stmt → Point → State
  finished : List Declared → Train → State

abbrev pub train_of : List Stmt → Stmt → Train
train_of [] s = last s
train_of (b ∷ before) s = more b (train_of before s)

-- s, if the test holds
abbrev pub only : Bool → State → Option State
only true s = Some s
only false s = None

abbrev pub after : Bool → Option State → Option State
after true o = o
after false o = None

-- the first that there is
abbrev pub either : Option State → Option State → Option State
either None b = b
either (Some s) b = Some s

abbrev pub in_mode : List Declared → ℕ → Kind → Option State
in_mode ds refs k =
    either (only (is_word Ref k) (moding ds (refs + 1))) (either (only (is_word Int k) (naming ds refs int)) (only (is_word BoolWord k) (naming ds refs bool)))

abbrev pub with_name : (List ℕ → State) → Option (List ℕ) → Option State
with_name f None = None
with_name f (Some n) = Some (f n)

-- a name or a constant as an operand
abbrev pub leaf : Kind → ℕ → Option Expr
leaf (word w) p =
    cond (is_word True (word w)) (Some (truth p true)) (cond (is_word False (word w)) (Some (truth p false)) None)
leaf (sign s) p = None
leaf (name n) p = Some (variable p n)
leaf (constant n) p = Some (number p n)

-- the rest of this section is inside a train: the declarations, the open parts, the statements before
module _ (ds : List Declared) (parts : List Part) (before : List Stmt) where
  abbrev pub stay : Point → State
  stay pt = inside ds parts before pt

  -- the first token of a statement
  abbrev pub begin_statement : ℕ → Kind → Option State
  begin_statement p k =
      either (with_name (λ n. stay (target p n)) (name_in k)) (either (only (is_word If k) (stay (operand (for_choose p) fresh []))) (either (only (is_word While k) (stay (operand (for_loop p) fresh []))) (either (only (is_word Input k) (stay (input_name p))) (only (is_word Output k) (stay (operand (for_output p) fresh []))))))

  -- what follows the statement s, which is the last read of the innermost part
  abbrev pub close_then : List Part → Stmt → Option State
  close_then [] s = None
  close_then (then_part q c outer ∷ ps) s = Some (inside ds ps outer (complete (choose q c (train_of before s))))
  close_then (else_part q c t outer ∷ ps) s = Some (inside ds ps outer (complete (choose_else q c t (train_of before s))))
  close_then (loop_part q c outer ∷ ps) s = None

  abbrev pub turn_else : List Part → Stmt → Option State
  turn_else [] s = None
  turn_else (then_part q c outer ∷ ps) s = Some (inside ds (else_part q c (train_of before s) outer ∷ ps) [] wanted)
  turn_else (else_part q c t outer ∷ ps) s = None
  turn_else (loop_part q c outer ∷ ps) s = None

  abbrev pub close_loop : List Part → Stmt → Option State
  close_loop [] s = Some (finished ds (train_of before s))
  close_loop (then_part q c outer ∷ ps) s = None
  close_loop (else_part q c t outer ∷ ps) s = None
  close_loop (loop_part q c outer ∷ ps) s = Some (inside ds ps outer (complete (loop q c (train_of before s))))

  abbrev pub end_statement : Stmt → Kind → Option State
  end_statement s k =
      either (only (is_sign Semicolon k) (inside ds parts (before ++ s ∷ []) wanted)) (either (after (is_word Else k) (turn_else parts s)) (either (after (is_word Fi k) (close_then parts s)) (after (is_word End k) (close_loop parts s))))

  -- the token after a whole expression e
  abbrev pub end_expression : Purpose → Expr → Kind → Option State
  end_expression (for_assign q n) e k = end_statement (assign q n e) k
  end_expression (for_choose q) e k = only (is_word Then k) (inside ds (then_part q e before ∷ parts) [] wanted)
  end_expression (for_loop q) e k = only (is_word Do k) (inside ds (loop_part q e before ∷ parts) [] wanted)
  end_expression (for_output q) e k = end_statement (output q e) k

  -- an operand is wanted
  abbrev pub with_operand : Purpose → Level → List Level → Option Expr → Option State
  with_operand u l ls None = None
  with_operand u l ls (Some e) = Some (stay (operand_read u l ls e))

  abbrev pub take_operand : Purpose → Level → List Level → ℕ → Kind → Option State
  take_operand u l ls p k =
      either (with_operand u l ls (leaf k p)) (only (is_sign Open k) (stay (operand u fresh (l ∷ ls))))

  -- an operand is read, and so a value: `=`, `#` and `)` belong to the innermost parentheses, and outside all of them the expression may end
  abbrev pub compare_in : Purpose → List Level → Option (ℕ × Operator × Expr) → ℕ → Operator → Expr → Option State
  compare_in u [] c p op v = None
  compare_in u (m ∷ ms) None p op v = Some (stay (operand u (record { compared = Some (p, op, v); summed = None; multiplied = None }) (m ∷ ms)))
  compare_in u (m ∷ ms) (Some c) p op v = None

  abbrev pub close_in : Purpose → List Level → Expr → Option State
  close_in u [] e = None
  close_in u (m ∷ ms) e = Some (stay (operand_read u m ms e))

  abbrev pub finish_in : Purpose → List Level → Expr → Kind → Option State
  finish_in u [] v k = end_expression u v k
  finish_in u (m ∷ ms) v k = None

  abbrev pub take_operator : Purpose → Level → List Level → Expr → ℕ → Kind → Option State
  take_operator u l ls e p k =
      either (only (is_sign Star k) (stay (operand u (record { compared = l.compared; summed = l.summed; multiplied = Some (p, factor_of l e) }) ls)))
      (either (only (is_sign Plus k) (stay (operand u (record { compared = l.compared; summed = Some (p, value_of l e); multiplied = None }) ls)))
      (either (after (is_sign Equals k) (compare_in u ls l.compared p equal (value_of l e)))
      (either (after (is_sign Differs k) (compare_in u ls l.compared p differ (value_of l e)))
      (either (after (is_sign Close k) (close_in u ls (closed l e))) (finish_in u ls (value_of l e) k)))))

  abbrev pub at_point : Point → ℕ → Kind → Option State
  at_point wanted p k = begin_statement p k
  at_point (target q n) p k = only (is_sign Becomes k) (stay (operand (for_assign q n) fresh []))
  at_point (operand u l ls) p k = take_operand u l ls p k
  at_point (operand_read u l ls e) p k = take_operator u l ls e p k
  at_point (input_name q) p k = with_name (λ n. stay (complete (input q p n))) (name_in k)
  at_point (complete s) p k = end_statement s k

-- the state after one more token, if the token is allowed
abbrev pub advance : State → Placed → Option State
advance opening t = only (is_word Begin t.kind) (moding [] 0)
advance (moding ds refs) t = in_mode ds refs t.kind
advance (naming ds refs m) t = with_name (λ n. named (ds ++ declare t.place n refs m ∷ []) refs m) (name_in t.kind)
advance (named ds refs m) t = either (only (is_sign Comma t.kind) (naming ds refs m)) (only (is_sign Semicolon t.kind) (between ds))
advance (between ds) t = either (in_mode ds 0 t.kind) (begin_statement ds [] [] t.place t.kind)
advance (inside ds parts before pt) t = at_point ds parts before pt t.place t.kind
advance (finished ds body) t = None

-- the state after some tokens, if each is allowed
abbrev pub go : Option State → List Placed → Option State
go s [] = s
go None (t ∷ ts) = None
go (Some s) (t ∷ ts) = go (advance s t) ts

-- the program that has been read when the tokens end
abbrev pub program_of : Option State → Option Program
program_of None = None
program_of (Some opening) = None
program_of (Some (moding ds refs)) = None
program_of (Some (naming ds refs m)) = None
program_of (Some (named ds refs m)) = None
program_of (Some (between ds)) = None
program_of (Some (inside ds parts before pt)) = None
program_of (Some (finished ds body)) = Some (record { declared = ds; body = body })

abbrev pub runs : Option State → List Placed → Option Program
runs s ts = program_of (go s ts)
