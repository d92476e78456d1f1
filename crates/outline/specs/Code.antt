-- The flat form of a tree: the parts of each expression in the order in which they are worked out.
use Rattle.std.specs.Prelude.{ℕ, Bool, List, [], ◌∷◌, ◌++◌, map, vec_items, Vec}
use Rattle.grammar.specs.Tree.{Operator, plus, times, equal, differ, Expr, variable, number, truth, binary, group, Stmt, assign, choose, choose_else, loop, input, output, Train, last, more}
use Rattle.outline.specs.declared.code.Instruction.{Instruction}
use Rattle.outline.specs.declared.code.Instruction.TheVariants as code
use Rattle.outline.specs.declared.code.Operator as operators
use Rattle.outline.specs.declared.code.Operator.TheVariants.{Plus, Times, Equal, Differ}
use Rattle.std.specs.declared.alloc.Global.{Global}

-- expressions: a name's value, a constant, a truth, an operator on the two values before it
-- assignments: the target, a lone name as it stands, the store; then conditions that are worked out, `else`, `fi`,
-- the beginning of a loop and its end; input and output. Each that has a place has it first
pub data Op : Type 0 where
  load : ℕ → List ℕ → Op
  push : ℕ → ℕ → Op
  push_truth : ℕ → Bool → Op
  apply : ℕ → Operator → Op
  target : ℕ → List ℕ → Op
  refer : ℕ → List ℕ → Op
  store : Op
  test : ℕ → Op
  otherwise : Op
  join : Op
  head : ℕ → Op
  enter : ℕ → Op
  repeat : Op
  read : ℕ → ℕ → List ℕ → Op
  write : ℕ → Op

-- operands from left to right, each operator after both of its operands
abbrev pub postfix : Expr → List Op
postfix (variable p n) = load p n ∷ []
postfix (number p n) = push p n ∷ []
postfix (truth p b) = push_truth p b ∷ []
postfix (binary p op a b) = postfix a ++ (postfix b ++ apply p op ∷ [])
postfix (group e) = postfix e

-- the right side of an assignment: a lone name is not worked out
abbrev pub source : Expr → List Op
source (variable p n) = refer p n ∷ []
source (number p n) = postfix (number p n)
source (truth p b) = postfix (truth p b)
source (binary p op a b) = postfix (binary p op a b)
source (group e) = postfix (group e)

-- statements in the order of the text
abbrev mutual
  pub flat : Stmt → List Op
  flat (assign p n e) = target p n ∷ (source e ++ store ∷ [])
  flat (choose p e t) = postfix e ++ (test p ∷ (flats t ++ join ∷ []))
  flat (choose_else p e t u) = postfix e ++ (test p ∷ (flats t ++ (otherwise ∷ (flats u ++ join ∷ []))))
  flat (loop p e t) = head p ∷ (postfix e ++ (enter p ∷ (flats t ++ repeat ∷ [])))
  flat (input p q n) = read p q n ∷ []
  flat (output p e) = postfix e ++ write p ∷ []

  pub flats : Train → List Op
  flats (last s) = flat s
  flats (more s t) = flat s ++ flats t

abbrev pub operator_of : operators.Operator → Operator
operator_of Plus = plus
operator_of Times = times
operator_of Equal = equal
operator_of Differ = differ

abbrev pub op_of : Instruction → Op
op_of (code.Load p n) = load p n.now
op_of (code.Number p n) = push p n
op_of (code.Truth p b) = push_truth p b
op_of (code.Apply p op) = apply p (operator_of op)
op_of (code.Target p n) = target p n.now
op_of (code.Refer p n) = refer p n.now
op_of code.Store = store
op_of (code.Test p) = test p
op_of code.Otherwise = otherwise
op_of code.Join = join
op_of (code.Head p) = head p
op_of (code.Enter p) = enter p
op_of code.Repeat = repeat
op_of (code.Read p q n) = read p q n.now
op_of (code.Write p) = write p

-- the code that a vector holds
abbrev pub ops : Vec Instruction Global → List Op
ops v = map op_of (vec_items v)
