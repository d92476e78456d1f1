-- How many statements a sheet has, and what its parts are.
use Rattle.std.specs.Prelude.{ℕ, ◌+◌, Bool, true, false, List, vec_items}
use Rattle.grammar.specs.Tree as tree
use Rattle.grammar.specs.Tree.{Stmt, assign, choose, choose_else, loop, input, output, Train, last, more}
use Rattle.outline.specs.Code.{Op, load, push, push_truth, apply, target, refer, store, test, otherwise, join, head, enter, repeat, read, write, ops}
use Rattle.outline.specs.Names.{names}
use Rattle.outline.specs.declared.declared.Declared.{Declared}
use Rattle.sheet.specs.declared.Sheet.{Sheet}

-- each statement counts, also inside the parts of another
abbrev mutual
  pub size_of : Stmt → ℕ
  size_of (assign p n e) = 1
  size_of (choose p e t) = 1 + size t
  size_of (choose_else p e t u) = 1 + (size t + size u)
  size_of (loop p e t) = 1 + size t
  size_of (input p q n) = 1
  size_of (output p e) = 1

  pub size : Train → ℕ
  size (last s) = size_of s
  size (more s t) = size_of s + size t

-- the step of the code that each statement has once
abbrev pub stands_for_one : Op → Bool
stands_for_one (load p n) = false
stands_for_one (push p n) = false
stands_for_one (push_truth p b) = false
stands_for_one (apply p o) = false
stands_for_one (target p n) = false
stands_for_one (refer p n) = false
stands_for_one store = true
stands_for_one (test p) = true
stands_for_one otherwise = false
stands_for_one join = false
stands_for_one (head p) = true
stands_for_one (enter p) = false
stands_for_one repeat = false
stands_for_one (read p q n) = true
stands_for_one (write p) = true

-- the declared names and the code of a sheet
abbrev pub declared_in : Sheet → List Declared
declared_in s = vec_items s.outline.declared

abbrev pub names_in : Sheet → List tree.Declared
names_in s = names s.outline.declared

abbrev pub code_in : Sheet → List Op
code_in s = ops s.outline.code
