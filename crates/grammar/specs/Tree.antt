-- The tree of a sheet. A place is the offset of a token's first byte.
use Rattle.std.specs.Prelude.{ℕ, Bool, List}

pub data Primitive : Type 0 where
  int : Primitive
  bool : Primitive

pub data Operator : Type 0 where
  plus : Operator
  times : Operator
  equal : Operator
  differ : Operator

-- a name, a constant, a truth, two operands with the operator's place before it, or an expression in parentheses
pub data Expr : Type 0 where
  variable : ℕ → List ℕ → Expr
  number : ℕ → ℕ → Expr
  truth : ℕ → Bool → Expr
  binary : ℕ → Operator → Expr → Expr → Expr
  group : Expr → Expr

-- each statement begins with its place; an assignment's is that of its target, and an input has the place of its name too
mutual
  pub data Stmt : Type 0 where
    assign : ℕ → List ℕ → Expr → Stmt
    choose : ℕ → Expr → Train → Stmt
    choose_else : ℕ → Expr → Train → Train → Stmt
    loop : ℕ → Expr → Train → Stmt
    input : ℕ → ℕ → List ℕ → Stmt
    output : ℕ → Expr → Stmt

  -- one statement or more
  pub data Train : Type 0 where
    last : Stmt → Train
    more : Stmt → Train → Train

-- a declared name: its place, its letters, how many `ref` its mode has, and the mode's primitive
pub record Declared : Type 0 where
  pub place : ℕ
  pub letters : List ℕ
  pub refs : ℕ
  pub primitive : Primitive

pub record Program : Type 0 where
  pub declared : List Declared
  pub body : Train
