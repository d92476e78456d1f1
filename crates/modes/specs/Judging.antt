-- The judgement of a tree: the mode of an expression, and the first thing that is wrong, following the text.
use Rattle.std.specs.Prelude.{ℕ, ◌-◌, cond, List, Some, None, Option, nat_le}
use Rattle.grammar.specs.Tree.{Primitive, int, bool, Operator, plus, times, equal, differ, Expr, variable, number, truth, binary, group, Stmt, assign, choose, choose_else, loop, input, output, Train, last, more, Declared}
use Rattle.modes.specs.Declaring.{Mode, Verdict, first, lookup}
use Rattle.modes.specs.declared.fault.Fault.{Fault}
use Rattle.modes.specs.declared.fault.Fault.TheVariants.{NotDeclared, Unsuited, OtherPrimitive, TooFewReferences}

-- an expression has a mode, or is wrong at a place
pub data Judgement : Type 0 where
  has : Mode → Judgement
  wrong : Fault → ℕ → Judgement

-- the mode of a value with no reference
abbrev pub plain : Primitive → Mode
plain m = record { refs = 0; primitive = m }

-- goes on with the mode, unless something is wrong
abbrev pub onward : Judgement → (Mode → Judgement) → Judgement
onward (has m) next = next m
onward (wrong f p) next = wrong f p

-- the same before a verdict
abbrev pub upon : Judgement → (Mode → Verdict) → Verdict
upon (has m) next = next m
upon (wrong f p) next = Some (f, p)

-- a name at its place
abbrev pub named : ℕ → Option Mode → Judgement
named p None = wrong NotDeclared p
named p (Some m) = has m

-- the primitive of a sum or a product, where both operands share it
abbrev pub shared : Primitive → Primitive → Option Primitive
shared int int = Some int
shared int bool = None
shared bool int = None
shared bool bool = Some bool

-- the primitive of a comparison, where both sides are int
abbrev pub compared : Primitive → Primitive → Option Primitive
compared int int = Some bool
compared int bool = None
compared bool int = None
compared bool bool = None

-- the primitive of an operator's result, where the operands suit it
abbrev pub result_of : Operator → Primitive → Primitive → Option Primitive
result_of plus l r = shared l r
result_of times l r = shared l r
result_of equal l r = compared l r
result_of differ l r = compared l r

-- a result at its operator's place
abbrev pub suited : ℕ → Option Primitive → Judgement
suited p None = wrong Unsuited p
suited p (Some m) = has (plain m)

-- an expression: an operator after both operands, the left one first; only a lone name keeps its references
abbrev pub judge : List Declared → Expr → Judgement
judge ds (variable p n) = named p (lookup ds n)
judge ds (number p n) = has (plain int)
judge ds (truth p b) = has (plain bool)
judge ds (binary p op a b) =
    onward (judge ds a) (λ l. onward (judge ds b) (λ r. suited p (result_of op l.primitive r.primitive)))
judge ds (group e) = onward (judge ds e) (λ m. has (plain m.primitive))

-- the condition of the `if` or the `while` at a place
abbrev pub condition : ℕ → Primitive → Verdict
condition p int = Some (Unsuited, p)
condition p bool = None

-- the references of a target and of a right side: one of the target's is the name itself
abbrev pub reaching : ℕ → ℕ → ℕ → Verdict
reaching p target right = cond (nat_le (target - 1) right) None (Some (TooFewReferences, p))

-- an assignment to the target at a place: the primitives, and then the references
abbrev pub assigning : ℕ → Primitive → Primitive → Verdict → Verdict
assigning p int int references = references
assigning p int bool references = Some (OtherPrimitive, p)
assigning p bool int references = Some (OtherPrimitive, p)
assigning p bool bool references = references

-- statements in the order of the text
abbrev mutual
  pub judge_statement : List Declared → Stmt → Verdict
  judge_statement ds (assign p n e) =
      upon (named p (lookup ds n)) (λ t. upon (judge ds e) (λ m. assigning p t.primitive m.primitive (reaching p t.refs m.refs)))
  judge_statement ds (choose p e t) =
      upon (judge ds e) (λ m. first (condition p m.primitive) (judge_train ds t))
  judge_statement ds (choose_else p e t u) =
      upon (judge ds e) (λ m. first (condition p m.primitive) (first (judge_train ds t) (judge_train ds u)))
  judge_statement ds (loop p e t) =
      upon (judge ds e) (λ m. first (condition p m.primitive) (judge_train ds t))
  judge_statement ds (input p q n) = upon (named q (lookup ds n)) (λ m. None)
  judge_statement ds (output p e) = upon (judge ds e) (λ m. None)

  pub judge_train : List Declared → Train → Verdict
  judge_train ds (last s) = judge_statement ds s
  judge_train ds (more s t) = first (judge_statement ds s) (judge_train ds t)
