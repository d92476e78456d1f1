-- How far an expression has been parsed: the facts that the parser's private functions hand to each other.
use Rattle.std.specs.Prelude.{◌≡◌, ℕ, ◌+◌, ◌<◌, ◌≤◌, true, false, ◌⊎◌, List, [], ◌∷◌, ◌++◌, length, Some, None, Ok, Err, Option, Result, ◌≢◌}
use Rattle.grammar.specs.Machine.{Level, Part, Purpose, State, fresh, inside, operand, operand_read, is_sign}
use Rattle.grammar.specs.Tree.{Declared, Expr, Operator, Stmt, plus, times, variable}
use Rattle.refusals.specs.declared.failure.Failure.{Failure}
use Rattle.refusals.specs.declared.failure.Failure.TheVariants.{Refused, Memory}
use Rattle.tokens.specs.Tokens.{Kind, sign, Placed}
use Rattle.tokens.specs.declared.sign.Sign as signs
use Rattle.tokens.specs.declared.sign.Sign.TheVariants.{Plus, Star, Equals, Differs}
use Rattle.outline.specs.Code.{Op, op_of, ops, postfix}
use Rattle.outline.specs.declared.code.Instruction.{Instruction}
use Rattle.outline.specs.declared.code.Operator as operators
use Rattle.outline.specs.declared.code.Operator.TheVariants.{Equal, Differ}
use Rattle.parser.specs.Looks.{Stays, first_is, left}
use Rattle.parser.specs.Parsing.{begun, most_parentheses, most_parts, parse, refused}
use Rattle.parser.specs.declared.expression.Rank.{Rank}
use Rattle.parser.specs.declared.expression.Rank.TheVariants.{Sum, Product}
use Rattle.parser.specs.declared.fault.Fault.{Fault}
use Rattle.parser.specs.declared.parser.Parser.{Parser}

-- the code that has been made so far
abbrev pub code : Parser Instruction → List Op
code p = ops p.out

-- the code of an operand that is no parenthesis
abbrev pub leaf_code : Option Instruction → Option (List Op)
leaf_code None = None
leaf_code (Some i) = Some (op_of i ∷ [])

abbrev pub leaf_postfix : Option Expr → Option (List Op)
leaf_postfix None = None
leaf_postfix (Some e) = Some (postfix e)

-- all that surrounds an expression but the parentheses that are open in it
pub record Around : Type 0 where
  pub declared : List Declared
  pub parts : List Part
  pub before : List Stmt
  pub purpose : Purpose

abbrev pub wants : Around → Level → List Level → State
wants k l ls = inside k.declared k.parts k.before (operand k.purpose l ls)

abbrev pub has : Around → Level → List Level → Expr → State
has k l ls e = inside k.declared k.parts k.before (operand_read k.purpose l ls e)

-- so many more parentheses may be opened, and no more parts are open than the limit
pub record Fits (k : Around) (spare : ℕ) (ls : List Level) : Type 0 where
  pub parentheses : length ls + spare ≡ most_parentheses
  pub parts : length k.parts + begun k.purpose ≤ most_parts

-- whatever surrounds it, and whatever has been read on its level as far as P allows:
-- where an operand is wanted at ts, it comes to the same as e read, at us
abbrev pub Reads : ℕ → ℕ → (Level → Type 0) → List Placed → List Placed → Expr → Type 0
Reads end spare P ts us e = (k : Around) (l : Level) (ls : List Level) → P l → Fits k spare ls → parse end (wants k l ls) ts ≡ parse end (has k l ls e) us

-- or it is refused there
abbrev pub Refuses : ℕ → ℕ → (Level → Type 0) → List Placed → Failure Fault → Type 0
Refuses end spare P ts (Refused x) = (k : Around) (l : Level) (ls : List Level) → P l → Fits k spare ls → parse end (wants k l ls) ts ≡ refused x.fault x.place
Refuses end spare P ts (Memory e) = Unit {0}

-- on a level of which nothing is asked; with no product waiting; with no sum waiting either
abbrev pub AnyLevel : Level → Type 0
AnyLevel l = Unit {0}

abbrev pub NoProduct : Level → Type 0
NoProduct l = l.multiplied ≡ None

abbrev pub NoSum : Level → Type 0
NoSum l = (l.summed ≡ None) × (l.multiplied ≡ None)

-- what is known of the tokens behind: nothing; no `*`; no `*` and no `+`
abbrev pub AnyRest : List Placed → Type 0
AnyRest us = Unit {0}

abbrev pub NoStar : List Placed → Type 0
NoStar us = first_is (sign Star) us ≡ false

abbrev pub NoPlus : List Placed → Type 0
NoPlus us = (first_is (sign Star) us ≡ false) × (first_is (sign Plus) us ≡ false)

-- the operands of a sum are products, those of a product are primaries
abbrev pub Level_of : Rank → Level → Type 0
Level_of Sum l = NoSum l
Level_of Product l = NoProduct l

abbrev pub Rest_of : Rank → List Placed → Type 0
Rest_of Sum us = NoPlus us
Rest_of Product us = NoStar us

abbrev pub Level_under : Rank → Level → Type 0
Level_under Sum l = NoProduct l
Level_under Product l = AnyLevel l

abbrev pub Rest_under : Rank → List Placed → Type 0
Rest_under Sum us = NoStar us
Rest_under Product us = AnyRest us

abbrev pub sign_of : Rank → signs.Sign
sign_of Sum = Plus
sign_of Product = Star

abbrev pub joins : Rank → Operator
joins Sum = plus
joins Product = times

-- a tree that is a lone name has been read from that name alone
abbrev pub Single : List Placed → List Placed → Expr → Type 0
Single ts us e = (p : ℕ) (n : List ℕ) → e ≡ variable p n → ts ≡ record { place = p; kind = Kind.name n } ∷ us

pub record Done (end spare : ℕ) (P : Level → Type 0) (Q : List Placed → Type 0) (ts us : List Placed) (was now : List Op) : Type 0 where
  pub tree : Expr
  pub further : length us < length ts
  pub reads : Reads end spare P ts us tree
  pub stops : Q us
  pub single : Single ts us tree
  pub code : now ≡ was ++ postfix tree

-- the answer of a function that parses operands joined by operators, or one operand
abbrev pub Parses : ℕ → (Level → Type 0) → (List Placed → Type 0) → Parser Instruction → Result (Unit {0}) (Failure Fault) → Parser Instruction → Type 0
Parses spare P Q was (Ok _) now = (now.end ≡ was.end) × Done was.end spare P Q (left was) (left now) (code was) (code now)
Parses spare P Q was (Err e) now = Refuses was.end spare P (left was) e

-- the same behind a `(`, up to its `)`: outside it stands the level m, inside nothing has been read
pub record Closes (end spare : ℕ) (ts us : List Placed) (was now : List Op) : Type 0 where
  pub tree : Expr
  pub further : length us < length ts
  pub reads : (k : Around) (m : Level) (ms : List Level) → Fits k spare (m ∷ ms) → parse end (wants k fresh (m ∷ ms)) ts ≡ parse end (has k m ms tree) us
  pub compound : (p : ℕ) (n : List ℕ) → tree ≢ variable p n
  pub code : now ≡ was ++ postfix tree

abbrev pub ClosesNot : ℕ → ℕ → List Placed → Failure Fault → Type 0
ClosesNot end spare ts (Refused x) = (k : Around) (m : Level) (ms : List Level) → Fits k spare (m ∷ ms) → parse end (wants k fresh (m ∷ ms)) ts ≡ refused x.fault x.place
ClosesNot end spare ts (Memory e) = Unit {0}

abbrev pub Encloses : ℕ → Parser Instruction → Result (Unit {0}) (Failure Fault) → Parser Instruction → Type 0
Encloses spare was (Ok _) now = (now.end ≡ was.end) × Closes was.end spare (left was) (left now) (code was) (code now)
Encloses spare was (Err e) now = ClosesNot was.end spare (left was) e

-- the sign of a comparison, which may stand behind an expression in parentheses
abbrev pub compares : operators.Operator → signs.Sign → Type 0
compares op s = ((op ≡ Equal) × (s ≡ Equals)) ⊎ ((op ≡ Differ) × (s ≡ Differs))

abbrev pub NoComparison : List Placed → Type 0
NoComparison us = (first_is (sign Equals) us ≡ false) × (first_is (sign Differs) us ≡ false)

abbrev pub TakesComparison : Parser Instruction → Option (ℕ × operators.Operator) → Parser Instruction → Type 0
TakesComparison was (Some x) now = (t : Placed) × (s : signs.Sign) × (left was ≡ t ∷ left now) × (is_sign s t.kind ≡ true) × (x.0 ≡ t.place) × compares x.1 s × Stays was now
TakesComparison was None now = NoComparison (left was) × (now ≡ was)

-- what a loop over operators does to the operand before it: from the tree a at ts to the tree grown from a at us
pub record Grows (end spare : ℕ) (P : Level → Type 0) (ts us : List Placed) (was now : List Op) : Type 0 where
  pub grow : Expr → Expr
  pub suffix : List Op
  pub spelt : (a : Expr) → postfix (grow a) ≡ postfix a ++ suffix
  pub code : now ≡ was ++ suffix
  pub further : length us ≤ length ts
  pub kept : (a : Expr) (p : ℕ) (n : List ℕ) → grow a ≡ variable p n → (a ≡ variable p n) × (us ≡ ts)
  pub leads : (a : Expr) (k : Around) (l : Level) (ls : List Level) → P l → Fits k spare ls → parse end (has k l ls a) ts ≡ parse end (has k l ls (grow a)) us
