use Rattle.std.proofs.Common.{◌≡◌, ℕ, ◌+◌, ◌-◌, ◌*◌, length}
use Rattle.parser.specs.Looks.{left}
use Rattle.parser.specs.Progress.{Grows, Level_of, Rest_under, code}
use Rattle.parser.specs.declared.expression.Rank.{Rank}
use Rattle.parser.specs.declared.expression.Rank.TheVariants.{Sum, Product}
use Rattle.parser.proofs.expression.Parser+Instruction.+comparison_joined_operand_primary.Given as goal

-- within as many tokens: how many functions may still call each other before one takes a token
abbrev height : Rank → ℕ
height Sum = 5
height Product = 3

abbrev pub decreases-comparison : goal.decreases-comparison
decreases-comparison l = 6 * length (left l.self.now) + 6

abbrev pub decreases-joined : goal.decreases-joined
decreases-joined l = 6 * length (left l.self.now) + height l.rank

abbrev pub decreases-operand : goal.decreases-operand
decreases-operand l = 6 * length (left l.self.now) + (height l.rank - 1)

abbrev pub decreases-primary : goal.decreases-primary
decreases-primary l = 6 * length (left l.self.now) + 1

abbrev pub invariant-joined-loop-place : goal.invariant-joined-loop-place
invariant-joined-loop-place l =
    (l.self.end ≡ l.fn.self.end) × Grows l.fn.self.end l.spare (Level_of l.rank) (left l.initial.self) (left l.self) (code l.initial.self) (code l.self) × Rest_under l.rank (left l.self)

abbrev pub decreases-joined-loop-place : goal.decreases-joined-loop-place
decreases-joined-loop-place l = length (left l.self)
