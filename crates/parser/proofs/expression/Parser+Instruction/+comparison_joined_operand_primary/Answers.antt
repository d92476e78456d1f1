use Rattle.outline.specs.Code.{op_of, ops}
use Rattle.std.proofs.Common.{[], ◌∷◌, ◌++◌, is_ok, sym, ap, ◌∙◌, subst}
use Rattle.parser.specs.Looks.{Expects, first_is, left}
use Rattle.tokens.specs.Tokens.{sign}
use Rattle.tokens.specs.declared.sign.Sign.TheVariants.{Close}
use Rattle.parser.proofs.Expressions.{grown_done, grown_none, joined_more, leaf_done, one_enclosed, pushed_ops, two_enclosed}
use Rattle.parser.proofs.expression.Parser+Instruction.+comparison_joined_operand_primary.Goals as goal

pub joined-loop-place-init : goal.joined-loop-place-init
joined-loop-place-init t c = (c.in_ok-operand.ensures.0, grown_none _ _ _ _ _, c.in_ok-operand.ensures.1.stops)

pub joined-returns : goal.joined-returns
joined-returns t c =
    rw c.in_default.ensures.1 (c.loop-place.invariant.0, grown_done c.args.rank c.in_ok-operand.ensures.1 c.loop-place.invariant.1 c.loop-place.invariant.2 (sym (ap (λ s. first_is (sign s) (left c.loop-place.self)) c.sign.ensures) ∙ c.in_default.ensures.0))

pub joined-loop-place-preserved : goal.joined-loop-place-preserved
joined-loop-place-preserved t c =
    (c.in_ok-operand-2.ensures.0 ∙ c.in-Some.ensures.4.0 ∙ c.loop-place.invariant.0, joined_more c.args.rank c.args.self.now.end c.sign.result c.in-Some.place c.loop-place.self c.take_sign.new.self c.loop-place.invariant.0 c.loop-place.invariant.1 c.sign.ensures c.in-Some.ensures c.operator.result c.operator.ensures c.in_ok-operand-2.ensures.1 (pushed_ops c.operand-in-Some.new.self.out c.push.new.self _ (ap is_ok c.in_ok-push.was) c.push.ensures.items), c.in_ok-operand-2.ensures.1.stops)

pub comparison-returns-in_default : goal.comparison-returns-in_default
comparison-returns-in_default t c =
    one_enclosed c.args.self.now c.joined.new.self c.expect.new.self c.expect.result c.in_ok-joined.ensures.0 c.in_ok-joined.ensures.1 c.in_default.ensures.0 (subst (λ p. Expects (sign Close) p c.expect.result c.expect.new.self) c.in_default.ensures.1 c.expect.ensures)

pub comparison-returns : goal.comparison-returns
comparison-returns t c =
    two_enclosed c.args.self.now c.joined.new.self c.take_comparison.new.self c.in_ok-joined.ensures.0 c.in_ok-joined.ensures.1 (c.in-Some.place, c.in-Some.operator) c.in-Some.ensures (record { rest = c.joined-2.new.self.rest; end = c.joined-2.new.self.end; out = c.push.new.self }) c.expect-2.new.self c.expect-2.result c.in_ok-joined-2.ensures.0 c.in_ok-joined-2.ensures.1 (pushed_ops c.joined-2.new.self.out c.push.new.self _ (ap is_ok c.in_ok-push.was) c.push.ensures.items) c.expect-2.ensures

pub primary-returns-in-Some : goal.primary-returns-in-Some
primary-returns-in-Some t c =
    (c.in_ok-token.ensures.1.0, leaf_done c.in_ok-token.token c.in-Some.instruction c.in_ok-token.ensures.0 c.in-Some.ensures (pushed_ops c.next.new.self.out c.push.new.self _ (ap is_ok c.in_ok-push.was) c.push.ensures.items ∙ ap (λ v. ops v ++ op_of c.in-Some.instruction ∷ []) c.in_ok-token.ensures.1.1))
