use Rattle.std.proofs.Common.{[], ◌∷◌, ◌++◌, Some, is_ok, sym, ap, ◌∙◌}
use Rattle.outline.specs.Code.{join, ops, otherwise, repeat}
use Rattle.parser.specs.Trains.{decide}
use Rattle.tokens.specs.Tokens.{token_of}
use Rattle.parser.proofs.Expressions.{pushed_ops}
use Rattle.parser.proofs.Trains.{after_finish, after_join, after_next, after_repeat, after_turn}
use Rattle.parser.proofs.train.Parser+Instruction.end_one.Goals as goal

pub returns-in-Some-Next-clause-leads : goal.returns-in-Some-Next-clause-leads
returns-in-Some-Next-clause-leads c all ds w =
    let s = c.in_ok-token.ensures.1 in
    rw (s.0, s.1) (after_next (token_of c.in_ok-token.token) c.in_ok-token.ensures.0 c.closes.result c.closes.ensures w (sym (ap Some c.in-Some-Next.field-0-is) ∙ c.in-Some-Next.ensures ∙ ap (decide c.closes.result) c.innermost.ensures))

pub returns-in_ok-push-in-Some-Turn-clause-leads : goal.returns-in_ok-push-in-Some-Turn-clause-leads
returns-in_ok-push-in-Some-Turn-clause-leads c all ds w =
    let s = c.in_ok-token.ensures.1 in
    rw s.0 (after_turn (token_of c.in_ok-token.token) c.in_ok-token.ensures.0 c.closes.result c.closes.ensures w (sym (ap Some c.in-Some-Turn.field-0-is) ∙ c.in-Some-Turn.ensures ∙ ap (decide c.closes.result) c.innermost.ensures) c.turn.ensures (pushed_ops c.next.new.self.out c.push.new.self _ (ap is_ok c.in_ok-push-in-Some-Turn.was) c.push.ensures.items ∙ ap (λ v. ops v ++ otherwise ∷ []) s.1))

pub returns-in_ok-push-in-Some-Join-clause-leads : goal.returns-in_ok-push-in-Some-Join-clause-leads
returns-in_ok-push-in-Some-Join-clause-leads c all ds w =
    let s = c.in_ok-token.ensures.1 in
    rw s.0 (after_join (token_of c.in_ok-token.token) c.in_ok-token.ensures.0 c.closes.result c.closes.ensures w (sym (ap Some c.in-Some-Join.field-0-is) ∙ c.in-Some-Join.ensures ∙ ap (decide c.closes.result) c.innermost.ensures) c.close.ensures (pushed_ops c.next.new.self.out c.push-in-Some-Join.new.self _ (ap is_ok c.in_ok-push-in-Some-Join.was) c.push-in-Some-Join.ensures.items ∙ ap (λ v. ops v ++ join ∷ []) s.1))

pub returns-in_ok-push-in-Some-Repeat-clause-leads : goal.returns-in_ok-push-in-Some-Repeat-clause-leads
returns-in_ok-push-in-Some-Repeat-clause-leads c all ds w =
    let s = c.in_ok-token.ensures.1 in
    rw s.0 (after_repeat (token_of c.in_ok-token.token) c.in_ok-token.ensures.0 c.closes.result c.closes.ensures w (sym (ap Some c.in-Some-Repeat.field-0-is) ∙ c.in-Some-Repeat.ensures ∙ ap (decide c.closes.result) c.innermost.ensures) c.close-in-Some-Repeat.ensures (pushed_ops c.next.new.self.out c.push-in-Some-Repeat.new.self _ (ap is_ok c.in_ok-push-in-Some-Repeat.was) c.push-in-Some-Repeat.ensures.items ∙ ap (λ v. ops v ++ repeat ∷ []) s.1))

pub returns-in-Some-Finish-clause-leads : goal.returns-in-Some-Finish-clause-leads
returns-in-Some-Finish-clause-leads c all ds w =
    let s = c.in_ok-token.ensures.1 in
    rw (s.0, s.1) (after_finish (token_of c.in_ok-token.token) c.in_ok-token.ensures.0 c.closes.result c.closes.ensures w (sym (ap Some c.in-Some-Finish.field-0-is) ∙ c.in-Some-Finish.ensures ∙ ap (decide c.closes.result) c.innermost.ensures))
