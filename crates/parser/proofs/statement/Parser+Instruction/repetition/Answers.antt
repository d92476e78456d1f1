use Rattle.std.proofs.Common.{is_ok, ap}
use Rattle.std.proofs.lemmas.Result.{err_from_is_err_and}
use Rattle.parser.specs.Looks.{left}
use Rattle.parser.proofs.Expressions.{pushed_ops}
use Rattle.parser.proofs.Statements.{repetition_done, repetition_refused}
use Rattle.parser.proofs.statement.Parser+Instruction.repetition.Goals as goal

pub returns-in_err-condition : goal.returns-in_err-condition
returns-in_err-condition c =
    let p = err_from_is_err_and c.from_residual-in_err-condition.result c.from_residual-in_err-condition.ensures.1 in
    rw (p.1, p.2) (repetition_refused c.args.self.now.end (left c.args.self.now) c.args.place c.in_err-condition.field-0.0 c.in_err-condition.ensures)

pub returns : goal.returns
returns c =
    (c.in_ok-condition.ensures.0, repetition_done c.args.place (pushed_ops c.args.self.now.out c.push.new.self _ (ap is_ok c.in_ok-push.was) c.push.ensures.items) c.in_ok-condition.ensures.1 (pushed_ops c.condition.new.self.out c.push-2.new.self _ (ap is_ok c.in_ok-push-2.was) c.push-2.ensures.items))
