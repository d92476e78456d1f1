use Rattle.std.proofs.Common.{is_ok, ap}
use Rattle.std.proofs.lemmas.Result.{err_from_is_err_and}
use Rattle.parser.specs.Looks.{left}
use Rattle.parser.proofs.Expressions.{pushed_ops}
use Rattle.parser.proofs.Statements.{choice_done, choice_refused}
use Rattle.parser.proofs.statement.Parser+Instruction.choice.Goals as goal

pub returns-in_err-condition : goal.returns-in_err-condition
returns-in_err-condition c =
    let p = err_from_is_err_and c.from_residual.result c.from_residual.ensures.1 in
    rw (p.1, p.2) (choice_refused c.args.self.now.end (left c.args.self.now) c.args.place c.in_err-condition.field-0.0 c.in_err-condition.ensures)

pub returns : goal.returns
returns c =
    (c.in_ok-condition.ensures.0, choice_done c.args.place c.in_ok-condition.ensures.1 (pushed_ops c.condition.new.self.out c.push.new.self _ (ap is_ok c.in_ok-push.was) c.push.ensures.items))
