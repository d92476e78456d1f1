use Rattle.std.proofs.Common.{[], ◌∷◌, ◌++◌, is_ok, ap, ◌∙◌, subst}
use Rattle.outline.specs.Code.{ops, target}
use Rattle.std.proofs.lemmas.Result.{err_from_is_err_and}
use Rattle.parser.specs.Looks.{left}
use Rattle.parser.specs.Progress.{code}
use Rattle.parser.specs.Statements.{Sourced, SourcedNot}
use Rattle.parser.proofs.Expressions.{pushed_ops}
use Rattle.parser.proofs.Statements.{assignment_done, assignment_refused}
use Rattle.parser.proofs.statement.Parser+Instruction.assignment.Goals as goal

pub returns-in_err-source : goal.returns-in_err-source
returns-in_err-source c =
    let p = err_from_is_err_and c.from_residual-in_err-source.result c.from_residual-in_err-source.ensures.1 in
    let w = c.in_ok-expect.ensures in
    rw (p.1, p.2) (assignment_refused c.args.self.now.end c.args.place c.args.name.now w.0 w.1 w.2 c.in_err-source.field-0.0 (subst (λ n. SourcedNot n (left c.expect.new.self) c.in_err-source.field-0.0) w.3.0 c.in_err-source.ensures))

pub returns : goal.returns
returns c =
    let w = c.in_ok-expect.ensures in
    let d = c.in_ok-source.ensures in
    (d.0 ∙ w.3.0, assignment_done c.args.self.now.end c.args.place c.args.name.now w.0 w.1 w.2 (pushed_ops c.expect.new.self.out c.push.new.self _ (ap is_ok c.in_ok-push.was) c.push.ensures.items ∙ ap (λ v. ops v ++ target c.args.place c.args.name.now ∷ []) w.3.1) (subst (λ n. Sourced n (left c.expect.new.self) (left c.source.new.self) (ops c.push.new.self) (code c.source.new.self)) w.3.0 d.1) (pushed_ops c.source.new.self.out c.push-2.new.self _ (ap is_ok c.in_ok-push-2.was) c.push-2.ensures.items))
