use Rattle.std.proofs.Common.{[], ◌∷◌, ◌++◌, is_ok, ap, ◌∙◌}
use Rattle.outline.specs.Code.{ops, refer}
use Rattle.parser.proofs.Expressions.{pushed_ops}
use Rattle.parser.proofs.Statements.{lone_done}
use Rattle.parser.proofs.statement.Parser+Instruction.source.Goals as goal

pub returns : goal.returns
returns c =
    (c.in-Some.ensures.2.0, lone_done c.in-Some.place c.in-Some.name.now c.in-Some.ensures.0 c.in-Some.ensures.1 (pushed_ops c.take_lone_name.new.self.out c.push.new.self _ (ap is_ok c.in_ok-push.was) c.push.ensures.items ∙ ap (λ v. ops v ++ refer c.in-Some.place c.in-Some.name.now ∷ []) c.in-Some.ensures.2.1))
