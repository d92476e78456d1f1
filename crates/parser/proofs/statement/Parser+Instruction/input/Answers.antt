use Rattle.std.proofs.Common.{[], ◌∷◌, ◌++◌, is_ok, ap, ◌∙◌}
use Rattle.outline.specs.Code.{ops, read}
use Rattle.parser.specs.Looks.{left}
use Rattle.parser.proofs.Expressions.{pushed_ops}
use Rattle.parser.proofs.Statements.{input_done}
use Rattle.tokens.specs.Tokens.{kind_of}
use Rattle.parser.proofs.statement.Parser+Instruction.input.Goals as goal

pub returns : goal.returns
returns c =
    let token = c.in_ok-token.token in
    (c.in_ok-token.ensures.1.0, input_done c.args.place token.place c.in-Name.name.now (c.in_ok-token.ensures.0 ∙ ap (λ x. record { place = token.place; kind = kind_of x } ∷ left c.next.new.self) c.in-Name.is) (pushed_ops c.next.new.self.out c.push.new.self _ (ap is_ok c.in_ok-push.was) c.push.ensures.items ∙ ap (λ v. ops v ++ read c.args.place token.place c.in-Name.name.now ∷ []) c.in_ok-token.ensures.1.1))
