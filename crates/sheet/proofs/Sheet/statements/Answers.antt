use Rattle.std.proofs.Common.{sym, ap, ◌∙◌}
use Rattle.outline.specs.Code.{op_of}
use Rattle.sheet.specs.Sizes.{code_in, stands_for_one}
use Rattle.std.specs.List.{count_by}
use Rattle.sheet.proofs.Sizes.{counted_code, sized}
use Rattle.sheet.proofs.Sheet.statements.Goals as goal

pub returns : goal.returns
returns c = λ body e. c.count_statements.ensures ∙ ap (count_by (λ step. stands_for_one (op_of step))) c.as_slice.ensures.value ∙ sym (counted_code _) ∙ sized (code_in c.args.self.now) body e
