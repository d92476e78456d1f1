use Rattle.std.proofs.Common.{rules}
use Rattle.tokens.proofs.Table.{table_at}
use Rattle.tokens.proofs.class.class_of.Goals as goal

pub returns : goal.returns
returns c = table_at c.args.byte (search rules)
