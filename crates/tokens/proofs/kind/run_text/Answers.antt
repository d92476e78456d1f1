use Rattle.std.proofs.Common.{IsUtf8, arith}
use Rattle.tokens.proofs.Runs.{utf8_run}
use Rattle.tokens.proofs.kind.run_text.Goals as goal

pub unwrap-requires : goal.unwrap-requires
unwrap-requires c = let text : IsUtf8 c.args.bytes.now = utf8_run c.args.run c.args.bytes.now c.requires.1 in grind arith
