use Rattle.std.proofs.Common.{◌∙◌}
use Rattle.tokens.specs.Tokens.{placed}
use Rattle.tokens.proofs.Ends.{short, finished}
use Rattle.tokens.proofs.read.read_bytes.Goals as goal

pub returns : goal.returns
returns c =
    let scanner = c.take-2.new.self in
    short c.args.source.now c.if-source-gt-MOST_BYTES.false ∙ finished c.args.source.now (placed scanner.told.tokens) scanner.reader (rw c.loop-at.invariant.source at c.in_ok-take-2.ensures.moves)
