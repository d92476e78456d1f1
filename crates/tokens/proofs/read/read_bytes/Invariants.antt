use Rattle.std.proofs.Common.{◌≡◌}
use Rattle.tokens.specs.Progress.{Stands}
use Rattle.tokens.specs.Tokens.{placed}
use Rattle.tokens.proofs.read.read_bytes.Given as goal

abbrev pub invariant-loop-at : goal.invariant-loop-at
invariant-loop-at l = record {
  source : l.scanner.source.now ≡ l.source;
  stands : Stands l.source (placed l.scanner.told.tokens) l.scanner.reader l.at;
}
