use Rattle.tokens.proofs.Lawful as proof
use Rattle.tokens.proofs.read.read_tokens.Goals as goal

pub returns : goal.returns
returns c = record {
  defined = c.read_bytes.ensures;
  lawful = proof.lawful c.args.source.now c.read_bytes.result c.read_bytes.ensures;
}
