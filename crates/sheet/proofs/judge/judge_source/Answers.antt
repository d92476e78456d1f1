use Rattle.std.proofs.Common.{length}
use Rattle.sheet.proofs.Judged as proof
use Rattle.sheet.proofs.judge.judge_source.Goals as goal

pub returns : goal.returns
returns c = record {
  defined = c.judge_phases.ensures;
  lawful = proof.lawful (length c.args.memory.now) c.args.source.now c.judge_phases.result c.judge_phases.ensures;
}
