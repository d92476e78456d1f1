use Rattle.std.proofs.lemmas.Result.{err_from_is_err_and}
use Rattle.tokens.specs.Tokens.{placed}
use Rattle.tokens.proofs.Taken.{Advanced, move, run_refused, settled}
use Rattle.tokens.proofs.read.Scanner.take.Goals as goal
use Rattle.tokens.proofs.read.Scanner.take.Goals.{After-advance-step}

advanced : (c : After-advance-step) → Advanced c.args.self.now.source.now (placed c.args.self.now.told.tokens) c.args.self.now.reader c.advance-step.new.self c.args.at c.args.class c.advance-step.result
advanced c = record {
  stood = c.requires.stands;
  within = c.requires.within;
  next = c.requires.next;
  state = c.advance-step.ensures.state;
  start = c.advance-step.ensures.start;
  told = c.advance-step.ensures.step;
}

pub end_run-requires : goal.end_run-requires
end_run-requires c = (move (advanced (goal.at.end_run-requires c).After-advance-step)).pending

pub returns-in_err-end_run-clause-moves : goal.returns-in_err-end_run-clause-moves
returns-in_err-end_run-clause-moves c =
    let p = err_from_is_err_and c.from_residual.result c.from_residual.ensures.1 in
    rw (p.1, p.2) (run_refused (advanced (goal.at.returns-in_err-end_run-clause-moves c).After-advance-step) _ _ _ c.in_err-end_run.ensures)

pub returns-clause-moves : goal.returns-clause-moves
returns-clause-moves c = settled (advanced (goal.at.returns-clause-moves c).After-advance-step) _ c.in_ok-end_run.ensures c.settle.result _ c.settle.ensures
