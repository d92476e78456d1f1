use Rattle.std.proofs.Common.{subst}
use Rattle.parser.specs.Trains.{At}
use Rattle.parser.proofs.train.Parser+Instruction.statements.Goals as goal
use Rattle.std.proofs.lemmas.Result.{err_from_is_err_and}
use Rattle.parser.proofs.Trains.{stopped}

pub returns-in_err-progress-in-Wanted : goal.returns-in_err-progress-in-Wanted
returns-in_err-progress-in-Wanted c all ds w =
    let p = err_from_is_err_and c.from_residual.result c.from_residual.ensures.1 in
    rw (p.1, p.2) (stopped all ds c.in_err-progress-in-Wanted.field-0.0 c.begin_one.new.self c.begin_one.new.parts (c.in_err-progress-in-Wanted.ensures.leads all ds (subst (λ g. At all ds g c.loop-progress.self c.loop-progress.parts) c.in-Wanted.is (c.loop-progress.invariant all ds w))))

pub returns-in_err-progress-in-Complete : goal.returns-in_err-progress-in-Complete
returns-in_err-progress-in-Complete c all ds w =
    let p = err_from_is_err_and c.from_residual-in_err-progress-in-Complete.result c.from_residual-in_err-progress-in-Complete.ensures.1 in
    rw (p.1, p.2) (stopped all ds c.in_err-progress-in-Complete.field-0.0 c.end_one.new.self c.end_one.new.parts (c.in_err-progress-in-Complete.ensures.leads all ds (subst (λ g. At all ds g c.loop-progress.self c.loop-progress.parts) c.in-Complete.is (c.loop-progress.invariant all ds w))))

pub returns-in-Finished : goal.returns-in-Finished
returns-in-Finished c all ds w =
    c.nothing_more.ensures all ds (subst (λ g. At all ds g c.loop-progress.self c.loop-progress.parts) c.in-Finished.is (c.loop-progress.invariant all ds w))

pub loop-progress-preserved : goal.loop-progress-preserved
loop-progress-preserved c all ds w =
    c.in_ok-progress-in-Complete.ensures.leads all ds (subst (λ g. At all ds g c.loop-progress.self c.loop-progress.parts) c.in-Complete.is (c.loop-progress.invariant all ds w))
