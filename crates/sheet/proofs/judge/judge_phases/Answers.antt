use Rattle.std.proofs.Common.{length}
use Rattle.sheet.proofs.Judged.{Read, checked, correct, found, phases_read, staged}
use Rattle.sheet.proofs.judge.judge_phases.Goals as goal
use Rattle.sheet.proofs.judge.judge_phases.Goals.{In_ok-outline}
use Rattle.std.proofs.lemmas.Result.{err_from_is_err_and}

phases : (c : In_ok-outline) → Read (length c.args.memory.now) c.args.source.now c.in_ok-tokens.tokens c.in_ok-outline.outline
phases c = phases_read c.in_ok-tokens.tokens c.in_ok-outline.outline c.read_tokens.result c.as_slice.result.now c.parse_tokens.result c.if-memory-lt-MOST_PARTS.false c.read_tokens.ensures.defined c.in_ok-tokens.ensures.cases c.as_slice.ensures.value c.parse_tokens.ensures c.in_ok-outline.ensures.cases

pub returns-in_err-check_outline : goal.returns-in_err-check_outline
returns-in_err-check_outline c =
    let p = err_from_is_err_and c.from_residual-in_err-check_outline.result c.from_residual-in_err-check_outline.ensures.1 in
    rw (p.1, p.2) (checked (phases (goal.at.returns-in_err-check_outline c).In_ok-outline) c.in_err-check_outline.field-0.0 c.in_err-check_outline.ensures)

pub invariant_of-result : goal.invariant_of-result
invariant_of-result c =
    let r = phases (goal.at.invariant_of-result c).In_ok-outline in
    record { correct = ∣ correct (found r c.in_ok-check_outline.ensures) r.code ∣₁ }

pub returns : goal.returns
returns c =
    let r = phases (goal.at.returns c).In_ok-outline in
    (r.body, staged (found r c.in_ok-check_outline.ensures), r.code)
