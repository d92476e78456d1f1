use Rattle.std.proofs.lemmas.List.{take_rest}
use Rattle.text_host.proofs.Runs.{no_run, parts}
use Rattle.text_host.proofs.item.next_run.Goals as goal

pub returns-in_err-from_run : goal.returns-in_err-from_run
returns-in_err-from_run c = rw c.from_residual.ensures (no_run c.args.text.now c.in_err-from_run.ensures)

pub returns : goal.returns
returns c =
    parts c.args.text.now _ _ _ _ _ _ c.in_ok-from_run.ensures (take_rest c.args.text.now c.in_ok-from_run.field-0) c.first_blank.ensures c.unwrap_or-end.ensures c.split_at.ensures.front c.split_at.ensures.back
