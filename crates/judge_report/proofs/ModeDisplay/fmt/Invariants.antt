use Rattle.std.specs.Fmt.{HasWritten, IsPlainFormatter}
use Rattle.judge_report.specs.Report.{refs_text}
use Rattle.judge_report.proofs.ModeDisplay.fmt.Given as goal

abbrev pub invariant-loop-written : goal.invariant-loop-written
invariant-loop-written g l =
    IsPlainFormatter l.initial.f → HasWritten g.W.Write.write_str_gives l.initial.f (refs_text l._written) l.f
