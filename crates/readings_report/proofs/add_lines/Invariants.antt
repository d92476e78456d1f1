use Rattle.std.proofs.Common.{◌≡◌, ◌++◌, drop, string_bytes}
use Rattle.readings_report.specs.Report.{lines}
use Rattle.readings_report.proofs.add_lines.Given as goal

-- what is written, with the lines that are to come, is all the lines
abbrev pub invariant-loop-item : goal.invariant-loop-item
invariant-loop-item l =
    string_bytes l.out ++ lines (drop l.item-index l.readings) ≡ string_bytes l.initial.out ++ lines l.readings
