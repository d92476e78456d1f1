use Rattle.std.proofs.Common.{◌≡◌, ◌++◌, map, drop, string_bytes}
use Rattle.judge_report.specs.Report.{name_lines}
use Rattle.outline.specs.Names.{declared_of}
use Rattle.judge_report.proofs.add_names.Given as goal

-- what is written, with the lines that are to come, is all the lines
abbrev pub invariant-loop-name : goal.invariant-loop-name
invariant-loop-name l =
    string_bytes l.out ++ name_lines (map declared_of (drop l.name-index l.declared)) ≡ string_bytes l.initial.out ++ name_lines (map declared_of l.declared)
