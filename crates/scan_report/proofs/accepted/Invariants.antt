use Rattle.std.proofs.Common.{◌≡◌, ◌++◌, map, drop, string_bytes}
use Rattle.scan_report.specs.Report.{lines}
use Rattle.tokens.specs.Tokens.{token_of}
use Rattle.scan_report.proofs.accepted.Given as goal

-- what is written, with the lines that are to come, is all the lines
abbrev pub invariant-loop-token : goal.invariant-loop-token
invariant-loop-token l = string_bytes l.out ++ lines (map token_of (drop l.token-index l.tokens)) ≡ lines (map token_of l.tokens)
