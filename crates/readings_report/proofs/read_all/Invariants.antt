use Rattle.std.proofs.Common.{◌≡◌, ◌++◌, length}
use Rattle.readings_report.proofs.read_all.Given as goal

-- what was read, with what is left, is all
abbrev pub invariant-loop-item : goal.invariant-loop-item
invariant-loop-item g l = l.items.items ++ g.H.Host.left l.host ≡ g.H.Host.left l.initial.host

abbrev pub decreases-loop-item : goal.decreases-loop-item
decreases-loop-item g l = length (g.H.Host.left l.host)
