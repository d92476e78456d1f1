use Rattle.std.proofs.Common.{◌≡◌, ◌-◌}
use Rattle.hosts.specs.Copying.{copying}
use Rattle.hosts.specs.Meaning.{holding}
use Rattle.hosts.proofs.Copies.{resumed}
use Rattle.hosts.proofs.copying.copy_readings.Given as goal

-- what was copied, with what is to come, is the whole
abbrev pub invariant-loop-count : goal.invariant-loop-count
invariant-loop-count g l =
    let m = g.H.Host in
    resumed l.count (copying (l.most - l.count) (holding m.left m.said m.room l.host)) ≡ copying l.most (holding m.left m.said m.room l.initial.host)
