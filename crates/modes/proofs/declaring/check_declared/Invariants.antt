-- What is wrong with the names from here on is what is wrong with all of them.
use Rattle.std.proofs.Common.{◌≡◌, map, take, drop}
use Rattle.modes.specs.Declaring.{declaring, declaring_after}
use Rattle.outline.specs.Names.{declared_of}
use Rattle.modes.proofs.declaring.check_declared.Given as goal

abbrev pub invariant-loop-at : goal.invariant-loop-at
invariant-loop-at l = declaring_after (map declared_of (take l.at l.declared)) (map declared_of (drop l.at l.declared)) ≡ declaring (map declared_of l.declared)
