-- What is wrong from here on with the stack at hand is what is wrong with all of the code.
use Rattle.std.proofs.Common.{◌≡◌, [], map, drop}
use Rattle.modes.specs.Flatly.{flatly}
use Rattle.modes.specs.Progress.{entries}
use Rattle.outline.specs.Code.{op_of}
use Rattle.outline.specs.Names.{declared_of}
use Rattle.modes.proofs.judging.check_statements.Given as goal

abbrev pub invariant-loop-instruction : goal.invariant-loop-instruction
invariant-loop-instruction l = flatly (map declared_of l.declared) (entries l.stack) (map op_of (drop l.instruction-index l.code)) ≡ flatly (map declared_of l.declared) [] (map op_of l.code)
