use Rattle.std.proofs.Common.{List, length}
use Rattle.grammar.specs.Tree.{Declared}
use Rattle.parser.specs.Looks.{left}
use Rattle.parser.specs.Parsing.{Verdict}
use Rattle.parser.specs.Trains.{At}
use Rattle.parser.specs.declared.train.Progress.TheVariants.{Wanted}
use Rattle.parser.proofs.train.Parser+Instruction.statements.Given as goal

-- wherever the loop began, it still stands as the machine does
abbrev pub invariant-loop-progress : goal.invariant-loop-progress
invariant-loop-progress l =
    (all : Verdict) (ds : List Declared) → At all ds Wanted l.fn.self l.fn.parts → At all ds l.progress l.self l.parts

abbrev pub decreases-loop-progress : goal.decreases-loop-progress
decreases-loop-progress l = length (left l.self)
