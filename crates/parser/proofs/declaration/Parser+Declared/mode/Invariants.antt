use Rattle.std.proofs.Common.{◌≡◌, ◌≤◌, List, length}
use Rattle.grammar.specs.Machine.{moding}
use Rattle.grammar.specs.Tree.{Declared}
use Rattle.parser.specs.Looks.{Stays, left}
use Rattle.parser.specs.Parsing.{parse}
use Rattle.parser.proofs.declaration.Parser+Declared.mode.Given as goal

abbrev pub invariant-loop-token : goal.invariant-loop-token
invariant-loop-token l =
    (l.refs ≤ 7) × (length (left l.self) ≤ length (left l.fn.self)) × Stays l.fn.self l.self × ((ds : List Declared) → parse l.fn.self.end (moding ds 0) (left l.fn.self) ≡ parse l.fn.self.end (moding ds l.refs) (left l.self))

abbrev pub decreases-loop-token : goal.decreases-loop-token
decreases-loop-token l = length (left l.self)
