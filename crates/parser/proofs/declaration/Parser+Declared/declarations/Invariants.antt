use Rattle.std.proofs.Common.{length}
use Rattle.grammar.specs.Machine.{between, moding}
use Rattle.parser.specs.Declarations.{Leads, declared}
use Rattle.parser.specs.Looks.{left}
use Rattle.parser.proofs.declaration.Parser+Declared.declarations.Given as goal

abbrev pub invariant-loop-self : goal.invariant-loop-self
invariant-loop-self l = Leads (moding (declared l.fn.self) 0) l.fn.self (between (declared l.self)) l.self

abbrev pub decreases-loop-self : goal.decreases-loop-self
decreases-loop-self l = length (left l.self)
