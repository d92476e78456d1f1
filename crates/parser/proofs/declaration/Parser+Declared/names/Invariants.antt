use Rattle.std.proofs.Common.{◌≡◌, ◌≤◌, length}
use Rattle.grammar.specs.Machine.{naming}
use Rattle.outline.specs.Names.{primitive_of}
use Rattle.parser.specs.Declarations.{declared}
use Rattle.parser.specs.Looks.{left}
use Rattle.parser.specs.Parsing.{parse}
use Rattle.parser.proofs.declaration.Parser+Declared.names.Given as goal

abbrev pub invariant-loop : goal.invariant-loop
invariant-loop l =
    (l.self.end ≡ l.fn.self.end) × (length (left l.self) ≤ length (left l.fn.self)) × (parse l.fn.self.end (naming (declared l.fn.self) l.mode.refs (primitive_of l.mode.primitive)) (left l.fn.self) ≡ parse l.fn.self.end (naming (declared l.self) l.mode.refs (primitive_of l.mode.primitive)) (left l.self))

abbrev pub decreases-loop : goal.decreases-loop
decreases-loop l = length (left l.self)
