-- What the judge answers, held to what a source is judged to be.
use Rattle.std.specs.Prelude.{◌≡◌, List, [], None, Ok, Err, Result}
use Rattle.grammar.specs.Tree.{Declared, Program, Train}
use Rattle.modes.specs.Declaring.{declaring, first}
use Rattle.modes.specs.Flatly.{flatly}
use Rattle.outline.specs.Code.{Op, flats, ops}
use Rattle.outline.specs.Names.{names}
use Rattle.tokens.specs.Tokens.{Placed, placed}
use Rattle.sheet.specs.Judging.{Verdict, after_declaring, passed, refused}
use Rattle.sheet.specs.declared.Sheet.{Sheet}
use Rattle.sheet.specs.declared.fault.Fault.{Fault}
use Rattle.refusals.specs.declared.failure.Failure.{Failure}
use Rattle.refusals.specs.declared.failure.Failure.TheVariants.{Refused, Memory}

-- a sheet with the program's names, tokens and code, or the refusal; want of heap memory says nothing of the source
abbrev pub Answers : Verdict → Result Sheet (Failure Fault) → Type 0
Answers v (Ok s) = (body : Train) × (v ≡ passed (record { declared = names s.outline.declared; body = body }) (placed s.tokens)) × (ops s.outline.code ≡ flats body)
Answers v (Err (Refused x)) = v ≡ refused x.fault x.place
Answers v (Err (Memory e)) = Unit {0}

-- the third and the fourth phase, on the outline
abbrev pub Checks : List Declared → List Op → Result (Unit {0}) (Failure Fault) → Type 0
Checks ds code (Ok _) = (declaring ds ≡ None) × (flatly ds [] code ≡ None)
Checks ds code (Err (Refused x)) = (p : Program) (ts : List Placed) → after_declaring (first (declaring ds) (flatly ds [] code)) p ts ≡ refused x.fault x.place
Checks ds code (Err (Memory e)) = Unit {0}
