-- What the code answers, held to what the tokens parse as.
use Rattle.std.specs.Prelude.{◌≡◌, Ok, Err, Result}
use Rattle.grammar.specs.Tree.{Train}
use Rattle.outline.specs.Code.{flats, ops}
use Rattle.outline.specs.Names.{names}
use Rattle.outline.specs.declared.Outline.{Outline}
use Rattle.refusals.specs.declared.failure.Failure.{Failure}
use Rattle.refusals.specs.declared.failure.Failure.TheVariants.{Refused, Memory}
use Rattle.parser.specs.Parsing.{Verdict, passed, refused}
use Rattle.parser.specs.declared.fault.Fault.{Fault}

-- the declared names and the code of the program, or the refusal; want of heap memory says nothing of the tokens
abbrev pub Answers : Verdict → Result Outline (Failure Fault) → Type 0
Answers v (Ok o) = (body : Train) × (v ≡ passed (record { declared = names o.declared; body = body })) × (ops o.code ≡ flats body)
Answers v (Err (Refused x)) = v ≡ refused x.fault x.place
Answers v (Err (Memory e)) = Unit {0}
