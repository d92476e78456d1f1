-- What the code answers, held to what a source reads as.
use Rattle.std.specs.Prelude.{◌≡◌, Ok, Err, Result, Vec}
use Rattle.std.specs.declared.alloc.Global.{Global}
use Rattle.refusals.specs.declared.failure.Failure.{Failure}
use Rattle.refusals.specs.declared.failure.Failure.TheVariants.{Refused, Memory}
use Rattle.tokens.specs.Reading.{Reading, read, refused}
use Rattle.tokens.specs.Tokens.{placed}
use Rattle.tokens.specs.declared.fault.Fault.{Fault}
use Rattle.tokens.specs.declared.token.Token.{Token}

-- the tokens or the refusal; want of heap memory may come on any source, and says nothing of it
abbrev pub Answers : Reading → Result (Vec Token Global) (Failure Fault) → Type 0
Answers r (Ok v) = r ≡ read (placed v)
Answers r (Err (Refused x)) = r ≡ refused x.fault x.place
Answers r (Err (Memory e)) = Unit {0}
