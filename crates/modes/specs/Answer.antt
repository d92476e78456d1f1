-- What the code answers, held to what is judged.
use Rattle.std.specs.Prelude.{◌≡◌, Some, None, Ok, Err, Result}
use Rattle.modes.specs.Declaring.{Verdict}
use Rattle.modes.specs.declared.fault.Fault.{Fault}
use Rattle.refusals.specs.declared.failure.Failure.{Failure}
use Rattle.refusals.specs.declared.failure.Failure.TheVariants.{Refused, Memory}
use Rattle.refusals.specs.declared.refusal.Refusal.{Refusal}

-- nothing wrong, or the fault with its place
abbrev pub Tells : Verdict → Result (Unit {0}) (Refusal Fault) → Type 0
Tells v (Ok _) = v ≡ None
Tells v (Err x) = v ≡ Some (x.fault, x.place)

-- the same; want of heap memory may come on any sheet, and says nothing of it
abbrev pub Answers : Verdict → Result (Unit {0}) (Failure Fault) → Type 0
Answers v (Ok _) = v ≡ None
Answers v (Err (Refused x)) = v ≡ Some (x.fault, x.place)
Answers v (Err (Memory e)) = Unit {0}
