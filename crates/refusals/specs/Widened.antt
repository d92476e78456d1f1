-- A failure whose fault has been given a wider type.
use Rattle.std.specs.Prelude.{◌≡◌}
use Rattle.refusals.specs.declared.failure.Failure.{Failure}
use Rattle.refusals.specs.declared.failure.Failure.TheVariants.{Refused, Memory}

-- the place stays, and the fault is what the conversion gives; want of memory stays what it is
abbrev pub Widened : {F G : Type 0} → (F → G → Type 0) → Failure F → Failure G → Type 0
Widened gives (Refused x) (Refused y) = gives x.fault y.fault × (y.place ≡ x.place)
Widened gives (Refused x) (Memory e) = ⊥
Widened gives (Memory e) (Refused y) = ⊥
Widened gives (Memory e) (Memory d) = d ≡ e
