-- What the law says of each answer of any rule.
use Rattle.std.specs.Prelude.{◌≡◌, ℕ, ◌<◌, ◌≤◌, Ok, Err, Result}
use Rattle.rules.specs.declared.cause.Cause.{Cause}

-- a number comes only of operands up to the greatest value, is not above it, and is the exact result unless that is above it;
-- none comes only where an operand or the exact result is above it
abbrev pub Answers : ℕ → (ℕ → ℕ → ℕ) → ℕ → ℕ → Result ℕ Cause → Type 0
Answers greatest exact a b (Ok n) = (a ≤ greatest) × (b ≤ greatest) × (n ≤ greatest) × (exact a b ≤ greatest → n ≡ exact a b)
Answers greatest exact a b (Err _) = a ≤ greatest → b ≤ greatest → greatest < exact a b
