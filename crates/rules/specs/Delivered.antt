-- What the delivered rules make of an exact result.
use Rattle.std.specs.Prelude.{ℕ, ◌+◌, ◌%◌, min, cond, ◌&&◌, Some, None, Option, nat_le}

-- strict: none above the greatest value
abbrev pub strict : ℕ → ℕ → Option ℕ
strict greatest n = cond (nat_le n greatest) (Some n) None

-- capped: the greatest value above it
abbrev pub capped : ℕ → ℕ → Option ℕ
capped greatest n = Some (min n greatest)

-- turning: the remainder by one more than the greatest value
abbrev pub turning : ℕ → ℕ → Option ℕ
turning greatest n = Some (n % (greatest + 1))

-- an operation under a rule that makes this of its exact result; an operand above the greatest value gives none
abbrev pub under : ℕ → (ℕ → Option ℕ) → (ℕ → ℕ → ℕ) → ℕ → ℕ → Option ℕ
under greatest makes exact a b = cond (nat_le a greatest && nat_le b greatest) (makes (exact a b)) None
