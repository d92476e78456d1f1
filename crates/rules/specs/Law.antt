-- What every number rule owes, and all that code over any rule may rest on.
use Rattle.std.specs.Prelude.{◌≡◌, ℕ, ◌+◌, ◌*◌, ◌<◌, ◌≤◌, Some, None, Option}

-- one of a rule's two functions, held to the operation on whole numbers that it stands for
pub record Keeps (greatest : ℕ) (exact : ℕ → ℕ → ℕ) (given : ℕ → ℕ → Option ℕ) : Type 0 where
  -- what is given is never above the greatest value
  pub within : (a b n : ℕ) → given a b ≡ Some n → n ≤ greatest
  -- an operand above the greatest value gives none
  pub left_large : (a b : ℕ) → greatest < a → given a b ≡ None
  pub right_large : (a b : ℕ) → greatest < b → given a b ≡ None
  -- an exact result that is not above it is given, for operands that are not above it either
  pub faithful : (a b : ℕ) → a ≤ greatest → b ≤ greatest → exact a b ≤ greatest → given a b ≡ Some (exact a b)

-- the rules' law
pub record Law (greatest : ℕ) (sum prod : ℕ → ℕ → Option ℕ) : Type 0 where
  pub some : 1 ≤ greatest
  pub most : greatest ≤ 2147483647
  pub total : Keeps greatest ◌+◌ sum
  pub product : Keeps greatest ◌*◌ prod

-- what a rule that looks at nothing but the exact result owes: what it gives is never above the greatest value, and an exact result that is not above it is given
pub record Gives (greatest : ℕ) (given : ℕ → Option ℕ) : Type 0 where
  pub some : 1 ≤ greatest
  pub most : greatest ≤ 2147483647
  pub within : (exact n : ℕ) → given exact ≡ Some n → n ≤ greatest
  pub faithful : (exact : ℕ) → exact ≤ greatest → given exact ≡ Some exact
