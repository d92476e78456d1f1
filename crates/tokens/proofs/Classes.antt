-- What a byte's class says of the byte.
use Rattle.std.proofs.Common.{◌≡◌, ℕ, ◌≤◌, [], ◌∷◌, arith}
use Rattle.std.proofs.lemmas.Bool.Decides.{nat_tests}
use Rattle.tokens.specs.Bytes.{class}
use Rattle.tokens.specs.Words.{spelling}
use Rattle.tokens.specs.declared.class.Class.TheVariants.{Capital, Small, Digit, Sign, Colon}
use Rattle.tokens.specs.declared.sign.Sign as signs

pub capital_byte : (b : ℕ) → class b ≡ Capital → (65 ≤ b) × (b ≤ 90)
capital_byte b e = grind (arith, nat_tests)

pub small_byte : (b : ℕ) → class b ≡ Small → (97 ≤ b) × (b ≤ 122)
small_byte b e = grind (arith, nat_tests)

pub digit_class : (b : ℕ) → (48 ≤ b) × (b ≤ 57) → class b ≡ Digit
digit_class b is = grind (arith, nat_tests)

pub digit_byte : (b : ℕ) → class b ≡ Digit → (48 ≤ b) × (b ≤ 57)
digit_byte b e = grind (arith, nat_tests)

pub colon_byte : (b : ℕ) → class b ≡ Colon → b ≡ 58
colon_byte b e = grind (arith, nat_tests)

pub sign_bytes : (b : ℕ) (s : signs.Sign) → class b ≡ Sign s → b ∷ [] ≡ spelling s
sign_bytes b s e = grind (arith, nat_tests)
