-- A run of six bytes, from what is known of each.
use Rattle.std.proofs.Common.{◌≡◌, ℕ, ◌<◌, ◌≤◌, List, [], ◌∷◌, length, get_or, refl, arith}

pub six : (run : List ℕ) (a b c d e f : ℕ) → 6 ≤ length run → length run < 7 → get_or run 0 0 ≡ a → get_or run 1 0 ≡ b → get_or run 2 0 ≡ c → get_or run 3 0 ≡ d → get_or run 4 0 ≡ e → get_or run 5 0 ≡ f → run ≡ a ∷ b ∷ c ∷ d ∷ e ∷ f ∷ []
six [] a b c d e f low high p q r s t u = absurd (omega (arith, low))
six (g ∷ []) a b c d e f low high p q r s t u = absurd (omega (arith, low))
six (g ∷ h ∷ []) a b c d e f low high p q r s t u = absurd (omega (arith, low))
six (g ∷ h ∷ i ∷ []) a b c d e f low high p q r s t u = absurd (omega (arith, low))
six (g ∷ h ∷ i ∷ j ∷ []) a b c d e f low high p q r s t u = absurd (omega (arith, low))
six (g ∷ h ∷ i ∷ j ∷ k ∷ []) a b c d e f low high p q r s t u = absurd (omega (arith, low))
six (g ∷ h ∷ i ∷ j ∷ k ∷ l ∷ []) a b c d e f low high p q r s t u = rw (p, q, r, s, t, u) refl
six (g ∷ h ∷ i ∷ j ∷ k ∷ l ∷ m ∷ ms) a b c d e f low high p q r s t u = absurd (omega (arith, high))
