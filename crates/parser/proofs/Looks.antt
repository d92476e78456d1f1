-- The tokens still to be read, behind the first.
use Rattle.std.proofs.Common.{◌≡◌, ◌-◌, List, [], ◌∷◌, map, length, take, drop, Some, arith, sym, ap, ◌∙◌}
use Rattle.std.specs.Prelude.{slice_get}
use Rattle.std.proofs.lemmas.List.{take_all}
use Rattle.tokens.specs.Tokens.{token_of}
use Rattle.tokens.specs.declared.token.Token.{Token}

pub first_left : (xs : List Token) (t : Token) → Some t ≡ slice_get xs 0 → map token_of xs ≡ token_of t ∷ map token_of (take (length xs - 1) (drop 1 xs))
first_left [] t e = absurd (grind arith)
first_left (x ∷ xs) t e =
    let same : x ≡ t = grind arith in
    ap (λ k. token_of k ∷ map token_of xs) same ∙ ap (λ l. token_of t ∷ map token_of l) (sym (take_all (length (x ∷ xs) - 1) xs (omega arith)))
