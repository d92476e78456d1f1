-- Numbers that were written, and the values that they stand for.
use Rattle.std.proofs.Common.{◌≡◌, ℕ, List, [], ◌∷◌, map, refl, arith}
use Rattle.std.proofs.lemmas.Bool.Decides.{nat_tests}
use Rattle.probe_host.specs.Codes.{code_of, value_of}

coded : (n : ℕ) → code_of (value_of n) ≡ n
coded n = grind (arith, nat_tests)

-- encoding what was decoded gives the numbers back
pub coded_all : (ns : List ℕ) → map code_of (map value_of ns) ≡ ns
coded_all [] = refl
coded_all (n ∷ ns) = grind (arith, coded n, coded_all ns)
