-- A table of classes follows the rule at each of its places, by one test that is computed over the whole table.
use Rattle.std.proofs.Common.{◌≡◌, ℕ, zero, suc, ◌+◌, ◌<◌, Bool, true, ◌&&◌, eqb, List, [], ◌∷◌, length, get_or, sym, refl, ap, ◌∙◌, le_of_suc-le-suc, not-suc-le-zero, add-zero, add-suc, suc-add, zero-add}
use Rattle.std.proofs.lemmas.Bool.{eqb-true, and_parts}
use Rattle.tokens.specs.Bytes.{class}
use Rattle.tokens.specs.declared.class.Class.{Class}
use Rattle.tokens.specs.declared.class.Class.TheVariants.{Blank, Capital, Small, Digit, Sign, Colon, Other}
use Rattle.tokens.specs.declared.sign.Sign.TheVariants.{Semicolon, Comma, Becomes, Plus, Star, Equals, Differs, Open, Close}

-- the classes in a row, and the place of each
abbrev row : List Class
row =
    Blank ∷ Capital ∷ Small ∷ Digit ∷ Colon ∷ Other ∷ Sign Semicolon ∷ Sign Comma ∷ Sign Becomes ∷ Sign Plus ∷ Sign Star ∷ Sign Equals ∷ Sign Differs ∷ Sign Open ∷ Sign Close ∷ []

abbrev place : Class → ℕ
place Blank = 0
place Capital = 1
place Small = 2
place Digit = 3
place Colon = 4
place Other = 5
place (Sign Semicolon) = 6
place (Sign Comma) = 7
place (Sign Becomes) = 8
place (Sign Plus) = 9
place (Sign Star) = 10
place (Sign Equals) = 11
place (Sign Differs) = 12
place (Sign Open) = 13
place (Sign Close) = 14

found : (c : Class) → get_or row (place c) Blank ≡ c
found Blank = refl
found Capital = refl
found Small = refl
found Digit = refl
found Colon = refl
found Other = refl
found (Sign Semicolon) = refl
found (Sign Comma) = refl
found (Sign Becomes) = refl
found (Sign Plus) = refl
found (Sign Star) = refl
found (Sign Equals) = refl
found (Sign Differs) = refl
found (Sign Open) = refl
found (Sign Close) = refl

same : (c d : Class) → eqb (place c) (place d) ≡ true → c ≡ d
same c d t = sym (found c) ∙ ap (λ n. get_or row n Blank) (eqb-true (place c) (place d) t) ∙ found d

-- the test: each entry is the class of its place, counted from i
abbrev pub follows : ℕ → List Class → Bool
follows i [] = true
follows i (c ∷ cs) = eqb (place c) (place (class i)) && follows (suc i) cs

from : (cs : List Class) (i : ℕ) → follows i cs ≡ true → (k : ℕ) → k < length cs → get_or cs k Blank ≡ class (i + k)
from [] i t k h = absurd (not-suc-le-zero h)
from (c ∷ cs) i t zero h = same c (class i) (and_parts _ (follows (suc i) cs) t).0 ∙ ap class (sym (add-zero i))
from (c ∷ cs) i t (suc k) h =
    from cs (suc i) (and_parts (eqb (place c) (place (class i))) _ t).1 k (le_of_suc-le-suc h) ∙ ap class (suc-add i k ∙ sym (add-suc i k))

-- the table of src/class.rt
abbrev pub table : List Class
table =
    Other ∷ Other ∷ Other ∷ Other ∷ Other ∷ Other ∷ Other ∷ Other ∷ Other ∷ Other ∷ Blank ∷ Other ∷ Other ∷ Other ∷ Other ∷ Other ∷ Other ∷ Other ∷ Other ∷ Other ∷ Other ∷ Other ∷ Other ∷ Other ∷ Other ∷ Other ∷ Other ∷ Other ∷ Other ∷ Other ∷ Other ∷ Other ∷ Blank ∷ Other ∷ Other ∷ Sign Differs ∷ Other ∷ Other ∷ Other ∷ Other ∷ Sign Open ∷ Sign Close ∷ Sign Star ∷ Sign Plus ∷ Sign Comma ∷ Other ∷ Other ∷ Other ∷ Digit ∷ Digit ∷ Digit ∷ Digit ∷ Digit ∷ Digit ∷ Digit ∷ Digit ∷ Digit ∷ Digit ∷ Colon ∷ Sign Semicolon ∷ Other ∷ Sign Equals ∷ Other ∷ Other ∷ Other ∷ Capital ∷ Capital ∷ Capital ∷ Capital ∷ Capital ∷ Capital ∷ Capital ∷ Capital ∷ Capital ∷ Capital ∷ Capital ∷ Capital ∷ Capital ∷ Capital ∷ Capital ∷ Capital ∷ Capital ∷ Capital ∷ Capital ∷ Capital ∷ Capital ∷ Capital ∷ Capital ∷ Capital ∷ Capital ∷ Capital ∷ Other ∷ Other ∷ Other ∷ Other ∷ Other ∷ Other ∷ Small ∷ Small ∷ Small ∷ Small ∷ Small ∷ Small ∷ Small ∷ Small ∷ Small ∷ Small ∷ Small ∷ Small ∷ Small ∷ Small ∷ Small ∷ Small ∷ Small ∷ Small ∷ Small ∷ Small ∷ Small ∷ Small ∷ Small ∷ Small ∷ Small ∷ Small ∷ Other ∷ Other ∷ Other ∷ Other ∷ Other ∷ Other ∷ Other ∷ Other ∷ Other ∷ Other ∷ Other ∷ Other ∷ Other ∷ Other ∷ Other ∷ Other ∷ Other ∷ Other ∷ Other ∷ Other ∷ Other ∷ Other ∷ Other ∷ Other ∷ Other ∷ Other ∷ Other ∷ Other ∷ Other ∷ Other ∷ Other ∷ Other ∷ Other ∷ Other ∷ Other ∷ Other ∷ Other ∷ Other ∷ Other ∷ Other ∷ Other ∷ Other ∷ Other ∷ Other ∷ Other ∷ Other ∷ Other ∷ Other ∷ Other ∷ Other ∷ Other ∷ Other ∷ Other ∷ Other ∷ Other ∷ Other ∷ Other ∷ Other ∷ Other ∷ Other ∷ Other ∷ Other ∷ Other ∷ Other ∷ Other ∷ Other ∷ Other ∷ Other ∷ Other ∷ Other ∷ Other ∷ Other ∷ Other ∷ Other ∷ Other ∷ Other ∷ Other ∷ Other ∷ Other ∷ Other ∷ Other ∷ Other ∷ Other ∷ Other ∷ Other ∷ Other ∷ Other ∷ Other ∷ Other ∷ Other ∷ Other ∷ Other ∷ Other ∷ Other ∷ Other ∷ Other ∷ Other ∷ Other ∷ Other ∷ Other ∷ Other ∷ Other ∷ Other ∷ Other ∷ Other ∷ Other ∷ Other ∷ Other ∷ Other ∷ Other ∷ Other ∷ Other ∷ Other ∷ Other ∷ Other ∷ Other ∷ Other ∷ Other ∷ Other ∷ Other ∷ Other ∷ Other ∷ Other ∷ Other ∷ Other ∷ Other ∷ Other ∷ Other ∷ Other ∷ Other ∷ Other ∷ Other ∷ Other ∷ []

pub table_at : (k : ℕ) → k < 256 → get_or table k Blank ≡ class k
table_at k h = from table 0 refl k h ∙ ap class (zero-add k)
