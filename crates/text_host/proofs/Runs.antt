-- The runs of a text, by where the first begins and ends.
use Rattle.std.proofs.Common.{◌≡◌, ℕ, suc, ◌+◌, ◌<◌, ◌≤◌, Bool, true, false, not, cond, List, [], ◌∷◌, length, get_or, nat_lt, take, drop, MatchOption, Option, Some, None, subst, unwrap_or, sym, refl, ap, ◌∙◌, arith}
use Rattle.std.proofs.lemmas.Bool.Decides.{nat_tests}
use Rattle.std.proofs.lemmas.List.{drop_all, drop_more}
use Rattle.std.proofs.lemmas.List.Sums.{passes_at_first, prefix_len-le-length}
use Rattle.std.specs.List.{position, position_or_len}
use Rattle.text_host.specs.Items.{blank, parted, runs}

abbrev pub start : List ℕ → ℕ
start text = position_or_len (λ b. not (blank b)) text

abbrev pub end : List ℕ → ℕ
end text = position_or_len blank text

skipped : (b : ℕ) (bs : List ℕ) (t : Bool) → blank b ≡ t → runs bs ≡ runs (drop (start bs) bs) → runs (b ∷ bs) ≡ runs (drop (start (b ∷ bs)) (b ∷ bs))
skipped b bs true e later = let more : 1 + start bs ≡ suc (start bs) = omega arith in rw (e, more) later
skipped b bs false e later = rw (e, e)

-- blanks before the first run are no part of any
pub from_start : (text : List ℕ) → runs text ≡ runs (drop (start text) text)
from_start [] = refl
from_start (b ∷ bs) = skipped b bs (blank b) refl (from_start bs)

one : (b : ℕ) (bs : List ℕ) (t : Bool) → blank b ≡ false → parted bs ≡ t → (parted bs ≡ false → runs bs ≡ take (end bs) bs ∷ runs (drop (end bs) bs)) → runs (b ∷ bs) ≡ take (end (b ∷ bs)) (b ∷ bs) ∷ runs (drop (end (b ∷ bs)) (b ∷ bs))
one b [] true none e later = rw none
one b (c ∷ cs) true none e later = rw (none, e, e)
one b bs false none e later = let more : 1 + end bs ≡ suc (end bs) = omega arith in rw (none, e, more, later e)

pub to_end : (text : List ℕ) → parted text ≡ false → runs text ≡ take (end text) text ∷ runs (drop (end text) text)
to_end [] e = absurd (cc)
to_end (b ∷ bs) e = one b bs (parted bs) e refl (to_end bs)

no_blank : (t : Bool) → not t ≡ true → t ≡ false
no_blank true e = absurd (cc)
no_blank false e = refl

-- where a run begins, none is parted
begins : (text : List ℕ) → start text < length text → parted (drop (start text) text) ≡ false
begins text some =
    ap parted (drop_more text (start text) 0 some) ∙ no_blank (blank (get_or text (start text) 0)) (passes_at_first (λ b. not (blank b)) text 0 some)

-- what `position` tells of the first place that passes, or of the length
told : (p : ℕ → Bool) (text : List ℕ) (o : Option ℕ) (t : Bool) → nat_lt (position_or_len p text) (length text) ≡ t → cond t (Some (position_or_len p text)) None ≡ o → MatchOption o (length text ≤ position_or_len p text) (λ i. (i < length text) × (i ≡ position_or_len p text))
told p text None true e is = absurd (cc)
told p text (Some i) true e is =
    let same : position_or_len p text ≡ i = cc in
    let within : position_or_len p text < length text = grind (arith, nat_tests) in
    (omega arith, sym same)
told p text None false e is = grind (arith, nat_tests)
told p text (Some i) false e is = absurd (cc)

pub no_run : (text : List ℕ) → None ≡ position (λ b. not (blank b)) text → runs text ≡ []
no_run text is =
    let past = told (λ b. not (blank b)) text None (nat_lt (start text) (length text)) refl (sym is) in
    from_start text ∙ ap runs (drop_all (start text) text past)

-- where the first run begins and ends, it is what is between
first_run : (text : List ℕ) (i : ℕ) → Some i ≡ position (λ b. not (blank b)) text → runs text ≡ take (end (drop i text)) (drop i text) ∷ runs (drop (end (drop i text)) (drop i text))
first_run text i is =
    let at = told (λ b. not (blank b)) text (Some i) (nat_lt (start text) (length text)) refl (sym is) in
    let same : start text ≡ i = sym at.1 in
    let within : start text < length text = omega (arith, at.0, at.1) in
    let whole = from_start text ∙ to_end (drop (start text) text) (begins text within) in
    subst (λ n. runs text ≡ take (end (drop n text)) (drop n text) ∷ runs (drop (end (drop n text)) (drop n text))) same whole

ends : (text : List ℕ) (o : Option ℕ) → o ≡ position blank text → unwrap_or o (length text) ≡ end text
ends text None is =
    let past = told blank text None (nat_lt (end text) (length text)) refl (sym is) in
    omega (arith, past, prefix_len-le-length (λ b. not (blank b)) text)
ends text (Some i) is = (told blank text (Some i) (nat_lt (end text) (length text)) refl (sym is)).1

-- the same of the parts that the code has
pub parts : (text from front back : List ℕ) (start stop : ℕ) (o : Option ℕ) → Some start ≡ position (λ b. not (blank b)) text → from ≡ drop start text → o ≡ position blank from → stop ≡ unwrap_or o (length from) → front ≡ take stop from → back ≡ drop stop from → runs text ≡ front ∷ runs back
parts text from front back start stop o begun rest is stopped before behind =
    let whole = first_run text start begun in
    let last : stop ≡ end from = stopped ∙ ends from o is in
    rw (before, behind, last, rest) whole
