-- The items of a text are what its runs mean.
use Rattle.std.proofs.Common.{◌≡◌, ℕ, ◌<◌, ◌≤◌, ◌&&◌, Bool, true, false, cond, List, [], ◌∷◌, ◌++◌, length, map, codes, Ok, Err, nat_le, sym, refl, ap, subst, ◌∙◌, append-nil, arith}
use Rattle.std.proofs.lemmas.Bool.Decides.{nat_tests}
use Rattle.std.proofs.lemmas.Slice.Eq.{bytes_eq-Decides}
use Rattle.std.specs.List.{onto_first}
use Rattle.std.specs.Str.{bytes_eq}
use Rattle.std.specs.Str.Parse.{digits_value}
use Rattle.hosts.specs.Meaning.{most_read}
use Rattle.hosts.specs.declared.exchange.Value.{Value}
use Rattle.hosts.specs.declared.exchange.Value.TheVariants.{Truth, Number}
use Rattle.text_host.specs.Items.{blank, is_digits, item_of, items, number_of, parted, runs}
use Rattle.text_host.proofs.Digits.{Digits, all_digits, is_digits_of, short_digits, some_digit, tells}
use Rattle.text_host.specs.Law.{AllBlank, AllDigits, Blank, Cuts, EachMeans, Ends, Means, NoBlank, Reads, Spells}

-- a blank, by its test
told : (b : ℕ) → blank b ≡ true → Blank b
told b e = grind (arith, nat_tests)

test : (b : ℕ) → Blank b → blank b ≡ true
test b is = grind (arith, nat_tests)

told_not : (b : ℕ) → blank b ≡ false → ¬ (Blank b)
told_not b e is = cc (test b is)

test_not_at : (b : ℕ) (t : Bool) → blank b ≡ t → ¬ (Blank b) → blank b ≡ false
test_not_at b true e none = absurd (none (told b e))
test_not_at b false e none = e

test_not : (b : ℕ) → ¬ (Blank b) → blank b ≡ false
test_not b none = test_not_at b (blank b) refl none

parts_of : (bs : List ℕ) → Ends bs → parted bs ≡ true
parts_of [] ends = refl
parts_of (b ∷ bs) ends = test b ends

ends_of : (bs : List ℕ) → parted bs ≡ true → Ends bs
ends_of [] e = tt
ends_of (b ∷ bs) e = told b e

-- blanks are no part of a run
past_blanks : (blanks rest : List ℕ) → AllBlank blanks → runs (blanks ++ rest) ≡ runs rest
past_blanks [] rest all = refl
past_blanks (b ∷ bs) rest all = rw (test b all.0) (past_blanks bs rest all.1)

skip : (b : ℕ) (bs : List ℕ) → blank b ≡ true → runs (b ∷ bs) ≡ runs bs
skip b bs e = rw e

single : (b : ℕ) (bs : List ℕ) → blank b ≡ false → parted bs ≡ true → runs (b ∷ bs) ≡ (b ∷ []) ∷ runs bs
single b bs e f = rw (e, f)

longer : (b : ℕ) (bs : List ℕ) → blank b ≡ false → parted bs ≡ false → runs (b ∷ bs) ≡ onto_first b (runs bs)
longer b bs e f = rw (e, f)

-- a run that ends is the first
run_first : (run rest : List ℕ) → NoBlank run → 0 < length run → Ends rest → runs (run ++ rest) ≡ run ∷ runs rest
run_first [] rest none some ends = absurd (omega arith)
run_first (b ∷ []) rest none some ends = single b rest (test_not b none.0) (parts_of rest ends)
run_first (b ∷ c ∷ cs) rest none some ends =
    longer b (c ∷ cs ++ rest) (test_not b none.0) (test_not c none.1.0) ∙ ap (onto_first b) (run_first (c ∷ cs) rest none.1 (omega arith) ends)

-- a text is cut in one way only
alone : (others : List (List ℕ)) (text : List ℕ) → Cuts others text → others ≡ runs text
alone [] text all = sym (ap runs (sym (append-nil text)) ∙ past_blanks text [] all)
alone (run ∷ others) text (blanks, rest, is, all, none, some, ends, cut) =
    ap (λ rs. run ∷ rs) (alone others rest cut) ∙ sym (ap runs is ∙ past_blanks blanks (run ++ rest) all ∙ run_first run rest none some ends)

-- a byte more at the front: a blank, a run, or the first of a run
one_blank : (b : ℕ) (rs : List (List ℕ)) (bs : List ℕ) → Blank b → Cuts rs bs → Cuts rs (b ∷ bs)
one_blank b [] bs is all = (is, all)
one_blank b (r ∷ rs) bs is (blanks, rest, same, all, none, some, ends, cut) = (b ∷ blanks, rest, ap (λ l. b ∷ l) same, (is, all), none, some, ends, cut)

one_more : (b c : ℕ) (rs : List (List ℕ)) (cs : List ℕ) → ¬ (Blank b) → ¬ (Blank c) → Cuts rs (c ∷ cs) → Cuts (onto_first b rs) (b ∷ c ∷ cs)
one_more b c [] cs none also all = absurd (also all.0)
one_more b c (r ∷ rs) cs none also ([], rest, same, all, free, some, ends, cut) = ([], rest, ap (λ l. b ∷ l) same, tt, (none, free), omega arith, ends, cut)
one_more b c (r ∷ rs) cs none also (x ∷ xs, rest, same, all, free, some, ends, cut) =
    let front : x ≡ c = cc in absurd (also (subst Blank front all.0))

cut_by : (b : ℕ) (bs : List ℕ) (is_blank last : Bool) → blank b ≡ is_blank → parted bs ≡ last → Cuts (runs bs) bs → Cuts (runs (b ∷ bs)) (b ∷ bs)
cut_by b bs true last e f cut = subst (λ rs. Cuts rs (b ∷ bs)) (sym (skip b bs e)) (one_blank b (runs bs) bs (told b e) cut)
cut_by b bs false true e f cut =
    subst (λ rs. Cuts rs (b ∷ bs)) (sym (single b bs e f)) ([], bs, refl, tt, (told_not b e, tt), omega arith, ends_of bs f, cut)
cut_by b [] false false e f cut = absurd (cc)
cut_by b (c ∷ cs) false false e f cut =
    subst (λ rs. Cuts rs (b ∷ c ∷ cs)) (sym (longer b (c ∷ cs) e f)) (one_more b c (runs (c ∷ cs)) cs (told_not b e) (told_not c f) cut)

cuts : (text : List ℕ) → Cuts (runs text) text
cuts [] = tt
cuts (b ∷ bs) = cut_by b bs (blank b) (parted bs) refl refl (cuts bs)

digits_in : (ds : List ℕ) → Digits ds → AllDigits ds
digits_in [] all = tt
digits_in (d ∷ ds) all = let parts = tells.parts d ds all in (parts.0, digits_in ds parts.1)

digits_of : (ds : List ℕ) → AllDigits ds → Digits ds
digits_of [] all = refl
digits_of (d ∷ ds) all = tells.more d ds all.0 (digits_of ds all.1)

module _ (run : List ℕ) where
  unlike : (text : List ℕ) → bytes_eq run text ≡ false → ¬ (run ≡ text)
  unlike text e is = cc ((bytes_eq-Decides run text).1 is)

  no_number : (d s : Bool) → is_digits run ≡ d → nat_le (digits_value 10 run) most_read ≡ s → (d && s) ≡ false → (n : ℕ) → ¬ (Spells run (Number n))
  no_number true true e f none n is = cc
  no_number true false e f none n is = let large : most_read < digits_value 10 run = grind (arith, nat_tests) in omega (arith, is.3, is.4)
  no_number false s e f none n is = cc (is_digits_of run (digits_of run is.0) is.1 is.2)

  module _ (not_true : bytes_eq run (codes "true") ≡ false) (not_false : bytes_eq run (codes "false") ≡ false) where
    no_value : ((n : ℕ) → ¬ (Spells run (Number n))) → (v : Value) → ¬ (Spells run v)
    no_value none (Truth true) = unlike (codes "true") not_true
    no_value none (Truth false) = unlike (codes "false") not_false
    no_value none (Number n) = none n

    number : (d s : Bool) → is_digits run ≡ d → nat_le (digits_value 10 run) most_read ≡ s → Means run (cond (d && s) (Ok (Number (digits_value 10 run))) (Err (record {})))
    number true true e f =
        let within : digits_value 10 run ≤ most_read = grind (arith, nat_tests) in
        (digits_in run (all_digits run e), some_digit run e, short_digits run e, refl, within)
    number true false e f = no_value (no_number true false e f refl)
    number false s e f = no_value (no_number false s e f refl)

  mean_by : (t u : Bool) → bytes_eq run (codes "true") ≡ t → bytes_eq run (codes "false") ≡ u → Means run (cond t (Ok (Truth true)) (cond u (Ok (Truth false)) (number_of run)))
  mean_by true u e f = (bytes_eq-Decides run (codes "true")).0 e
  mean_by false true e f = (bytes_eq-Decides run (codes "false")).0 f
  mean_by false false e f = number e f (is_digits run) (nat_le (digits_value 10 run) most_read) refl refl

means : (run : List ℕ) → Means run (item_of run)
means run = mean_by run (bytes_eq run (codes "true")) (bytes_eq run (codes "false")) refl refl

each_means : (rs : List (List ℕ)) → EachMeans rs (map item_of rs)
each_means [] = refl
each_means (r ∷ rs) = (means r, each_means rs)

pub reads : (text : List ℕ) → Reads text (items text)
reads text = record {
  runs = runs text;
  cuts = cuts text;
  alone = λ others cut. alone others text cut;
  mean = each_means (runs text);
}
