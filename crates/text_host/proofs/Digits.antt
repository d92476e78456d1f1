-- Digits as text, and the number that they represent.
use Rattle.std.proofs.Common.{◌≡◌, ℕ, ◌<◌, ◌≤◌, ◌^◌, Bool, true, false, ◌&&◌, nat_lt, nat_le, refl, List, length, Ok, Err, Result, IsUtf8, MatchResult, arith, rules}
use Rattle.std.proofs.lemmas.Bool.Decides.{nat_tests}
use Rattle.std.proofs.lemmas.Str.Parse.{IsDigitsTest, IsNumeralModel, numerals_by_value, parse_digits}
use Rattle.std.proofs.lemmas.Str.{IsUtf8-from_ascii}
use Rattle.std.proofs.lemmas.Fmt.{IsAscii-from_digits}
use Rattle.std.specs.Char.{is_ascii_digit}
use Rattle.std.specs.List.{list_all}
use Rattle.std.specs.Str.Parse.{ParsesUnsigned, digits_value}
use Rattle.text_host.specs.Items.{is_digits, most_digits, number_of}
use Rattle.hosts.specs.Meaning.{most_read}

abbrev pub Digits : List ℕ → Type 0
Digits ds = list_all is_ascii_digit ds ≡ true

pub tells : IsDigitsTest Digits
tells = search rules

numerals : IsNumeralModel Digits (digits_value 10)
numerals = numerals_by_value Digits tells

pub utf8_digits : (ds : List ℕ) → Digits ds → IsUtf8 ds
utf8_digits ds all = IsUtf8-from_ascii ds (IsAscii-from_digits ds (numerals.to ds all))

-- what `parse` gives for digits: their number, unless that is too large
pub parsed : {E : Type 0} (ds : List ℕ) (r : Result ℕ E) → Digits ds → 0 < length ds → ParsesUnsigned 32 10 ds r → MatchResult r (λ n. n ≡ digits_value 10 ds) (λ _. 2 ^ 32 ≤ digits_value 10 ds)
parsed {E} ds (Ok n) all some is = (parse_digits numerals {E = E} 32 ds (Ok n) is all).1
parsed {E} ds (Err e) all some is =
    let large : digits_value 10 ds < 2 ^ 32 → ⊥ = λ small. parse_digits numerals {E = E} 32 ds (Err e) is all (some, small) in omega arith

-- the parts of `is_digits`
both : (a b : Bool) → (a && b) ≡ true → (a ≡ true) × (b ≡ true)
both true true e = (refl, refl)
both true false e = absurd (cc)
both false b e = absurd (cc)

pub all_digits : (ds : List ℕ) → is_digits ds ≡ true → Digits ds
all_digits ds e = (both (nat_lt 0 (length ds) && nat_le (length ds) most_digits) (list_all is_ascii_digit ds) e).1

pub some_digit : (ds : List ℕ) → is_digits ds ≡ true → 0 < length ds
some_digit ds e =
    let some = both (nat_lt 0 (length ds)) (nat_le (length ds) most_digits) (both (nat_lt 0 (length ds) && nat_le (length ds) most_digits) (list_all is_ascii_digit ds) e).0 in
    grind (arith, nat_tests, some)

pub short_digits : (ds : List ℕ) → is_digits ds ≡ true → length ds ≤ most_digits
short_digits ds e =
    let short = both (nat_lt 0 (length ds)) (nat_le (length ds) most_digits) (both (nat_lt 0 (length ds) && nat_le (length ds) most_digits) (list_all is_ascii_digit ds) e).0 in
    grind (arith, nat_tests, short)

pub is_digits_of : (ds : List ℕ) → Digits ds → 0 < length ds → length ds ≤ most_digits → is_digits ds ≡ true
is_digits_of ds all some short =
    let more : nat_lt 0 (length ds) ≡ true = grind (arith, nat_tests) in
    let fits : nat_le (length ds) most_digits ≡ true = grind (arith, nat_tests) in
    rw (more, fits, all)

no_number : (ds : List ℕ) (t : Bool) → nat_le (digits_value 10 ds) most_read ≡ t → is_digits ds ≡ true → most_read < digits_value 10 ds → Err (record {}) ≡ number_of ds
no_number ds true e digits large = let small : digits_value 10 ds ≤ most_read = grind (arith, nat_tests) in absurd (omega arith)
no_number ds false e digits large = rw (digits, e)

-- digits that `parse` does not take
pub too_large : (ds : List ℕ) → is_digits ds ≡ true → 2 ^ 32 ≤ digits_value 10 ds → Err (record {}) ≡ number_of ds
too_large ds digits large = no_number ds (nat_le (digits_value 10 ds) most_read) refl digits (omega arith)
