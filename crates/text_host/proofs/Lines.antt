-- Values as lines, and back.
use Rattle.std.proofs.Common.{◌≡◌, ℕ, ◌<◌, ◌≤◌, ◌==◌, Bool, true, false, cond, List, [], ◌∷◌, ◌++◌, length, map, codes, Ok, Err, Result, nat_le, sym, refl, ap, ◌∙◌, append_assoc, append-nil, arith}
use Rattle.std.proofs.lemmas.Bool.Decides.{nat_tests}
use Rattle.std.proofs.lemmas.Fmt.{decimal_is_IsNumeral, length-decimal-le}
use Rattle.std.proofs.lemmas.List.{length-append, map-append}
use Rattle.std.proofs.lemmas.List.Concat.{flat_map-append}
use Rattle.std.proofs.lemmas.Str.Parse.{digit_from_value}
use Rattle.std.specs.Fmt.{decimal}
use Rattle.std.specs.Str.{bytes_eq}
use Rattle.std.specs.Str.Parse.{AllDigits}
use Rattle.hosts.specs.Meaning.{judged, most_written}
use Rattle.hosts.specs.declared.exchange.Cause.{Cause}
use Rattle.hosts.specs.declared.exchange.Cause.TheVariants.{Large}
use Rattle.hosts.specs.declared.exchange.Value.{Value}
use Rattle.hosts.specs.declared.exchange.Value.TheVariants.{Truth, Number}
use Rattle.text_host.specs.Lines.{decoded, encoded, line_bytes, line_of, lines, longer, text_of, value_of}

-- no line feed
Plain : List ℕ → Type 0
Plain [] = Unit {0}
Plain (b ∷ bs) = ((b == 10) ≡ false) × Plain bs

plain_digit : (b : ℕ) → 48 ≤ b → (b == 10) ≡ false
plain_digit b digit = grind (arith, nat_tests)

plain_digits : (ds : List ℕ) → AllDigits 10 ds → Plain ds
unfolding Plain
plain_digits [] all = tt
plain_digits (d ∷ ds) all = (plain_digit d (digit_from_value d all.0).0, plain_digits ds all.1)

-- what can be written is not too large
small_if : (n : ℕ) (t : Bool) → nat_le n most_written ≡ t → ◌≡◌ {A = Result (Unit {0}) Cause} (cond t (Ok tt) (Err Large)) (Ok tt) → n ≤ most_written
small_if n true e is = grind (arith, nat_tests)
small_if n false e is = absurd (cc)

small : (n : ℕ) → judged (Number n) ≡ Ok tt → n ≤ most_written
small n could = small_if n (nat_le n most_written) refl could

plain_text : (v : Value) → judged v ≡ Ok tt → Plain (text_of v)
unfolding Plain
plain_text (Truth true) could = (refl, (refl, (refl, (refl, tt))))
plain_text (Truth false) could = (refl, (refl, (refl, (refl, (refl, tt)))))
plain_text (Number n) could = plain_digits (decimal n) (decimal_is_IsNumeral n (omega (arith, small n could))).0.1

pub line_short : (v : Value) → judged v ≡ Ok tt → length (line_of v) ≤ line_bytes
line_short (Truth true) could = omega arith
line_short (Truth false) could = omega arith
line_short (Number n) could =
    omega (arith, length-append (decimal n) (codes "\n"), length-decimal-le 10 n (omega arith) (omega (arith, small n could)) (omega (arith, small n could)))

-- the first byte of a numeral is that of no other line
other_text : (ds : List ℕ) → AllDigits 10 ds → 0 < length ds → (bytes_eq ds (codes "true") ≡ false) × (bytes_eq ds (codes "false") ≡ false)
other_text [] all some = absurd (omega arith)
other_text (d ∷ ds) all some =
    let digit : d ≤ 57 = (digit_from_value d all.0).1 in
    let not_t : (d == 116) ≡ false = grind (arith, nat_tests) in
    let not_f : (d == 102) ≡ false = grind (arith, nat_tests) in
    rw (not_t, not_f) (refl, refl)

value_back : (v : Value) → judged v ≡ Ok tt → value_of (text_of v) ≡ v
value_back (Truth true) could = refl
value_back (Truth false) could = refl
value_back (Number n) could =
    let is = decimal_is_IsNumeral n (omega (arith, small n could)) in
    let other = other_text (decimal n) is.0.1 is.0.0 in
    rw (other.0, other.1) (ap Number is.1)

longer_append : (b : ℕ) (ls ms : List (List ℕ)) → 0 < length ls → longer b (ls ++ ms) ≡ longer b ls ++ ms
longer_append b [] ms some = absurd (omega arith)
longer_append b (l ∷ ls) ms some = refl

some_longer : (b : ℕ) (ls : List (List ℕ)) → 0 < length ls → 0 < length (longer b ls)
some_longer b [] some = absurd (omega arith)
some_longer b (l ∷ ls) some = omega arith

some_line_at : (b : ℕ) (bs : List ℕ) (t : Bool) → 0 < length (lines bs) → 0 < length (cond t ([] ∷ lines bs) (longer b (lines bs)))
some_line_at b bs true some = omega arith
some_line_at b bs false some = some_longer b (lines bs) some

-- a text that ends with a line feed has a line
some_line : (bs : List ℕ) → 0 < length (lines (bs ++ 10 ∷ []))
some_line [] = omega arith
some_line (b ∷ bs) = some_line_at b (bs ++ 10 ∷ []) (b == 10) (some_line bs)

-- and its lines come before those of what is behind it
ended_at : (b : ℕ) (bs cs : List ℕ) (t : Bool) → (b == 10) ≡ t → lines (bs ++ 10 ∷ [] ++ cs) ≡ lines (bs ++ 10 ∷ []) ++ lines cs → lines (b ∷ (bs ++ 10 ∷ [] ++ cs)) ≡ lines (b ∷ (bs ++ 10 ∷ [])) ++ lines cs
ended_at b bs cs true e later = rw (e, later)
ended_at b bs cs false e later = rw (e, later) (longer_append b (lines (bs ++ 10 ∷ [])) (lines cs) (some_line bs))

ended : (bs cs : List ℕ) → lines (bs ++ 10 ∷ [] ++ cs) ≡ lines (bs ++ 10 ∷ []) ++ lines cs
ended [] cs = refl
ended (b ∷ bs) cs = ended_at b bs cs (b == 10) refl (ended bs cs)

-- a line is one
one_line : (bs : List ℕ) → Plain bs → lines (bs ++ 10 ∷ []) ≡ bs ∷ []
unfolding Plain
one_line [] plain = refl
one_line (b ∷ bs) plain = rw (plain.0, one_line bs plain.1)

-- decoding what was encoded gives the value back
pub line_back : (v : Value) → judged v ≡ Ok tt → decoded (line_of v) ≡ v ∷ []
line_back v could = ap (map value_of) (one_line (text_of v) (plain_text v could)) ∙ ap (λ w. w ∷ []) (value_back v could)

behind_lines : (vs : List Value) (cs : List ℕ) → lines (encoded vs ++ cs) ≡ lines (encoded vs) ++ lines cs
behind_lines [] cs = refl
behind_lines (v ∷ vs) cs =
    ap lines (append_assoc (line_of v) (encoded vs) cs) ∙ ended (text_of v) (encoded vs ++ cs) ∙ ap (λ ls. lines (line_of v) ++ ls) (behind_lines vs cs)
    ∙ sym (append_assoc (lines (line_of v)) (lines (encoded vs)) (lines cs)) ∙ ap (λ ls. ls ++ lines cs) (sym (ended (text_of v) (encoded vs)))

module _ (text : List ℕ) (whole : encoded (decoded text) ≡ text) (v : Value) (could : judged v ≡ Ok tt) where
  -- a line behind lines adds its value
  pub said_more : decoded (text ++ line_of v) ≡ decoded text ++ v ∷ []
  said_more =
      ap (λ t. decoded (t ++ line_of v)) (sym whole) ∙ ap (map value_of) (behind_lines (decoded text) (line_of v)) ∙ map-append value_of (lines (encoded (decoded text))) (lines (line_of v))
      ∙ ap (λ t. decoded t ++ decoded (line_of v)) whole ∙ ap (λ vs. decoded text ++ vs) (line_back v could)

  pub lines_more : encoded (decoded (text ++ line_of v)) ≡ text ++ line_of v
  lines_more =
      ap encoded said_more ∙ flat_map-append line_of (decoded text) (v ∷ []) ∙ ap (λ t. t ++ encoded (v ∷ [])) whole ∙ ap (λ t. text ++ t) (append-nil (line_of v))
