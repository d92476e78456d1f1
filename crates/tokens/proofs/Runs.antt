-- What is known of the bytes of a run.
use Rattle.std.proofs.Common.{◌≡◌, ℕ, zero, suc, ◌<◌, ◌^◌, List, [], ◌∷◌, ◌++◌, Ok, Err, Result, IsUtf8, IsAscii, MatchResult, arith, rules}
use Rattle.std.proofs.lemmas.Str.{IsUtf8-from_ascii}
use Rattle.std.proofs.lemmas.Str.Parse.{IsDigitsTest, IsNumeralModel, numerals_by_fold, parse_digits}
use Rattle.tokens.specs.Bytes.{class}
use Rattle.std.specs.Str.Parse.{ParsesUnsigned}
use Rattle.tokens.specs.Law.{Forms}
use Rattle.tokens.specs.Machine.{class_in}
use Rattle.tokens.specs.Pieces.{AllOf, run}
use Rattle.tokens.specs.Reading.{greatest, value, value_from}
use Rattle.tokens.specs.declared.reader.Run.{Run}
use Rattle.tokens.specs.declared.reader.Run.TheVariants.{Name, Word, Number}
use Rattle.tokens.proofs.Classes.{capital_byte, digit_byte, digit_class, small_byte}

ascii_byte : (r : Run) (b : ℕ) → class b ≡ class_in r → b < 128
ascii_byte Name b e = omega (arith, capital_byte b e)
ascii_byte Word b e = omega (arith, small_byte b e)
ascii_byte Number b e = omega (arith, digit_byte b e)

pub all_more : (r : Run) (bs : List ℕ) (b : ℕ) → AllOf r bs → class b ≡ class_in r → AllOf r (bs ++ b ∷ [])
all_more r [] b all e = (e, tt)
all_more r (c ∷ bs) b all e = (all.0, all_more r bs b all.1 e)

ascii_run : (r : Run) (bs : List ℕ) → AllOf r bs → IsAscii bs
ascii_run r [] all i = omega arith
ascii_run r (b ∷ bs) all zero = ascii_byte r b all.0
ascii_run r (b ∷ bs) all (suc i) = ascii_run r bs all.1 i

-- letters and digits are text
pub utf8_run : (r : Run) (bs : List ℕ) → AllOf r bs → IsUtf8 bs
utf8_run r bs all = IsUtf8-from_ascii bs (ascii_run r bs all)

-- digits, and the number that they represent, in the words of `parse`
digits : IsDigitsTest (AllOf Number)
digits = record {
  empty = tt;
  parts = λ c cs all. (digit_byte c all.0, all.1);
  more = λ c cs is all. (digit_class c is, all);
}

numerals : IsNumeralModel (AllOf Number) value
numerals = numerals_by_fold (AllOf Number) digits value_from (search rules)

-- what `parse` gives for digits: their number, unless that is too large
pub parsed : {E : Type 0} (bs : List ℕ) (r : Result ℕ E) → Forms (run Number) bs → ParsesUnsigned 32 10 bs r → MatchResult r (λ n. n ≡ value bs) (λ _. greatest < value bs)
parsed {E} bs (Ok n) form is = (parse_digits numerals {E = E} 32 bs (Ok n) is form.1).1
parsed {E} bs (Err e) form is =
    let large : value bs < 2 ^ 32 → ⊥ = λ small. parse_digits numerals {E = E} 32 bs (Err e) is form.1 (form.0, small) in omega arith
