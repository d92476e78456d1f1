-- What a source reads as: its tokens with their places, or the one refusal.
use Rattle.std.specs.Prelude.{ℕ, ◌+◌, ◌-◌, ◌*◌, cond, ◌&&◌, List, [], ◌∷◌, length, Some, None, Option, nat_le, nat_lt}
use Rattle.tokens.specs.Pieces.{blank, run, sign, colon, other, Piece, piece, bytes_of, cut}
use Rattle.tokens.specs.Tokens.{Kind, Placed}
use Rattle.tokens.specs.Words.{word_of}
use Rattle.tokens.specs.declared.fault.Fault.{Fault}
use Rattle.tokens.specs.declared.fault.Fault.TheVariants.{SourceTooLong, NoToken, UnknownWord, NameTooLong, ConstantTooLarge, TooManyTokens}
use Rattle.tokens.specs.declared.reader.Run.TheVariants.{Name, Word, Number}
use Rattle.tokens.specs.declared.word.Word as words

-- the limits: bytes of a source, tokens, letters of a name, digits of a constant, and its value
abbrev pub most_bytes : ℕ
most_bytes = 8192

abbrev pub most_tokens : ℕ
most_tokens = 512

abbrev pub most_letters : ℕ
most_letters = 16

abbrev pub most_digits : ℕ
most_digits = 10

abbrev pub greatest : ℕ
greatest = 2147483647

-- the number that decimal digits, as bytes, go on to from n
abbrev pub value_from : ℕ → List ℕ → ℕ
value_from n [] = n
value_from n (b ∷ bs) = value_from (n * 10 + (b - 48)) bs

abbrev pub value : List ℕ → ℕ
value bs = value_from 0 bs

-- what a piece is by itself: a gap between tokens, a token, or a fault
pub data Meaning : Type 0 where
  gap : Meaning
  token : Kind → Meaning
  fault : Fault → Meaning

abbrev pub word_meaning : Option words.Word → Meaning
word_meaning None = fault UnknownWord
word_meaning (Some w) = token (Kind.word w)

abbrev pub meaning : Piece → Meaning
meaning (piece blank bs) = gap
meaning (piece (run Name) bs) = cond (nat_le (length bs) most_letters) (token (Kind.name bs)) (fault NameTooLong)
meaning (piece (run Word) bs) = word_meaning (word_of bs)
meaning (piece (run Number) bs) =
    cond (nat_le (length bs) most_digits && nat_le (value bs) greatest) (token (Kind.constant (value bs))) (fault ConstantTooLarge)
meaning (piece (sign s) bs) = token (Kind.sign s)
meaning (piece colon bs) = fault NoToken
meaning (piece other bs) = fault NoToken

-- how many tokens a piece is
abbrev pub weight : Meaning → ℕ
weight gap = 0
weight (token k) = 1
weight (fault f) = 0

pub data Reading : Type 0 where
  read : List Placed → Reading
  refused : Fault → ℕ → Reading

-- one token more at the front
abbrev pub before : Placed → Reading → Reading
before t (read ts) = read (t ∷ ts)
before t (refused f p) = refused f p

-- a piece at a place, with so many tokens before it, and what the rest reads as
abbrev pub meet : Meaning → ℕ → ℕ → Reading → Reading
meet gap count place rest = rest
meet (token k) count place rest = cond (nat_lt count most_tokens) (before (record { place = place; kind = k }) rest) (refused TooManyTokens place)
meet (fault f) count place rest = refused f place

-- the pieces from a place on, with so many tokens before them
abbrev pub walk : ℕ → ℕ → List Piece → Reading
walk count place [] = read []
walk count place (p ∷ ps) = meet (meaning p) count place (walk (count + weight (meaning p)) (place + length (bytes_of p)) ps)

abbrev pub reading : List ℕ → Reading
reading source = cond (nat_lt most_bytes (length source)) (refused SourceTooLong 0) (walk 0 0 (cut source))
