-- A source cut into pieces: blanks, tokens, and bytes that are part of no token.
use Rattle.std.specs.Prelude.{◌≡◌, ℕ, Bool, true, false, List, [], ◌∷◌}
use Rattle.tokens.specs.Bytes.{class}
use Rattle.tokens.specs.Machine.{class_in, grows, completes}
use Rattle.tokens.specs.declared.class.Class.{Class}
use Rattle.tokens.specs.declared.class.Class.TheVariants.{Blank, Capital, Small, Digit, Sign, Colon, Other}
use Rattle.tokens.specs.declared.reader.Run.{Run}
use Rattle.tokens.specs.declared.reader.Run.TheVariants.{Name, Word, Number}
use Rattle.tokens.specs.declared.sign.Sign as signs
use Rattle.tokens.specs.declared.sign.Sign.TheVariants.{Becomes}

-- a blank byte; a run of capitals, small letters or digits; a sign; a colon without `=`; a byte of no other sort
pub data Sort : Type 0 where
  blank : Sort
  run : Run → Sort
  sign : signs.Sign → Sort
  colon : Sort
  other : Sort

-- a sort, and the bytes
pub data Piece : Type 0 where
  piece : Sort → List ℕ → Piece

abbrev pub bytes_of : Piece → List ℕ
bytes_of (piece s bs) = bs

-- each byte is one of a run's
abbrev pub AllOf : Run → List ℕ → Type 0
AllOf r [] = Unit {0}
AllOf r (b ∷ bs) = (class b ≡ class_in r) × AllOf r bs

-- the class of the next byte; the end of the source parts tokens as a blank does
abbrev pub next_class : List ℕ → Class
next_class [] = Blank
next_class (b ∷ bs) = class b

-- the byte joins the first piece, which is then of sort s
abbrev pub widen : Sort → ℕ → List Piece → List Piece
widen s b [] = piece s (b ∷ []) ∷ []
widen s b (piece t bs ∷ ps) = piece s (b ∷ bs) ∷ ps

-- the byte joins the first piece if it goes together with the next byte, and is a piece alone if not
abbrev pub join : Bool → Sort → Sort → ℕ → List Piece → List Piece
join true s alone b ps = widen s b ps
join false s alone b ps = piece alone (b ∷ []) ∷ ps

-- a byte of a class, before a byte of the class next, before the pieces that begin with that byte
abbrev pub attach : Class → Class → ℕ → List Piece → List Piece
attach Blank next b ps = piece blank (b ∷ []) ∷ ps
attach Capital next b ps = join (grows Name next) (run Name) (run Name) b ps
attach Small next b ps = join (grows Word next) (run Word) (run Word) b ps
attach Digit next b ps = join (grows Number next) (run Number) (run Number) b ps
attach (Sign s) next b ps = piece (sign s) (b ∷ []) ∷ ps
attach Colon next b ps = join (completes next) (sign Becomes) colon b ps
attach Other next b ps = piece other (b ∷ []) ∷ ps

abbrev pub cut : List ℕ → List Piece
cut [] = []
cut (b ∷ bs) = attach (class b) (next_class bs) b (cut bs)
