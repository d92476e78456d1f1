-- What a right answer to a source is, in the words of the language.
use Rattle.std.specs.Prelude.{◌≡◌, ℕ, ◌+◌, ◌<◌, ◌≤◌, ◌⊎◌, List, [], ◌∷◌, ◌++◌, length, Ok, Err, codes, Result, Vec}
use Rattle.std.specs.declared.alloc.Global.{Global}
use Rattle.refusals.specs.declared.failure.Failure.{Failure}
use Rattle.refusals.specs.declared.failure.Failure.TheVariants.{Refused, Memory}
use Rattle.tokens.specs.Bytes.{class}
use Rattle.tokens.specs.Faults.{number_of}
use Rattle.tokens.specs.Machine.{class_in}
use Rattle.tokens.specs.Pieces.{AllOf, Sort, blank, run, sign, colon, other, Piece, piece, bytes_of, next_class}
use Rattle.tokens.specs.Reading.{Meaning, gap, token, fault, Reading, read, refused, meaning, weight, most_bytes, most_tokens}
use Rattle.tokens.specs.Tokens.{Placed, placed}
use Rattle.tokens.specs.Words.{spelling}
use Rattle.tokens.specs.declared.class.Class.TheVariants as class-is
use Rattle.tokens.specs.declared.fault.Fault.{Fault}
use Rattle.tokens.specs.declared.fault.Fault.TheVariants.{SourceTooLong, TooManyTokens}
use Rattle.tokens.specs.declared.sign.Sign.TheVariants.{Equals}
use Rattle.tokens.specs.declared.token.Token.{Token}

-- the bytes form a piece of a sort
abbrev pub Forms : Sort → List ℕ → Type 0
Forms blank bs = (b : ℕ) × (bs ≡ b ∷ []) × (class b ≡ class-is.Blank)
Forms (run r) bs = (0 < length bs) × AllOf r bs
Forms (sign s) bs = bs ≡ spelling s
Forms colon bs = bs ≡ codes ":"
Forms other bs = (b : ℕ) × (bs ≡ b ∷ []) × (class b ≡ class-is.Other)

-- before these bytes a piece is as long as it can be: no run goes on, and no colon has its `=`
abbrev pub Ends : Sort → List ℕ → Type 0
Ends blank rest = Unit {0}
Ends (run r) rest = next_class rest ≡ class_in r → ⊥
Ends (sign s) rest = Unit {0}
Ends colon rest = next_class rest ≡ class-is.Sign Equals → ⊥
Ends other rest = Unit {0}

-- the pieces, one after the other, are the source; each is formed by the rules, and as long as it can be
abbrev pub Cuts : List Piece → List ℕ → Type 0
Cuts [] source = source ≡ []
Cuts (piece s bs ∷ ps) source = (rest : List ℕ) × (source ≡ bs ++ rest) × Forms s bs × Ends s rest × Cuts ps rest

-- what is wrong at a piece with so many tokens before it: its own fault, or that it is a token too many
abbrev pub Wrong : Meaning → ℕ → Fault → Type 0
Wrong gap count f = ⊥
Wrong (token k) count f = (count ≡ most_tokens) × (f ≡ TooManyTokens)
Wrong (fault g) count f = f ≡ g

-- f stands at q, the place of one of the pieces; the first is at `place`, with `count` tokens before it
abbrev pub Among : ℕ → ℕ → List Piece → Fault → ℕ → Type 0
Among count place [] f q = ⊥
Among count place (p ∷ ps) f q =
    ((q ≡ place) × Wrong (meaning p) count f) ⊎ Among (count + weight (meaning p)) (place + length (bytes_of p)) ps f q

-- the fault f stands at the place q of the source
abbrev pub Faulty : List ℕ → Fault → ℕ → Type 0
Faulty source f q =
    ((most_bytes < length source) × (f ≡ SourceTooLong) × (q ≡ 0)) ⊎ ((ps : List Piece) × Cuts ps source × Among 0 0 ps f q)

-- the tokens among the pieces, each with its place
abbrev pub told : Meaning → ℕ → List Placed → List Placed
told gap place ts = ts
told (token k) place ts = record { place = place; kind = k } ∷ ts
told (fault f) place ts = ts

abbrev pub tokens_in : ℕ → List Piece → List Placed
tokens_in place [] = []
tokens_in place (p ∷ ps) = told (meaning p) place (tokens_in (place + length (bytes_of p)) ps)

-- a source is cut in one way only
pub record Only (ps : List Piece) (source : List ℕ) : Type 0 where
  pub cuts : Cuts ps source
  pub alone : (qs : List Piece) → Cuts qs source → qs ≡ ps

-- tokens are the right answer if no fault stands anywhere, so that every piece is a blank or a token, and they are those tokens;
-- a refusal, if its fault stands at its place, and none stands earlier, or there with a lower number
abbrev pub Right : List ℕ → Reading → Type 0
Right source (read ts) =
    ((f : Fault) (q : ℕ) → Faulty source f q → ⊥) × ((ps : List Piece) × Only ps source × (ts ≡ tokens_in 0 ps))
Right source (refused f p) =
    Faulty source f p × ((g : Fault) (q : ℕ) → Faulty source g q → (p < q) ⊎ ((p ≡ q) × (number_of f ≤ number_of g)))

-- what the code answers is right; want of heap memory says nothing of the source
abbrev pub Lawful : List ℕ → Result (Vec Token Global) (Failure Fault) → Type 0
Lawful source (Ok v) = Right source (read (placed v))
Lawful source (Err (Refused x)) = Right source (refused x.fault x.place)
Lawful source (Err (Memory e)) = Unit {0}
