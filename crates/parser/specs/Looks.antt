-- What a parser still has to read, and what taking a token comes to.
use Rattle.std.specs.Prelude.{◌≡◌, ℕ, Bool, true, false, ◌==◌, List, [], ◌∷◌, map, Some, None, Ok, Err, Option, Result}
use Rattle.grammar.specs.Machine.{is_sign, is_word}
use Rattle.refusals.specs.declared.failure.Failure.{Failure}
use Rattle.refusals.specs.declared.failure.Failure.TheVariants.{Refused, Memory}
use Rattle.std.specs.Str.{bytes_eq}
use Rattle.tokens.specs.Tokens.{Kind, word, sign, name, constant, Placed, token_of}
use Rattle.tokens.specs.declared.sign.Sign as signs
use Rattle.tokens.specs.declared.token.Token.{Token}
use Rattle.parser.specs.declared.fault.Fault.{Fault}
use Rattle.parser.specs.declared.fault.Fault.TheVariants.{NotAllowed}
use Rattle.parser.specs.declared.parser.Parser.{Parser}

-- the tokens still to be read
abbrev pub left : {T : Type 0} → Parser T → List Placed
left p = map token_of p.rest.now

-- all but the tokens still to be read stays
abbrev pub Stays : {T : Type 0} → Parser T → Parser T → Type 0
Stays was now = (now.end ≡ was.end) × (now.out ≡ was.out)

-- the answer to the next token: it is taken, or the source ends early
abbrev pub Nexts : {T : Type 0} → Parser T → Result Token (Failure Fault) → Parser T → Type 0
Nexts was (Ok t) now = (left was ≡ token_of t ∷ left now) × Stays was now
Nexts was (Err (Refused x)) now = (left was ≡ []) × (x ≡ record { fault = NotAllowed; place = was.end })
Nexts was (Err (Memory e)) now = ⊥

-- a kind that is wanted, and a kind
abbrev pub is : Kind → Kind → Bool
is (word w) k = is_word w k
is (sign s) k = is_sign s k
is (name n) (word w) = false
is (name n) (sign s) = false
is (name n) (name m) = bytes_eq m n
is (name n) (constant c) = false
is (constant n) (word w) = false
is (constant n) (sign s) = false
is (constant n) (name m) = false
is (constant n) (constant m) = m == n

-- whether the first token is of a kind
abbrev pub first_is : Kind → List Placed → Bool
first_is k [] = false
first_is k (t ∷ ts) = is k t.kind

-- the place of the first token, or where the source ends
abbrev pub place_first : List Placed → ℕ → ℕ
place_first [] end = end
place_first (t ∷ ts) end = t.place

-- the answer where a kind of token is wanted: one is taken, or something else stands there
abbrev pub Expects : {T : Type 0} → Kind → Parser T → Result (Unit {0}) (Failure Fault) → Parser T → Type 0
Expects k was (Ok _) now = (t : Placed) × (left was ≡ t ∷ left now) × (is k t.kind ≡ true) × Stays was now
Expects k was (Err (Refused x)) now = (first_is k (left was) ≡ false) × (x ≡ record { fault = NotAllowed; place = place_first (left was) was.end })
Expects k was (Err (Memory e)) now = ⊥

-- the answer to a sign that may stand there: it is taken, and its place told, or nothing is
abbrev pub TakesSign : {T : Type 0} → signs.Sign → Parser T → Option ℕ → Parser T → Type 0
TakesSign s was (Some p) now = (t : Placed) × (left was ≡ t ∷ left now) × (is_sign s t.kind ≡ true) × (p ≡ t.place) × Stays was now
TakesSign s was None now = (first_is (sign s) (left was) ≡ false) × (now ≡ was)
