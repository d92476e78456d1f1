-- How far a reading has come: the facts that the reader's private functions hand to each other.
use Rattle.std.specs.Prelude.{◌≡◌, ℕ, ◌+◌, ◌<◌, ◌≤◌, List, [], ◌∷◌, ◌++◌, length, drop, Some, None, Ok, Err, Option, Result}
use Rattle.std.specs.List.{between}
use Rattle.refusals.specs.declared.failure.Failure.{Failure}
use Rattle.refusals.specs.declared.failure.Failure.TheVariants.{Refused, Memory}
use Rattle.tokens.specs.Bytes.{class}
use Rattle.tokens.specs.Law.{Forms}
use Rattle.tokens.specs.Pieces.{AllOf, piece, run, cut}
use Rattle.tokens.specs.Reading.{Meaning, gap, token, fault, weight, Reading, refused, before, meaning, meet, walk}
use Rattle.tokens.specs.Tokens.{Kind, Placed, kind_of}
use Rattle.tokens.specs.declared.class.Class.TheVariants.{Colon}
use Rattle.tokens.specs.declared.fault.Fault.{Fault}
use Rattle.tokens.specs.declared.reader.Reader.{Reader}
use Rattle.tokens.specs.declared.reader.Run.{Run}
use Rattle.tokens.specs.declared.reader.State.{State}
use Rattle.tokens.specs.declared.reader.State.TheVariants.{Between, In, AfterColon}
use Rattle.tokens.specs.declared.sign.Sign.{Sign}
use Rattle.tokens.specs.declared.token.TokenKind.{TokenKind}

-- the tokens read so far, before what the rest reads as
abbrev pub resume : List Placed → Reading → Reading
resume [] rest = rest
resume (t ∷ ts) rest = before t (resume ts rest)

abbrev pub kind_meaning : Result TokenKind Fault → Meaning
kind_meaning (Ok k) = token (kind_of k)
kind_meaning (Err f) = fault f

-- what a byte completes: nothing, a sign, or no token at all
abbrev pub found_meaning : Result (Option Sign) Fault → Meaning
found_meaning (Ok None) = gap
found_meaning (Ok (Some s)) = token (Kind.sign s)
found_meaning (Err f) = fault f

-- what has ended before a byte: no run, or one of these bytes
abbrev pub ended_meaning : Option Run → List ℕ → Meaning
ended_meaning None bs = gap
ended_meaning (Some r) bs = meaning (piece (run r) bs)

-- the bytes of a run that has ended, from start up to at
abbrev pub Pending : Option Run → List ℕ → ℕ → ℕ → Type 0
Pending None source start at = Unit {0}
Pending (Some r) source start at = (start ≤ at) × (at ≤ length source) × Forms (run r) (between start at source)

-- from the tokens ts, the answer to something of this meaning at a place, and the tokens us after it
abbrev pub Takes : List Placed → Meaning → ℕ → Result (Unit {0}) (Failure Fault) → List Placed → Type 0
Takes ts m place (Ok _) us = ((rest : Reading) → resume ts (meet m (length ts) place rest) ≡ resume us rest) × (length us ≡ length ts + weight m)
Takes ts m place (Err (Refused x)) us = (rest : Reading) → meet m (length ts) place rest ≡ refused x.fault x.place
Takes ts m place (Err (Memory e)) us = Unit {0}

-- where what has not been told of yet begins
abbrev pub untold : State → ℕ → ℕ → ℕ
untold Between start at = at
untold (In r) start at = start
untold AfterColon start at = start

-- what is open at a byte: nothing, the bytes of a run so far, or a colon
abbrev pub Open : State → ℕ → ℕ → List ℕ → Type 0
Open Between start at source = Unit {0}
Open (In r) start at source =
    (bs : List ℕ) × (drop start source ≡ bs ++ drop at source) × AllOf r bs × (0 < length bs) × (start + length bs ≡ at)
Open AfterColon start at source = (b : ℕ) × (drop start source ≡ b ∷ drop at source) × (class b ≡ Colon) × (start + 1 ≡ at)

-- the reader stands before the byte at `at`, with the tokens ts told: with what the rest reads as, they are what the whole reads as
pub record Stands (source : List ℕ) (ts : List Placed) (reader : Reader) (at : ℕ) : Type 0 where
  pub opened : Open reader.state reader.start at source
  pub told : resume ts (walk (length ts) (untold reader.state reader.start at) (cut (drop (untold reader.state reader.start at) source))) ≡ walk 0 0 (cut source)

-- the answer to a byte at `at`
abbrev pub Moves : List ℕ → ℕ → Result (Unit {0}) (Failure Fault) → List Placed → Reader → Type 0
Moves source at (Ok _) ts reader = Stands source ts reader (at + 1)
Moves source at (Err (Refused x)) ts reader = walk 0 0 (cut source) ≡ refused x.fault x.place
Moves source at (Err (Memory e)) ts reader = Unit {0}
