-- What a right judgement is, in the words of the language.
use Rattle.std.specs.Prelude.{◌≡◌, ℕ, ◌<◌, ◌≤◌, true, ◌⊎◌, List, [], ◌∷◌, ◌++◌, length, Some, Ok, Err, Result}
use Rattle.grammar.specs.Bnf.{Derives}
use Rattle.grammar.specs.Law.{Viable}
use Rattle.grammar.specs.Machine.{State, go, opening}
use Rattle.grammar.specs.Tree.{Program}
use Rattle.parser.specs.Parsing.{deep, most_parts}
use Rattle.parser.specs.declared.fault.Fault.TheVariants.{NotAllowed, TooDeep, MemoryShort}
use Rattle.tokens.specs.Reading.{read, reading}
use Rattle.tokens.specs.Tokens.{Placed, placed}
use Rattle.sheet.specs.Correct.{Good, Shallow}
use Rattle.sheet.specs.declared.Sheet.{Sheet}
use Rattle.sheet.specs.declared.fault.Fault.{Fault}
use Rattle.sheet.specs.declared.fault.Fault.TheVariants.{Text, Grammar, Modes}
use Rattle.refusals.specs.declared.failure.Failure.{Failure}
use Rattle.refusals.specs.declared.failure.Failure.TheVariants.{Refused, Memory}

-- the source is read as tokens of a program that grammar, limits and modes allow
abbrev pub Passes : List ℕ → Type 0
Passes source = (ts : List Placed) × (p : Program) × (reading source ≡ read ts) × Good ts p

-- a token that is not allowed: what stands before it can be completed to a program, and with it that cannot;
-- or the source ends early: all of it can be completed, and it is no program
abbrev pub Misplaced : List Placed → ℕ → ℕ → Type 0
Misplaced ts end p =
    ((before : List Placed) × (t : Placed) × (after : List Placed) × (ts ≡ before ++ t ∷ after) × (p ≡ t.place) × Viable before × (Viable (before ++ t ∷ []) → ⊥)) ⊎ ((p ≡ end) × Viable ts × ((q : Program) → Derives q ts → ⊥))

-- a token too deep: up to it all is allowed and within the limits, and with it more is open than they allow
abbrev pub Nested : List Placed → ℕ → Type 0
Nested ts p =
    (before : List Placed) × (t : Placed) × (after : List Placed) × (s : State) × (ts ≡ before ++ t ∷ after) × (p ≡ t.place) × Shallow (Some opening) before × (go (Some opening) (before ++ t ∷ []) ≡ Some s) × (deep s ≡ true)

-- a refusal: too little memory, or else the source does not pass
abbrev pub Denied : ℕ → List ℕ → Fault → ℕ → Type 0
Denied memory source (Text f) p = (most_parts ≤ memory) × (Passes source → ⊥)
Denied memory source (Grammar NotAllowed) p = (most_parts ≤ memory) × (Passes source → ⊥) × ((ts : List Placed) → reading source ≡ read ts → Misplaced ts (length source) p)
Denied memory source (Grammar TooDeep) p = (most_parts ≤ memory) × (Passes source → ⊥) × ((ts : List Placed) → reading source ≡ read ts → Nested ts p)
Denied memory source (Grammar MemoryShort) p = (memory < most_parts) × (p ≡ 0)
Denied memory source (Modes f) p = (most_parts ≤ memory) × (Passes source → ⊥)

-- a passed sheet has the source's tokens, and the source passes; a refused source does not pass, and a refusal of the
-- second phase stands where the grammar or the limits are first broken
abbrev pub Lawful : ℕ → List ℕ → Result Sheet (Failure Fault) → Type 0
Lawful memory source (Ok s) = (most_parts ≤ memory) × (reading source ≡ read (placed s.tokens)) × Passes source
Lawful memory source (Err (Refused x)) = Denied memory source x.fault x.place
Lawful memory source (Err (Memory e)) = Unit {0}
