-- How far declarations have been parsed.
use Rattle.std.specs.Prelude.{◌≡◌, ℕ, ◌+◌, ◌<◌, Bool, true, false, List, [], length, Some, None, Ok, Err, Option, Result}
use Rattle.grammar.specs.Machine.{State, between, inside, moding, naming, wanted}
use Rattle.grammar.specs.Tree as tree
use Rattle.outline.specs.Names.{names, primitive_of}
use Rattle.outline.specs.declared.declared.Declared.{Declared}
use Rattle.refusals.specs.declared.failure.Failure.{Failure}
use Rattle.refusals.specs.declared.failure.Failure.TheVariants.{Refused, Memory}
use Rattle.parser.specs.Looks.{Stays, left}
use Rattle.parser.specs.Parsing.{parse, refused}
use Rattle.parser.specs.declared.declaration.After.{After}
use Rattle.parser.specs.declared.declaration.After.TheVariants as after
use Rattle.parser.specs.declared.declaration.Mode.{Mode}
use Rattle.parser.specs.declared.declaration.ModeWord.{ModeWord}
use Rattle.parser.specs.declared.declaration.ModeWord.TheVariants as mode-word
use Rattle.parser.specs.declared.fault.Fault.{Fault}
use Rattle.parser.specs.declared.parser.Parser.{Parser}

-- the names that have been declared so far
abbrev pub declared : Parser Declared → List tree.Declared
declared p = names p.out

-- the state after a token of a mode
abbrev pub moded : List tree.Declared → ℕ → Option ModeWord → Option State
moded ds refs None = None
moded ds refs (Some mode-word.Ref) = Some (moding ds (refs + 1))
moded ds refs (Some (mode-word.Primitive m)) = Some (naming ds refs (primitive_of m))

-- at least one token has been taken
abbrev pub Further : {T : Type 0} → Parser T → Parser T → Type 0
Further was now = length (left now) < length (left was)

-- a whole mode, whatever has been declared
abbrev pub Modes : Parser Declared → Result Mode (Failure Fault) → Parser Declared → Type 0
Modes was (Ok m) now = Further was now × Stays was now × ((ds : List tree.Declared) → parse was.end (moding ds 0) (left was) ≡ parse was.end (naming ds m.refs (primitive_of m.primitive)) (left now))
Modes was (Err (Refused x)) now = (ds : List tree.Declared) → parse was.end (moding ds 0) (left was) ≡ refused x.fault x.place
Modes was (Err (Memory e)) now = Unit {0}

-- from a state to one behind it
abbrev pub Leads : State → Parser Declared → State → Parser Declared → Type 0
Leads s was n now = Further was now × (now.end ≡ was.end) × (parse was.end s (left was) ≡ parse was.end n (left now))

abbrev pub LeadsNot : State → Parser Declared → Failure Fault → Type 0
LeadsNot s was (Refused x) = parse was.end s (left was) ≡ refused x.fault x.place
LeadsNot s was (Memory e) = Unit {0}

-- the state behind a name and the sign after it
abbrev pub follows : List tree.Declared → Mode → After → State
follows ds m after.Comma = naming ds m.refs (primitive_of m.primitive)
follows ds m after.Semicolon = between ds

abbrev pub Names : Mode → Parser Declared → Result After (Failure Fault) → Parser Declared → Type 0
Names m was (Ok a) now = Leads (naming (declared was) m.refs (primitive_of m.primitive)) was (follows (declared now) m a) now
Names m was (Err e) now = LeadsNot (naming (declared was) m.refs (primitive_of m.primitive)) was e

abbrev pub Declares : State → (List tree.Declared → State) → Parser Declared → Result (Unit {0}) (Failure Fault) → Parser Declared → Type 0
Declares s to was (Ok _) now = Leads s was (to (declared now)) now
Declares s to was (Err e) now = LeadsNot s was e

-- behind a declaration: a token that begins a mode is as good as one at the beginning, any other as one of a statement
abbrev pub Moding : Parser Declared → Bool → Type 0
Moding p true = (end : ℕ) (ds : List tree.Declared) → parse end (between ds) (left p) ≡ parse end (moding ds 0) (left p)
Moding p false = (end : ℕ) (ds : List tree.Declared) → parse end (between ds) (left p) ≡ parse end (inside ds [] [] wanted) (left p)
