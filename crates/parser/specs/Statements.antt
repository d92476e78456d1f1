-- How far statements have been parsed: the facts that the parser's private functions hand to each other.
use Rattle.std.specs.Prelude.{◌≡◌, ℕ, ◌<◌, ◌≤◌, Bool, true, false, List, [], ◌∷◌, ◌++◌, map, length, Some, None, Ok, Err, Option, Result}
use Rattle.grammar.specs.Machine.{Part as machine-part, then_part, loop_part, Purpose, for_assign, for_choose, for_loop, for_output, State, fresh, inside, wanted, target, input_name, complete, operand}
use Rattle.grammar.specs.Tree.{Declared, Expr, Stmt}
use Rattle.refusals.specs.declared.failure.Failure.{Failure}
use Rattle.refusals.specs.declared.failure.Failure.TheVariants.{Refused, Memory}
use Rattle.tokens.specs.Tokens.{Kind, Placed, token_of}
use Rattle.std.specs.Borrow.{Bor}
use Rattle.tokens.specs.declared.token.Token.{Token}
use Rattle.tokens.specs.declared.word.Word as words
use Rattle.tokens.specs.declared.word.Word.TheVariants.{Then, Do}
use Rattle.outline.specs.Code.{Op, enter, flat, head, postfix, source, test}
use Rattle.outline.specs.declared.code.Instruction.{Instruction}
use Rattle.parser.specs.Looks.{Stays, left}
use Rattle.parser.specs.Parsing.{most_parts, parse, refused}
use Rattle.parser.specs.Progress.{Around, Fits, NoPlus, code, has, wants}
use Rattle.parser.specs.declared.fault.Fault.{Fault}
use Rattle.parser.specs.declared.parser.Parser.{Parser}
use Rattle.parser.specs.declared.statement.Opener.{Opener}
use Rattle.parser.specs.declared.statement.Opener.TheVariants as opener
use Rattle.parser.specs.declared.train.Part.{Part}
use Rattle.parser.specs.declared.train.Part.TheVariants as parts

-- the state after the first token of a statement, by what it opens
abbrev pub opened : List Declared → List machine-part → List Stmt → ℕ → Option Opener → Option State
opened ds parts before p None = None
opened ds parts before p (Some (opener.Name n)) = Some (inside ds parts before (target p n.now))
opened ds parts before p (Some opener.If) = Some (inside ds parts before (operand (for_choose p) fresh []))
opened ds parts before p (Some opener.While) = Some (inside ds parts before (operand (for_loop p) fresh []))
opened ds parts before p (Some opener.Input) = Some (inside ds parts before (input_name p))
opened ds parts before p (Some opener.Output) = Some (inside ds parts before (operand (for_output p) fresh []))

-- the word behind a condition, and the state after it
abbrev pub ender : Purpose → Option words.Word
ender (for_assign p n) = None
ender (for_choose p) = Some Then
ender (for_loop p) = Some Do
ender (for_output p) = None

abbrev pub entered : Around → Purpose → Expr → State
entered k (for_assign p n) e = has k fresh [] e
entered k (for_choose p) e = inside k.declared (then_part p e k.before ∷ k.parts) [] wanted
entered k (for_loop p) e = inside k.declared (loop_part p e k.before ∷ k.parts) [] wanted
entered k (for_output p) e = has k fresh [] e

-- a condition and the word behind it
pub record Entered (end : ℕ) (w : words.Word) (ts us : List Placed) (was now : List Op) : Type 0 where
  pub tree : Expr
  pub further : length us < length ts
  pub reads : (k : Around) → Fits k 16 [] → ender k.purpose ≡ Some w → parse end (wants k fresh []) ts ≡ parse end (entered k k.purpose tree) us
  pub code : now ≡ was ++ postfix tree

abbrev pub EnteredNot : ℕ → words.Word → List Placed → Failure Fault → Type 0
EnteredNot end w ts (Refused x) = (k : Around) → Fits k 16 [] → ender k.purpose ≡ Some w → parse end (wants k fresh []) ts ≡ refused x.fault x.place
EnteredNot end w ts (Memory e) = Unit {0}

abbrev pub Enters : words.Word → Parser Instruction → Result (Unit {0}) (Failure Fault) → Parser Instruction → Type 0
Enters w was (Ok _) now = (now.end ≡ was.end) × Entered was.end w (left was) (left now) (code was) (code now)
Enters w was (Err e) now = EnteredNot was.end w (left was) e

-- a state for every surrounding of a statement
abbrev pub Somewhere : Type 0
Somewhere = List Declared → List machine-part → List Stmt → State

-- from a point of a statement to its end, with no more parts open than the limit
pub record Ended (end : ℕ) (start : Somewhere) (ts us : List Placed) (was now : List Op) : Type 0 where
  pub statement : Stmt
  pub further : length us < length ts
  pub reads : (ds : List Declared) (parts : List machine-part) (before : List Stmt) → length parts ≤ most_parts → parse end (start ds parts before) ts ≡ parse end (inside ds parts before (complete statement)) us
  pub code : now ≡ was ++ flat statement

abbrev pub EndedNot : ℕ → Somewhere → List Placed → Failure Fault → Type 0
EndedNot end start ts (Refused x) = (ds : List Declared) (parts : List machine-part) (before : List Stmt) → length parts ≤ most_parts → parse end (start ds parts before) ts ≡ refused x.fault x.place
EndedNot end start ts (Memory e) = Unit {0}

abbrev pub EndsAs : Somewhere → Parser Instruction → Result (Unit {0}) (Failure Fault) → Parser Instruction → Type 0
EndsAs start was (Ok _) now = (now.end ≡ was.end) × Ended was.end start (left was) (left now) (code was) (code now)
EndsAs start was (Err e) now = EndedNot was.end start (left was) e

-- the first tokens of a statement: all of it, or the beginning of a part
pub record Parted (end opened : ℕ) (part : ℕ → Expr → List Stmt → machine-part) (lead : ℕ → Expr → List Op) (ts us : List Placed) (was now : List Op) : Type 0 where
  pub place : ℕ
  pub tree : Expr
  pub further : length us < length ts
  pub few : opened < most_parts
  pub reads : (ds : List Declared) (parts : List machine-part) (before : List Stmt) → length parts ≡ opened → parse end (inside ds parts before wanted) ts ≡ parse end (inside ds (part place tree before ∷ parts) [] wanted) us
  pub code : now ≡ was ++ lead place tree

abbrev pub choice_lead : ℕ → Expr → List Op
choice_lead p e = postfix e ++ test p ∷ []

abbrev pub loop_lead : ℕ → Expr → List Op
loop_lead p e = head p ∷ (postfix e ++ enter p ∷ [])

abbrev pub BeginsAs : ℕ → ℕ → List Placed → List Placed → List Op → List Op → Option Part → Type 0
BeginsAs end opened ts us was now None = Ended end (λ ds parts before. inside ds parts before wanted) ts us was now
BeginsAs end opened ts us was now (Some parts.Then) = Parted end opened then_part choice_lead ts us was now
BeginsAs end opened ts us was now (Some parts.Else) = ⊥
BeginsAs end opened ts us was now (Some parts.Loop) = Parted end opened loop_part loop_lead ts us was now

abbrev pub BeginsNot : ℕ → ℕ → List Placed → Failure Fault → Type 0
BeginsNot end opened ts (Refused x) = (ds : List Declared) (parts : List machine-part) (before : List Stmt) → length parts ≡ opened → length parts ≤ most_parts → parse end (inside ds parts before wanted) ts ≡ refused x.fault x.place
BeginsNot end opened ts (Memory e) = Unit {0}

abbrev pub Begins : ℕ → Parser Instruction → Result (Option Part) (Failure Fault) → Parser Instruction → Type 0
Begins opened was (Ok x) now = (now.end ≡ was.end) × BeginsAs was.end opened (left was) (left now) (code was) (code now) x
Begins opened was (Err e) now = BeginsNot was.end opened (left was) e

-- whether `*` or `+` stands first
abbrev pub NoOperator : List Token → Bool → Type 0
NoOperator ts true = NoPlus (map token_of ts) → ⊥
NoOperator ts false = NoPlus (map token_of ts)

-- a name that no `*` or `+` follows is taken; or there is none
abbrev pub TakesLone : Parser Instruction → Option (ℕ × Bor (List ℕ)) → Parser Instruction → Type 0
TakesLone was None now = ((p : ℕ) (n : List ℕ) (us : List Placed) → left was ≡ record { place = p; kind = Kind.name n } ∷ us → NoPlus us → ⊥) × (now ≡ was)
TakesLone was (Some x) now = (left was ≡ record { place = x.0; kind = Kind.name x.1.now } ∷ left now) × NoPlus (left now) × Stays was now

-- the right side of an assignment
pub record Sourced (end : ℕ) (ts us : List Placed) (was now : List Op) : Type 0 where
  pub tree : Expr
  pub further : length us < length ts
  pub reads : (k : Around) → Fits k 16 [] → parse end (wants k fresh []) ts ≡ parse end (has k fresh [] tree) us
  pub stops : NoPlus us
  pub code : now ≡ was ++ source tree

abbrev pub SourcedNot : ℕ → List Placed → Failure Fault → Type 0
SourcedNot end ts (Refused x) = (k : Around) → Fits k 16 [] → parse end (wants k fresh []) ts ≡ refused x.fault x.place
SourcedNot end ts (Memory e) = Unit {0}

abbrev pub Sources : Parser Instruction → Result (Unit {0}) (Failure Fault) → Parser Instruction → Type 0
Sources was (Ok _) now = (now.end ≡ was.end) × Sourced was.end (left was) (left now) (code was) (code now)
Sources was (Err e) now = SourcedNot was.end (left was) e

-- a part's condition up to the word behind it: from the state after its first token
pub record Headed (end : ℕ) (u : Purpose) (part : ℕ → Expr → List Stmt → machine-part) (lead : ℕ → Expr → List Op) (place : ℕ) (ts us : List Placed) (was now : List Op) : Type 0 where
  pub tree : Expr
  pub further : length us < length ts
  pub reads : (ds : List Declared) (parts : List machine-part) (before : List Stmt) → length parts < most_parts → parse end (inside ds parts before (operand u fresh [])) ts ≡ parse end (inside ds (part place tree before ∷ parts) [] wanted) us
  pub code : now ≡ was ++ lead place tree

abbrev pub HeadedNot : ℕ → Purpose → List Placed → Failure Fault → Type 0
HeadedNot end u ts (Refused x) = (ds : List Declared) (parts : List machine-part) (before : List Stmt) → length parts < most_parts → parse end (inside ds parts before (operand u fresh [])) ts ≡ refused x.fault x.place
HeadedNot end u ts (Memory e) = Unit {0}

abbrev pub Heads : Purpose → (ℕ → Expr → List Stmt → machine-part) → (ℕ → Expr → List Op) → ℕ → Parser Instruction → Result (Unit {0}) (Failure Fault) → Parser Instruction → Type 0
Heads u part lead place was (Ok _) now = (now.end ≡ was.end) × Headed was.end u part lead place (left was) (left now) (code was) (code now)
Heads u part lead place was (Err e) now = HeadedNot was.end u (left was) e
