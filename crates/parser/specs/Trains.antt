-- How far a train of statements has been parsed, with its open parts on a stack.
use Rattle.std.specs.Prelude.{◌≡◌, ℕ, ◌<◌, ◌≤◌, List, [], ◌∷◌, ◌++◌, map, length, Some, None, Ok, Err, Option, Result}
use Rattle.grammar.specs.Machine as machine
use Rattle.grammar.specs.Machine.{State, then_part, else_part, loop_part, inside, finished, wanted, complete, turn_else, close_then, close_loop}
use Rattle.grammar.specs.Tree.{Declared, Stmt, Train}
use Rattle.outline.specs.Code.{Op, enter, flat, flats, head, otherwise, postfix, test}
use Rattle.outline.specs.declared.code.Instruction.{Instruction}
use Rattle.refusals.specs.declared.failure.Failure.{Failure}
use Rattle.refusals.specs.declared.failure.Failure.TheVariants.{Refused, Memory}
use Rattle.tokens.specs.Tokens.{Placed}
use Rattle.parser.specs.Looks.{left}
use Rattle.parser.specs.Parsing.{Verdict, most_parts, parse, passed, refused}
use Rattle.parser.specs.Parts.{opened}
use Rattle.parser.specs.Progress.{code}
use Rattle.parser.specs.declared.fault.Fault.{Fault}
use Rattle.parser.specs.declared.parser.Parser.{Parser}
use Rattle.parser.specs.declared.parts.OpenParts.{OpenParts}
use Rattle.parser.specs.declared.train.Closer.{Closer}
use Rattle.parser.specs.declared.train.Closer.TheVariants as closer
use Rattle.parser.specs.declared.train.Ending.{Ending}
use Rattle.parser.specs.declared.train.Ending.TheVariants as ending
use Rattle.parser.specs.declared.train.Part.{Part}
use Rattle.parser.specs.declared.train.Part.TheVariants.{Then, Else, Loop}
use Rattle.parser.specs.declared.train.Progress.{Progress}
use Rattle.parser.specs.declared.train.Progress.TheVariants as progress

-- what an open part is on the stack
abbrev pub kind_of_part : machine.Part → Part
kind_of_part (then_part p e outer) = Then
kind_of_part (else_part p e t outer) = Else
kind_of_part (loop_part p e outer) = Loop

-- the code of some statements, and of all that stands before the hole
abbrev pub flat_list : List Stmt → List Op
flat_list [] = []
flat_list (s ∷ ss) = flat s ++ flat_list ss

abbrev pub sofar : List machine.Part → List Op
sofar [] = []
sofar (then_part p e outer ∷ ps) = (sofar ps ++ flat_list outer) ++ (postfix e ++ test p ∷ [])
sofar (else_part p e t outer ∷ ps) = (sofar ps ++ flat_list outer) ++ (postfix e ++ (test p ∷ (flats t ++ otherwise ∷ [])))
sofar (loop_part p e outer ∷ ps) = (sofar ps ++ flat_list outer) ++ (head p ∷ (postfix e ++ enter p ∷ []))

abbrev pub emitted : List machine.Part → List Stmt → List Op
emitted parts before = sofar parts ++ flat_list before

-- the state after the token behind a statement, by what it closes
abbrev pub closed_by : List Declared → List machine.Part → List Stmt → Stmt → Option Closer → Option State
closed_by ds parts before s None = None
closed_by ds parts before s (Some closer.Semicolon) = Some (inside ds parts (before ++ s ∷ []) wanted)
closed_by ds parts before s (Some closer.Else) = turn_else ds parts before parts s
closed_by ds parts before s (Some closer.Fi) = close_then ds parts before parts s
closed_by ds parts before s (Some closer.End) = close_loop ds parts before parts s

-- what is done with the innermost part, if there is one
abbrev pub decide : Option Closer → Option Part → Option Ending
decide None p = None
decide (Some closer.Semicolon) p = Some ending.Next
decide (Some closer.Else) None = None
decide (Some closer.Else) (Some Then) = Some ending.Turn
decide (Some closer.Else) (Some Else) = None
decide (Some closer.Else) (Some Loop) = None
decide (Some closer.Fi) None = None
decide (Some closer.Fi) (Some Then) = Some ending.Join
decide (Some closer.Fi) (Some Else) = Some ending.Join
decide (Some closer.Fi) (Some Loop) = None
decide (Some closer.End) None = Some ending.Finish
decide (Some closer.End) (Some Then) = None
decide (Some closer.End) (Some Else) = None
decide (Some closer.End) (Some Loop) = Some ending.Repeat

-- where the parser stands, and that from there on the tokens parse as all of them do
pub record WantedAt (all : Verdict) (end : ℕ) (ds : List Declared) (ts : List Placed) (stack : List Part) (now : List Op) : Type 0 where
  pub parts : List machine.Part
  pub before : List Stmt
  pub stacked : stack ≡ map kind_of_part parts
  pub few : length parts ≤ most_parts
  pub code : now ≡ emitted parts before
  pub same : all ≡ parse end (inside ds parts before wanted) ts

pub record CompleteAt (all : Verdict) (end : ℕ) (ds : List Declared) (ts : List Placed) (stack : List Part) (now : List Op) : Type 0 where
  pub parts : List machine.Part
  pub before : List Stmt
  pub statement : Stmt
  pub stacked : stack ≡ map kind_of_part parts
  pub few : length parts ≤ most_parts
  pub code : now ≡ emitted parts before ++ flat statement
  pub same : all ≡ parse end (inside ds parts before (complete statement)) ts

pub record FinishedAt (all : Verdict) (end : ℕ) (ds : List Declared) (ts : List Placed) (now : List Op) : Type 0 where
  pub body : Train
  pub code : now ≡ flats body
  pub same : all ≡ parse end (finished ds body) ts

abbrev pub Stands : Verdict → ℕ → List Declared → List Placed → Progress → List Part → List Op → Type 0
Stands all end ds ts progress.Wanted stack now = WantedAt all end ds ts stack now
Stands all end ds ts progress.Complete stack now = CompleteAt all end ds ts stack now
Stands all end ds ts progress.Finished stack now = FinishedAt all end ds ts now

-- the same of a parser and its open parts
abbrev pub At : Verdict → List Declared → Progress → Parser Instruction → OpenParts → Type 0
At all ds g p parts = Stands all p.end ds (left p) g (opened parts) (code p)

-- one step further, or refused
abbrev pub Moves : Verdict → List Declared → Result Progress (Failure Fault) → Parser Instruction → OpenParts → Type 0
Moves all ds (Ok g) p parts = At all ds g p parts
Moves all ds (Err (Refused x)) p parts = all ≡ refused x.fault x.place
Moves all ds (Err (Memory e)) p parts = Unit {0}

-- at least one token has been taken
abbrev pub Further : Parser Instruction → Result Progress (Failure Fault) → Parser Instruction → Type 0
Further was (Ok g) now = length (left now) < length (left was)
Further was (Err e) now = Unit {0}

-- from wherever the parser may stand
abbrev pub Leads : Progress → Parser Instruction → OpenParts → Result Progress (Failure Fault) → Parser Instruction → OpenParts → Type 0
Leads g was parts r now parts' = (all : Verdict) (ds : List Declared) → At all ds g was parts → Moves all ds r now parts'

-- all statements up to the end of the tokens
abbrev pub Ended : Verdict → List Declared → Result (Unit {0}) (Failure Fault) → List Op → Type 0
Ended all ds (Ok u) now = (body : Train) × (all ≡ passed (record { declared = ds; body = body })) × (now ≡ flats body)
Ended all ds (Err (Refused x)) now = all ≡ refused x.fault x.place
Ended all ds (Err (Memory e)) now = Unit {0}

abbrev pub Whole : Parser Instruction → OpenParts → Result (Unit {0}) (Failure Fault) → Parser Instruction → Type 0
Whole was parts r now = (all : Verdict) (ds : List Declared) → At all ds progress.Wanted was parts → Ended all ds r (code now)

-- the same from where the program is finished
abbrev pub Ends : Parser Instruction → Result (Unit {0}) (Failure Fault) → Type 0
Ends p r = (all : Verdict) (ds : List Declared) → FinishedAt all p.end ds (left p) (code p) → Ended all ds r (code p)
