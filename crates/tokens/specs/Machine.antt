-- The token reader's moves: what it does at a byte is told by its state and the byte's class alone.
use Rattle.std.specs.Prelude.{ℕ, Bool, true, false, cond, Some, None, Ok, Err, Option, Result}
use Rattle.tokens.specs.declared.class.Class.{Class}
use Rattle.tokens.specs.declared.class.Class.TheVariants.{Blank, Capital, Small, Digit, Sign, Colon, Other}
use Rattle.tokens.specs.declared.sign.Sign as signs
use Rattle.tokens.specs.declared.sign.Sign.TheVariants.{Semicolon, Comma, Becomes, Plus, Star, Equals, Differs, Open, Close}
use Rattle.tokens.specs.declared.fault.Fault.{Fault}
use Rattle.tokens.specs.declared.fault.Fault.TheVariants.{NoToken}
use Rattle.tokens.specs.declared.reader.Run.{Run}
use Rattle.tokens.specs.declared.reader.Run.TheVariants as run
use Rattle.tokens.specs.declared.reader.State.{State}
use Rattle.tokens.specs.declared.reader.State.TheVariants.{Between, In, AfterColon}
use Rattle.tokens.specs.declared.reader.Step.{Step}

-- the class of the bytes of a run
abbrev pub class_in : Run → Class
class_in run.Name = Capital
class_in run.Word = Small
class_in run.Number = Digit

-- whether a byte of a class makes a run longer
abbrev pub grows : Run → Class → Bool
grows run.Name Blank = false
grows run.Name Capital = true
grows run.Name Small = false
grows run.Name Digit = false
grows run.Name (Sign s) = false
grows run.Name Colon = false
grows run.Name Other = false
grows run.Word Blank = false
grows run.Word Capital = false
grows run.Word Small = true
grows run.Word Digit = false
grows run.Word (Sign s) = false
grows run.Word Colon = false
grows run.Word Other = false
grows run.Number Blank = false
grows run.Number Capital = false
grows run.Number Small = false
grows run.Number Digit = true
grows run.Number (Sign s) = false
grows run.Number Colon = false
grows run.Number Other = false

-- whether a byte of a class completes the colon before it
abbrev pub completes : Class → Bool
completes Blank = false
completes Capital = false
completes Small = false
completes Digit = false
completes (Sign Semicolon) = false
completes (Sign Comma) = false
completes (Sign Becomes) = false
completes (Sign Plus) = false
completes (Sign Star) = false
completes (Sign Equals) = true
completes (Sign Differs) = false
completes (Sign Open) = false
completes (Sign Close) = false
completes Colon = false
completes Other = false

-- where no token is open: the state after a byte, and the sign that it completes, or its fault
abbrev pub begun : Class → State × Result (Option signs.Sign) Fault
begun Blank = (Between, Ok None)
begun Capital = (In run.Name, Ok None)
begun Small = (In run.Word, Ok None)
begun Digit = (In run.Number, Ok None)
begun (Sign s) = (Between, Ok (Some s))
begun Colon = (AfterColon, Ok None)
begun Other = (Between, Err NoToken)

abbrev pub state_after : State → Class → State
state_after Between c = (begun c).0
state_after (In r) c = cond (grows r c) (In r) (begun c).0
state_after AfterColon c = Between

-- the start moves to the byte unless that goes on with what is open
abbrev pub start_after : State → Class → ℕ → ℕ → ℕ
start_after Between c start at = at
start_after (In r) c start at = cond (grows r c) start at
start_after AfterColon c start at = start

abbrev pub step_at : State → Class → Step
step_at Between c = record { ended = None; found = (begun c).1 }
step_at (In r) c = cond (grows r c) (record { ended = None; found = Ok None }) (record { ended = Some r; found = (begun c).1 })
step_at AfterColon c = record { ended = None; found = cond (completes c) (Ok (Some Becomes)) (Err NoToken) }
