-- The judgement of the flat form: one pass over it, with a stack of modes.
use Rattle.std.specs.Prelude.{ℕ, List, [], ◌∷◌, Some, None}
use Rattle.grammar.specs.Tree.{Primitive, int, bool, Operator, Declared}
use Rattle.modes.specs.Declaring.{Verdict, lookup}
use Rattle.modes.specs.Judging.{Judgement, has, wrong, plain, named, suited, result_of, condition, assigning, reaching}
use Rattle.modes.specs.declared.fault.Fault.{Fault}
use Rattle.outline.specs.Code.{Op, load, push, push_truth, apply, target, refer, store, test, otherwise, join, head, enter, repeat, read, write}

-- a value or a target: the place of its step, and its mode
pub record Entry : Type 0 where
  pub place : ℕ
  pub refs : ℕ
  pub primitive : Primitive

-- the stack after a step, or what is wrong
pub data Step : Type 0 where
  gone : List Entry → Step
  halted : Fault → ℕ → Step

-- a value on top of the stack, with its references
abbrev pub onto : List Entry → ℕ → Judgement → Step
onto st p (has m) = gone (record { place = p; refs = m.refs; primitive = m.primitive } ∷ st)
onto st p (wrong f q) = halted f q

-- a value on top of the stack, its references followed
abbrev pub worked_out : List Entry → ℕ → Judgement → Step
worked_out st p (has m) = gone (record { place = p; refs = 0; primitive = m.primitive } ∷ st)
worked_out st p (wrong f q) = halted f q

-- the stack as it is, unless something is wrong
abbrev pub staying : List Entry → Verdict → Step
staying st None = gone st
staying st (Some x) = halted x.0 x.1

-- the stack as it is, where a name has a mode
abbrev pub known : List Entry → Judgement → Step
known st (has m) = gone st
known st (wrong f q) = halted f q

-- an operator takes its right operand and its left one; a stack that is too short, which no tree leads to, is emptied
abbrev pub applying : ℕ → Operator → List Entry → Step
applying p op [] = gone []
applying p op (r ∷ []) = gone []
applying p op (r ∷ (l ∷ st)) = onto st p (suited p (result_of op l.primitive r.primitive))

-- an assignment takes its value and its target
abbrev pub storing : List Entry → Step
storing [] = gone []
storing (v ∷ []) = gone []
storing (v ∷ (t ∷ st)) =
    staying st (assigning t.place t.primitive v.primitive (reaching t.place t.refs v.refs))

-- an `if` or a `while` takes its condition
abbrev pub testing : ℕ → List Entry → Step
testing p [] = gone []
testing p (v ∷ st) = staying st (condition p v.primitive)

-- an output takes its value
abbrev pub dropping : List Entry → Step
dropping [] = gone []
dropping (v ∷ st) = gone st

-- one step of the flat form
abbrev pub step : List Declared → List Entry → Op → Step
step ds st (load p n) = worked_out st p (named p (lookup ds n))
step ds st (push p n) = onto st p (has (plain int))
step ds st (push_truth p b) = onto st p (has (plain bool))
step ds st (apply p op) = applying p op st
step ds st (target p n) = onto st p (named p (lookup ds n))
step ds st (refer p n) = onto st p (named p (lookup ds n))
step ds st store = storing st
step ds st (test p) = testing p st
step ds st otherwise = gone st
step ds st join = gone st
step ds st (head p) = gone st
step ds st (enter p) = testing p st
step ds st repeat = gone st
step ds st (read p q n) = known st (named q (lookup ds n))
step ds st (write p) = dropping st

-- goes on with the stack, unless something is wrong
abbrev pub going : Step → (List Entry → Verdict) → Verdict
going (gone st) next = next st
going (halted f p) next = Some (f, p)

-- the first thing that is wrong with some steps, from a stack
abbrev pub flatly : List Declared → List Entry → List Op → Verdict
flatly ds st [] = None
flatly ds st (op ∷ ops) = going (step ds st op) (λ next. flatly ds next ops)
