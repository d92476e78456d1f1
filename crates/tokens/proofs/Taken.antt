-- What taking one byte comes to: a run that has ended is told first, then what the byte completes itself.
use Rattle.std.proofs.Common.{◌≡◌, ℕ, ◌+◌, ◌≤◌, List, length, drop, Ok, Err, Result, sym, ap, ◌∙◌}
use Rattle.std.specs.List.{between}
use Rattle.refusals.specs.declared.failure.Failure.{Failure}
use Rattle.refusals.specs.declared.failure.Failure.TheVariants.{Refused, Memory}
use Rattle.tokens.specs.Machine.{state_after, start_after, step_at}
use Rattle.tokens.specs.Pieces.{cut, next_class}
use Rattle.tokens.specs.Progress.{Moves, Stands, Takes, ended_meaning, found_meaning, resume, untold}
use Rattle.tokens.specs.Reading.{meet, walk, weight}
use Rattle.tokens.specs.Tokens.{Placed}
use Rattle.tokens.specs.declared.class.Class.{Class}
use Rattle.tokens.specs.declared.fault.Fault.{Fault}
use Rattle.tokens.specs.declared.reader.Reader.{Reader}
use Rattle.tokens.specs.declared.reader.Step.{Step}
use Rattle.tokens.proofs.Resumed.{resume_refused}
use Rattle.tokens.proofs.Steps.{Moved, moved}

-- the reader as it was and as it is, and the step it has told
pub record Advanced (source : List ℕ) (ts : List Placed) (was is : Reader) (at : ℕ) (c : Class) (step : Step) : Type 0 where
  pub stood : Stands source ts was at
  pub within : at ≤ length source
  pub next : c ≡ next_class (drop at source)
  pub state : is.state ≡ state_after was.state c
  pub start : is.start ≡ start_after was.state c was.start at
  pub told : step ≡ step_at was.state c

module _ {source : List ℕ} {ts : List Placed} {was is : Reader} {at : ℕ} {c : Class} {step : Step} (a : Advanced source ts was is at c step) where
  pub move : Moved source (length ts) (untold was.state was.start at) was.start at step.ended step.found is.state is.start
  move = rw (a.state, a.start, a.told) (moved source (length ts) at was.state was.start c a.stood.opened a.within a.next)

  pub run_refused : (e : Failure Fault) (us vs : List Placed) → Takes ts (ended_meaning step.ended (between was.start at source)) was.start (Err e) us → Moves source at (Err e) vs is
  run_refused (Refused x) us vs takes =
      sym a.stood.told ∙ ap (resume ts) (move.same ∙ takes _) ∙ resume_refused ts x.fault x.place
  run_refused (Memory e) us vs takes = tt

  -- the run that has ended, if one has, is told
  module _ (us : List Placed) (first : Takes ts (ended_meaning step.ended (between was.start at source)) was.start (Ok tt) us) where
    carried : resume us (meet (found_meaning step.found) (length us) is.start (walk (length us + weight (found_meaning step.found)) (untold is.state is.start (at + 1)) (cut (drop (untold is.state is.start (at + 1)) source)))) ≡ walk 0 0 (cut source)
    carried =
        ap (λ n. resume us (meet (found_meaning step.found) n is.start (walk (n + weight (found_meaning step.found)) (untold is.state is.start (at + 1)) (cut (drop (untold is.state is.start (at + 1)) source))))) first.1 ∙ sym (first.0 _) ∙ ap (resume ts) (sym move.same) ∙ a.stood.told

    pub settled : (r : Result (Unit {0}) (Failure Fault)) (vs : List Placed) → Takes us (found_meaning step.found) is.start r vs → Moves source at r vs is
    settled (Ok u) vs takes = record {
      opened = move.opened;
      told = ap (λ n. resume vs (walk n (untold is.state is.start (at + 1)) (cut (drop (untold is.state is.start (at + 1)) source)))) takes.1 ∙ sym (takes.0 _) ∙ carried;
    }
    settled (Err (Refused x)) vs takes = sym carried ∙ ap (resume us) (takes _) ∙ resume_refused us x.fault x.place
    settled (Err (Memory e)) vs takes = tt
