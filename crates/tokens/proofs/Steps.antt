-- What one byte does to a reading: the reader's step, held to what the rest of the source reads as.
use Rattle.std.proofs.Common.{◌≡◌, ℕ, ◌+◌, ◌-◌, ◌<◌, ◌≤◌, Bool, true, false, cond, List, [], ◌∷◌, ◌++◌, length, take, drop, Some, None, Ok, Err, Option, Result, sym, refl, ap, ◌∙◌, subst, append_assoc, add-zero, arith, length-append}
use Rattle.std.specs.List.{between}
use Rattle.std.proofs.lemmas.List.{drop-drop, take_at}
use Rattle.tokens.specs.Bytes.{class}
use Rattle.tokens.specs.Law.{Forms}
use Rattle.tokens.specs.Machine.{class_in, grows, completes, begun, state_after, start_after, step_at}
use Rattle.tokens.specs.Pieces.{AllOf, Piece, piece, run, sign, colon, join, attach, cut, next_class}
use Rattle.tokens.specs.Progress.{Open, Pending, untold, found_meaning, ended_meaning}
use Rattle.tokens.specs.Reading.{meaning, weight, meet, walk}
use Rattle.tokens.specs.declared.class.Class.{Class}
use Rattle.tokens.specs.declared.class.Class.TheVariants.{Blank, Capital, Small, Digit, Sign, Colon, Other}
use Rattle.tokens.specs.declared.fault.Fault.{Fault}
use Rattle.tokens.specs.declared.fault.Fault.TheVariants.{NoToken}
use Rattle.tokens.specs.declared.reader.Run.{Run}
use Rattle.tokens.specs.declared.reader.Run.TheVariants.{Name, Word, Number}
use Rattle.tokens.specs.declared.reader.State.{State}
use Rattle.tokens.specs.declared.reader.State.TheVariants.{Between, In, AfterColon}
use Rattle.tokens.specs.declared.reader.Step.{Step}
use Rattle.tokens.specs.declared.sign.Sign as signs
use Rattle.tokens.specs.declared.sign.Sign.TheVariants.{Becomes, Equals}
use Rattle.tokens.proofs.Runs.{all_more}

drop_next : (source : List ℕ) (at b : ℕ) (bs : List ℕ) → drop at source ≡ b ∷ bs → drop (at + 1) source ≡ bs
drop_next source at b bs e = sym (drop-drop 1 at source) ∙ ap (drop 1) e

drop_end : (source : List ℕ) (at : ℕ) → drop at source ≡ [] → drop (at + 1) source ≡ []
drop_end source at e = sym (drop-drop 1 at source) ∙ ap (drop 1) e

pub cut_first : (b : ℕ) (bs : List ℕ) (c : Class) → class b ≡ c → cut (b ∷ bs) ≡ attach c (next_class bs) b (cut bs)
cut_first b bs c e = ap (λ x. attach x (next_class bs) b (cut bs)) e

-- the reading from a place, and the step of the reader that leads on from there
pub record Moved (source : List ℕ) (n u start at : ℕ) (ended : Option Run) (met : Result (Option signs.Sign) Fault) (state : State) (next : ℕ) : Type 0 where
  pub same : walk n u (cut (drop u source)) ≡ meet (ended_meaning ended (between start at source)) n start (meet (found_meaning met) (n + weight (ended_meaning ended (between start at source))) next (walk (n + weight (ended_meaning ended (between start at source)) + weight (found_meaning met)) (untold state next (at + 1)) (cut (drop (untold state next (at + 1)) source))))
  pub opened : Open state next (at + 1) source
  pub pending : Pending ended source start at

-- where no token is open
record Begun (source : List ℕ) (n at : ℕ) (c : Class) : Type 0 where
  same : walk n at (cut (drop at source)) ≡ meet (found_meaning (begun c).1) n at (walk (n + weight (found_meaning (begun c).1)) (untold (begun c).0 at (at + 1)) (cut (drop (untold (begun c).0 at (at + 1)) source)))
  opened : Open (begun c).0 at (at + 1) source

module _ (source : List ℕ) (n at b : ℕ) (bs : List ℕ) (here : drop at source ≡ b ∷ bs) where
  opens_run : (r : Run) → class b ≡ class_in r → Open (In r) at (at + 1) source
  opens_run r e = (b ∷ [], here ∙ ap (λ l. b ∷ l) (sym (drop_next source at b bs here)), (e, tt), omega arith, refl)

  stays : walk n at (cut (drop at source)) ≡ walk (n + 0) at (cut (drop at source))
  stays = ap (λ k. walk k at (cut (drop at source))) (sym (add-zero n))

  reads : (c : Class) → class b ≡ c → walk n at (cut (drop at source)) ≡ walk n at (attach c (next_class bs) b (cut bs))
  reads c e = ap (λ l. walk n at l) (ap cut here ∙ cut_first b bs c e)

  onward : (k : ℕ) → walk k (at + 1) (cut bs) ≡ walk k (at + 1) (cut (drop (at + 1) source))
  onward k = ap (λ l. walk k (at + 1) (cut l)) (sym (drop_next source at b bs here))

  begins : (c : Class) → class b ≡ c → Begun source n at c
  begins Blank e = record { same = reads Blank e ∙ onward (n + 0); opened = tt }
  begins Capital e = record { same = stays; opened = opens_run Name e }
  begins Small e = record { same = stays; opened = opens_run Word e }
  begins Digit e = record { same = stays; opened = opens_run Number e }
  begins (Sign s) e = record { same = reads (Sign s) e ∙ ap (meet (found_meaning (Ok (Some s))) n at) (onward (n + 1)); opened = tt }
  begins Colon e = record { same = stays; opened = (b, here ∙ ap (λ l. b ∷ l) (sym (drop_next source at b bs here)), e, refl) }
  begins Other e = record { same = reads Other e; opened = tt }

-- at the end of the source, which counts as a blank
ends : (source : List ℕ) (n at : ℕ) → drop at source ≡ [] → Begun source n at Blank
ends source n at here = record {
  same = ap (λ l. walk n at (cut l)) here ∙ ap (λ l. walk (n + 0) (at + 1) (cut l)) (sym (drop_end source at here));
  opened = tt;
}

begun_at : (source : List ℕ) (n at : ℕ) (rest : List ℕ) → drop at source ≡ rest → Begun source n at (next_class rest)
begun_at source n at [] here = ends source n at here
begun_at source n at (b ∷ bs) here = begins source n at b bs here (class b) refl

-- a run that ends
pub grows_own : (r : Run) → grows r (class_in r) ≡ true
grows_own Name = refl
grows_own Word = refl
grows_own Number = refl

pub attach_run : (r : Run) (next : Class) (b : ℕ) (ps : List Piece) → attach (class_in r) next b ps ≡ join (grows r next) (run r) (run r) b ps
attach_run Name next b ps = refl
attach_run Word next b ps = refl
attach_run Number next b ps = refl

pub cut_run : (r : Run) (bs rest : List ℕ) → AllOf r bs → 0 < length bs → grows r (next_class rest) ≡ false → cut (bs ++ rest) ≡ piece (run r) bs ∷ cut rest
cut_run r [] rest all some stop = absurd (omega arith)
cut_run r (b ∷ []) rest all some stop =
    cut_first b rest (class_in r) all.0 ∙ attach_run r (next_class rest) b (cut rest) ∙ ap (λ g. join g (run r) (run r) b (cut rest)) stop
cut_run r (b ∷ c ∷ bs) rest all some stop =
    let more = cut_run r (c ∷ bs) rest all.1 (omega arith) stop in
    cut_first b (c ∷ bs ++ rest) (class_in r) all.0 ∙ attach_run r (class c) b (cut (c ∷ bs ++ rest)) ∙ ap (λ g. join g (run r) (run r) b (cut (c ∷ bs ++ rest))) (ap (grows r) all.1.0 ∙ grows_own r) ∙ ap (join true (run r) (run r) b) more

pub grows_class : (r : Run) (c : Class) → grows r c ≡ true → c ≡ class_in r
grows_class r c e = grind arith

-- inside a run
module _ (source : List ℕ) (n start at : ℕ) (r : Run) (bs : List ℕ) (from : drop start source ≡ bs ++ drop at source) (all : AllOf r bs) (some : 0 < length bs) (long : start + length bs ≡ at) (within : at ≤ length source) where
  run_bytes : between start at source ≡ bs
  run_bytes = ap (λ k. take k (drop start source)) long_by ∙ ap (take (length bs)) from ∙ take_at bs (drop at source) (length bs) refl
    where
      long_by : at - start ≡ length bs
      long_by = omega arith

  longer : (rest : List ℕ) → drop at source ≡ rest → grows r (next_class rest) ≡ true → Open (In r) start (at + 1) source
  longer [] here g = absurd (no_blank r g)
    where
      no_blank : (q : Run) → grows q Blank ≡ true → ⊥
      no_blank Name e = grind arith
      no_blank Word e = grind arith
      no_blank Number e = grind arith
  longer (b ∷ rest) here g =
      (bs ++ b ∷ [], from ∙ ap (λ l. bs ++ l) (here ∙ ap (λ l. b ∷ l) (sym (drop_next source at b rest here))) ∙ sym (append_assoc bs (b ∷ []) (drop (at + 1) source)), all_more r bs b all (grows_class r (class b) g), omega (arith, length-append bs (b ∷ [])), omega (arith, length-append bs (b ∷ [])))

  ended_run : (c : Class) → c ≡ next_class (drop at source) → grows r c ≡ false → Begun source (n + weight (meaning (piece (run r) bs))) at c → walk n start (cut (drop start source)) ≡ meet (meaning (piece (run r) bs)) n start (meet (found_meaning (begun c).1) (n + weight (meaning (piece (run r) bs))) at (walk (n + weight (meaning (piece (run r) bs)) + weight (found_meaning (begun c).1)) (untold (begun c).0 at (at + 1)) (cut (drop (untold (begun c).0 at (at + 1)) source))))
  ended_run c next g new =
      ap (λ l. walk n start (cut l)) from ∙ ap (walk n start) (cut_run r bs (drop at source) all some (ap (grows r) (sym next) ∙ g)) ∙ ap (λ k. meet (meaning (piece (run r) bs)) n start (walk (n + weight (meaning (piece (run r) bs))) k (cut (drop at source)))) long ∙ ap (meet (meaning (piece (run r) bs)) n start) new.same

  in_run : (c : Class) → c ≡ next_class (drop at source) → (g : Bool) → grows r c ≡ g → Moved source n start start at (cond {A = Step} g (record { ended = None; found = Ok None }) (record { ended = Some r; found = (begun c).1 })).ended (cond {A = Step} g (record { ended = None; found = Ok None }) (record { ended = Some r; found = (begun c).1 })).found (cond g (In r) (begun c).0) (cond g start at)
  in_run c next true g = record {
    same = ap (λ k. walk k start (cut (drop start source))) (sym (add-zero n) ∙ sym (add-zero (n + 0)));
    opened = longer (drop at source) refl (ap (grows r) (sym next) ∙ g);
    pending = tt;
  }
  in_run c next false g =
      let new = subst (λ x. Begun source (n + weight (meaning (piece (run r) bs))) at x) (sym next) (begun_at source _ at (drop at source) refl) in
      record {
        same = subst (λ l. walk n start (cut (drop start source)) ≡ meet (meaning (piece (run r) l)) n start (meet (found_meaning (begun c).1) (n + weight (meaning (piece (run r) l))) at (walk (n + weight (meaning (piece (run r) l)) + weight (found_meaning (begun c).1)) (untold (begun c).0 at (at + 1)) (cut (drop (untold (begun c).0 at (at + 1)) source))))) (sym run_bytes) (ended_run c next g new);
        opened = new.opened;
        pending = (omega arith, within, subst (Forms (run r)) (sym run_bytes) (some, all));
      }

-- after a colon
pub completes_equals : (c : Class) → completes c ≡ true → c ≡ Sign Equals
completes_equals c e = grind arith

module _ (source : List ℕ) (n start at b : ℕ) (from : drop start source ≡ b ∷ drop at source) (is : class b ≡ Colon) (one : start + 1 ≡ at) where
  colon_cut : cut (drop start source) ≡ join (completes (next_class (drop at source))) (sign Becomes) colon b (cut (drop at source))
  colon_cut = ap cut from ∙ cut_first b (drop at source) Colon is

  becomes : (rest : List ℕ) → drop at source ≡ rest → completes (next_class rest) ≡ true → (e : ℕ) × (cut (drop start source) ≡ piece (sign Becomes) (b ∷ e ∷ []) ∷ cut (drop (at + 1) source))
  becomes [] here g = absurd (grind arith)
  becomes (e ∷ rest) here g =
      (e, colon_cut ∙ ap (λ l. join (completes (next_class l)) (sign Becomes) colon b (cut l)) here ∙ ap (λ t. join t (sign Becomes) colon b (cut (e ∷ rest))) g ∙ ap (join true (sign Becomes) colon b) (cut_first e rest (Sign Equals) (completes_equals (class e) g)) ∙ ap (λ l. piece (sign Becomes) (b ∷ e ∷ []) ∷ cut l) (sym (drop_next source at e rest here)))

  after_colon : (c : Class) → c ≡ next_class (drop at source) → (g : Bool) → completes c ≡ g → Moved source n start start at None (cond g (Ok (Some Becomes)) (Err NoToken)) Between start
  after_colon c next true g =
      let two : start + 2 ≡ at + 1 = omega arith in
      let Sign-read = (becomes (drop at source) refl (ap completes (sym next) ∙ g)).1 in
      record {
        same = ap (walk n start) Sign-read ∙ ap (λ k. meet (found_meaning (Ok (Some Becomes))) n start (walk (n + 1) k (cut (drop (at + 1) source)))) two ∙ ap (λ k. meet (found_meaning (Ok (Some Becomes))) k start (walk (k + 1) (at + 1) (cut (drop (at + 1) source)))) (sym (add-zero n));
        opened = tt;
        pending = tt;
      }
  after_colon c next false g = record {
    same = ap (walk n start) (colon_cut ∙ ap (λ t. join t (sign Becomes) colon b (cut (drop at source))) (ap completes (sym next) ∙ g));
    opened = tt;
    pending = tt;
  }

-- the reader's step at a byte, in any state
pub moved : (source : List ℕ) (n at : ℕ) (state : State) (start : ℕ) (c : Class) → Open state start at source → at ≤ length source → c ≡ next_class (drop at source) → Moved source n (untold state start at) start at (step_at state c).ended (step_at state c).found (state_after state c) (start_after state c start at)
moved source n at Between start c opened within next =
    let new = subst (λ x. Begun source n at x) (sym next) (begun_at source n at (drop at source) refl) in
    record {
      same = new.same ∙ ap (λ k. meet (found_meaning (begun c).1) k at (walk (k + weight (found_meaning (begun c).1)) (untold (begun c).0 at (at + 1)) (cut (drop (untold (begun c).0 at (at + 1)) source)))) (sym (add-zero n));
      opened = new.opened;
      pending = tt;
    }
moved source n at (In r) start c opened within next =
    in_run source n start at r opened.0 opened.1 opened.2 opened.3 opened.4 within c next (grows r c) refl
moved source n at AfterColon start c opened within next =
    after_colon source n start at opened.0 opened.1 opened.2 opened.3 c next (completes c) refl
