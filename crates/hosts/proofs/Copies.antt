-- Copying one reading after the other, and what it comes to.
use Rattle.std.proofs.Common.{◌≡◌, ℕ, zero, suc, ◌+◌, ◌-◌, ◌<◌, ◌≤◌, Bool, true, false, cond, leb, List, [], ◌∷◌, ◌++◌, Some, None, Ok, Err, Option, Result, sym, refl, ap, subst, ◌∙◌, append_assoc, append-nil, add-zero, arith}
use Rattle.hosts.specs.Copying.{Copies, Ends, Stops, copy_after, copy_answer, copying, counted}
use Rattle.hosts.specs.Meaning.{Holding, Item, judged, most_written, put_answer}
use Rattle.hosts.specs.declared.copying.Copied.{Copied}
use Rattle.hosts.specs.declared.exchange.Cause.{Cause}
use Rattle.hosts.specs.declared.exchange.Cause.TheVariants.{Empty, Unreadable, Full, Large}
use Rattle.hosts.specs.declared.exchange.Value.{Value}
use Rattle.hosts.specs.declared.exchange.Value.TheVariants as value
use Rattle.std.proofs.lemmas.Bool.{leb-false}
use Rattle.std.proofs.Math.Dec.{eqb-suc-zero}

-- what comes of the rest, after so many were copied
abbrev pub resumed : ℕ → Copied × Holding → Copied × Holding
resumed k later = (record { count = k + later.0.count; stop = later.0.stop }, later.1)

module _ (most i : ℕ) (h g : Holding) (whole : Copied × Holding) (sofar : resumed i (copying (most - i) h) ≡ whole) where
  module _ (within : i < most) where
    next : copying (most - i) h ≡ counted (copy_answer h) (copying (most - (i + 1)) (copy_after (copy_answer h) h)) h
    next = let one : most - i ≡ suc (most - (i + 1)) = omega arith in ap (λ n. copying n h) one

    pub copied_one : (r : Result (Unit {0}) Cause) → r ≡ copy_answer h → g ≡ copy_after r h → r ≡ Ok tt → resumed (i + 1) (copying (most - (i + 1)) g) ≡ whole
    copied_one r is after ok =
        let later = copying (most - (i + 1)) (copy_after (Ok tt) h) in
        let moved : g ≡ copy_after (Ok tt) h = after ∙ ap (λ a. copy_after a h) ok in
        let here : copying (most - i) h ≡ counted (Ok tt) later h = next ∙ ap (λ a. counted a (copying (most - (i + 1)) (copy_after a h)) h) (sym is ∙ ok) in
        let shifted : i + 1 + later.0.count ≡ i + suc later.0.count = omega arith in
        ap (λ x. resumed (i + 1) (copying (most - (i + 1)) x)) moved ∙ ap (λ k. (record { count = k; stop = later.0.stop }, later.1)) shifted ∙ ap (resumed i) (sym here) ∙ sofar

    pub copied_none : (c : Cause) → Err c ≡ copy_answer h → g ≡ h → (record { count = i; stop = Some c }, g) ≡ whole
    copied_none c is after =
        let here : copying (most - i) h ≡ (record { count = 0; stop = Some c }, h) = next ∙ ap (λ a. counted a (copying (most - (i + 1)) (copy_after a h)) h) (sym is) in
        ap (λ x. (record { count = i; stop = Some c }, x)) after ∙ ap (λ k. (record { count = k; stop = Some c }, h)) (sym (add-zero i)) ∙ ap (resumed i) (sym here) ∙ sofar

  pub copied_all : most ≤ i → i ≤ most → (record { count = most; stop = None }, h) ≡ whole
  copied_all over under =
      let none : most - i ≡ 0 = omega arith in
      let here : copying (most - i) h ≡ (record { count = 0; stop = None }, h) = ap (λ n. copying n h) none in
      let all : most ≡ i + 0 = omega arith in
      ap (λ k. (record { count = k; stop = None }, h)) all ∙ ap (resumed i) (sym here) ∙ sofar

-- nothing is copied
none_copied : (n : ℕ) (h : Holding) (c : Cause) → Stops c h → Copies (suc n) h (record { count = 0; stop = Some c }) h
none_copied n h c stops = record {
  values = [];
  read = refl;
  written = sym (append-nil h.said);
  space = omega arith;
  could = tt;
  counts = refl;
  ends = (omega arith, stops);
}

abbrev choice : Bool → Result (Unit {0}) Cause
choice t = cond t (Ok tt) (Err Large)

not_ok : (c : Cause) → ◌≡◌ {A = Result (Unit {0}) Cause} (Err c) (Ok tt) → ⊥
not_ok c e = cc

not_err : (c : Cause) → ◌≡◌ {A = Result (Unit {0}) Cause} (Ok tt) (Err c) → ⊥
not_err c e = cc

err_parts : (c d : Cause) → ◌≡◌ {A = Result (Unit {0}) Cause} (Err c) (Err d) → c ≡ d
err_parts c d e = cc

-- with room, the value decides
with_room : (r : ℕ) (v : Value) → put_answer (suc r) v ≡ judged v
with_room r v = ap (λ t. cond t (Err Full) (judged v)) (eqb-suc-zero r)

has_room : (room : ℕ) (v : Value) → put_answer room v ≡ Ok tt → (0 < room) × (judged v ≡ Ok tt)
has_room zero v e = absurd (not_ok Full e)
has_room (suc r) v e = (omega arith, sym (with_room r v) ∙ e)

too_large : (k : ℕ) (t : Bool) (c : Cause) → leb k most_written ≡ t → choice t ≡ Err c → (Large ≡ c) × (most_written < k)
too_large k true c is e = absurd (not_err c e)
too_large k false c is e = (err_parts Large c e, leb-false k most_written is)

-- a value that is refused stops the copying
refused : (v : Value) (is : List Item) (said : List Value) (room : ℕ) (c : Cause) → put_answer room v ≡ Err c → Stops c (record { left = Ok v ∷ is; said = said; room = room })
refused v is said zero c e =
    subst (λ d. Stops d (record { left = Ok v ∷ is; said = said; room = 0 })) (err_parts Full c e) (v, is, refl, refl)
refused (value.Truth b) is said (suc r) c e = absurd (not_err c (sym (with_room r (value.Truth b)) ∙ e))
refused (value.Number k) is said (suc r) c e =
    let large = too_large k (leb k most_written) c refl (sym (with_room r (value.Number k)) ∙ e) in
    subst (λ d. Stops d (record { left = Ok (value.Number k) ∷ is; said = said; room = suc r })) large.0 (k, is, refl, omega arith, large.1)

ends_later : (n count : ℕ) (stop : Option Cause) (h : Holding) → Ends n count stop h → Ends (suc n) (suc count) stop h
ends_later n count None h e = ap suc e
ends_later n count (Some c) h e = (omega arith, e.1)

-- a host whose first item is a value that can be read, and what comes of an answer to it
abbrev facing : Value → List Item → List Value → ℕ → Holding
facing v is said room = record { left = Ok v ∷ is; said = said; room = room }

abbrev told : ℕ → Result (Unit {0}) Cause → Holding → Copied × Holding
told n a h = counted a (copying n (copy_after a h)) h

-- one value, and then what the rest comes to
module _ (n : ℕ) (v : Value) (is : List Item) (said : List Value) (room : ℕ) (later : (vs : List Value) (r : ℕ) → let h : Holding = record { left = is; said = vs; room = r } in Copies n h (copying n h).0 (copying n h).1) where
  one : (a : Result (Unit {0}) Cause) → put_answer room v ≡ a → Copies (suc n) (facing v is said room) (told n a (facing v is said room)).0 (told n a (facing v is said room)).1
  one (Ok u) e =
      let rest = later (said ++ v ∷ []) (room - 1) in
      let could = has_room room v e in
      record {
        values = v ∷ rest.values;
        read = ap (λ l. Ok v ∷ l) rest.read;
        written = rest.written ∙ append_assoc said (v ∷ []) rest.values;
        space = omega (arith, rest.space, could.0);
        could = (could.1, rest.could);
        counts = ap suc rest.counts;
        ends = ends_later n _ _ _ rest.ends;
      }
  one (Err c) e = none_copied n (facing v is said room) c (refused v is said room c e)

copies : (n : ℕ) (is : List Item) (said : List Value) (room : ℕ) → let h : Holding = record { left = is; said = said; room = room } in Copies n h (copying n h).0 (copying n h).1
copies zero is said room = record {
  values = [];
  read = refl;
  written = sym (append-nil said);
  space = omega arith;
  could = tt;
  counts = refl;
  ends = refl;
}
copies (suc n) [] said room = none_copied n (record { left = []; said = said; room = room }) Empty refl
copies (suc n) (Err e ∷ is) said room = none_copied n (record { left = Err e ∷ is; said = said; room = room }) Unreadable (is, refl)
copies (suc n) (Ok v ∷ is) said room = one n v is said room (copies n is) (put_answer room v) refl

-- what copying comes to is what it means
pub lawful : (most : ℕ) (h after : Holding) (r : Copied) → (r, after) ≡ copying most h → Copies most h r after
lawful most h after r is =
    subst (λ (x : Copied × Holding). Copies most h x.0 x.1) (sym is) (copies most h.left h.said h.room)
