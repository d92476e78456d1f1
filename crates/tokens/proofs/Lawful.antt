-- The walk over the pieces gives the right answer.
use Rattle.std.proofs.Common.{◌≡◌, ℕ, ◌+◌, ◌<◌, ◌≤◌, Bool, true, false, cond, ltb, ◌⊎◌, List, [], ◌∷◌, length, Ok, Err, Result, Vec, sym, refl, ap, subst, inl, inr, ⊎_elim, arith}
use Rattle.std.proofs.lemmas.Bool.{cases_lt, ltb-true, ltb-false}
use Rattle.std.specs.declared.alloc.Global.{Global}
use Rattle.refusals.specs.declared.failure.Failure.{Failure}
use Rattle.refusals.specs.declared.failure.Failure.TheVariants.{Refused, Memory}
use Rattle.tokens.specs.Answer.{Answers}
use Rattle.tokens.specs.Faults.{number_of}
use Rattle.tokens.specs.Law.{Among, Cuts, Faulty, Forms, Lawful, Right, Wrong, told, tokens_in}
use Rattle.tokens.specs.Pieces.{Sort, blank, run, sign, colon, other, Piece, piece, bytes_of, cut}
use Rattle.tokens.specs.Reading.{Meaning, gap, token, fault, Reading, read, refused, before, meaning, meet, reading, walk, weight, most_bytes, most_tokens}
use Rattle.tokens.specs.Tokens.{Kind}
use Rattle.tokens.specs.declared.fault.Fault.{Fault}
use Rattle.tokens.specs.declared.fault.Fault.TheVariants.{SourceTooLong, NoToken, UnknownWord, NameTooLong, ConstantTooLarge, TooManyTokens}
use Rattle.tokens.specs.declared.sign.Sign as signs
use Rattle.tokens.specs.declared.sign.Sign.TheVariants.{Semicolon, Comma, Becomes, Plus, Star, Equals, Differs, Open, Close}
use Rattle.tokens.specs.declared.token.Token.{Token}
use Rattle.tokens.specs.Words.{spelling}
use Rattle.tokens.proofs.Cutting.{only_cut}

-- f at p comes before g at q
abbrev First : Fault → ℕ → Fault → ℕ → Type 0
First f p g q = (p < q) ⊎ ((p ≡ q) × (number_of f ≤ number_of g))

-- the right answer to the pieces from a place on
abbrev RightFrom : ℕ → ℕ → List Piece → Reading → Type 0
RightFrom count place ps (read ts) = ((f : Fault) (q : ℕ) → Among count place ps f q → ⊥) × (ts ≡ tokens_in place ps)
RightFrom count place ps (refused f p) = Among count place ps f p × ((g : Fault) (q : ℕ) → Among count place ps g q → First f p g q)

-- no piece is empty
abbrev Solid : List Piece → Type 0
Solid [] = Unit {0}
Solid (p ∷ ps) = (0 < length (bytes_of p)) × Solid ps

-- so no later piece has the place of an earlier one
later : (count place : ℕ) (ps : List Piece) (g : Fault) (q : ℕ) → Solid ps → Among count place ps g q → place ≤ q
later count place [] g q solid a = absurd a
later count place (p ∷ ps) g q solid a =
    ⊎_elim (λ h. omega (arith, h.0)) (λ h. omega (arith, later (count + weight (meaning p)) (place + length (bytes_of p)) ps g q solid.1 h)) a

-- the answer at a piece: ps are the pieces after it
module _ (count place : ℕ) (p : Piece) (ps : List Piece) where
  abbrev At : Meaning → Fault → ℕ → Type 0
  At m f q = ((q ≡ place) × Wrong m count f) ⊎ Among (count + weight m) (place + length (bytes_of p)) ps f q

  abbrev RightAt : Meaning → Reading → Type 0
  RightAt m (read ts) = ((f : Fault) (q : ℕ) → At m f q → ⊥) × (ts ≡ told m place (tokens_in (place + length (bytes_of p)) ps))
  RightAt m (refused f q) = At m f q × ((g : Fault) (r : ℕ) → At m g r → First f q g r)

  passed : (m : Meaning) → ((f : Fault) → Wrong m count f → ⊥) → (f : Fault) (q : ℕ) → At m f q → Among (count + weight m) (place + length (bytes_of p)) ps f q
  passed m none f q a = ⊎_elim (λ h. absurd (none f h.1)) (λ h. h) a

  at_gap : (r : Reading) → RightFrom (count + 0) (place + length (bytes_of p)) ps r → RightAt gap r
  at_gap (read ts) right = (λ f q a. right.0 f q (passed gap (λ g w. w) f q a), right.1)
  at_gap (refused f q) right = (inr right.0, λ g r a. right.1 g r (passed gap (λ h w. w) g r a))

  at_token : (k : Kind) (r : Reading) → count < most_tokens → RightFrom (count + 1) (place + length (bytes_of p)) ps r → RightAt (token k) (before (record { place = place; kind = k }) r)
  at_token k (read ts) room right =
      (λ f q a. right.0 f q (passed (token k) (λ g w. omega arith) f q a), ap (λ l. record { place = place; kind = k } ∷ l) right.1)
  at_token k (refused f q) room right =
      (inr right.0, λ g r a. right.1 g r (passed (token k) (λ h w. omega arith) g r a))

  -- nothing that stands later comes before what is wrong here
  here : (m : Meaning) (f : Fault) → 0 < length (bytes_of p) → Solid ps → ((g : Fault) → Wrong m count g → number_of f ≤ number_of g) → (g : Fault) (q : ℕ) → At m g q → First f place g q
  here m f some solid least g q a =
      ⊎_elim (λ h. inr (sym h.0, least g h.1)) (λ h. inl (omega (arith, later _ _ ps g q solid h))) a

  at_many : (k : Kind) → count ≡ most_tokens → 0 < length (bytes_of p) → Solid ps → RightAt (token k) (refused TooManyTokens place)
  at_many k full some solid =
      (inl (refl, (full, refl)), here (token k) TooManyTokens some solid (λ g w. omega (arith, ap number_of w.1)))

  at_fault : (f : Fault) → 0 < length (bytes_of p) → Solid ps → RightAt (fault f) (refused f place)
  at_fault f some solid = (inl (refl, refl), here (fault f) f some solid (λ g w. omega (arith, ap number_of w)))

  at_counted : (k : Kind) (rest : Reading) (t : Bool) → ltb count most_tokens ≡ t → count ≤ most_tokens → 0 < length (bytes_of p) → Solid ps → (count < most_tokens → RightFrom (count + 1) (place + length (bytes_of p)) ps rest) → RightAt (token k) (cond t (before (record { place = place; kind = k }) rest) (refused TooManyTokens place))
  at_counted k rest true e most some solid right = at_token k rest (ltb-true count most_tokens e) (right (ltb-true count most_tokens e))
  at_counted k rest false e most some solid right = at_many k (omega (arith, ltb-false count most_tokens e)) some solid

  at_meaning : (m : Meaning) (rest : Reading) → count ≤ most_tokens → 0 < length (bytes_of p) → Solid ps → (count + weight m ≤ most_tokens → RightFrom (count + weight m) (place + length (bytes_of p)) ps rest) → RightAt m (meet m count place rest)
  at_meaning gap rest most some solid right = at_gap rest (right (omega arith))
  at_meaning (token k) rest most some solid right = at_counted k rest (ltb count most_tokens) refl most some solid (λ room. right (omega arith))
  at_meaning (fault f) rest most some solid right = at_fault f some solid

  same_right : (m : Meaning) → meaning p ≡ m → (r : Reading) → RightAt m r → RightFrom count place (p ∷ ps) r
  same_right m e (read ts) right = rw e right
  same_right m e (refused f q) right = rw e right

walk_right : (count place : ℕ) (ps : List Piece) → count ≤ most_tokens → Solid ps → RightFrom count place ps (walk count place ps)
walk_right count place [] most solid = (λ f q a. a, refl)
walk_right count place (p ∷ ps) most solid =
    same_right count place p ps (meaning p) refl _ (at_meaning count place p ps (meaning p) _ most solid.0 solid.1 (λ room. walk_right (count + weight (meaning p)) (place + length (bytes_of p)) ps room solid.1))

-- the pieces of a cut are not empty
spelt : (s : signs.Sign) → 0 < length (spelling s)
spelt Semicolon = omega arith
spelt Comma = omega arith
spelt Becomes = omega arith
spelt Plus = omega arith
spelt Star = omega arith
spelt Equals = omega arith
spelt Differs = omega arith
spelt Open = omega arith
spelt Close = omega arith

formed : (s : Sort) (bs : List ℕ) → Forms s bs → 0 < length bs
formed blank bs f = omega (arith, ap length f.1)
formed (run r) bs f = f.0
formed (sign s) bs f = omega (arith, ap length f, spelt s)
formed colon bs f = omega (arith, ap length f)
formed other bs f = omega (arith, ap length f.1)

solid_cut : (ps : List Piece) (bs : List ℕ) → Cuts ps bs → Solid ps
solid_cut [] bs c = tt
solid_cut (piece s cs ∷ ps) bs c = (formed s cs c.2, solid_cut ps c.0 c.4)

least : (g : Fault) → 1 ≤ number_of g
least SourceTooLong = omega arith
least NoToken = omega arith
least UnknownWord = omega arith
least NameTooLong = omega arith
least ConstantTooLarge = omega arith
least TooManyTokens = omega arith

-- a source that is not too long is faulty only by its pieces
module _ (source : List ℕ) (fits : length source ≤ most_bytes) where
  among : (f : Fault) (q : ℕ) → Faulty source f q → Among 0 0 (cut source) f q
  among f q bad =
      ⊎_elim (λ h. absurd (omega (arith, h.0))) (λ h. subst (λ ps. Among 0 0 ps f q) ((only_cut source).alone h.0 h.1) h.2) bad

  right_source : (r : Reading) → RightFrom 0 0 (cut source) r → Right source r
  right_source (read ts) right = (λ f q bad. right.0 f q (among f q bad), (cut source, only_cut source, right.1))
  right_source (refused f p) right =
      (inr (cut source, (only_cut source).cuts, right.0), λ g q bad. right.1 g q (among g q bad))

too_long : (source : List ℕ) → most_bytes < length source → Right source (refused SourceTooLong 0)
too_long source long =
    (inl (long, refl, refl), λ g q bad. ⊎_elim (λ h. inl h) (λ h. inr (omega arith, least g)) (cases_lt 0 q))

by_length : (source : List ℕ) (t : Bool) → ltb most_bytes (length source) ≡ t → Right source (cond t (refused SourceTooLong 0) (walk 0 0 (cut source)))
by_length source true e = too_long source (ltb-true most_bytes (length source) e)
by_length source false e =
    right_source source (ltb-false most_bytes (length source) e) (walk 0 0 (cut source)) (walk_right 0 0 (cut source) (omega arith) (solid_cut (cut source) source (only_cut source).cuts))

reading_right : (source : List ℕ) → Right source (reading source)
reading_right source = by_length source (ltb most_bytes (length source)) refl

pub lawful : (source : List ℕ) (r : Result (Vec Token Global) (Failure Fault)) → Answers (reading source) r → Lawful source r
lawful source (Ok v) e = subst (Right source) e (reading_right source)
lawful source (Err (Refused x)) e = subst (Right source) e (reading_right source)
lawful source (Err (Memory e)) h = tt
