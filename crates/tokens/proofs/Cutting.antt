-- The cut of a source is the one way to cut it.
use Rattle.std.proofs.Common.{◌≡◌, ℕ, Bool, true, false, List, [], ◌∷◌, ◌++◌, sym, refl, ap, ◌∙◌, subst, arith}
use Rattle.tokens.specs.Bytes.{class}
use Rattle.tokens.specs.Law.{Cuts, Ends, Forms, Only}
use Rattle.tokens.specs.Machine.{class_in, grows, completes}
use Rattle.tokens.specs.Pieces.{Sort, blank, run, sign, colon, other, Piece, piece, attach, cut, join, next_class}
use Rattle.tokens.specs.Words.{spelling}
use Rattle.tokens.specs.declared.class.Class.{Class}
use Rattle.tokens.specs.declared.class.Class.TheVariants.{Blank, Capital, Small, Digit, Sign, Colon, Other}
use Rattle.tokens.specs.declared.reader.Run.{Run}
use Rattle.tokens.specs.declared.reader.Run.TheVariants.{Name, Word, Number}
use Rattle.tokens.specs.declared.sign.Sign as signs
use Rattle.tokens.specs.declared.sign.Sign.TheVariants.{Semicolon, Comma, Becomes, Plus, Star, Equals, Differs, Open, Close}
use Rattle.tokens.proofs.Classes.{colon_byte, sign_bytes}
use Rattle.tokens.proofs.Steps.{attach_run, completes_equals, cut_first, cut_run, grows_class, grows_own}

false_unless : (t : Bool) → (t ≡ true → ⊥) → t ≡ false
false_unless true no_way = absurd (no_way refl)
false_unless false no_way = refl

-- a piece at the front of the bytes is the first of their cut
front_sign : (s : signs.Sign) (rest : List ℕ) → cut (spelling s ++ rest) ≡ piece (sign s) (spelling s) ∷ cut rest
front_sign Semicolon rest = refl
front_sign Comma rest = refl
front_sign Becomes rest = refl
front_sign Plus rest = refl
front_sign Star rest = refl
front_sign Equals rest = refl
front_sign Differs rest = refl
front_sign Open rest = refl
front_sign Close rest = refl

front : (s : Sort) (bs rest : List ℕ) → Forms s bs → Ends s rest → cut (bs ++ rest) ≡ piece s bs ∷ cut rest
front blank bs rest f e = rw f.1 (cut_first f.0 rest Blank f.2)
front (run r) bs rest f e = cut_run r bs rest f.1 f.0 (false_unless _ (λ g. e (grows_class r (next_class rest) g)))
front (sign s) bs rest f e = rw f (front_sign s rest)
front colon bs rest f e = rw f (ap (λ t. join t (sign Becomes) colon 58 (cut rest)) (false_unless _ (λ g. e (completes_equals (next_class rest) g))))
front other bs rest f e = rw f.1 (cut_first f.0 rest Other f.2)

pub cuts_cut : (ps : List Piece) (bs : List ℕ) → Cuts ps bs → ps ≡ cut bs
cuts_cut [] bs c = sym (ap cut c)
cuts_cut (piece s cs ∷ ps) bs c =
    ap (λ qs. piece s cs ∷ qs) (cuts_cut ps c.0 c.4) ∙ sym (ap cut c.1 ∙ front s cs c.0 c.2 c.3)

-- a byte that goes on into the next one: the next piece is of its run
widened : (r : Run) (b : ℕ) (ps : List Piece) (t : Bool) → (cs : List ℕ) × (qs : List Piece) × (join t (run r) (run r) b ps ≡ piece (run r) cs ∷ qs)
widened r b ps false = (b ∷ [], ps, refl)
widened r b [] true = (b ∷ [], [], refl)
widened r b (piece s cs ∷ ps) true = (b ∷ cs, ps, refl)

first_run : (r : Run) (bs : List ℕ) → grows r (next_class bs) ≡ true → (cs : List ℕ) × (qs : List Piece) × (cut bs ≡ piece (run r) cs ∷ qs)
first_run r [] g = absurd (grind arith)
first_run r (b ∷ bs) g =
    let w = widened r b (cut bs) (grows r (next_class bs)) in
    (w.0, w.1, cut_first b bs (class_in r) (grows_class r (class b) g) ∙ attach_run r (next_class bs) b (cut bs) ∙ w.2)

first_equals : (bs : List ℕ) → completes (next_class bs) ≡ true → (c : ℕ) × (rest : List ℕ) × (bs ≡ c ∷ rest) × (class c ≡ Sign Equals)
first_equals [] g = absurd (grind arith)
first_equals (c ∷ bs) g = (c, bs, refl, completes_equals (class c) g)

join_cuts : (r : Run) (b : ℕ) (bs : List ℕ) (t : Bool) → grows r (next_class bs) ≡ t → class b ≡ class_in r → Cuts (cut bs) bs → Cuts (join t (run r) (run r) b (cut bs)) (b ∷ bs)
join_cuts r b bs false g e c = (bs, refl, (omega arith, (e, tt)), λ same. grind (arith, grows_own r, ap (grows r) same), c)
join_cuts r b bs true g e c =
    let f = first_run r bs g in
    let d = subst (λ ps. Cuts ps bs) f.2 c in
    rw f.2 (d.0, ap (λ l. b ∷ l) d.1, (omega arith, (e, d.2.1)), d.3, d.4)

colon_cuts : (b : ℕ) (bs : List ℕ) (t : Bool) → completes (next_class bs) ≡ t → class b ≡ Colon → Cuts (cut bs) bs → Cuts (join t (sign Becomes) colon b (cut bs)) (b ∷ bs)
colon_cuts b bs false g e c = (bs, refl, ap (λ x. x ∷ []) (colon_byte b e), λ same. grind (arith, ap completes same), c)
colon_cuts b bs true g e c =
    let f = first_equals bs g in
    let tail : cut bs ≡ piece (sign Equals) (f.0 ∷ []) ∷ cut f.1 = ap cut f.2 ∙ cut_first f.0 f.1 (Sign Equals) f.3 in
    let d = subst (λ ps. Cuts ps bs) tail c in
    rw tail (d.0, ap (λ l. b ∷ l) d.1, ap (λ x. x ∷ f.0 ∷ []) (colon_byte b e) ∙ ap (λ l. 58 ∷ l) (sign_bytes f.0 Equals f.3), tt, d.4)

attach_cuts : (c : Class) (b : ℕ) (bs : List ℕ) → class b ≡ c → Cuts (cut bs) bs → Cuts (attach c (next_class bs) b (cut bs)) (b ∷ bs)
attach_cuts Blank b bs e c = (bs, refl, (b, refl, e), tt, c)
attach_cuts Capital b bs e c = join_cuts Name b bs _ refl e c
attach_cuts Small b bs e c = join_cuts Word b bs _ refl e c
attach_cuts Digit b bs e c = join_cuts Number b bs _ refl e c
attach_cuts (Sign s) b bs e c = (bs, refl, sign_bytes b s e, tt, c)
attach_cuts Colon b bs e c = colon_cuts b bs _ refl e c
attach_cuts Other b bs e c = (bs, refl, (b, refl, e), tt, c)

cut_cuts : (bs : List ℕ) → Cuts (cut bs) bs
cut_cuts [] = refl
cut_cuts (b ∷ bs) = attach_cuts (class b) b bs refl (cut_cuts bs)

pub only_cut : (bs : List ℕ) → Only (cut bs) bs
only_cut bs = record { cuts = cut_cuts bs; alone = λ qs c. cuts_cut qs bs c }
