-- What the machine does at each token of an expression, held to what the parser does there.
use Rattle.std.proofs.Common.{◌≡◌, ℕ, ◌+◌, ◌<◌, ◌≤◌, Bool, true, false, if◌then◌else◌, ◌||◌, ltb, List, [], ◌∷◌, ◌++◌, map, length, Some, None, Ok, Err, vec_items, Option, Result, Vec, unwrap_or, sym, refl, ap, ◌∙◌, subst, inl, inr, append_assoc, append-nil, arith}
use Rattle.grammar.specs.Machine.{Level, State, after, closed, either, factor_of, fresh, is_sign, leaf, only, take_operator, value_of, with_operand}
use Rattle.grammar.specs.Tree.{Expr, Operator, plus, times, variable, binary, group}
use Rattle.outline.specs.Code.{Op, apply, op_of, operator_of, ops, postfix}
use Rattle.outline.specs.declared.code.Instruction.{Instruction}
use Rattle.outline.specs.declared.code.Operator as operators
use Rattle.parser.specs.Looks.{Expects, TakesSign, first_is, left, place_first}
use Rattle.parser.specs.Parsing.{Verdict, refused, begun, deep, met, most_parentheses, most_parts, parse}
use Rattle.parser.specs.Progress.{AnyLevel, AnyRest, Around, Done, Encloses, Fits, Grows, Level_of, Level_under, NoComparison, NoPlus, NoProduct, NoStar, NoSum, Rest_of, Rest_under, TakesComparison, code, compares, has, joins, leaf_code, leaf_postfix, sign_of, wants}
use Rattle.parser.specs.declared.expression.Rank.{Rank}
use Rattle.parser.specs.declared.expression.Rank.TheVariants.{Sum, Product}
use Rattle.parser.specs.declared.fault.Fault.{Fault}
use Rattle.parser.specs.declared.fault.Fault.TheVariants.{NotAllowed}
use Rattle.parser.specs.declared.parser.Parser.{Parser}
use Rattle.refusals.specs.declared.failure.Failure.{Failure}
use Rattle.refusals.specs.declared.failure.Failure.TheVariants.{Refused, Memory}
use Rattle.std.proofs.lemmas.List.{map_push}
use Rattle.std.proofs.lemmas.Bool.{cond-false, cond-true, le-ltb, or_from}
use Rattle.std.specs.declared.alloc.Global.{Global}
use Rattle.tokens.specs.Tokens.{Kind, sign, Placed, kind_of, token_of}
use Rattle.tokens.specs.declared.sign.Sign as signs
use Rattle.tokens.specs.declared.sign.Sign.TheVariants.{Plus, Star, Equals, Differs, Open, Close}
use Rattle.tokens.specs.declared.token.Token.{Token}

pub sign_is : (s : signs.Sign) (k : Kind) → is_sign s k ≡ true → k ≡ sign s
sign_is s k e = grind arith

-- a state that is not too deep is gone on from
pub taken : (p : ℕ) (o : Option State) (s : State) (next : State → Verdict) → o ≡ Some s → deep s ≡ false → met p o next ≡ next s
taken p o s next e d = ap (λ x. met p x next) e ∙ cond-false _ _ _ d

quiet : {k : Around} {spare : ℕ} {ls : List Level} → Fits k spare ls → (ltb most_parentheses (length ls) || ltb most_parts (length k.parts + begun k.purpose)) ≡ false
quiet f = or_from _ _ (le-ltb most_parentheses _ (omega (arith, f.parentheses))) (le-ltb most_parts _ f.parts)

abbrev level : Option (ℕ × Operator × Expr) → Option (ℕ × Expr) → Option (ℕ × Expr) → Level
level c s m = record { compared = c; summed = s; multiplied = m }

module _ (end : ℕ) (k : Around) (spare : ℕ) (ls : List Level) (fits : Fits k spare ls) where
  -- at an operator
  at_kind : (l : Level) (e : Expr) (t : Placed) (us : List Placed) (x : Kind) (s : State) → t.kind ≡ x → take_operator k.declared k.parts k.before k.purpose l ls e t.place x ≡ Some s → deep s ≡ false → parse end (has k l ls e) (t ∷ us) ≡ parse end s us
  at_kind l e t us x s is e' d =
      taken t.place _ s (λ next. parse end next us) (ap (λ y. take_operator k.declared k.parts k.before k.purpose l ls e t.place y) is ∙ e') d

  onto_star : (l : Level) (e : Expr) (t : Placed) {ts us : List Placed} → ts ≡ t ∷ us → is_sign Star t.kind ≡ true → parse end (has k l ls e) ts ≡ parse end (wants k (level l.compared l.summed (Some (t.place, factor_of l e))) ls) us
  onto_star l e t {us = us} first is = ap (parse end (has k l ls e)) first ∙ at_kind l e t us (sign Star) _ (sign_is Star t.kind is) refl (quiet fits)

  onto_plus : (l : Level) (e : Expr) (t : Placed) {ts us : List Placed} → ts ≡ t ∷ us → is_sign Plus t.kind ≡ true → parse end (has k l ls e) ts ≡ parse end (wants k (level l.compared (Some (t.place, value_of l e)) None) ls) us
  onto_plus l e t {us = us} first is = ap (parse end (has k l ls e)) first ∙ at_kind l e t us (sign Plus) _ (sign_is Plus t.kind is) refl (quiet fits)

-- a left side that waits, with its right side read, is as good as both joined
product_joined : (end : ℕ) (k : Around) (ls : List Level) (c : Option (ℕ × Operator × Expr)) (s : Option (ℕ × Expr)) (p : ℕ) (a b : Expr) (us : List Placed) → parse end (has k (level c s (Some (p, a))) ls b) us ≡ parse end (has k (level c s None) ls (binary p times a b)) us
product_joined end k ls c s p a b [] = refl
product_joined end k ls c s p a b (t ∷ us) = refl

sum_joined : (end : ℕ) (k : Around) (ls : List Level) (c : Option (ℕ × Operator × Expr)) (p : ℕ) (a b : Expr) (us : List Placed) → NoStar us → parse end (has k (level c (Some (p, a)) None) ls b) us ≡ parse end (has k (level c None None) ls (binary p plus a b)) us
sum_joined end k ls c p a b [] none = refl
sum_joined end k ls c p a b (t ∷ us) none = rw none

-- a level with nothing waiting, as far as that is known
no_product : (Q : Level → Type 0) → ((c : Option (ℕ × Operator × Expr)) (s : Option (ℕ × Expr)) → Q (level c s None)) → (l : Level) → NoProduct l → Q l
no_product Q f l e = subst Q (λ i. record { compared = l.compared; summed = l.summed; multiplied = sym e i }) (f l.compared l.summed)

no_sum : (Q : Level → Type 0) → ((c : Option (ℕ × Operator × Expr)) → Q (level c None None)) → (l : Level) → NoSum l → Q l
no_sum Q f l e = subst Q (λ i. record { compared = l.compared; summed = sym e.0 i; multiplied = sym e.1 i }) (f l.compared)

-- the loop: nothing read yet, and one operator more
pub grown_none : (end spare : ℕ) (P : Level → Type 0) (ts : List Placed) (was : List Op) → Grows end spare P ts ts was was
grown_none end spare P ts was = record {
  grow = λ a. a;
  suffix = [];
  spelt = λ a. sym (append-nil (postfix a));
  code = sym (append-nil was);
  further = omega arith;
  kept = λ a p n e. (e, refl);
  leads = λ a k l ls q f. refl;
}

-- the operand b and an operator, behind what has been grown
longer : (op : Operator) (p : ℕ) (grow : Expr → Expr) (suffix : List Op) (b : Expr) → ((a : Expr) → postfix (grow a) ≡ postfix a ++ suffix) → (a : Expr) → postfix (binary p op (grow a) b) ≡ postfix a ++ (suffix ++ (postfix b ++ apply p op ∷ []))
longer op p grow suffix b spelt a = ap (λ l. l ++ (postfix b ++ apply p op ∷ [])) (spelt a) ∙ append_assoc (postfix a) suffix _

more_code : (op : Operator) (p : ℕ) (suffix : List Op) (b : Expr) (was sofar mid now : List Op) → sofar ≡ was ++ suffix → mid ≡ sofar ++ postfix b → now ≡ mid ++ apply p op ∷ [] → now ≡ was ++ (suffix ++ (postfix b ++ apply p op ∷ []))
more_code op p suffix b was sofar mid now e f g =
    g ∙ ap (λ l. l ++ apply p op ∷ []) (f ∙ ap (λ l. l ++ postfix b) e) ∙ simp append_assoc

not_joined : (p : ℕ) (op : Operator) (a b : Expr) (q : ℕ) (n : List ℕ) → binary p op a b ≡ variable q n → ⊥
not_joined p op a b q n e = grind arith

one_shorter : (ts : List Placed) {us vs : List Placed} (ws : List Placed) {t : Placed} → us ≡ t ∷ vs → length us ≤ length ts → length ws < length vs → length ws ≤ length ts
one_shorter ts ws first a b = omega (arith, a, b, ap length first)

-- an operator t behind what has been grown, and its right side behind it
module _ {end spare : ℕ} {ts us vs ws : List Placed} {was sofar mid now : List Op} (t : Placed) (first : us ≡ t ∷ vs) where
  grown_product : Grows end spare NoProduct ts us was sofar → is_sign Star t.kind ≡ true → Done end spare AnyLevel AnyRest vs ws sofar mid → now ≡ mid ++ apply t.place times ∷ [] → Grows end spare NoProduct ts ws was now
  grown_product g star right pushed = record {
    grow = λ a. binary t.place times (g.grow a) right.tree;
    suffix = g.suffix ++ (postfix right.tree ++ apply t.place times ∷ []);
    spelt = longer times t.place g.grow g.suffix right.tree g.spelt;
    code = more_code times t.place g.suffix right.tree was sofar mid now g.code right.code pushed;
    further = one_shorter ts ws first g.further right.further;
    kept = λ a q n e. absurd (not_joined _ _ _ _ q n e);
    leads = λ a k l ls q f.
        g.leads a k l ls q f ∙ no_product (λ m. parse end (has k m ls (g.grow a)) us ≡ parse end (has k m ls (binary t.place times (g.grow a) right.tree)) ws) (λ c u. onto_star end k spare ls f (level c u None) (g.grow a) t first star ∙ right.reads k (level c u (Some (t.place, g.grow a))) ls tt f ∙ product_joined end k ls c u t.place (g.grow a) right.tree ws) l q;
  }

  grown_sum : Grows end spare NoSum ts us was sofar → is_sign Plus t.kind ≡ true → Done end spare NoProduct NoStar vs ws sofar mid → now ≡ mid ++ apply t.place plus ∷ [] → Grows end spare NoSum ts ws was now
  grown_sum g sum right pushed = record {
    grow = λ a. binary t.place plus (g.grow a) right.tree;
    suffix = g.suffix ++ (postfix right.tree ++ apply t.place plus ∷ []);
    spelt = longer plus t.place g.grow g.suffix right.tree g.spelt;
    code = more_code plus t.place g.suffix right.tree was sofar mid now g.code right.code pushed;
    further = one_shorter ts ws first g.further right.further;
    kept = λ a q n e. absurd (not_joined _ _ _ _ q n e);
    leads = λ a k l ls q f.
        g.leads a k l ls q f ∙ no_sum (λ m. parse end (has k m ls (g.grow a)) us ≡ parse end (has k m ls (binary t.place plus (g.grow a) right.tree)) ws) (λ c. onto_plus end k spare ls f (level c None None) (g.grow a) t first sum ∙ right.reads k (level c (Some (t.place, g.grow a)) None) ls refl f ∙ sum_joined end k ls c t.place (g.grow a) right.tree ws right.stops) l q;
  }

  pub grown_more : (rank : Rank) → Grows end spare (Level_of rank) ts us was sofar → is_sign (sign_of rank) t.kind ≡ true → Done end spare (Level_under rank) (Rest_under rank) vs ws sofar mid → now ≡ mid ++ apply t.place (joins rank) ∷ [] → Grows end spare (Level_of rank) ts ws was now
  grown_more Sum = grown_sum
  grown_more Product = grown_product

-- the first operand, and all that has been grown from it
grown_all : {end spare : ℕ} {ts us vs : List Placed} {was mid now : List Op} {P' : Level → Type 0} {Q' : List Placed → Type 0} (P : Level → Type 0) (Q : List Placed → Type 0) → ((l : Level) → P l → P' l) → Done end spare P' Q' ts us was mid → Grows end spare P us vs mid now → Q vs → Done end spare P Q ts vs was now
grown_all {ts = ts} {was = was} P Q weaker first g stops = record {
  tree = g.grow first.tree;
  further = omega (arith, first.further, g.further);
  reads = λ k l ls q f. first.reads k l ls (weaker l q) f ∙ g.leads first.tree k l ls q f;
  stops = stops;
  single = λ p n e. let k = g.kept first.tree p n e in first.single p n k.0 ∙ ap (λ l. record { place = p; kind = Kind.name n } ∷ l) (sym k.1);
  code = g.code ∙ ap (λ l. l ++ g.suffix) first.code ∙ append_assoc was (postfix first.tree) g.suffix ∙ ap (λ l. was ++ l) (sym (g.spelt first.tree));
}

pub grown_done : (rank : Rank) {end spare : ℕ} {ts us vs : List Placed} {was mid now : List Op} → Done end spare (Level_under rank) (Rest_under rank) ts us was mid → Grows end spare (Level_of rank) us vs mid now → Rest_under rank vs → first_is (sign (sign_of rank)) vs ≡ false → Done end spare (Level_of rank) (Rest_of rank) ts vs was now
grown_done Sum first g behind none = grown_all NoSum NoPlus (λ l q. q.1) first g (behind, none)
grown_done Product first g behind none = grown_all NoProduct NoStar (λ l q. tt) first g none

-- in the loop: at its parser `here` the rank's sign stands, and `behind` is the parser behind it
module _ (rank : Rank) (end : ℕ) {spare : ℕ} {us : List Placed} {mid : List Op} (s : signs.Sign) (p : ℕ) (here behind : Parser Instruction) (ends : here.end ≡ end) (g : Grows end spare (Level_of rank) us (left here) mid (code here)) (is : s ≡ sign_of rank) (w : TakesSign s here (Some p) behind) where
  pub joined_more : (o : operators.Operator) → operator_of o ≡ joins rank → {ws : List Placed} {late now : List Op} → Done behind.end spare (Level_under rank) (Rest_under rank) (left behind) ws (code behind) late → now ≡ late ++ apply p (operator_of o) ∷ [] → Grows end spare (Level_of rank) us ws mid now
  joined_more o joined {ws} {late} d pushed =
      grown_more w.0 w.1 rank g (sym (ap (λ x. is_sign x w.0.kind) is) ∙ w.2) (subst (λ n. Done n spare (Level_under rank) (Rest_under rank) (left behind) ws (code here) late) (w.4.0 ∙ ends) (subst (λ l. Done behind.end spare (Level_under rank) (Rest_under rank) (left behind) ws l late) (ap ops w.4.1) d)) (pushed ∙ ap (λ q. late ++ apply q (operator_of o) ∷ []) w.3 ∙ ap (λ x. late ++ apply w.0.place x ∷ []) joined)

-- behind an expression in parentheses
pub after_none : (b : Bool) → after b None ≡ None
after_none true = refl
after_none false = refl

module _ (end : ℕ) (k : Around) (spare : ℕ) (m : Level) (ms : List Level) (fits : Fits k spare (m ∷ ms)) where
  onto_comparison : (op : operators.Operator) (s : signs.Sign) → compares op s → (a : Expr) (t : Placed) {ts us : List Placed} → ts ≡ t ∷ us → is_sign s t.kind ≡ true → parse end (has k fresh (m ∷ ms) a) ts ≡ parse end (wants k (level (Some (t.place, operator_of op, a)) None None) (m ∷ ms)) us
  onto_comparison op s (inl h) a t {us = us} first is =
      ap (parse end (has k fresh (m ∷ ms) a)) first ∙ at_kind end k spare (m ∷ ms) fits fresh a t us (sign Equals) _ (sign_is Equals t.kind (sym (ap (λ x. is_sign x t.kind) h.1) ∙ is)) refl (quiet fits) ∙ ap (λ o. parse end (wants k (level (Some (t.place, operator_of o, a)) None None) (m ∷ ms)) us) (sym h.0)
  onto_comparison op s (inr h) a t {us = us} first is =
      ap (parse end (has k fresh (m ∷ ms) a)) first ∙ at_kind end k spare (m ∷ ms) fits fresh a t us (sign Differs) _ (sign_is Differs t.kind (sym (ap (λ x. is_sign x t.kind) h.1) ∙ is)) refl (quiet fits) ∙ ap (λ o. parse end (wants k (level (Some (t.place, operator_of o, a)) None None) (m ∷ ms)) us) (sym h.0)

  fits_outside : Fits k (spare + 1) ms
  fits_outside = record { parentheses = omega (arith, fits.parentheses); parts = fits.parts }

  onto_close : (l : Level) (e : Expr) (t : Placed) {ts us : List Placed} → ts ≡ t ∷ us → is_sign Close t.kind ≡ true → parse end (has k l (m ∷ ms) e) ts ≡ parse end (has k m ms (closed l e)) us
  onto_close l e t {us = us} first is =
      ap (parse end (has k l (m ∷ ms) e)) first ∙ at_kind end k spare (m ∷ ms) fits l e t us (sign Close) _ (sign_is Close t.kind is) refl (quiet fits_outside)

  -- nothing that may stand there
  not_closed : (e : Expr) (us : List Placed) → NoPlus us → NoComparison us → first_is (sign Close) us ≡ false → parse end (has k fresh (m ∷ ms) e) us ≡ refused NotAllowed (place_first us end)
  not_closed e [] plain single unclosed = refl
  not_closed e (t ∷ us) plain single unclosed = rw (plain.0, plain.1, single.0, single.1, unclosed)

  not_closed_again : (c : ℕ × Operator × Expr) (e : Expr) (us : List Placed) → NoPlus us → first_is (sign Close) us ≡ false → parse end (has k (level (Some c) None None) (m ∷ ms) e) us ≡ refused NotAllowed (place_first us end)
  not_closed_again c e [] plain unclosed = refl
  not_closed_again c e (t ∷ us) plain unclosed =
      rw (plain.0, plain.1, unclosed, after_none (is_sign Equals t.kind), after_none (is_sign Differs t.kind))

-- a name or a constant
some_same : {A : Type 0} (x y : A) → Some x ≡ Some y → x ≡ y
some_same x y e = ap (λ o. unwrap_or o x) e

leaf_found : (o : Option Expr) (i : Instruction) → leaf_code (Some i) ≡ leaf_postfix o → (e : Expr) × (o ≡ Some e) × (postfix e ≡ op_of i ∷ [])
leaf_found None i e = absurd (grind arith)
leaf_found (Some x) i e = (x, refl, sym (some_same _ _ e))

leaf_name : (k : Kind) (q p : ℕ) (n : List ℕ) → leaf k q ≡ Some (variable p n) → (k ≡ Kind.name n) × (q ≡ p)
leaf_name (Kind.word w) q p n e = absurd (grind arith)
leaf_name (Kind.sign s) q p n e = absurd (grind arith)
leaf_name (Kind.name m) q p n e = (cc, cc)
leaf_name (Kind.constant m) q p n e = absurd (grind arith)

pub at_leaf : (end : ℕ) (k : Around) (spare : ℕ) (l : Level) (ls : List Level) (t : Placed) (us : List Placed) (e : Expr) → Fits k spare ls → leaf t.kind t.place ≡ Some e → parse end (wants k l ls) (t ∷ us) ≡ parse end (has k l ls e) us
at_leaf end k spare l ls t us e fits is =
    taken t.place _ (has k l ls e) (λ next. parse end next us) (ap (λ o. either (with_operand k.declared k.parts k.before k.purpose l ls o) (only (is_sign Open t.kind) (wants k fresh (l ∷ ls)))) is) (quiet fits)

pub leaf_done : {end spare : ℕ} {ts us : List Placed} {was now : List Op} (t : Token) (i : Instruction) → ts ≡ token_of t ∷ us → leaf_code (Some i) ≡ leaf_postfix (leaf (kind_of t.kind) t.place) → now ≡ was ++ op_of i ∷ [] → Done end spare AnyLevel AnyRest ts us was now
leaf_done {end} {spare} {ts} {us} {was} t i first is pushed =
    let f = leaf_found _ i is in
    record {
      tree = f.0;
      further = omega (arith, ap length first);
      reads = λ k l ls q fits. ap (parse end (wants k l ls)) first ∙ at_leaf end k spare l ls (token_of t) us f.0 fits f.1;
      stops = tt;
      single = λ p n e. let named = leaf_name (kind_of t.kind) t.place p n (f.1 ∙ ap Some e) in first ∙ ap (λ x. x ∷ us) (λ i. record { place = named.1 i; kind = named.0 i });
      code = pushed ∙ ap (λ l. was ++ l) (sym f.2);
    }

-- the code after a step has been pushed
pub pushed_ops : (v w : Vec Instruction Global) (i : Instruction) {pushed : Bool} → pushed ≡ true → vec_items w ≡ (if pushed then vec_items v ++ i ∷ [] else vec_items v) → ops w ≡ ops v ++ op_of i ∷ []
pushed_ops v w i is e = ap (map op_of) (e ∙ cond-true _ _ _ is) ∙ map_push op_of (vec_items v) i

-- between parentheses: one expression
pub one_enclosed : {spare : ℕ} (was mid now : Parser Instruction) (r : Result (Unit {0}) (Failure Fault)) → mid.end ≡ was.end → Done was.end spare NoSum NoPlus (left was) (left mid) (code was) (code mid) → NoComparison (left mid) → Expects (sign Close) mid r now → Encloses spare was r now
one_enclosed {spare} was mid now (Ok u) ends d single e = (
  e.3.0 ∙ ends,
  record {
    tree = group d.tree;
    further = omega (arith, d.further, ap length e.1);
    reads = λ k m ms f. d.reads k fresh (m ∷ ms) (refl, refl) f ∙ onto_close was.end k spare m ms f fresh d.tree e.0 e.1 e.2;
    compound = λ p n e. grind arith;
    code = ap ops e.3.1 ∙ d.code;
  },
)
one_enclosed {spare} was mid now (Err (Refused x)) ends d single e = λ k m ms f.
    d.reads k fresh (m ∷ ms) (refl, refl) f ∙ not_closed was.end k spare m ms f d.tree (left mid) d.stops single e.0 ∙ ap (λ n. refused NotAllowed (place_first (left mid) n)) (sym ends) ∙ ap (λ y. refused y.fault y.place) (sym e.1)
one_enclosed was mid now (Err (Memory x)) ends d single e = absurd e

-- two, with a comparison at `middle`, and `behind` it
module _ {spare : ℕ} (was middle behind : Parser Instruction) (ends : middle.end ≡ was.end) (d : Done was.end spare NoSum NoPlus (left was) (left middle) (code was) (code middle)) (x : ℕ × operators.Operator) (w : TakesComparison middle (Some x) behind) where
  abbrev compared : Expr → ℕ × Operator × Expr
  compared a = (w.0.place, operator_of x.1, a)

  onto_right : (k : Around) (m : Level) (ms : List Level) → Fits k spare (m ∷ ms) → parse was.end (wants k fresh (m ∷ ms)) (left was) ≡ parse was.end (wants k (level (Some (compared d.tree)) None None) (m ∷ ms)) (left behind)
  onto_right k m ms f = d.reads k fresh (m ∷ ms) (refl, refl) f ∙ onto_comparison was.end k spare m ms f x.1 w.1 w.5 d.tree w.0 w.2 w.3

  same_end : behind.end ≡ was.end
  same_end = w.6.0 ∙ ends

  enclosed : (late now : Parser Instruction) {mid : List Op} (r : Result (Unit {0}) (Failure Fault)) → late.end ≡ was.end → Done was.end spare NoSum NoPlus (left behind) (left late) (code behind) mid → code late ≡ mid ++ apply w.0.place (operator_of x.1) ∷ [] → Expects (sign Close) late r now → Encloses spare was r now
  enclosed late now (Ok u) ended b pushed e = (
    e.3.0 ∙ ended,
    record {
      tree = binary w.0.place (operator_of x.1) d.tree b.tree;
      further = omega (arith, d.further, b.further, ap length e.1, ap length w.2);
      reads = λ k m ms f. onto_right k m ms f ∙ b.reads k (level (Some (compared d.tree)) None None) (m ∷ ms) (refl, refl) f ∙ onto_close was.end k spare m ms f (level (Some (compared d.tree)) None None) b.tree e.0 e.1 e.2;
      compound = λ q n e. not_joined w.0.place (operator_of x.1) d.tree b.tree q n e;
      code = ap ops e.3.1 ∙ pushed ∙ ap (λ l. l ++ apply w.0.place (operator_of x.1) ∷ []) (b.code ∙ ap (λ l. l ++ postfix b.tree) (ap ops w.6.1 ∙ d.code)) ∙ simp append_assoc;
    },
  )
  enclosed late now (Err (Refused y)) ended b pushed e = λ k m ms f.
      onto_right k m ms f ∙ b.reads k (level (Some (compared d.tree)) None None) (m ∷ ms) (refl, refl) f ∙ not_closed_again was.end k spare m ms f (compared d.tree) b.tree (left late) b.stops e.0 ∙ ap (λ n. refused NotAllowed (place_first (left late) n)) (sym ended) ∙ ap (λ z. refused z.fault z.place) (sym e.1)
  enclosed late now (Err (Memory y)) ended b pushed e = absurd e

  pub two_enclosed : (late now : Parser Instruction) {mid : List Op} (r : Result (Unit {0}) (Failure Fault)) → late.end ≡ behind.end → Done behind.end spare NoSum NoPlus (left behind) (left late) (code behind) mid → code late ≡ mid ++ apply x.0 (operator_of x.1) ∷ [] → Expects (sign Close) late r now → Encloses spare was r now
  two_enclosed late now {mid} r ended b pushed e =
      enclosed late now r (ended ∙ same_end) (subst (λ n. Done n spare NoSum NoPlus (left behind) (left late) (code behind) mid) same_end b) (pushed ∙ ap (λ q. mid ++ apply q (operator_of x.1) ∷ []) w.4) e
