-- The steps of the machine in the declarations keep the invariant.
use Rattle.std.proofs.Common.{◌≡◌, ℕ, suc, ◌+◌, List, [], ◌∷◌, ◌++◌, sym, refl, ap, ◌∙◌, subst, append_assoc, append-nil, add-zero, zero-add, arith}
use Rattle.grammar.specs.Bnf.{at, declare, Mode, mode_bool, mode_int, mode_ref, IdList, ids_last, ids_more, Declaration, declaration, DclTrain, dcl_last, dcl_more}
use Rattle.grammar.specs.Machine.{wanted, moding, naming, in_mode}
use Rattle.grammar.specs.Tree.{Primitive, int, bool, Declared}
use Rattle.grammar.proofs.Invariant.{none_before, no_parts, Done, none_done, done, Modes, Names, Named, Between, Inside, Allows}
use Rattle.grammar.proofs.Tests.{either_allows, only_word}
use Rattle.tokens.specs.Tokens.{Kind, word, sign, name, Placed}
use Rattle.tokens.specs.declared.sign.Sign.TheVariants.{Semicolon, Comma}
use Rattle.tokens.specs.declared.word.Word.TheVariants.{Int, Bool as BoolWord, Ref}

dcl_snoc : {ds es : List Declared} {xs ys : List Placed} → DclTrain ds xs → (p : ℕ) → Declaration es ys → DclTrain (ds ++ es) (xs ++ at p (sign Semicolon) ∷ ys)
dcl_snoc (dcl_last d) p e = dcl_more p d (dcl_last e)
dcl_snoc {es = es} {ys = ys} (dcl_more q {ds = ds} {es = fs} {xs = xs} {ys = zs} d t) p e =
    rw (append_assoc ds fs es, append_assoc xs (at q (sign Semicolon) ∷ zs) (at p (sign Semicolon) ∷ ys)) (dcl_more q d (dcl_snoc t p e))

done_more : {ds es : List Declared} {xs ys : List Placed} → Done ds xs → Declaration es ys → DclTrain (ds ++ es) (xs ++ ys)
done_more none_done e = dcl_last e
done_more {ys = ys} (done p {xs = xs} t) e = rw (append_assoc xs (at p (sign Semicolon) ∷ []) ys) (dcl_snoc t p e)

mode_read : (ds : List Declared) (refs p : ℕ) (k : Kind) (m : Primitive) (ts : List Placed) (h : Modes ds refs ts) → Mode 0 m (at p k ∷ []) → Names ds refs m (ts ++ at p k ∷ [])
mode_read ds refs p k m ts h d = record {
  p = h.p;
  es = ds;
  fs = [];
  xs = h.xs;
  ms = h.rs ++ at p k ∷ [];
  ys = [];
  earlier = h.earlier;
  mode = subst (λ n. Mode n m (h.rs ++ at p k ∷ [])) (zero-add refs) (h.mode 0 m (at p k ∷ []) d);
  names = λ gs zs i. i;
  both = sym (append-nil ds);
  same = rw h.same (simp (append_assoc, append-nil));
}

ref_read : (ds : List Declared) (refs p : ℕ) (ts : List Placed) (h : Modes ds refs ts) → Modes ds (refs + 1) (ts ++ at p (word Ref) ∷ [])
ref_read ds refs p ts h = record {
  p = h.p;
  xs = h.xs;
  rs = h.rs ++ at p (word Ref) ∷ [];
  earlier = h.earlier;
  mode = λ k m ys d. rw (append_assoc h.rs (at p (word Ref) ∷ []) ys) (subst (λ n. Mode n m (h.rs ++ at p (word Ref) ∷ ys)) (moved k) (h.mode (suc k) m (at p (word Ref) ∷ ys) (mode_ref p d)));
  same = rw h.same (simp append_assoc);
}
  where
    moved : (k : ℕ) → suc k + refs ≡ k + (refs + 1)
    moved k = omega arith

pub mode_allows : (ds : List Declared) (refs p : ℕ) (k : Kind) (ts : List Placed) → Modes ds refs ts → Allows (in_mode ds refs k) (ts ++ at p k ∷ [])
mode_allows ds refs p k ts h =
    either_allows (only_word p k ts Ref (moding ds (refs + 1)) (ref_read ds refs p ts h)) (either_allows (only_word p k ts Int (naming ds refs int) (mode_read ds refs p (word Int) int ts h (mode_int p))) (only_word p k ts BoolWord (naming ds refs bool) (mode_read ds refs p (word BoolWord) bool ts h (mode_bool p))))

pub name_read : (ds : List Declared) (refs : ℕ) (m : Primitive) (ts : List Placed) → Names ds refs m ts → (p : ℕ) (n : List ℕ) → Named (ds ++ declare p n refs m ∷ []) refs m (ts ++ at p (name n) ∷ [])
name_read ds refs m ts h p n = record {
  p = h.p;
  es = h.es;
  fs = h.fs ++ declare p n refs m ∷ [];
  xs = h.xs;
  ms = h.ms;
  ys = h.ys ++ at p (name n) ∷ [];
  earlier = h.earlier;
  mode = h.mode;
  names = h.names (declare p n refs m ∷ []) (at p (name n) ∷ []) (ids_last p n);
  both = ap (λ l. l ++ declare p n refs m ∷ []) h.both ∙ append_assoc h.es h.fs (declare p n refs m ∷ []);
  same = rw h.same (simp append_assoc);
}

ids_append : {k : ℕ} {m : Primitive} {ds es : List Declared} {xs ys : List Placed} → IdList k m ds xs → (p : ℕ) → IdList k m es ys → IdList k m (ds ++ es) (xs ++ at p (sign Comma) ∷ ys)
ids_append (ids_last q n) p i = ids_more q n p i
ids_append (ids_more q n r d) p i = ids_more q n r (ids_append d p i)

pub comma_read : (ds : List Declared) (refs : ℕ) (m : Primitive) (ts : List Placed) → Named ds refs m ts → (p : ℕ) → Names ds refs m (ts ++ at p (sign Comma) ∷ [])
comma_read ds refs m ts h p = record {
  p = h.p;
  es = h.es;
  fs = h.fs;
  xs = h.xs;
  ms = h.ms;
  ys = h.ys ++ at p (sign Comma) ∷ [];
  earlier = h.earlier;
  mode = h.mode;
  names = λ gs zs i. rw (append_assoc h.ys (at p (sign Comma) ∷ []) zs) (ids_append h.names p i);
  both = h.both;
  same = rw h.same (simp append_assoc);
}

pub declaration_read : (ds : List Declared) (refs : ℕ) (m : Primitive) (ts : List Placed) → Named ds refs m ts → (p : ℕ) → Between ds (ts ++ at p (sign Semicolon) ∷ [])
declaration_read ds refs m ts h p = record {
  p = h.p;
  q = p;
  xs = h.xs ++ (h.ms ++ h.ys);
  declarations = rw h.both (done_more h.earlier (declaration h.mode h.names));
  same = rw h.same (simp append_assoc);
}

pub more_declarations : (ds : List Declared) (ts : List Placed) → Between ds ts → Modes ds 0 ts
more_declarations ds ts h = record {
  p = h.p;
  xs = h.xs ++ at h.q (sign Semicolon) ∷ [];
  rs = [];
  earlier = done h.q h.declarations;
  mode = λ k m ys d. rw (add-zero k) d;
  same = rw h.same (simp append-nil);
}

pub no_more_declarations : (ds : List Declared) (ts : List Placed) → Between ds ts → Inside ds [] [] wanted ts
no_more_declarations ds ts h = record {
  p = h.p;
  q = h.q;
  xs = h.xs;
  ps = [];
  bs = [];
  here = [];
  declarations = h.declarations;
  outer = no_parts;
  earlier = none_before;
  point = refl;
  same = h.same;
}
