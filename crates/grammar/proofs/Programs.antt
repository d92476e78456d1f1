-- Each program that the grammar derives, the machine reads, and to one tree only.
use Rattle.std.proofs.Common.{◌≡◌, ℕ, suc, ◌+◌, List, [], ◌∷◌, ◌++◌, Some, None, Option, sym, refl, ap, ◌∙◌, append_assoc, zero-add, arith}
use Rattle.grammar.specs.Bnf.{at, declare, Mode, mode_bool, mode_int, mode_ref, IdList, ids_last, ids_more, Declaration, declaration, DclTrain, dcl_last, dcl_more, Derives, program}
use Rattle.grammar.specs.Law.{Viable}
use Rattle.grammar.specs.Machine.{State, opening, moding, naming, named, between, finished, advance, go, program_of, runs}
use Rattle.grammar.specs.Tree.{Primitive, int, bool, Declared, Program}
use Rattle.grammar.proofs.Statements.{end_follows, train_whole, first_train, train_back}
use Rattle.tokens.specs.Tokens.{word, sign, Placed}
use Rattle.tokens.specs.declared.sign.Sign.TheVariants.{Semicolon}
use Rattle.tokens.specs.declared.word.Word.TheVariants.{End}

mode_whole : {k : ℕ} {m : Primitive} {ts : List Placed} → Mode k m ts → (ds : List Declared) (r : ℕ) (rest : List Placed) → runs (Some (moding ds r)) (ts ++ rest) ≡ runs (Some (naming ds (r + k) m)) rest
mode_whole (mode_bool p) ds r rest = ap (λ x. runs (Some (naming ds x bool)) rest) (omega arith)
mode_whole (mode_int p) ds r rest = ap (λ x. runs (Some (naming ds x int)) rest) (omega arith)
mode_whole (mode_ref p {k = k} {m = m} d) ds r rest = mode_whole d ds (r + 1) rest ∙ ap (λ x. runs (Some (naming ds x m)) rest) more_refs
  where
    more_refs : r + 1 + k ≡ r + suc k
    more_refs = omega arith

ids_whole : {k : ℕ} {m : Primitive} {es : List Declared} {ts : List Placed} → IdList k m es ts → (ds : List Declared) (rest : List Placed) → runs (Some (naming ds k m)) (ts ++ rest) ≡ runs (Some (named (ds ++ es) k m)) rest
ids_whole (ids_last p n) ds rest = refl
ids_whole (ids_more p n q {k = k} {m = m} {ds = es} d) ds rest =
    ids_whole d (ds ++ declare p n k m ∷ []) rest ∙ ap (λ l. runs (Some (named l k m)) rest) (append_assoc ds (declare p n k m ∷ []) es)

declaration_whole : {es : List Declared} {ts : List Placed} → Declaration es ts → (ds : List Declared) (q : ℕ) (rest : List Placed) → runs (Some (moding ds 0)) (ts ++ at q (sign Semicolon) ∷ rest) ≡ runs (Some (between (ds ++ es))) rest
declaration_whole (declaration {k = k} {m = m} {xs = xs} {ys = ys} d i) ds q rest =
    ap (runs (Some (moding ds 0))) (append_assoc xs ys (at q (sign Semicolon) ∷ rest)) ∙ mode_whole d ds 0 (ys ++ at q (sign Semicolon) ∷ rest) ∙ ap (λ x. runs (Some (naming ds x m)) (ys ++ at q (sign Semicolon) ∷ rest)) (zero-add k) ∙ ids_whole i ds (at q (sign Semicolon) ∷ rest)

-- a mode tells that there is one more declaration
next_declaration : {es : List Declared} {ts : List Placed} → DclTrain es ts → (ds : List Declared) (rest : List Placed) → runs (Some (between ds)) (ts ++ rest) ≡ runs (Some (moding ds 0)) (ts ++ rest)
next_declaration (dcl_last (declaration (mode_bool p) i)) ds rest = refl
next_declaration (dcl_last (declaration (mode_int p) i)) ds rest = refl
next_declaration (dcl_last (declaration (mode_ref p d) i)) ds rest = refl
next_declaration (dcl_more q (declaration (mode_bool p) i) t) ds rest = refl
next_declaration (dcl_more q (declaration (mode_int p) i) t) ds rest = refl
next_declaration (dcl_more q (declaration (mode_ref p d) i) t) ds rest = refl

declarations_whole : {es : List Declared} {ts : List Placed} → DclTrain es ts → (ds : List Declared) (q : ℕ) (rest : List Placed) → runs (Some (moding ds 0)) (ts ++ at q (sign Semicolon) ∷ rest) ≡ runs (Some (between (ds ++ es))) rest
declarations_whole (dcl_last d) ds q rest = declaration_whole d ds q rest
declarations_whole (dcl_more p {ds = es} {es = fs} {xs = xs} {ys = ys} d t) ds q rest =
    ap (runs (Some (moding ds 0))) (append_assoc xs (at p (sign Semicolon) ∷ ys) (at q (sign Semicolon) ∷ rest)) ∙ declaration_whole d ds p (ys ++ at q (sign Semicolon) ∷ rest) ∙ next_declaration t (ds ++ es) (at q (sign Semicolon) ∷ rest) ∙ declarations_whole t (ds ++ es) q rest ∙ ap (λ l. runs (Some (between l)) rest) (append_assoc ds es fs)

pub program_whole : {p : Program} {ts : List Placed} → Derives p ts → runs (Some opening) ts ≡ Some p
program_whole (program p q r {ds = ds} {t = t} {ys = ys} d b) =
    declarations_whole d [] q (ys ++ at r (word End) ∷ []) ∙ first_train ds b (at r (word End) ∷ []) ∙ train_whole ds b [] [] (at r (word End)) [] (end_follows r) ∙ ap (λ x. runs (Some (finished ds x)) []) (train_back t)

pub one_tree : {p q : Program} {ts : List Placed} → Derives p ts → Derives q ts → p ≡ q
one_tree {p} {q} {ts} d f = let a = program_whole d in let b = program_whole f in cc

-- the tokens one part after another
go_none : (ts : List Placed) → go None ts ≡ None
go_none [] = refl
go_none (t ∷ ts) = refl

pub go_append : (s : Option State) (xs ys : List Placed) → go s (xs ++ ys) ≡ go (go s xs) ys
go_append s [] ys = refl
go_append None (x ∷ xs) ys = sym (go_none ys)
go_append (Some s) (x ∷ xs) ys = go_append (advance s x) xs ys

pub no_program : (ts : List Placed) → go (Some opening) ts ≡ None → Viable ts → ⊥
no_program ts none v =
    let a = program_whole v.2 in
    let b = ap program_of (go_append (Some opening) ts v.0 ∙ ap (λ s. go s v.0) none ∙ go_none v.0) in
    let z : ◌≡◌ {A = ℕ} 0 1 = cc in omega arith
