-- What a test of the machine lets through has to hold only at the token that it tests for.
use Rattle.std.proofs.Common.{◌≡◌, ℕ, Bool, true, false, List, [], ◌∷◌, ◌++◌, Option, refl, arith}
use Rattle.grammar.specs.Bnf.{at}
use Rattle.grammar.specs.Machine.{State, is_word, is_sign, name_in, only, after, either, with_name}
use Rattle.grammar.proofs.Invariant.{Holds, Allows, refused, allowed}
use Rattle.tokens.specs.Tokens.{Kind, word, sign, name, constant, Placed}
use Rattle.tokens.specs.declared.sign.Sign as signs
use Rattle.tokens.specs.declared.word.Word as words

is_that_sign : (s : signs.Sign) (k : Kind) → is_sign s k ≡ true → k ≡ sign s
is_that_sign s k e = grind arith

pub is_that_word : (w : words.Word) (k : Kind) → is_word w k ≡ true → k ≡ word w
is_that_word w k e = grind arith

pub either_allows : {a b : Option State} {ts : List Placed} → Allows a ts → Allows b ts → Allows (either a b) ts
either_allows refused y = y
either_allows (allowed s h) y = allowed s h

after_allows : (t : Bool) (o : Option State) (ts : List Placed) → (t ≡ true → Allows o ts) → Allows (after t o) ts
after_allows true o ts f = f refl
after_allows false o ts f = refused

only_allows : (t : Bool) (s : State) (ts : List Placed) → (t ≡ true → Holds s ts) → Allows (only t s) ts
only_allows true s ts f = allowed s (f refl)
only_allows false s ts f = refused

pub name_allows : (k : Kind) (p : ℕ) (f : List ℕ → State) (xs : List Placed) → ((n : List ℕ) → Holds (f n) (xs ++ at p (name n) ∷ [])) → Allows (with_name f (name_in k)) (xs ++ at p k ∷ [])
name_allows (word w) p f xs h = refused
name_allows (sign s) p f xs h = refused
name_allows (name n) p f xs h = allowed (f n) (h n)
name_allows (constant n) p f xs h = refused

module _ (p : ℕ) (k : Kind) (xs : List Placed) where
  pub only_sign : (g : signs.Sign) (s : State) → Holds s (xs ++ at p (sign g) ∷ []) → Allows (only (is_sign g k) s) (xs ++ at p k ∷ [])
  only_sign g s h = only_allows (is_sign g k) s (xs ++ at p k ∷ []) (λ e. rw (is_that_sign g k e) h)

  pub only_word : (w : words.Word) (s : State) → Holds s (xs ++ at p (word w) ∷ []) → Allows (only (is_word w k) s) (xs ++ at p k ∷ [])
  only_word w s h = only_allows (is_word w k) s (xs ++ at p k ∷ []) (λ e. rw (is_that_word w k e) h)

  pub after_sign : (g : signs.Sign) (o : Option State) → Allows o (xs ++ at p (sign g) ∷ []) → Allows (after (is_sign g k) o) (xs ++ at p k ∷ [])
  after_sign g o h = after_allows (is_sign g k) o (xs ++ at p k ∷ []) (λ e. rw (is_that_sign g k e) h)

  pub after_word : (w : words.Word) (o : Option State) → Allows o (xs ++ at p (word w) ∷ []) → Allows (after (is_word w k) o) (xs ++ at p k ∷ [])
  after_word w o h = after_allows (is_word w k) o (xs ++ at p k ∷ []) (λ e. rw (is_that_word w k e) h)
