-- What a search for letters among the names finds, in the words of the judgement.
use Rattle.std.proofs.Common.{◌≡◌, ℕ, ◌<◌, ◌≤◌, Bool, true, false, ◌||◌, List, [], ◌∷◌, map, length, Some, None, Bor, Option, sym, refl, ap, ◌∙◌, arith}
use Rattle.modes.specs.Declaring.{holds, lookup, mode_of, most_names, wrong_at}
use Rattle.modes.specs.declared.fault.Fault.TheVariants.{DeclaredBefore, TooManyNames}
use Rattle.outline.specs.Names.{declared_of}
use Rattle.outline.specs.declared.declared.Declared.{Declared}
use Rattle.std.proofs.lemmas.List.{length-map}
use Rattle.std.proofs.lemmas.Bool.{cond-true, cond-false, le-ltb, lt-ltb}
use Rattle.std.specs.List.{find, list_any}
use Rattle.std.specs.Option.{option_map}
use Rattle.std.specs.Str.{bytes_eq}

-- a name has these letters
abbrev pub has_letters : List ℕ → Declared → Bool
has_letters n d = bytes_eq d.name.now n

-- what a search among the names themselves finds
held : (xs : List Declared) (n : List ℕ) → holds (map declared_of xs) n ≡ list_any (has_letters n) xs
held [] n = refl
held (x ∷ xs) n = ap (λ t. bytes_eq x.name.now n || t) (held xs n)

looked_up : (xs : List Declared) (n : List ℕ) → lookup (map declared_of xs) n ≡ option_map (λ d. mode_of (declared_of d)) (find (has_letters n) xs)
looked_up [] n = refl
looked_up (x ∷ xs) n = grind (arith, looked_up xs n)

module _ (xs : List Declared) (n : List ℕ) (r : Option (Bor Declared)) (found : option_map (λ d. d.now) r ≡ find (has_letters n) xs) where
  pub mode_found : (d : Bor Declared) → r ≡ Some d → lookup (map declared_of xs) n ≡ Some (mode_of (declared_of d.now))
  mode_found d is = looked_up xs n ∙ ap (option_map (λ e. mode_of (declared_of e))) (sym found ∙ ap (option_map (λ d. d.now)) is)

  pub mode_missing : r ≡ None → lookup (map declared_of xs) n ≡ None
  mode_missing is = looked_up xs n ∙ ap (option_map (λ e. mode_of (declared_of e))) (sym found ∙ ap (option_map (λ d. d.now)) is)

-- one name after those before it
module _ (before : List Declared) (d : Declared) (r : Bool) (found : r ≡ list_any (has_letters d.name.now) before) where
  pub named_before : r ≡ true → wrong_at (map declared_of before) (declared_of d) ≡ Some (DeclaredBefore, d.place)
  named_before is = cond-true _ _ _ (held before d.name.now ∙ sym found ∙ is)

  pub too_many : r ≡ false → most_names ≤ length before → wrong_at (map declared_of before) (declared_of d) ≡ Some (TooManyNames, d.place)
  too_many is full =
      cond-false _ _ _ (held before d.name.now ∙ sym found ∙ is) ∙ cond-false _ _ _ (le-ltb (length (map declared_of before)) most_names (omega (arith, length-map before declared_of)))

  pub with_room : r ≡ false → length before < most_names → wrong_at (map declared_of before) (declared_of d) ≡ None
  with_room is room =
      cond-false _ _ _ (held before d.name.now ∙ sym found ∙ is) ∙ cond-true _ _ _ (lt-ltb (length (map declared_of before)) most_names (omega (arith, length-map before declared_of)))
