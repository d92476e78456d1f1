-- What lent memory holds after a line was written.
use Rattle.std.proofs.Common.{◌≡◌, ℕ, ◌+◌, ◌<◌, ◌≤◌, List, [], ◌∷◌, ◌++◌, length, get_or, take, drop, set, sym, ap, ◌∙◌, append_assoc, arith}
use Rattle.std.proofs.lemmas.List.{drop-drop, drop_at, drop_more, length-append, length-take-le, set_at, take-append-drop, take_at}
use Rattle.text_host.specs.Held.{overlaid}

-- a text was put at a place, and a byte behind it
module _ (out text : List ℕ) (at b : ℕ) (room : at + length text + 1 ≤ length out) where
  abbrev pub after : List ℕ
  after = set (take at out ++ (text ++ drop (length text) (drop at out))) (at + length text) b

  placed : after ≡ take at out ++ (text ++ b ∷ []) ++ drop (at + length text + 1) out
  placed =
      let front = take at out ++ text in
      let over = get_or out (at + length text) 0 in
      let behind = drop (at + length text + 1) out in
      let inside : at + length text < length out = omega arith in
      let apart : drop (length text) (drop at out) ≡ over ∷ behind = drop-drop (length text) at out ∙ drop_more out (at + length text) 0 inside in
      let whole : take at out ++ (text ++ drop (length text) (drop at out)) ≡ front ++ over ∷ behind =
      ap (λ r. take at out ++ (text ++ r)) apart ∙ sym (append_assoc (take at out) text (over ∷ behind)) in
      let long : length front ≡ at + length text = omega (arith, length-append (take at out) text, length-take-le at out (omega arith)) in
      let last : front ++ b ∷ behind ≡ take at out ++ (text ++ b ∷ []) ++ behind =
      sym (append_assoc front (b ∷ []) behind) ∙ ap (λ l. l ++ behind) (append_assoc (take at out) text (b ∷ [])) in
      ap (λ l. set l (at + length text) b) whole ∙ set_at front over behind b (at + length text) long ∙ last

  long : length (take at out ++ (text ++ b ∷ [])) ≡ at + length text + 1
  long = omega (arith, length-append (take at out) (text ++ b ∷ []), length-append text (b ∷ []), length-take-le at out (omega arith))

  pub text_after : take (at + length text + 1) after ≡ take at out ++ (text ++ b ∷ [])
  text_after = ap (take (at + length text + 1)) placed ∙ take_at (take at out ++ (text ++ b ∷ [])) (drop (at + length text + 1) out) (at + length text + 1) long

  pub behind_after : drop (at + length text + 1) after ≡ drop (at + length text + 1) out
  behind_after = ap (drop (at + length text + 1)) placed ∙ drop_at (take at out ++ (text ++ b ∷ [])) (drop (at + length text + 1) out) (at + length text + 1) long

-- memory that is as it was behind a place
pub overlaid_by : (before after : List ℕ) (end : ℕ) → end ≤ length after → drop end after ≡ drop end before → after ≡ overlaid (take end after) before
overlaid_by before after end inside same =
    sym (take-append-drop end after) ∙ ap (λ l. take end after ++ l) same ∙ ap (λ n. take end after ++ drop n before) (sym (length-take-le end after inside))
