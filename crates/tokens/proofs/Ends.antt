-- The beginning and the end of a reading.
use Rattle.std.proofs.Common.{◌≡◌, ℕ, ◌+◌, ◌≤◌, List, [], ◌∷◌, ◌++◌, length, drop, sym, ap, ◌∙◌, append-nil, arith, length-drop}
use Rattle.std.proofs.lemmas.List.{drop_all}
use Rattle.std.proofs.lemmas.Bool.{cond-false, le-ltb}
use Rattle.tokens.specs.Pieces.{cut}
use Rattle.tokens.specs.Progress.{Open, Stands, resume, untold}
use Rattle.tokens.specs.Reading.{read, reading, walk, most_bytes}
use Rattle.tokens.specs.Tokens.{Placed}
use Rattle.tokens.specs.declared.reader.Reader.{Reader}
use Rattle.tokens.specs.declared.reader.State.{State}
use Rattle.tokens.specs.declared.reader.State.TheVariants.{Between, In, AfterColon}
use Rattle.tokens.proofs.Resumed.{resume_read}

pub short : (source : List ℕ) → length source ≤ most_bytes → reading source ≡ walk 0 0 (cut source)
short source h = cond-false _ _ _ (le-ltb most_bytes (length source) h)

-- past the end nothing is open
closed : (source : List ℕ) (state : State) (start : ℕ) → Open state start (length source + 1) source → drop (untold state start (length source + 1)) source ≡ []
closed source Between start opened = drop_all (length source + 1) source (omega arith)
closed source (In r) start opened =
    let rest = drop_all (length source + 1) source (omega arith) in
    let bytes = ap length (opened.1 ∙ ap (λ l. opened.0 ++ l) rest ∙ append-nil opened.0) in
    absurd (omega (arith, length-drop start source, bytes, opened.3, opened.4))
closed source AfterColon start opened =
    let rest = drop_all (length source + 1) source (omega arith) in
    let bytes = ap length (opened.1 ∙ ap (λ l. opened.0 ∷ l) rest) in
    absurd (omega (arith, length-drop start source, bytes, opened.3))

pub finished : (source : List ℕ) (ts : List Placed) (reader : Reader) → Stands source ts reader (length source + 1) → walk 0 0 (cut source) ≡ read ts
finished source ts reader h =
    sym h.told ∙ ap (λ l. resume ts (walk (length ts) (untold reader.state reader.start (length source + 1)) (cut l))) (closed source reader.state reader.start h.opened) ∙ resume_read ts
