-- What a right reading of a text is, in the words of the subject.
use Rattle.std.specs.Prelude.{◌≡◌, ℕ, ◌<◌, ◌≤◌, ◌⊎◌, true, false, List, [], ◌∷◌, ◌++◌, length, codes, Ok, Err, Result}
use Rattle.std.specs.Int.{IsInRange}
use Rattle.std.specs.Str.Parse.{digits_value}
use Rattle.hosts.specs.Meaning.{Item, most_read}
use Rattle.hosts.specs.declared.exchange.Value.{Value}
use Rattle.hosts.specs.declared.exchange.Value.TheVariants.{Truth, Number}
use Rattle.hosts.specs.declared.fault.Fault.{Fault}
use Rattle.refusals.specs.declared.refusal.Refusal.{Refusal}
use Rattle.text_host.specs.Held.{left}
use Rattle.text_host.specs.Items.{most_digits}
use Rattle.text_host.specs.declared.TextHost.{TextHost}

-- a space or a line feed
abbrev pub Blank : ℕ → Type 0
Blank b = (b ≡ 32) ⊎ (b ≡ 10)

-- every byte is a blank; no byte is
abbrev pub AllBlank : List ℕ → Type 0
AllBlank [] = Unit {0}
AllBlank (b ∷ bs) = Blank b × AllBlank bs

abbrev pub NoBlank : List ℕ → Type 0
NoBlank [] = Unit {0}
NoBlank (b ∷ bs) = ¬ (Blank b) × NoBlank bs

-- a run ends before these bytes: they begin with a blank, or there are none
abbrev pub Ends : List ℕ → Type 0
Ends [] = Unit {0}
Ends (b ∷ bs) = Blank b

-- the text is these runs in their order, with blanks before, between and behind them, and each run is as long as it can be
abbrev pub Cuts : List (List ℕ) → List ℕ → Type 0
Cuts [] text = AllBlank text
Cuts (run ∷ runs) text = (blanks rest : List ℕ) × (text ≡ blanks ++ (run ++ rest)) × AllBlank blanks × NoBlank run × (0 < length run) × Ends rest × Cuts runs rest

abbrev pub AllDigits : List ℕ → Type 0
AllDigits [] = Unit {0}
AllDigits (b ∷ bs) = IsInRange 48 57 b × AllDigits bs

-- a run is how this value is written
abbrev pub Spells : List ℕ → Value → Type 0
Spells run (Truth true) = run ≡ codes "true"
Spells run (Truth false) = run ≡ codes "false"
Spells run (Number n) = AllDigits run × (0 < length run) × (length run ≤ most_digits) × (digits_value 10 run ≡ n) × (n ≤ most_read)

-- a run means the value that it spells, or is unreadable if it spells none
abbrev pub Means : List ℕ → Item → Type 0
Means run (Ok v) = Spells run v
Means run (Err _) = (v : Value) → ¬ (Spells run v)

abbrev pub EachMeans : List (List ℕ) → List Item → Type 0
EachMeans [] is = is ≡ []
EachMeans (run ∷ runs) [] = ⊥
EachMeans (run ∷ runs) (i ∷ is) = Means run i × EachMeans runs is

-- the text is cut into runs in one way only, and the items are what they mean
pub record Reads (text : List ℕ) (is : List Item) : Type 0 where
  pub runs : List (List ℕ)
  pub cuts : Cuts runs text
  pub alone : (others : List (List ℕ)) → Cuts others text → others ≡ runs
  pub mean : EachMeans runs is

-- the items of a host are those of the text that it was made of
abbrev pub Lawful : List ℕ → Result TextHost (Refusal Fault) → Type 0
Lawful text (Ok h) = Reads text (left h)
Lawful text (Err x) = Unit {0}
