-- The report on the readings of a source, byte for byte.
use Rattle.std.specs.Prelude.{ℕ, cond, Bool, true, false, List, [], ◌∷◌, ◌++◌, map, length, codes, decimal, count_by, Ok, Err, nat_lt}
use Rattle.hosts.specs.Faults.{number_of}
use Rattle.hosts.specs.Meaning.{Item}
use Rattle.hosts.specs.declared.exchange.Value.TheVariants.{Truth, Number}
use Rattle.hosts.specs.declared.fault.Fault.TheVariants.{InputTooLong}
use Rattle.probe_host.specs.Codes.{item_of}
use Rattle.refusals.specs.Text.{refusal_text}
use Rattle.text_host.specs.Held.{most_bytes}
use Rattle.text_host.specs.Items.{items}

-- an item as it was understood
abbrev pub item_text : Item → List ℕ
item_text (Ok (Number n)) = codes "number " ++ decimal n
item_text (Ok (Truth true)) = codes "truth true"
item_text (Ok (Truth false)) = codes "truth false"
item_text (Err _) = codes "unreadable"

-- each on a line of its own
abbrev pub lines : List Item → List ℕ
lines [] = []
lines (i ∷ is) = (item_text i ++ codes "\n") ++ lines is

-- the kinds of items
abbrev pub is_number : Item → Bool
is_number (Ok (Number n)) = true
is_number (Ok (Truth b)) = false
is_number (Err _) = false

abbrev pub is_truth : Item → Bool
is_truth (Ok (Number n)) = false
is_truth (Ok (Truth b)) = true
is_truth (Err _) = false

abbrev pub is_unreadable : Item → Bool
is_unreadable (Ok v) = false
is_unreadable (Err _) = true

-- how many there are of each kind
abbrev pub tally_text : ℕ → ℕ → ℕ → List ℕ
tally_text numbers truths unreadable =
    codes "numbers " ++ (decimal numbers ++ (codes "\ntruths " ++ (decimal truths ++ (codes "\nunreadable " ++ decimal unreadable))))

-- items, and how many of each kind
abbrev pub readings_text : List Item → List ℕ
readings_text is = lines is ++ (tally_text (count_by is_number is) (count_by is_truth is) (count_by is_unreadable is) ++ codes "\n")

-- the number by which a probe is given an item: only a number can be given to it as what it is
abbrev pub probe_number : Item → ℕ
probe_number (Ok (Number n)) = n
probe_number (Ok (Truth b)) = 4294967295
probe_number (Err _) = 4294967295

-- what a host refuses for its length
abbrev pub too_long : List ℕ
too_long = refusal_text (number_of InputTooLong) 0 ++ codes "\n"

-- the same items as a probe reads them, of which there are at most 4,096
abbrev pub probed : List Item → List ℕ
probed is = cond (nat_lt 4096 (length is)) too_long (readings_text (map item_of (map probe_number is)))

-- the readings of a text, and below the line `probe` as a probe reads them
abbrev pub report_of : List ℕ → List ℕ
report_of source =
    cond (nat_lt most_bytes (length source)) too_long (readings_text (items source) ++ (codes "probe\n" ++ probed (items source)))
