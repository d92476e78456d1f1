-- What a text reads as: its runs, and the item that each is.
use Rattle.std.specs.Prelude.{ℕ, ◌==◌, Bool, true, false, cond, ◌&&◌, ◌||◌, List, [], ◌∷◌, map, length, codes, Some, None, Ok, Err, Option, nat_lt, nat_le}
use Rattle.std.specs.Char.{is_ascii_digit}
use Rattle.std.specs.List.{list_all, onto_first}
use Rattle.std.specs.Str.{bytes_eq}
use Rattle.std.specs.Str.Parse.{digits_value}
use Rattle.hosts.specs.Meaning.{Item, most_read}
use Rattle.hosts.specs.declared.exchange.Value.TheVariants.{Truth, Number}

abbrev pub most_digits : ℕ
most_digits = 10

-- a space or a line feed
abbrev pub blank : ℕ → Bool
blank b = (b == 32) || (b == 10)

-- the end parts runs as a blank does
abbrev pub parted : List ℕ → Bool
parted [] = true
parted (b ∷ bs) = blank b

-- the runs of bytes that are no blanks; a byte is a run alone, or makes the one behind it longer
abbrev pub runs : List ℕ → List (List ℕ)
runs [] = []
runs (b ∷ bs) = cond (blank b) (runs bs) (cond (parted bs) ((b ∷ []) ∷ runs bs) (onto_first b (runs bs)))

-- at least one digit and not too many, and nothing else
abbrev pub is_digits : List ℕ → Bool
is_digits run = nat_lt 0 (length run) && nat_le (length run) most_digits && list_all is_ascii_digit run

abbrev pub number_of : List ℕ → Item
number_of run = cond (is_digits run && nat_le (digits_value 10 run) most_read) (Ok (Number (digits_value 10 run))) (Err (record {}))

abbrev pub item_of : List ℕ → Item
item_of run = cond (bytes_eq run (codes "true")) (Ok (Truth true)) (cond (bytes_eq run (codes "false")) (Ok (Truth false)) (number_of run))

abbrev pub items : List ℕ → List Item
items text = map item_of (runs text)

-- an item, if there is one, before others
abbrev pub ahead : Option Item → List Item → List Item
ahead None is = []
ahead (Some i) is = i ∷ is
