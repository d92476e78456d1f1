-- How values are written as lines, and which values lines are.
use Rattle.std.specs.Prelude.{ℕ, ◌==◌, true, false, cond, List, [], ◌∷◌, ◌++◌, map, codes, decimal}
use Rattle.std.specs.List.{flat_map}
use Rattle.std.specs.Str.{bytes_eq}
use Rattle.std.specs.Str.Parse.{digits_value}
use Rattle.hosts.specs.declared.exchange.Value.{Value}
use Rattle.hosts.specs.declared.exchange.Value.TheVariants.{Truth, Number}

-- the most bytes that a line has
abbrev pub line_bytes : ℕ
line_bytes = 11

abbrev pub text_of : Value → List ℕ
text_of (Truth true) = codes "true"
text_of (Truth false) = codes "false"
text_of (Number n) = decimal n

abbrev pub line_of : Value → List ℕ
line_of v = text_of v ++ codes "\n"

-- values as lines, one after the other
abbrev pub encoded : List Value → List ℕ
encoded vs = flat_map line_of vs

-- the byte is the first of the first line, if there is a line
abbrev pub longer : ℕ → List (List ℕ) → List (List ℕ)
longer b [] = []
longer b (l ∷ ls) = (b ∷ l) ∷ ls

-- the lines of a text, without the line feeds that end them
abbrev pub lines : List ℕ → List (List ℕ)
lines [] = []
lines (b ∷ bs) = cond (b == 10) ([] ∷ lines bs) (longer b (lines bs))

abbrev pub value_of : List ℕ → Value
value_of line =
    cond (bytes_eq line (codes "true")) (Truth true) (cond (bytes_eq line (codes "false")) (Truth false) (Number (digits_value 10 line)))

-- the values that the lines of a text are
abbrev pub decoded : List ℕ → List Value
decoded text = map value_of (lines text)
