-- The report on a source, byte for byte.
use Rattle.std.specs.Prelude.{ℕ, List, [], ◌∷◌, ◌++◌, length, codes, decimal}
use Rattle.refusals.specs.Text.{refusal_text}
use Rattle.tokens.specs.Faults.{number_of}
use Rattle.tokens.specs.Reading.{Reading, read, refused}
use Rattle.tokens.specs.Tokens.{Kind, word, sign, name, constant, Placed}
use Rattle.tokens.specs.Words.{letters, spelling}

-- the kind of a token and its text, each after a space
abbrev pub kind_text : Kind → List ℕ
kind_text (word w) = codes " word " ++ letters w
kind_text (sign s) = codes " sign " ++ spelling s
kind_text (name ls) = codes " name " ++ ls
kind_text (constant n) = codes " constant " ++ decimal n

-- a token, `PLACE KIND TEXT`
abbrev pub entry : Placed → List ℕ
entry t = decimal t.place ++ kind_text t.kind

-- each on a line of its own
abbrev pub line : Placed → List ℕ
line t = entry t ++ codes "\n"

abbrev pub lines : List Placed → List ℕ
lines [] = []
lines (t ∷ ts) = line t ++ lines ts

-- a line for each token and `accepted COUNT tokens`, or only `refused NUMBER PLACE`
abbrev pub report_of : Reading → List ℕ
report_of (read ts) = lines ts ++ (codes "accepted " ++ (decimal (length ts) ++ codes " tokens\n"))
report_of (refused f p) = refusal_text (number_of f) p ++ codes "\n"
