-- A refusal as text.
use Rattle.std.specs.Prelude.{ℕ, List, ◌++◌, codes, decimal}

-- `refused NUMBER PLACE`
abbrev pub refusal_text : ℕ → ℕ → List ℕ
refusal_text number place = codes "refused " ++ (decimal number ++ (codes " " ++ decimal place))
