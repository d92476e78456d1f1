-- How words and signs are written, and which word a run of letters is.
use Rattle.std.specs.Prelude.{◌≡◌, ℕ, List, [], ◌∷◌, Some, None, codes, Option, ◌≢◌}
use Rattle.std.specs.List.{find}
use Rattle.std.specs.Str.{bytes_eq}
use Rattle.tokens.specs.declared.sign.Sign.{Sign}
use Rattle.tokens.specs.declared.sign.Sign.TheVariants.{Semicolon, Comma, Becomes, Plus, Star, Equals, Differs, Open, Close}
use Rattle.tokens.specs.declared.word.Word.{Word}
use Rattle.tokens.specs.declared.word.Word.TheVariants.{Begin, End, Int, Bool, Ref, If, Then, Else, Fi, While, Do, Input, Output, True, False}

abbrev pub letters : Word → List ℕ
letters Begin = codes "begin"
letters End = codes "end"
letters Int = codes "int"
letters Bool = codes "bool"
letters Ref = codes "ref"
letters If = codes "if"
letters Then = codes "then"
letters Else = codes "else"
letters Fi = codes "fi"
letters While = codes "while"
letters Do = codes "do"
letters Input = codes "input"
letters Output = codes "output"
letters True = codes "true"
letters False = codes "false"

-- every word of the language
abbrev pub words : List Word
words = Begin ∷ End ∷ Int ∷ Bool ∷ Ref ∷ If ∷ Then ∷ Else ∷ Fi ∷ While ∷ Do ∷ Input ∷ Output ∷ True ∷ False ∷ []

-- the word that is written like the run, if one is
abbrev pub word_of : List ℕ → Option Word
word_of run = find (λ w. bytes_eq run (letters w)) words

-- the word that a run is written like, or none where no word is
abbrev pub Spells : List ℕ → Option Word → Type 0
Spells run None = (w : Word) → run ≢ letters w
Spells run (Some w) = run ≡ letters w

abbrev pub spelling : Sign → List ℕ
spelling Semicolon = codes ";"
spelling Comma = codes ","
spelling Becomes = codes ":="
spelling Plus = codes "+"
spelling Star = codes "*"
spelling Equals = codes "="
spelling Differs = codes "#"
spelling Open = codes "("
spelling Close = codes ")"
