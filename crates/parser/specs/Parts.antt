-- Which parts are open, and how that changes.
use Rattle.std.specs.Prelude.{◌≡◌, ℕ, ◌<◌, ◌≤◌, List, [], ◌∷◌, reverse, Some, None, Option}
use Rattle.parser.specs.Parsing.{most_parts}
use Rattle.parser.specs.declared.parts.OpenParts.{OpenParts}
use Rattle.parser.specs.declared.train.Part.{Part}
use Rattle.parser.specs.declared.train.Part.TheVariants.{Else}
use Rattle.stack.specs.Held.{held}

-- the open parts, the innermost first
abbrev pub opened : OpenParts → List Part
opened p = reverse (held p.stack)

-- none are open at first, in enough memory
abbrev pub Over : ℕ → Option OpenParts → Type 0
Over memory None = memory < most_parts
Over memory (Some p) = (most_parts ≤ memory) × (opened p ≡ [])

abbrev pub innermost_of : List Part → Option Part
innermost_of [] = None
innermost_of (p ∷ ps) = Some p

abbrev pub but_innermost : List Part → List Part
but_innermost [] = []
but_innermost (p ∷ ps) = ps

abbrev pub turned : List Part → List Part
turned [] = []
turned (p ∷ ps) = Else ∷ ps
