-- What a stack holds, and how each method alters it.
use Rattle.std.specs.Prelude.{◌≡◌, ℕ, ◌<◌, List, [], ◌∷◌, ◌++◌, length, take, Some, None, Option, Ok, Err, Result}
use Rattle.stack.specs.declared.Stack.{Stack}
use Rattle.stack.specs.declared.full.Full.{Full}

-- the items, the oldest first
unfoldable pub held : {T : Type 0} → Stack T → List T
held s = take s.height s.cells.now

-- how many items there is room for in all
unfoldable pub room : {T : Type 0} → Stack T → ℕ
room s = length s.cells.now

-- with room the item comes on top; a full stack holds what it held
abbrev pub Pushed : {T : Type 0} → Stack T → T → Result (Unit {0}) Full → Stack T → Type 0
Pushed before item (Ok _) after = (length (held before) < room before) × (held after ≡ held before ++ item ∷ [])
Pushed before item (Err _) after = (length (held before) ≡ room before) × (held after ≡ held before)

-- the top item goes; an empty stack holds nothing still
abbrev pub Popped : {T : Type 0} → Stack T → Option T → Stack T → Type 0
Popped before (Some item) after = held before ≡ held after ++ item ∷ []
Popped before None after = (held before ≡ []) × (held after ≡ [])

-- the top item is the youngest; an empty stack has none
abbrev pub Topped : {T : Type 0} → Stack T → Option T → Type 0
Topped s (Some item) = (below : List _) × (held s ≡ below ++ item ∷ [])
Topped s None = held s ≡ []
