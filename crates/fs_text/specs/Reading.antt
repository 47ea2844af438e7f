-- What a reader answers of a word: the one value that has this text, and None exactly where none has it.
use Rattle.std.specs.Prelude.{◌≡◌, ℕ, List, Option, Some, None}

abbrev pub Reads : {A : Type 0} → (A → Type 0) → (A → List ℕ) → List ℕ → Option A → Type 0
Reads Fits text word None = (value : _) → Fits value → word ≡ text value → ⊥
Reads Fits text word (Some value) = Fits value × (word ≡ text value) × ((other : _) → Fits other → word ≡ text other → other ≡ value)
