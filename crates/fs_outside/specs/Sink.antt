-- What a sink tells of what was written, before and behind a call. What a clock tells of its answers grows in the same way,
-- and what files tell of their openings.
use Rattle.std.specs.Prelude.{ℕ, List, [], ◌++◌, Option, Some, None, Result, ◌≡◌, take, ⊤, MatchResult}

-- What is told now was told before, and has grown by bs. What tells nothing never tells again.
abbrev pub Grew : {A : Type 0} → Option (List A) → Option (List A) → List A → Type 0
Grew old None bs = ⊤
Grew None (Some now) bs = ⊥
Grew (Some before) (Some now) bs = now ≡ before ++ bs

-- a front of bs was added
abbrev pub GrewPart : Option (List ℕ) → Option (List ℕ) → List ℕ → Type 0
GrewPart old new bs = (n : ℕ) × Grew old new (take n bs)

-- a write added the octets that it counts, and none where it failed
abbrev pub WriteGrew : {E : Type 0} → Option (List ℕ) → Option (List ℕ) → Result ℕ E → List ℕ → Type 0
WriteGrew old new result piece = MatchResult result (λ n. Grew old new (take n piece)) (λ _. Grew old new [])
