-- The parts that stand one behind the other: `next` reads one part from where the reading stands, and gives it with where
-- it stands then, or nothing where no whole part stands there. Attributes and messages are read of octets, tapes and
-- captures by a reader that has a state beside its octets.
use Rattle.std.specs.Prelude.{ℕ, suc, zero, Bool, List, [], ◌∷◌, ◌++◌, Option, Some, None, ◌≡◌, ◌<◌, ◌-◌, length, take, nat_le}

abbrev pub with_part : {A B : Type 0} → A → List A × B → List A × B
with_part part parts = (part ∷ parts.0, parts.1)

-- at most so many parts, and where the reading stands behind them
unfoldable pub parts_within : {N A : Type 0} → (N → Option (A × N)) → ℕ → N → List A × N
parts_within next zero now = ([], now)
parts_within next (suc n) now =
    elim (next now) [ None ↦ ([], now) | Some found ↦ with_part found.0 (parts_within next n found.1) ]

-- a part takes something of what is left
abbrev pub ShrinksBy : {N A : Type 0} → (N → ℕ) → (N → Option (A × N)) → Type 0
ShrinksBy {N} {A} size next = (now : N) (found : A × N) → next now ≡ Some found → size found.1 < size now

-- all parts from the front on, and the octets behind the last whole one
unfoldable pub parts_of : {A : Type 0} → (List ℕ → Option (A × List ℕ)) → List ℕ → List A × List ℕ
parts_of next octets = parts_within next (length octets) octets

-- these parts, and then those
abbrev pub parts_then : {A B : Type 0} → List A × B → List A × B → List A × B
parts_then first later = (first.0 ++ later.0, later.1)

-- a part has at least one octet
abbrev pub Shrinks : {A : Type 0} → (List ℕ → Option (A × List ℕ)) → Type 0
Shrinks next = ShrinksBy length next

-- a part that stands at the front stays there, whatever follows
abbrev pub Stable : {A : Type 0} → (List ℕ → Option (A × List ℕ)) → Type 0
Stable {A} next =
    (octets more : List ℕ) (found : A × List ℕ) → next octets ≡ Some found → next (octets ++ more) ≡ Some (found.0, found.1 ++ more)

-- An input is judged by its first `limit` octets alone. Of `left`, what stands behind the first `taken`:
-- the octets that are judged, and whether the limit lies within them or at their end.
abbrev pub window : ℕ → ℕ → List ℕ → List ℕ
window limit taken left = take (limit - taken) left

abbrev pub at_limit : ℕ → ℕ → List ℕ → Bool
at_limit limit taken left = nat_le (limit - taken) (length left)
