-- A language is a set of octet lists. What a reader of octets answers is said by these words, at the language that it reads.
use Rattle.std.specs.Prelude.{◌≡◌, ℕ, ◌+◌, ◌<◌, List, ◌++◌, length, take, All}

abbrev pub IsOctets : List ℕ → Type 0
IsOctets octets = All (λ octet. octet < 256) octets

-- the octets are the front of a whole text, or the text itself
pub record Begins (Whole : List ℕ → Type 0) (octets : List ℕ) : Type 0 where
  pub more : List ℕ
  pub are_octets : IsOctets more
  pub whole : Whole (octets ++ more)

-- no front of the octets is a whole text
abbrev pub NoFront : (List ℕ → Type 0) → List ℕ → Type 0
NoFront Whole octets = (n : ℕ) → Whole (take n octets) → ⊥

-- the octets end within a text
pub record IsCut (Whole : List ℕ → Type 0) (octets : List ℕ) (place : ℕ) : Type 0 where
  pub at_end : place ≡ length octets
  pub begins : Begins Whole octets

-- the octet at the place is the first with which no text goes on: any front of what begins a text begins it too, so this is the least such place
pub record IsFirstFault (Whole : List ℕ → Type 0) (octets : List ℕ) (place : ℕ) : Type 0 where
  pub inside : place < length octets
  pub before : Begins Whole (take place octets)
  pub at : Begins Whole (take (place + 1) octets) → ⊥
