-- Formats that are chains of fields: what a chain says, told the place in the input at which its octets stand.
use Rattle.std.specs.Prelude.{ℕ, Bool, List, ◌+◌, length, take, drop, nat_le, if◌then◌else◌}

-- a value and how many octets it took; or the first wrong field and its place in the input; or too few octets
pub data Scan (A R : Type 0) : Type 0 where
  got : A → ℕ → Scan A R
  wrong : R → ℕ → Scan A R
  partial : Scan A R

abbrev pub Scanner : Type 0 → Type 0 → Type 0
Scanner A R = ℕ → List ℕ → Scan A R

-- the same behind so many octets
abbrev pub behind : {A R : Type 0} → ℕ → Scan A R → Scan A R
behind n (got value count) = got value (n + count)
behind n (wrong reason place) = wrong reason place
behind n partial = partial

abbrev pub and_then : {A B R : Type 0} → (A → Scanner B R) → ℕ → List ℕ → Scan A R → Scan B R
and_then next place octets (got value count) = behind count (next value (place + count) (drop count octets))
and_then next place octets (wrong reason at) = wrong reason at
and_then next place octets partial = partial

-- one field, and then what its value calls for
abbrev pub and : {A B R : Type 0} → Scanner A R → (A → Scanner B R) → Scanner B R
and first next place octets = and_then next place octets (first place octets)

-- a value that takes no octets
abbrev pub gives : {A R : Type 0} → A → Scanner A R
gives value place octets = got value 0

-- a fault at this place
abbrev pub fails : {A R : Type 0} → R → ℕ → Scanner A R
fails reason at place octets = wrong reason at

-- what must hold before the next field is read
abbrev pub needs : {A R : Type 0} → Bool → R → ℕ → Scanner A R → Scanner A R
needs test reason at next = if test then next else fails reason at

-- so many octets, read as a value
abbrev pub field : {A R : Type 0} → ℕ → (List ℕ → A) → Scanner A R
field size read place octets = if nat_le size (length octets) then got (read (take size octets)) size else partial

-- so many octets that aren't read
abbrev pub skips : {R : Type 0} → ℕ → Scanner ℕ R
skips size place octets = if nat_le size (length octets) then got size size else partial
