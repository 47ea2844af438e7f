-- Which of two rules is applied first (RFC 8955 section 5.1, RFC 8956 section 4): as one comparison, and in the words
-- of the standards.
use Rattle.std.specs.{Prelude.{◌≡◌, ℕ, ◌-◌, ◌<◌, ◌≤◌, ◌⊎◌, List, [], ◌∷◌}, declared.cmp.Ordering.{Ordering}, Ordering.{nat_cmp, on, then_cmp}}
use Rattle.fs_base.specs.{declared.prefix.Family.TheVariants.{V4, V6}, Bits.{afi_of, cleared}}
use Rattle.fs_ops.specs.OperatorList.{canonical}
use Rattle.fs_nlri.specs.Parts.{Body, V4Body, V6Body, ListBody, Part, Ruled}
use Rattle.fs_order.specs.Component.{ended_cmp, part_cmp}

-- the end of the components counts as a type above all others
abbrev pub parts_cmp : List Part → List Part → Ordering
parts_cmp = ended_cmp part_cmp

-- IPv4 before IPv6
abbrev pub rule_cmp : Ruled → Ruled → Ordering
rule_cmp = then_cmp (on (λ r. afi_of r.family) nat_cmp) (on (λ r. r.parts) parts_cmp)

-- In the words of the standards.

-- of addresses of w bits: the prefix a of m bits lies in the prefix b of n bits
abbrev pub IsWithin : (w m a n b : ℕ) → Type 0
IsWithin w m a n b = (n ≤ m) × (cleared w n a ≡ b)

-- of two nested prefixes the more specific, else the one with the lower address
abbrev pub PrefixBefore : (w m a n b : ℕ) → Type 0
PrefixBefore w m a n b = ((n < m) × IsWithin w m a n b) ⊎ ((IsWithin w m a n b → ⊥) × (IsWithin w n b m a → ⊥) × (a < b))

-- the lower octet at the first difference; where there is none in the common length, the longer string
abbrev pub OctetsBefore : List ℕ → List ℕ → Type 0
OctetsBefore [] ys = ⊥
OctetsBefore (x ∷ xs) [] = Unit {0}
OctetsBefore (x ∷ xs) (y ∷ ys) = (x < y) ⊎ ((x ≡ y) × OctetsBefore xs ys)

-- of IPv6 prefixes the lower offset comes first
abbrev pub BodyBefore : Body → Body → Type 0
BodyBefore (V4Body family m a) (V4Body family' n b) = PrefixBefore 32 m a n b
BodyBefore (V6Body m o a) (V6Body n p b) = (o < p) ⊎ ((o ≡ p) × PrefixBefore 128 (m - o) a (n - p) b)
BodyBefore (ListBody xs) (ListBody ys) = OctetsBefore (canonical xs) (canonical ys)
BodyBefore _ _ = ⊥

-- pair by pair: the lower type, else what stands behind it, else the next pair; the end of the components is above every type
abbrev pub PartsBefore : List Part → List Part → Type 0
PartsBefore [] others = ⊥
PartsBefore (a ∷ more) [] = Unit {0}
PartsBefore (a ∷ more) (b ∷ others) = (a.kind < b.kind) ⊎ ((a.kind ≡ b.kind) × (BodyBefore a.body b.body ⊎ ((a.body ≡ b.body) × PartsBefore more others)))

-- IPv4 before IPv6
abbrev pub Before : Ruled → Ruled → Type 0
Before a b = ((a.family ≡ V4) × (b.family ≡ V6)) ⊎ ((a.family ≡ b.family) × PartsBefore a.parts b.parts)
