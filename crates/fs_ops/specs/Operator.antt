-- The operator octet that stands before each value of a list (RFC 8955 sections 4.2.1.1 and 4.2.1.2).
use Rattle.std.specs.Prelude.{ℕ, ◌/◌, ◌^◌, Bool, not, ◌==◌, bit_and, if◌then◌else◌}
pub use Rattle.fs_ops.specs.declared.kind.Kind.{Kind, TheVariants.{Numeric, Bitmask}}

-- the bits that mean something: end, AND, the length of the value, and less, greater, equal or NOT, match
abbrev pub meant_bits : Kind → ℕ
meant_bits Numeric = 247
meant_bits Bitmask = 243

-- the same but AND for the first operator of a list: there is none before it that it could join
abbrev pub first_bits : Kind → ℕ
first_bits kind = bit_and (meant_bits kind) 191

abbrev pub counted_bits : Kind → Bool → ℕ
counted_bits kind first = if first then first_bits kind else meant_bits kind

-- the end bit
abbrev pub ends : ℕ → Bool
ends operator = not (bit_and operator 128 == 0)

-- the AND bit
abbrev pub joins : ℕ → Bool
joins operator = not (bit_and operator 64 == 0)

-- the two bits that give the value's length
abbrev pub width_code : ℕ → ℕ
width_code operator = bit_and (operator / 2 ^ 4) 3

-- how many octets the value has
abbrev pub width_of : ℕ → ℕ
width_of operator = 2 ^ width_code operator
