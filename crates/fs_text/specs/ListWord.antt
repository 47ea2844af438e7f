-- The words of lists, cut into pairs, and the bits of operators as sums.
use Rattle.std.specs.Prelude.{◌+◌, ◌*◌, ℕ, ◌==◌, ◌||◌, Bool, not, bit_and, if◌then◌else◌}
use Rattle.fs_ops.specs.{declared.kind.Kind.{Kind, TheVariants.{Numeric, Bitmask}}, Operator.{joins, width_code}}
use Rattle.fs_text.specs.Pieces.{is_plain}

-- neither & nor a comma
abbrev pub is_within : ℕ → Bool
is_within octet = not ((octet == 38) || (octet == 44))

abbrev pub is_sign : ℕ → Bool
is_sign octet = not (is_plain octet)

-- the bits less, greater, equal, or NOT, match
abbrev pub relation_of : Kind → ℕ → ℕ
relation_of Numeric operator = bit_and operator 7
relation_of Bitmask operator = bit_and operator 3

-- the operator without the end bit and the AND bit
abbrev pub plain_of : Kind → ℕ → ℕ
plain_of kind operator = 16 * width_code operator + relation_of kind operator

abbrev pub joined_bit : ℕ → ℕ
joined_bit operator = if joins operator then 64 else 0

-- the code of the width whose octets have so many digits
abbrev pub code_at : ℕ → ℕ
code_at len = if len == 2 then 0 else if len == 4 then 1 else if len == 8 then 2 else 3
