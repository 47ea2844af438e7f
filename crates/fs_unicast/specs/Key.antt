-- Prefixes as keys: the last address in the place of the first, with the family in its first number, and the length.
use Rattle.std.{specs.Prelude.{ℕ, ◌≡◌, ◌≤◌, ◌+◌, ◌-◌, ◌*◌, ◌/◌, ◌%◌, ◌^◌, nat_lt, if◌then◌else◌, min}, proofs.Common.{arith}}
use Rattle.fs_base.specs.{declared.prefix.{Family.{Family, TheVariants.{V4, V6}}, Prefix.{Prefix}}, Bits.{width_of}, Prefix.{prefix_of, last_address}}

-- the family whose keys have this first number
abbrev pub family_of : ℕ → Family
family_of high = if nat_lt high (2 ^ 63) then V4 else V6

-- an address as two numbers of 64 bits and one of 1 bit: one of IPv4 is the first; of one of IPv6 the first has the top 63 bits, and above them a 1
abbrev pub high_of : Family → ℕ → ℕ
high_of V4 address = address
high_of V6 address = 2 ^ 63 + address / 2 / 2 ^ 64

abbrev pub low_of : Family → ℕ → ℕ
low_of V4 address = 0
low_of V6 address = address / 2 % 2 ^ 64

abbrev pub bit_of : Family → ℕ → ℕ
bit_of V4 address = 0
bit_of V6 address = address % 2

-- and back
abbrev pub last_of : Family → (high low bit : ℕ) → ℕ
last_of V4 high low bit = high
last_of V6 high low bit = ((high - 2 ^ 63) * 2 ^ 64 + low) * 2 + bit

-- the prefix of a key
abbrev pub shown : (high low bit length : ℕ) → Prefix
shown high low bit length = prefix_of (family_of high) (last_of (family_of high) high low bit) length

-- the address is the last one of its prefix of this length
pub record IsKey (high low bit length : ℕ) : Type 0 where
  pub short : length ≤ width_of (family_of high)
  pub high_again : high_of (family_of high) (last_address (shown high low bit length)) ≡ high
  pub low_again : low_of (family_of high) (last_address (shown high low bit length)) ≡ low
  pub bit_again : bit_of (family_of high) (last_address (shown high low bit length)) ≡ bit

-- what a prefix of no more bits than an address has takes as its length
pub least : {n w : ℕ} → n ≤ w → min n w ≡ n
least h = omega (arith, h)
