use Rattle.fs_ops.proofs.Words.{◌≡◌, ℕ, ◌/◌, ◌^◌, ◌<◌, ◌==◌, false, not, List, [], ◌∷◌, length, map, bit_and, All, refl, ap, sym, subst, ◌∙◌, arith}
use Rattle.fs_ops.proofs.Words.{and_le_l, and_comm, and_shr, and_assoc, All-cons, All-nil, big_number, big_from-lt, IsOctets, octets_at, octets_left}
use Rattle.fs_ops.proofs.Words.{octets_right, octets_tail, Kind, Numeric, Bitmask, meant_bits, first_bits, width_code, width_of, ends, Written}
use Rattle.fs_ops.proofs.Words.{octets_of, text, IsPair, IsList, said, all_said, Spells, IsNormalPair, AreNormal, IsNormal, first_joins}

-- Lists in normal form: what octets say is in it, and the octets that are written for it say it.

abbrev pub with_bits : ℕ → ℕ × ℕ → ℕ × ℕ
with_bits bits pair = (pair.0, bit_and pair.1 bits)

-- a list stays in normal form where bits of its values are cleared
kept_pair : (bits kept : ℕ) (pair : ℕ × ℕ) → IsNormalPair bits pair → IsNormalPair bits (with_bits kept pair)
kept_pair bits kept pair normal = record {
  clear = normal.clear;
  fits = let fits : pair.1 < 256 ^ width_of pair.0 = normal.fits in omega (arith, and_le_l pair.1 kept);
}

kept_normal : (bits kept : ℕ) (pairs : List (ℕ × ℕ)) → AreNormal bits pairs → AreNormal bits (map (with_bits kept) pairs)
kept_normal bits kept [] normal = normal
kept_normal bits kept (pair ∷ []) normal = (kept_pair bits kept pair normal.0, normal.1)
kept_normal bits kept (pair ∷ next ∷ pairs) normal = (kept_pair bits kept pair normal.0, normal.1, kept_normal bits kept (next ∷ pairs) normal.2)

kept_first : (kept : ℕ) (pairs : List (ℕ × ℕ)) → first_joins pairs ≡ false → first_joins (map (with_bits kept) pairs) ≡ false
kept_first kept [] first = refl
kept_first kept (pair ∷ pairs) first = first

pub kept_is_normal : (kind : Kind) (kept : ℕ) (pairs : List (ℕ × ℕ)) → IsNormal kind pairs → IsNormal kind (map (with_bits kept) pairs)
kept_is_normal kind kept pairs normal =
    record { normal = kept_normal (meant_bits kind) kept pairs normal.normal; first = kept_first kept pairs normal.first }

-- a mask that keeps the end bit, the width, and of the other bits none that mean nothing
pub record IsMask (bits mask : ℕ) : Type 0 where
  pub width : bit_and (mask / 2 ^ 4) 3 ≡ 3
  pub last : bit_and mask 128 ≡ 128
  pub within : bit_and mask bits ≡ mask

pub meant_mask : (kind : Kind) → IsMask (meant_bits kind) (meant_bits kind)
meant_mask Numeric = record { width = refl; last = refl; within = refl }
meant_mask Bitmask = record { width = refl; last = refl; within = refl }

pub first_mask : (kind : Kind) → IsMask (meant_bits kind) (first_bits kind)
first_mask Numeric = record { width = refl; last = refl; within = refl }
first_mask Bitmask = record { width = refl; last = refl; within = refl }

first_clear : (kind : Kind) → bit_and (first_bits kind) 64 ≡ 0
first_clear Numeric = refl
first_clear Bitmask = refl

pub masked_code : (bits mask operator : ℕ) → IsMask bits mask → width_code (bit_and operator mask) ≡ width_code operator
masked_code bits mask operator is =
    ap (λ (n : ℕ). bit_and n 3) (and_shr operator mask 4) ∙ and_assoc 3 (operator / 2 ^ 4) (mask / 2 ^ 4)
    ∙ ap (λ (n : ℕ). bit_and (operator / 2 ^ 4) n) is.width

pub masked_width : (bits mask operator : ℕ) → IsMask bits mask → width_of (bit_and operator mask) ≡ width_of operator
masked_width bits mask operator is = ap (λ (n : ℕ). 2 ^ n) (masked_code bits mask operator is)

masked_last : (bits mask operator : ℕ) → IsMask bits mask → ends (bit_and operator mask) ≡ ends operator
masked_last bits mask operator is =
    ap (λ (n : ℕ). not (n == 0)) (and_assoc 128 operator mask ∙ ap (λ (n : ℕ). bit_and operator n) is.last)

value_fits : (value : List ℕ) → IsOctets value → big_number (length value) value < 256 ^ length value
value_fits value are = big_from-lt 0 (length value) value (λ k. octets_at value are k)

said_normal : (widths : List ℕ) (bits mask : ℕ) (pair : Written) → IsMask bits mask → IsPair widths pair → IsOctets pair.value
    → IsNormalPair bits (said mask pair)
said_normal widths bits mask pair is whole are = record {
  clear = and_assoc bits pair.operator mask ∙ ap (λ (n : ℕ). bit_and pair.operator n) is.within;
  fits = subst (λ (n : ℕ). big_number (length pair.value) pair.value < 256 ^ n) (whole.size
      ∙ sym (masked_width bits mask pair.operator is)) (value_fits pair.value are);
}

value_octets : (pair : Written) (pairs : List Written) → IsOctets (text (pair ∷ pairs)) → IsOctets pair.value
value_octets pair pairs are = octets_tail pair.operator pair.value (octets_left (octets_of pair) (text pairs) are)

later_octets : (pair : Written) (pairs : List Written) → IsOctets (text (pair ∷ pairs)) → IsOctets (text pairs)
later_octets pair pairs are = octets_right (octets_of pair) (text pairs) are

-- the first pair under a mask of its own
later_normal : (widths : List ℕ) (bits mask : ℕ) (pair : Written) (pairs : List Written) → IsMask bits bits → IsMask bits mask
    → IsList widths (pair ∷ pairs) → IsOctets (text (pair ∷ pairs))
    → AreNormal bits (said mask pair ∷ map (said bits) pairs)
later_normal widths bits mask pair [] meant is whole are =
    (said_normal widths bits mask pair is whole.0 (value_octets pair [] are), masked_last bits mask pair.operator is ∙ whole.1)
later_normal widths bits mask pair (next ∷ pairs) meant is whole are = (
  said_normal widths bits mask pair is whole.0 (value_octets pair (next ∷ pairs) are),
  masked_last bits mask pair.operator is ∙ whole.1,
  later_normal widths bits bits next pairs meant meant whole.2 (later_octets pair (next ∷ pairs) are),
)

all_normal : (kind : Kind) (widths : List ℕ) (written : List Written) → IsList widths written → IsOctets (text written)
    → AreNormal (meant_bits kind) (all_said kind written)
all_normal kind widths [] whole are = absurd whole
all_normal kind widths (pair ∷ pairs) whole are =
    later_normal widths (meant_bits kind) (first_bits kind) pair pairs (meant_mask kind) (first_mask kind) whole are

joins_none : (kind : Kind) (written : List Written) → first_joins (all_said kind written) ≡ false
joins_none kind [] = refl
joins_none kind (pair ∷ pairs) =
    ap (λ (n : ℕ). not (n == 0)) (and_assoc 64 pair.operator (first_bits kind) ∙ ap (λ (n : ℕ). bit_and pair.operator n) (first_clear kind)
    ∙ and_comm pair.operator 0)

-- what octets say is in normal form
pub spelled_normal : (kind : Kind) (widths octets : List ℕ) (pairs : List (ℕ × ℕ)) → IsOctets octets → Spells kind widths octets pairs → IsNormal kind pairs
spelled_normal kind widths octets pairs are spells =
    subst (IsNormal kind) (sym spells.means) (record {
      normal = all_normal kind widths spells.written spells.whole (subst IsOctets (sym spells.spelled) are);
      first = joins_none kind spells.written;
    })

pub first_normal : (bits : ℕ) (pair : ℕ × ℕ) (others : List (ℕ × ℕ)) → AreNormal bits (pair ∷ others) → IsNormalPair bits pair
first_normal bits pair [] normal = normal.0
first_normal bits pair (next ∷ others) normal = normal.0

-- each value of such a list fits its width
pub values_fit : (bits : ℕ) (pairs : List (ℕ × ℕ)) → AreNormal bits pairs → All (λ (pair : ℕ × ℕ). pair.1 < 256 ^ width_of pair.0) pairs
values_fit bits [] normal = All-nil (λ (pair : ℕ × ℕ). pair.1 < 256 ^ width_of pair.0)
values_fit bits (pair ∷ []) normal =
    All-cons (λ (pair : ℕ × ℕ). pair.1 < 256 ^ width_of pair.0) pair [] normal.0.fits (All-nil (λ (pair : ℕ × ℕ). pair.1 < 256 ^ width_of pair.0))
values_fit bits (pair ∷ next ∷ pairs) normal =
    All-cons (λ (pair : ℕ × ℕ). pair.1 < 256 ^ width_of pair.0) pair (next ∷ pairs) normal.0.fits (values_fit bits (next ∷ pairs) normal.2)
