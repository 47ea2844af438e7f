-- The bits of addresses.
use Rattle.std.proofs.Common.{ℕ, min, ◌≡◌, ◌+◌, ◌-◌, ◌*◌, ◌/◌, ◌%◌, ◌^◌, ◌<◌, ◌≤◌, refl, sym, ap, ◌∙◌, subst, arith}
use Rattle.std.proofs.{lemmas.Nat.{pow_pos, pow-add, mod_below, div_below, row_fits}, Math.Nat.{mod-eq_of_lt, mul-div_cancel}}
use Rattle.fs_base.specs.declared.prefix.Family.{Family, TheVariants.{V4, V6}}

-- address family numbers, RFC 4760 section 3
abbrev pub afi_of : Family → ℕ
afi_of V4 = 1
afi_of V6 = 2

abbrev pub width_of : Family → ℕ
width_of V4 = 32
width_of V6 = 128

-- the first n of the low w bits of a number, and 0 for the others
abbrev pub cleared : (w n bits : ℕ) → ℕ
cleared w n bits = bits % 2 ^ w / 2 ^ (w - n) * 2 ^ (w - n)

-- That to clear twice is to clear once, which a prefix that is made in a definition needs.

-- what the ghost fields of a prefix say of its bits: they are a whole number of blocks, within the width
pub record IsBlock (w n b : ℕ) : Type 0 where
  pub short : n ≤ w
  pub count : ℕ
  pub spelled : b ≡ count * 2 ^ (w - n)
  pub within : b + 2 ^ (w - n) ≤ 2 ^ w

pub whole_width : (w n : ℕ) → n ≤ w → 2 ^ w ≡ 2 ^ n * 2 ^ (w - n)
whole_width w n h = let e : w ≡ n + (w - n) = omega arith in ap (λ k. 2 ^ k) e ∙ pow-add 2 n (w - n)

pub block_cleared : (w n bits : ℕ) → n ≤ w → IsBlock w n (cleared w n bits)
block_cleared w n bits h = record {
  short = h;
  count = bits % 2 ^ w / 2 ^ (w - n);
  spelled = refl;
  within = within;
} where
  below : bits % 2 ^ w < 2 ^ n * 2 ^ (w - n)
  below = subst (λ k. bits % 2 ^ w < k) (whole_width w n h) (mod_below bits (2 ^ w) (pow_pos w))

  within : cleared w n bits + 2 ^ (w - n) ≤ 2 ^ w
  within = subst (λ k. cleared w n bits + 2 ^ (w - n) ≤ k) (sym (whole_width w n h))
      (row_fits (bits % 2 ^ w / 2 ^ (w - n)) (2 ^ (w - n)) (2 ^ n) (2 ^ (w - n))
      (div_below (bits % 2 ^ w) (2 ^ (w - n)) (2 ^ n) (pow_pos (w - n)) below) (omega arith))

pub block_below : (w n b : ℕ) → IsBlock w n b → b < 2 ^ w
block_below w n b h = let p : 0 < 2 ^ (w - n) = pow_pos (w - n) in omega (arith, h.within)

pub block_of : (w n b : ℕ) → n ≤ w → b ≡ cleared w n b → IsBlock w n b
block_of w n b h e = subst (λ k. IsBlock w n k) (sym e) (block_cleared w n b h)

-- the bits of a block are cleared already
pub block_again : (w n b : ℕ) → IsBlock w n b → b ≡ cleared w n b
block_again w n b h = sym (ap (λ k. k / 2 ^ (w - n) * 2 ^ (w - n)) (mod-eq_of_lt (block_below w n b h))
    ∙ ap (λ k. k * 2 ^ (w - n)) (ap (λ k. k / 2 ^ (w - n)) h.spelled ∙ mul-div_cancel h.count (pow_pos (w - n))) ∙ sym h.spelled)

pub cleared_again : (w n bits : ℕ) → n ≤ w → cleared w n bits ≡ cleared w n (cleared w n bits)
cleared_again w n bits h = block_again w n (cleared w n bits) (block_cleared w n bits h)

pub min_short : (n w : ℕ) → min n w ≤ w
min_short n w = omega arith
