-- Prefixes: which lie under which, and their order.
use Rattle.std.specs.Prelude.{◌≡◌, ℕ, ◌+◌, ◌-◌, ◌^◌, ◌<◌, ◌==◌, Bool, ◌&&◌, min, nat_le}
use Rattle.std.specs.Cmp.{IsTotalOrder, on_total, then_total, back_total, nat_cmp_total}
use Rattle.std.specs.{Ordering.{nat_cmp, on, then_cmp, flip_args, is_eq, ordering_then}, declared.cmp.Ordering.{Ordering}}
use Rattle.std.proofs.{Common.{arith, refl, ap}, lemmas.{Bool.Decides.{nat_tests}, Nat.{pow_pos}}}
use denote.Enum.Bare.{sameb}
use Rattle.fs_base.specs.contracts.prefix.Family.{the_type}
use Rattle.fs_base.specs.declared.prefix.{Family.{Family, TheVariants.{V4, V6}}, Prefix.{Prefix}}
use Rattle.fs_base.specs.Bits.{width_of, afi_of, cleared, cleared_again, min_short}

-- the prefix of the first bits of an address
pub record IsPrefixOf (family : Family) (bits length : ℕ) (prefix : Prefix) : Type 0 where
  pub same_family : prefix.family ≡ family
  pub same_length : prefix.length ≡ length
  pub first_bits : prefix.bits ≡ cleared (width_of family) length bits

-- The same as a value: the prefix of a family, an address and a length, as `Prefix::new` makes it where the length is
-- short enough.
abbrev pub prefix_of : Family → (bits length : ℕ) → Prefix
prefix_of family bits length = record {
  family = family;
  bits = cleared (width_of family) (min length (width_of family)) bits;
  length = min length (width_of family);
  short = min_short length (width_of family);
  clear = cleared_again (width_of family) (min length (width_of family)) bits (min_short length (width_of family));
}

-- the first bits of q are p
abbrev pub covers : Prefix → Prefix → Bool
covers p q = (afi_of p.family == afi_of q.family) && (nat_le p.length q.length && (cleared (width_of p.family) p.length q.bits == p.bits))

-- the highest address of a prefix
abbrev pub last_address : Prefix → ℕ
last_address p = p.bits + 2 ^ (width_of p.family - p.length) - 1

-- IPv4 before IPv6, then the lower last address, then the longer prefix; what that means for two prefixes is said by IsPrecedence
abbrev pub prefix_cmp : Prefix → Prefix → Ordering
prefix_cmp = then_cmp (on (λ p. afi_of p.family) nat_cmp) (then_cmp (on last_address nat_cmp) (flip_args (on (λ p. p.length) nat_cmp)))

-- The laws of the order, which its impl gives.

pub prefix_total : IsTotalOrder prefix_cmp
prefix_total = then_total (on_total (λ p. afi_of p.family) nat_cmp_total)
    (then_total (on_total last_address nat_cmp_total) (back_total (on_total (λ p. p.length) nat_cmp_total)))

-- two numbers and two lengths are the same where the order cannot tell them apart
same_numbers : (x y a b m n : ℕ) → 0 < x → 0 < y → (m ≡ n → x ≡ y)
    → ((m == n) && (a == b)) ≡ is_eq (ordering_then (nat_cmp (a + x - 1) (b + y - 1)) (nat_cmp n m))
same_numbers x y a b m n h k e = grind (arith, nat_tests)

same_within : (w a b m n : ℕ) → ((m == n) && (a == b)) ≡ is_eq (ordering_then (nat_cmp (a + 2 ^ (w - m) - 1) (b + 2 ^ (w - n) - 1)) (nat_cmp n m))
same_within w a b m n = same_numbers (2 ^ (w - m)) (2 ^ (w - n)) a b m n (pow_pos (w - m)) (pow_pos (w - n)) (λ e. ap (λ k. 2 ^ (w - k)) e)

same_parts : (f g : Family) (a b m n : ℕ)
    → (sameb the_type f g && ((m == n) && (a == b)))
    ≡ is_eq (ordering_then (nat_cmp (afi_of f) (afi_of g))
    (ordering_then (nat_cmp (a + 2 ^ (width_of f - m) - 1) (b + 2 ^ (width_of g - n) - 1)) (nat_cmp n m)))
same_parts V4 V4 a b m n = same_within 32 a b m n
same_parts V4 V6 a b m n = refl
same_parts V6 V4 a b m n = refl
same_parts V6 V6 a b m n = same_within 128 a b m n

-- the order calls two prefixes equal exactly where `==` does
pub prefix_matches_eq : (p q : Prefix) → (sameb the_type p.family q.family && ((p.length == q.length) && (p.bits == q.bits))) ≡ is_eq (prefix_cmp p q)
prefix_matches_eq p q = same_parts p.family q.family p.bits q.bits p.length q.length
