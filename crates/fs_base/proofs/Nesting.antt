-- What follows from one prefix covering another: of covers of covers, of equal prefixes, of shorter ones.
use Rattle.fs_base.proofs.Words.{ℕ, ◌≡◌, ◌+◌, ◌-◌, ◌^◌, ◌<◌, ◌≤◌, refl, sym, ap, ◌∙◌, subst, arith, true, nat_cmp, is_eq, pow_pos, min, ordering_then}
use Rattle.fs_base.proofs.Words.{nat_tests, Prefix, width_of, afi_of, cleared, covers, prefix_cmp, last_address, IsPrefixOf}
use Rattle.fs_base.proofs.Covers.{Covers, covers_fact, covers_test, meeting_covers, same_family, same_width, covers_bits, covers_from_bits}

pub covers_self : (p : Prefix) → covers p p ≡ true
covers_self p = covers_test p p (record { family = refl; longer = omega arith; starts = omega arith; ends = omega arith })

-- of two that cover one prefix, the one with the shorter length covers the other
pub covers_nested : (p q r : Prefix) → covers p r ≡ true → covers q r ≡ true → p.length ≤ q.length → covers p q ≡ true
covers_nested p q r h k longer = meeting_covers p q family longer starts ends where
  outer : Covers p r
  outer = covers_fact p r h

  inner : Covers q r
  inner = covers_fact q r k

  family : afi_of p.family ≡ afi_of q.family
  family = outer.family ∙ sym inner.family

  inner_ends : r.bits + 2 ^ (width_of p.family - r.length) ≤ q.bits + 2 ^ (width_of p.family - q.length)
  inner_ends = subst (λ w. r.bits + 2 ^ (w - r.length) ≤ q.bits + 2 ^ (w - q.length)) (sym (same_width p.family q.family family)) inner.ends

  size : 0 < 2 ^ (width_of p.family - r.length)
  size = pow_pos (width_of p.family - r.length)

  starts : p.bits < q.bits + 2 ^ (width_of p.family - q.length)
  starts = omega (arith, size, inner_ends, outer.starts)

  ends : q.bits < p.bits + 2 ^ (width_of p.family - p.length)
  ends = omega (arith, size, outer.ends, inner.starts)

pub covers_trans : (p q r : Prefix) → covers p q ≡ true → covers q r ≡ true → covers p r ≡ true
covers_trans p q r h k = covers_test p r (record {
  family = outer.family ∙ inner.family;
  longer = omega (arith, outer.longer, inner.longer);
  starts = omega (arith, outer.starts, inner.starts);
  ends = omega (arith, outer.ends, inner_ends);
}) where
  outer : Covers p q
  outer = covers_fact p q h

  inner : Covers q r
  inner = covers_fact q r k

  inner_ends : r.bits + 2 ^ (width_of p.family - r.length) ≤ q.bits + 2 ^ (width_of p.family - q.length)
  inner_ends = subst (λ w. r.bits + 2 ^ (w - r.length) ≤ q.bits + 2 ^ (w - q.length)) (sym (same_width p.family q.family outer.family)) inner.ends

-- what two prefixes that the order doesn't tell apart have in common
pub record Alike (p q : Prefix) : Type 0 where
  pub family : p.family ≡ q.family
  pub length : p.length ≡ q.length
  pub bits : p.bits ≡ q.bits

equal_families : (f g a b m n : ℕ) → is_eq (ordering_then (nat_cmp f g) (ordering_then (nat_cmp a b) (nat_cmp n m))) ≡ true → f ≡ g
equal_families f g a b m n h = grind (arith, nat_tests)

equal_lasts : (f g a b m n : ℕ) → is_eq (ordering_then (nat_cmp f g) (ordering_then (nat_cmp a b) (nat_cmp n m))) ≡ true → a ≡ b
equal_lasts f g a b m n h = grind (arith, nat_tests)

equal_lengths : (f g a b m n : ℕ) → is_eq (ordering_then (nat_cmp f g) (ordering_then (nat_cmp a b) (nat_cmp n m))) ≡ true → m ≡ n
equal_lengths f g a b m n h = grind (arith, nat_tests)

pub alike : (p q : Prefix) → is_eq (prefix_cmp p q) ≡ true → Alike p q
alike p q h = record { family = family; length = length; bits = bits } where
  family : p.family ≡ q.family
  family = same_family p.family q.family (equal_families (afi_of p.family) (afi_of q.family) (last_address p) (last_address q) p.length q.length h)

  length : p.length ≡ q.length
  length = equal_lengths (afi_of p.family) (afi_of q.family) (last_address p) (last_address q) p.length q.length h

  last : last_address p ≡ last_address q
  last = equal_lasts (afi_of p.family) (afi_of q.family) (last_address p) (last_address q) p.length q.length h

  sizes : 2 ^ (width_of p.family - p.length) ≡ 2 ^ (width_of q.family - q.length)
  sizes = ap (λ w. 2 ^ (w - p.length)) (ap width_of family) ∙ ap (λ n. 2 ^ (width_of q.family - n)) length

  some : 0 < 2 ^ (width_of p.family - p.length)
  some = pow_pos (width_of p.family - p.length)

  bits : p.bits ≡ q.bits
  bits = omega (arith, last, sizes, some)

equal_test : (f g a b m n : ℕ) → f ≡ g → a ≡ b → m ≡ n → is_eq (ordering_then (nat_cmp f g) (ordering_then (nat_cmp a b) (nat_cmp n m))) ≡ true
equal_test f g a b m n h k l = grind (arith, nat_tests)

pub alike_test : (p q : Prefix) → Alike p q → is_eq (prefix_cmp p q) ≡ true
alike_test p q h = equal_test (afi_of p.family) (afi_of q.family) (last_address p) (last_address q) p.length q.length (ap afi_of h.family) last h.length where
  last : last_address p ≡ last_address q
  last = λ i. h.bits i + 2 ^ (width_of (h.family i) - h.length i) - 1

-- equal prefixes cover the same, and are covered by the same
pub alike_covers : (p q r : Prefix) → is_eq (prefix_cmp p q) ≡ true → covers p r ≡ covers q r
alike_covers p q r h = let e : Alike p q = alike p q h in cc

pub covers_alike : (p q r : Prefix) → is_eq (prefix_cmp p q) ≡ true → covers r p ≡ covers r q
covers_alike p q r h = let e : Alike p q = alike p q h in cc

-- two that cover each other are equal
pub covered_back : (p q : Prefix) → covers p q ≡ true → covers q p ≡ true → is_eq (prefix_cmp p q) ≡ true
covered_back p q h k = alike_test p q (record {
  family = same_family p.family q.family outer.family;
  length = omega (arith, outer.longer, inner.longer);
  bits = omega (arith, outer.starts, inner.starts);
}) where
  outer : Covers p q
  outer = covers_fact p q h

  inner : Covers q p
  inner = covers_fact q p k

-- a cover of the same length is equal
pub covers_same_length : (p q : Prefix) → covers p q ≡ true → p.length ≡ q.length → is_eq (prefix_cmp p q) ≡ true
covers_same_length p q h e = covered_back p q h (covers_nested q p q (covers_self q) h (omega (arith, e)))

-- the prefix of fewer bits covers what it was made from
pub shortened_covers : (p q : Prefix) (n : ℕ) → IsPrefixOf p.family p.bits n q → n ≤ p.length → covers q p ≡ true
shortened_covers p q n h k =
    covers_from_bits q p h.same_family (subst (λ m. m ≤ p.length) (sym h.same_length) k)
    ((λ i. cleared (width_of (h.same_family i)) (h.same_length i) p.bits) ∙ sym h.first_bits)

-- the prefix of as many bits as two have in common is under each that covers both
pub longest_common : (p other both q : Prefix) (bits n : ℕ)
    → ((m : ℕ) → m ≤ width_of p.family → cleared (width_of p.family) m p.bits ≡ cleared (width_of p.family) m other.bits → m ≤ bits)
    → n ≡ min (min bits p.length) other.length → IsPrefixOf p.family p.bits n both
    → covers q p ≡ true → covers q other ≡ true → covers q both ≡ true
longest_common p other both q common n most e h k l = covers_nested q both p k (shortened_covers p both n h (omega (arith, e))) shorter where
  fact : Covers q p
  fact = covers_fact q p k

  width : width_of q.family ≡ width_of p.family
  width = same_width q.family p.family fact.family

  bits : cleared (width_of q.family) q.length p.bits ≡ cleared (width_of q.family) q.length other.bits
  bits = covers_bits q p k ∙ sym (covers_bits q other l)

  within : q.length ≤ common
  within = most q.length (omega (arith, q.short, width)) (subst (λ w. cleared w q.length p.bits ≡ cleared w q.length other.bits) width bits)

  shorter : q.length ≤ both.length
  shorter = omega (arith, e, within, h.same_length, fact.longer, (covers_fact q other l).longer)
