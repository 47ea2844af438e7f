-- The numbers of a block are those whose first bits are the block's.
use Rattle.fs_ranges.proofs.Words.{◌≡◌, ℕ, ◌+◌, ◌-◌, ◌*◌, ◌/◌, ◌%◌, ◌^◌, ◌<◌, ◌≤◌, ◌==◌, true, ◌&&◌, nat_le, refl, sym, ap, subst, ◌∙◌, arith, inl}
use Rattle.fs_ranges.proofs.Words.{inr, div-add-mod', pow_pos, and_right, cases_lt, eq-eqb, eqb-true, lt-leb, Family, cleared, IsBlock, block_of}
use Rattle.fs_ranges.proofs.Words.{same_tests, V4Body, V6Body, IsSoundBody, is_prefix_of, Pattern, IsSmallAddress, address_number, IsPatternOf}
use Rattle.fs_ranges.proofs.Words.{is_under}
use Rattle.fs_ranges.proofs.Enclosing.{from_in, to_in}
use Rattle.std.proofs.Math.Nat.{mod-eq_of_lt, mod-lt}
use Rattle.fs_base.{specs.declared.config.Address.{Address, TheVariants.{V4, V6}}, proofs.NumberTests.{next_row}}

same_row : (x count size : ℕ) → 0 < size → count * size ≤ x → x < count * size + size → x / size ≡ count
same_row x count size some low high = elim (cases_lt (x / size) count) [
  | inl fewer ↦ absurd (before fewer)
  | inr rest ↦ elim (cases_lt count (x / size)) [ inl more ↦ absurd (behind more) | inr last ↦ omega arith ]
] where
  split : x / size * size + x % size ≡ x
  split = div-add-mod' x size

  below : x % size < size
  below = mod-lt x some

  before : x / size < count → ⊥
  before fewer = let row : x / size * size + size ≤ count * size = next_row (x / size) count size fewer in omega (arith, split, below)

  behind : count < x / size → ⊥
  behind more = let row : count * size + size ≤ x / size * size = next_row count (x / size) size more in omega (arith, split, below)

in_block : (size count last y : ℕ) → 0 < size → last + 1 ≡ count * size + size → (nat_le (count * size) y && nat_le y last) ≡ (y / size * size == count * size)
in_block size count last y some e = same_tests (nat_le (count * size) y && nat_le y last) (y / size * size == count * size) to from
  where
    split : y / size * size + y % size ≡ y
    split = div-add-mod' y size

    below : y % size < size
    below = mod-lt y some

    to : (nat_le (count * size) y && nat_le y last) ≡ true → (y / size * size == count * size) ≡ true
    to h =
        let r : (count * size ≤ y) × (y ≤ last) = from_in y (count * size, last) h in
        let high : y ≤ last = r.1 in
        eq-eqb (y / size * size) (count * size) (ap (λ (q : ℕ). q * size) (same_row y count size some r.0 (omega arith)))

    from : (y / size * size == count * size) ≡ true → (nat_le (count * size) y && nat_le y last) ≡ true
    from h =
        let same : y / size * size ≡ count * size = eqb-true (y / size * size) (count * size) h in
        to_in y (count * size, last) (omega (arith, split, below)) (omega (arith, split, below))

in_prefix : (w len bits last x : ℕ) → len ≤ w → bits ≡ cleared w len bits → last + 1 ≡ bits + 2 ^ (w - len)
    → (nat_le bits (x % 2 ^ w) && nat_le (x % 2 ^ w) last) ≡ (cleared w len x == bits)
in_prefix w len bits last x short clear e =
    let block : IsBlock w len bits = block_of w len bits short clear in
    let ends : last + 1 ≡ block.count * 2 ^ (w - len) + 2 ^ (w - len) = e ∙ ap (λ (b : ℕ). b + 2 ^ (w - len)) block.spelled in
    subst (λ (b : ℕ). (nat_le b (x % 2 ^ w) && nat_le (x % 2 ^ w) last) ≡ (x % 2 ^ w / 2 ^ (w - len) * 2 ^ (w - len) == b)) (sym block.spelled)
    (in_block (2 ^ (w - len)) block.count last (x % 2 ^ w) (pow_pos (w - len)) ends)

-- an address of IPv6 is above all of IPv4
pub in_v4 : (family : Family) (len bits last : ℕ) (address : Address) → len ≤ 32 → bits ≡ cleared 32 len bits → last + 1 ≡ bits + 2 ^ (32 - len)
    → IsSmallAddress address
    → (nat_le bits (address_number address) && nat_le (address_number address) last) ≡ is_prefix_of (V4Body family len bits) address
in_v4 family len bits last (V4 address) short clear e small =
    subst (λ (n : ℕ). (nat_le bits n && nat_le n last) ≡ (cleared 32 len address == bits)) (mod-eq_of_lt small)
    (in_prefix 32 len bits last address short clear e)
in_v4 family len bits last (V6 address) short clear e small =
    let block : IsBlock 32 len bits = block_of 32 len bits short clear in
    let within : bits + 2 ^ (32 - len) ≤ 2 ^ 32 = block.within in
    and_right (nat_le bits (2 ^ 32)) (nat_le (2 ^ 32) last) (lt-leb (2 ^ 32) last (omega arith))

pub in_v6 : (len offset bits : ℕ) (pattern : Pattern) (address : Address) → IsSoundBody (V6Body len offset bits) → IsPatternOf len offset bits pattern
    → is_under pattern address ≡ is_prefix_of (V6Body len offset bits) address
in_v6 len offset bits pattern (V4 address) sound h = refl
in_v6 len offset bits pattern (V6 address) sound h =
    let range : len ≤ 128 = sound.0.0 in
    (λ i. nat_le (h.low i) (address * 2 ^ (h.begins i) % 2 ^ 128) && nat_le (address * 2 ^ (h.begins i) % 2 ^ 128) pattern.high)
    ∙ in_prefix 128 (len - offset) bits pattern.high (address * 2 ^ offset) (omega arith) sound.1 h.high
