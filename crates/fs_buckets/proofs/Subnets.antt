-- Prefixes as intervals of addresses are nested or apart.
use Rattle.fs_buckets.proofs.Words.{◌≡◌, ℕ, ◌+◌, ◌-◌, ◌*◌, ◌^◌, ◌<◌, ◌≤◌, ◌⊎◌, inl, inr, sym, ap, ◌∙◌, pow_pos, arith, add-mul, mul_assoc}
use Rattle.fs_buckets.proofs.Words.{mul-le-mul_right, cases_lt, IsSubnet}
use Rattle.std.proofs.lemmas.Nat.{pow-add}
use Rattle.fs_base.proofs.NumberTests.{next_row}

pub subnet_proper : (first last : ℕ) → IsSubnet first last → first ≤ last
subnet_proper first last s = let some : 0 < 2 ^ s.host = pow_pos s.host in let e : last + 1 ≡ first + 2 ^ s.host = s.ends in omega (arith, some, e)

-- so many of a size are more of a smaller one
rows_of : (count large small : ℕ) → small ≤ large → count * 2 ^ large ≡ count * 2 ^ (large - small) * 2 ^ small
rows_of count large small le =
    let e : large ≡ large - small + small = omega (arith, le) in
    ap (λ k. count * 2 ^ k) e ∙ ap (λ n. count * n) (pow-add 2 (large - small) small) ∙ sym (mul_assoc count (2 ^ (large - small)) (2 ^ small))

-- Of two that of which ends later begins no later, if it begins before the other ends.
pub subnets_nest : (a b c d : ℕ) → IsSubnet a b → IsSubnet c d → b < d → c ≤ b → c ≤ a
subnets_nest a b c d s t later meets = at (cases_lt s.host t.host) where
  some : 0 < 2 ^ s.host
  some = pow_pos s.host

  begins : a ≡ s.count * 2 ^ s.host
  begins = s.begins

  ends : b + 1 ≡ a + 2 ^ s.host
  ends = s.ends

  other_begins : c ≡ t.count * 2 ^ t.host
  other_begins = t.begins

  other_ends : d + 1 ≡ c + 2 ^ t.host
  other_ends = t.ends

  larger : s.host ≤ t.host → c ≤ a
  larger le = by (cases_lt s.count (t.count * 2 ^ (t.host - s.host))) where
    rows : t.count * 2 ^ t.host ≡ t.count * 2 ^ (t.host - s.host) * 2 ^ s.host
    rows = rows_of t.count t.host s.host le

    by : (s.count < t.count * 2 ^ (t.host - s.host)) ⊎ (t.count * 2 ^ (t.host - s.host) ≤ s.count) → c ≤ a
    by (inl more) =
        let past : s.count * 2 ^ s.host + 2 ^ s.host ≤ t.count * 2 ^ (t.host - s.host) * 2 ^ s.host =
        next_row s.count (t.count * 2 ^ (t.host - s.host)) (2 ^ s.host) more in
        absurd (omega (arith, past, rows, begins, ends, other_begins, meets))
    by (inr few) =
        let under : t.count * 2 ^ (t.host - s.host) * 2 ^ s.host ≤ s.count * 2 ^ s.host = mul-le-mul_right (2 ^ s.host) few in
        omega (arith, under, rows, begins, other_begins)

  smaller : t.host < s.host → c ≤ a
  smaller less = by (cases_lt t.count ((s.count + 1) * 2 ^ (s.host - t.host))) where
    rows : (s.count + 1) * 2 ^ s.host ≡ (s.count + 1) * 2 ^ (s.host - t.host) * 2 ^ t.host
    rows = rows_of (s.count + 1) s.host t.host (omega (arith, less))

    whole : (s.count + 1) * 2 ^ s.host ≡ s.count * 2 ^ s.host + 1 * 2 ^ s.host
    whole = add-mul s.count 1 (2 ^ s.host)

    by : (t.count < (s.count + 1) * 2 ^ (s.host - t.host)) ⊎ ((s.count + 1) * 2 ^ (s.host - t.host) ≤ t.count) → c ≤ a
    by (inl few) =
        let under : t.count * 2 ^ t.host + 2 ^ t.host ≤ (s.count + 1) * 2 ^ (s.host - t.host) * 2 ^ t.host =
        next_row t.count ((s.count + 1) * 2 ^ (s.host - t.host)) (2 ^ t.host) few in
        absurd (omega (arith, under, rows, whole, begins, ends, other_begins, other_ends, later))
    by (inr more) =
        let past : (s.count + 1) * 2 ^ (s.host - t.host) * 2 ^ t.host ≤ t.count * 2 ^ t.host = mul-le-mul_right (2 ^ t.host) more in
        absurd (omega (arith, past, rows, whole, begins, ends, other_begins, meets))

  at : (s.host < t.host) ⊎ (t.host ≤ s.host) → c ≤ a
  at (inl less) = larger (omega (arith, less))
  at (inr le) = by (cases_lt t.host s.host) where
    by : (t.host < s.host) ⊎ (s.host ≤ t.host) → c ≤ a
    by (inl less) = smaller less
    by (inr ge) = larger ge
