-- Where a list of addresses that rise turns.
use Rattle.fs_buckets.proofs.Words.{◌≡◌, ℕ, ◌<◌, ◌≤◌, ◌⊎◌, inl, inr, subst, List, get_or, length, nat_lt, arith, cases_order, ltb-true, lt-ltb}
use Rattle.fs_buckets.proofs.Words.{get_or_default, AreRising}
use Rattle.std.specs.List.Sorted.{IsPartitionedBy}

-- no later one is less
pub rises : (xs : List ℕ) (i j : ℕ) → AreRising xs → i ≤ j → j < length xs → get_or xs i 0 ≤ get_or xs j 0
rises xs i j rising le low = by (cases_order i j) where
  by : (i ≡ j) ⊎ ((i < j) ⊎ (j < i)) → get_or xs i 0 ≤ get_or xs j 0
  by (inl same) = subst (λ k. get_or xs i 0 ≤ get_or xs k 0) same (omega arith)
  by (inr (inl less)) = rising i j less low
  by (inr (inr more)) = absurd (omega (arith, le, more))

pub parted : (xs : List ℕ) (address : ℕ) → AreRising xs → IsPartitionedBy (λ y. nat_lt y address) xs
parted xs address rising i j d le below low =
    let high : get_or xs j d < address = ltb-true (get_or xs j d) address low in
    let a : get_or xs i 0 ≤ get_or xs j 0 = rises xs i j rising le below in
    let b : get_or xs i d ≡ get_or xs i 0 = get_or_default xs i d 0 (omega (arith, le, below)) in
    let e : get_or xs j d ≡ get_or xs j 0 = get_or_default xs j d 0 below in
    lt-ltb (get_or xs i d) address (omega (arith, high, a, b, e))
