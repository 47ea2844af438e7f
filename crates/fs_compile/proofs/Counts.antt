use Rattle.fs_compile.proofs.Words.{◌≡◌, ℕ, zero, suc, ◌+◌, ◌-◌, ◌<◌, ◌≤◌, ◌⊎◌, inl, inr, refl, sym, ap, subst, max, Bool, true, false, List, length}
use Rattle.fs_compile.proofs.Words.{get_or, count_by, arith, take_all, take, cond, cases_lt, marked, count_by_more_yes, sum_by-take-le, take-take}

-- Counts of what holds in the front of a list of tests.

-- counts don't fall
pub marked_later : (n m : ℕ) (near : List Bool) → n ≤ m → marked n near ≤ marked m near
marked_later n m near h = subst (λ (xs : List Bool). count_by (λ b. b) xs ≤ marked m near) (take-take n m near h)
    (sum_by-take-le (λ (b : Bool). cond b 1 0) (take m near) n)

-- a stretch in which all hold
marked_run : (near : List Bool) (i n j : ℕ) → j ≡ i + n → j ≤ length near → ((k : ℕ) → i ≤ k → k < j → get_or near k false ≡ true)
    → marked i near + n ≤ marked j near
marked_run near i zero j e most all = let same : j ≡ i = omega (arith, e) in subst (λ x. marked i near + 0 ≤ marked x near) (sym same) (omega arith)
marked_run near i (suc n) j e most all =
    let short : i + n ≤ length near = omega (arith, e, most) in
    let before : marked i near + n ≤ marked (i + n) near =
    marked_run near i n (i + n) refl short (λ k l m. let below : k < j = omega (arith, e, m) in all k l below) in
    let inside : i + n < length near = omega (arith, e, most) in
    let within : i + n < j = omega (arith, e) in
    let low : i ≤ i + n = omega arith in
    let more : marked (i + n + 1) near ≡ marked (i + n) near + 1 = count_by_more_yes (λ b. b) near (i + n) false inside (all (i + n) low within) in
    let same : j ≡ i + n + 1 = omega (arith, e) in
    subst (λ x. marked i near + suc n ≤ marked x near) (sym same) (omega (arith, before, more))

-- what is tested of a stretch in which all hold
pub marked_tested : (near : List Bool) (low stop : ℕ) → stop ≤ length near → ((k : ℕ) → low ≤ k → k < stop → get_or near k false ≡ true)
    → marked low near + (stop - low) ≤ marked (max low stop) near
marked_tested near low stop most all = by (cases_lt low stop) where
  by : (low < stop) ⊎ (stop ≤ low) → marked low near + (stop - low) ≤ marked (max low stop) near
  by (inl less) =
      let whole : stop ≡ low + (stop - low) = omega (arith, less) in
      let same : max low stop ≡ stop = omega (arith, less) in
      subst (λ n. marked low near + (stop - low) ≤ marked n near) (sym same) (marked_run near low (stop - low) stop whole most all)
  by (inr past) =
      let none : stop - low ≡ 0 = omega (arith, past) in
      let same : max low stop ≡ low = omega (arith, past) in
      subst (λ n. marked low near + (stop - low) ≤ marked n near) (sym same) (omega (arith, none))

pub marked_all : (near : List Bool) (n : ℕ) → length near ≤ n → marked n near ≡ count_by (λ b. b) near
marked_all near n h = ap (λ (xs : List Bool). count_by (λ b. b) xs) (take_all n near h)
