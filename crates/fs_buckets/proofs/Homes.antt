use Rattle.fs_buckets.proofs.Words.{◌≡◌, ℕ, ◌+◌, ◌<◌, ◌≤◌, ◌⊎◌, inl, inr, List, length, get_or, arith, cases_lt, Node, AreBuckets, node_at}

-- The buckets of rules by the numbers of the rules.

-- A rule before the start of a bucket that has one is in an earlier bucket.
pub home_before : (lasts : List ℕ) (nodes : List (Node ℕ)) (homes : List ℕ) (count j k : ℕ) → AreBuckets lasts nodes homes count
    → j ≤ length lasts → k < (node_at nodes j).start → (k < length homes) × (get_or homes k 0 < j)
home_before lasts nodes homes count j k s lj high = (within, at (cases_lt (get_or homes k 0) j)) where
  within : k < length homes
  within =
      let a : (node_at nodes j).start ≤ (node_at nodes (length lasts)).start = s.starts j (length lasts) lj (omega arith) in
      let t : (node_at nodes (length lasts)).start ≡ length homes = s.tail in
      omega (arith, high, a, t)

  at : (get_or homes k 0 < j) ⊎ (j ≤ get_or homes k 0) → get_or homes k 0 < j
  at (inl less) = less
  at (inr over) =
      let h : get_or homes k 0 < length lasts = s.home k within in
      let a : (node_at nodes j).start ≤ (node_at nodes (get_or homes k 0)).start = s.starts j (get_or homes k 0) over (omega (arith, h)) in
      let b : (node_at nodes (get_or homes k 0)).start ≤ k = s.begins k within in
      omega (arith, high, a, b)

-- one from the start of a bucket on is in that or a later one
pub home_from : (lasts : List ℕ) (nodes : List (Node ℕ)) (homes : List ℕ) (count i k : ℕ) → AreBuckets lasts nodes homes count
    → i ≤ length lasts → k < length homes → (node_at nodes i).start ≤ k → i ≤ get_or homes k 0
home_from lasts nodes homes count i k s li within low = at (cases_lt (get_or homes k 0) i) where
  at : (get_or homes k 0 < i) ⊎ (i ≤ get_or homes k 0) → i ≤ get_or homes k 0
  at (inl less) =
      let next : get_or homes k 0 + 1 ≤ i = omega (arith, less) in
      let a : (node_at nodes (get_or homes k 0 + 1)).start ≤ (node_at nodes i).start = s.starts (get_or homes k 0 + 1) i next li in
      let b : k < (node_at nodes (get_or homes k 0 + 1)).start = s.ends k within in
      omega (arith, low, a, b)
  at (inr h) = h
