-- A strictly rising list of the numbers that peers have is the list of them that the definition chooses among all numbers.
use Rattle.fs_reports.proofs.Words.{◌≡◌, ℕ, zero, suc, ◌+◌, ◌<◌, ◌==◌, Bool, true, false, cond, not, List, [], ◌∷◌, ◌++◌, map, length, get_or, Some}
use Rattle.fs_reports.proofs.Words.{is_some, All, Contains, filter, BTreeSet, nat_cmp, refl, sym, ap, ◌∙◌, arith, ⊎_elim, true≢false, eq-eqb}
use Rattle.fs_reports.proofs.Words.{eqb-true, range_with_len, IsStrictlySortedBy-filter, Contains-permutation, IsPermutation-filter_both}
use Rattle.fs_reports.proofs.Words.{sorted_from_strictly_increasing, numbers_below}
use Rattle.std.specs.{List.Sorted.{IsStrictlyIncreasing, IsStrictlySortedBy}, BTreeSet.{contains}}
use Rattle.std.proofs.lemmas.Cmp.{nat_cmp_total}
use Rattle.std.proofs.lemmas.List.Elements.{All-contains, filter_passes, Contains-append_cases}
use Rattle.std.proofs.lemmas.List.FromFn.{length-range_with_len, get_or-range_with_len}
use Rattle.std.proofs.lemmas.Map.{Lookups.{btree_set_from_contains, exact_unsigned}, Views.{btree_set_contains_iff}}
use Rattle.fs_base.{proofs.Bools.{same_tests}, specs.{Config.{peer_of}, declared.config.Peer.{Peer}}}

abbrev pub number_of : Peer → ℕ
number_of peer = peer.number

-- a peer has each number that is among theirs
has_peer : (number : ℕ) (peers : List Peer) (k : ℕ) → k < length (map number_of peers) → get_or (map number_of peers) k number ≡ number
    → is_some (peer_of number peers) ≡ true
has_peer number [] k within is = absurd (omega (arith, within))
has_peer number (peer ∷ peers) zero within is = ap (λ (b : Bool). is_some (cond b (Some peer) (peer_of number peers))) (eq-eqb peer.number number is)
has_peer number (peer ∷ peers) (suc k) within is = either (peer.number == number) (has_peer number peers k (omega (arith, within)) is)
  where
    either : (b : Bool) → is_some (peer_of number peers) ≡ true → is_some (cond b (Some peer) (peer_of number peers)) ≡ true
    either true rest = refl
    either false rest = rest

-- and each number of a peer is among theirs
is_among : (number : ℕ) (peers : List Peer) → is_some (peer_of number peers) ≡ true → Contains (map number_of peers) number
is_among number [] has = absurd (true≢false (sym has))
is_among number (peer ∷ peers) has = at (peer.number == number) refl (is_among number peers) has
  where
    at : (b : Bool) → (peer.number == number) ≡ b → (is_some (peer_of number peers) ≡ true → Contains (map number_of peers) number)
        → is_some (cond b (Some peer) (peer_of number peers)) ≡ true → Contains (map number_of (peer ∷ peers)) number
    at true same rest has = (0, omega arith, eqb-true peer.number number same)
    at false other rest has = let there = rest has in (suc there.0, omega (arith, there.1), there.2)

rising : (bound : ℕ) → IsStrictlyIncreasing (range_with_len 0 bound)
rising bound k within =
    let long = length-range_with_len 0 bound in
    omega (arith, get_or-range_with_len 0 bound k 0 (omega (arith, long)), get_or-range_with_len 0 bound (k + 1) 0 (omega (arith, long)))

in_range : (bound n : ℕ) → n < bound → Contains (range_with_len 0 bound) n
in_range bound n below = (n, omega (arith, length-range_with_len 0 bound), omega (arith, get_or-range_with_len 0 bound n n below))

-- what passes a test is kept
kept : (p : ℕ → Bool) (xs : List ℕ) (n : ℕ) → Contains xs n → p n ≡ true → Contains (filter p xs) n
kept p xs n there passes =
    ⊎_elim
    (λ (c : Contains (filter p xs) n). c)
    (λ (c : Contains (filter (λ m. not (p m)) xs) n).
    absurd (true≢false (sym (All-contains (λ m. not (p m) ≡ true) (filter (λ m. not (p m)) xs) n (filter_passes (λ m. not (p m)) xs) c) ∙ ap not passes)))
    (Contains-append_cases (filter p xs) (filter (λ m. not (p m)) xs) n
    (Contains-permutation xs (filter p xs ++ filter (λ m. not (p m)) xs) n (IsPermutation-filter_both p (λ m. not (p m)) (λ m. refl) xs) there))

-- strictly rising lists with the same elements are the same
same_elements : (xs ys : List ℕ) → IsStrictlySortedBy nat_cmp xs → IsStrictlySortedBy nat_cmp ys
    → ((n : ℕ) → Contains xs n → Contains ys n) → ((n : ℕ) → Contains ys n → Contains xs n) → xs ≡ ys
same_elements xs ys sorted ordered to from =
    let s : BTreeSet ℕ = record { keys = xs } in
    let t : BTreeSet ℕ = record { keys = ys } in
    btree_set_from_contains nat_cmp_total s t sorted ordered
    (λ n.
    let has = btree_set_contains_iff nat_cmp_total exact_unsigned s n in
    let keeps = btree_set_contains_iff nat_cmp_total exact_unsigned t n in
    same_tests (contains nat_cmp s n) (contains nat_cmp t n) (λ h. keeps.1 (to n (has.0 h))) (λ h. has.1 (from n (keeps.0 h))))
    exact_unsigned

pub numbers_are : (xs : List ℕ) (bound : ℕ) (peers : List Peer) → IsStrictlySortedBy nat_cmp xs → All (λ n. n < bound) xs
    → ((n : ℕ) → Contains xs n → Contains (map number_of peers) n) → ((n : ℕ) → Contains (map number_of peers) n → Contains xs n)
    → xs ≡ numbers_below bound peers
unfolding numbers_below
numbers_are xs bound peers sorted below to from =
    let test : ℕ → Bool = λ n. is_some (peer_of n peers) in
    same_elements xs (filter test (range_with_len 0 bound)) sorted
    (IsStrictlySortedBy-filter nat_cmp test (range_with_len 0 bound) (sorted_from_strictly_increasing (range_with_len 0 bound) (rising bound)))
    (λ n c. let there = to n c in kept test (range_with_len 0 bound) n (in_range bound n (All-contains (λ m. m < bound) xs n below c))
    (has_peer n peers there.0 there.1 there.2))
    (λ n c. from n (is_among n peers
    (All-contains (λ m. test m ≡ true) (filter test (range_with_len 0 bound)) n (filter_passes test (range_with_len 0 bound)) c)))
