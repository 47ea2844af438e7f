use Rattle.fs_buckets.proofs.Words.{◌≡◌, ℕ, ◌+◌, ◌-◌, ◌<◌, ◌≤◌, ◌⊎◌, inl, inr, refl, sym, ap, ap₂, subst, ◌∙◌, ◌++◌, [], ◌∷◌, Option, Some, None}
use Rattle.fs_buckets.proofs.Words.{List, length, get_or, length-append, arith, cases_lt, cases_order, get_or_append_left, get_or_push, Node}
use Rattle.fs_buckets.proofs.Words.{AreBuckets, IsSubnet, node_at, AreNesting, AreNodes, ArePlain, AreRuns, Buckets, numbers_in, nodes_in, AreHoused}

-- Runs, one rule more; their parents and nodes; and the buckets that these are.

longer : {X : Type 0} (xs : List X) (y : X) → length (xs ++ y ∷ []) ≡ length xs + 1
longer xs y = length-append xs (y ∷ [])

-- what holds of each place of a list and of the one behind it
each_more : (hs : List ℕ) (m : ℕ) (P : ℕ → ℕ → Type 0) → ((k : ℕ) → k < length hs → P k (get_or hs k 0)) → P (length hs) m
    → (k : ℕ) → k < length (hs ++ m ∷ []) → P k (get_or (hs ++ m ∷ []) k 0)
each_more hs m P each last k below = at (cases_lt k (length hs)) where
  size : length (hs ++ m ∷ []) ≡ length hs + 1
  size = longer hs m

  at : (k < length hs) ⊎ (length hs ≤ k) → P k (get_or (hs ++ m ∷ []) k 0)
  at (inl inside) = subst (P k) (sym (get_or_append_left hs (m ∷ []) 0 k inside)) (each k inside)
  at (inr behind) =
      let same : length hs ≡ k = omega (arith, behind, below, size) in
      subst (λ i. P i (get_or (hs ++ m ∷ []) i 0)) same (subst (P (length hs)) (sym (get_or_push hs m 0 (length hs) refl)) last)

-- A rule more in the last run.
pub join_runs : (spans : List (Option (ℕ × ℕ))) (fs ls ss hs : List ℕ) (m : ℕ) → AreRuns spans fs ls ss hs → 0 < length ls → m ≡ length ls - 1
    → get_or spans (length hs) None ≡ Some (get_or fs m 0, get_or ls m 0) → AreRuns spans fs ls ss (hs ++ m ∷ [])
join_runs spans fs ls ss hs m s some e now = record {
  firsts_size = s.firsts_size;
  starts_size = s.starts_size;
  few = let a : length ls ≤ length hs = s.few in omega (arith, size, a);
  home = each_more hs m (λ k h. h < length ls) s.home inside;
  span = each_more hs m (λ k h. get_or spans k None ≡ Some (get_or fs h 0, get_or ls h 0)) s.span now;
  begins = each_more hs m (λ k h. get_or ss h 0 ≤ k) s.begins (let a : get_or ss m 0 < length hs = s.started m inside in omega (arith, a));
  ends = each_more hs m (λ k h. h + 1 < length ls → k < get_or ss (h + 1) 0) s.ends (λ out. omega (arith, out, e, some));
  rising = s.rising;
  started = λ i below. let a : get_or ss i 0 < length hs = s.started i below in omega (arith, size, a);
  owner = s.owner;
} where
  inside : m < length ls
  inside = omega (arith, e, some)

  size : length (hs ++ m ∷ []) ≡ length hs + 1
  size = longer hs m

-- A rule more with a run of its own.
pub open_runs : (spans : List (Option (ℕ × ℕ))) (fs ls ss hs : List ℕ) (low high : ℕ) → AreRuns spans fs ls ss hs
    → get_or spans (length hs) None ≡ Some (low, high) → AreRuns spans (fs ++ low ∷ []) (ls ++ high ∷ []) (ss ++ length hs ∷ []) (hs ++ length ls ∷ [])
open_runs spans fs ls ss hs low high s now = record {
  firsts_size = omega (arith, fs_longer, ls_longer, fs_size);
  starts_size = omega (arith, ss_longer, ls_longer, ss_size);
  few = let a : length ls ≤ length hs = s.few in omega (arith, ls_longer, hs_longer, a);
  home = each_more hs (length ls) (λ k h. h < length (ls ++ high ∷ [])) (λ k b. let a : get_or hs k 0 < length ls = s.home k b in
      omega (arith, a, ls_longer)) (omega (arith, ls_longer));
  span = each_more hs (length ls) (λ k h. get_or spans k None ≡ Some (get_or (fs ++ low ∷ []) h 0, get_or (ls ++ high ∷ []) h 0))
      (λ k b. s.span k b ∙ sym (pair_old (get_or hs k 0) (s.home k b))) (now ∙ sym pair_new);
  begins = each_more hs (length ls) (λ k h. get_or (ss ++ length hs ∷ []) h 0 ≤ k)
      (λ k b. subst (λ x. x ≤ k) (sym (ss_old (get_or hs k 0) (s.home k b))) (s.begins k b)) (omega (arith, ss_new));
  ends = each_more hs (length ls) (λ k h. h + 1 < length (ls ++ high ∷ []) → k < get_or (ss ++ length hs ∷ []) (h + 1) 0)
      (λ k b out. next k b (cases_lt (get_or hs k 0 + 1) (length ls)) out) (λ out. omega (arith, out, ls_longer));
  rising = λ i j less below. rise i j less (cases_lt j (length ls)) below;
  started = λ i below. start i below (cases_lt i (length ls));
  owner = λ i below. own i below (cases_lt i (length ls));
} where
  fs_size : length fs ≡ length ls
  fs_size = s.firsts_size

  ss_size : length ss ≡ length ls
  ss_size = s.starts_size

  fs_longer : length (fs ++ low ∷ []) ≡ length fs + 1
  fs_longer = longer fs low

  ls_longer : length (ls ++ high ∷ []) ≡ length ls + 1
  ls_longer = longer ls high

  ss_longer : length (ss ++ length hs ∷ []) ≡ length ss + 1
  ss_longer = longer ss (length hs)

  hs_longer : length (hs ++ length ls ∷ []) ≡ length hs + 1
  hs_longer = longer hs (length ls)

  ss_old : (h : ℕ) → h < length ls → get_or (ss ++ length hs ∷ []) h 0 ≡ get_or ss h 0
  ss_old h b = get_or_append_left ss (length hs ∷ []) 0 h (omega (arith, b, ss_size))

  ss_new : get_or (ss ++ length hs ∷ []) (length ls) 0 ≡ length hs
  ss_new = get_or_push ss (length hs) 0 (length ls) ss_size

  pair_old : (h : ℕ) → h < length ls
      → ◌≡◌ {A = Option (ℕ × ℕ)} (Some (get_or (fs ++ low ∷ []) h 0, get_or (ls ++ high ∷ []) h 0)) (Some (get_or fs h 0, get_or ls h 0))
  pair_old h b = ap₂ (λ (x y : ℕ). Some (x, y)) (get_or_append_left fs (low ∷ []) 0 h (omega (arith, b, fs_size))) (get_or_append_left ls (high ∷ []) 0 h b)

  pair_new : ◌≡◌ {A = Option (ℕ × ℕ)} (Some (get_or (fs ++ low ∷ []) (length ls) 0, get_or (ls ++ high ∷ []) (length ls) 0)) (Some (low, high))
  pair_new = ap₂ (λ (x y : ℕ). Some (x, y)) (get_or_push fs low 0 (length ls) fs_size) (get_or_push ls high 0 (length ls) refl)

  next : (k : ℕ) → k < length hs → (get_or hs k 0 + 1 < length ls) ⊎ (length ls ≤ get_or hs k 0 + 1) → get_or hs k 0 + 1 < length (ls ++ high ∷ [])
      → k < get_or (ss ++ length hs ∷ []) (get_or hs k 0 + 1) 0
  next k b (inl inside) out = subst (λ x. k < x) (sym (ss_old (get_or hs k 0 + 1) inside)) (s.ends k b inside)
  next k b (inr end) out =
      let same : length ls ≡ get_or hs k 0 + 1 = omega (arith, end, out, ls_longer) in
      subst (λ i. k < get_or (ss ++ length hs ∷ []) i 0) same (subst (λ x. k < x) (sym ss_new) b)

  rise : (i j : ℕ) → i < j → (j < length ls) ⊎ (length ls ≤ j) → j < length (ls ++ high ∷ [])
      → get_or (ss ++ length hs ∷ []) i 0 < get_or (ss ++ length hs ∷ []) j 0
  rise i j less (inl inside) below =
      let a : get_or ss i 0 < get_or ss j 0 = s.rising i j less inside in
      let b : get_or (ss ++ length hs ∷ []) i 0 ≡ get_or ss i 0 = ss_old i (omega (arith, less, inside)) in
      let d : get_or (ss ++ length hs ∷ []) j 0 ≡ get_or ss j 0 = ss_old j inside in
      omega (arith, a, b, d)
  rise i j less (inr end) below =
      let same : length ls ≡ j = omega (arith, end, below, ls_longer) in
      let inside : i < length ls = omega (arith, less, same) in
      let a : get_or ss i 0 < length hs = s.started i inside in
      let b : get_or (ss ++ length hs ∷ []) i 0 ≡ get_or ss i 0 = ss_old i inside in
      subst (λ x. get_or (ss ++ length hs ∷ []) i 0 < get_or (ss ++ length hs ∷ []) x 0) same (omega (arith, a, b, ss_new))

  start : (i : ℕ) → i < length (ls ++ high ∷ []) → (i < length ls) ⊎ (length ls ≤ i) → get_or (ss ++ length hs ∷ []) i 0 < length (hs ++ length ls ∷ [])
  start i below (inl inside) =
      let a : get_or ss i 0 < length hs = s.started i inside in
      let b : get_or (ss ++ length hs ∷ []) i 0 ≡ get_or ss i 0 = ss_old i inside in
      omega (arith, a, b, hs_longer)
  start i below (inr end) =
      let same : length ls ≡ i = omega (arith, end, below, ls_longer) in
      subst (λ x. get_or (ss ++ length hs ∷ []) x 0 < length (hs ++ length ls ∷ [])) same (omega (arith, ss_new, hs_longer))

  own : (i : ℕ) → i < length (ls ++ high ∷ []) → (i < length ls) ⊎ (length ls ≤ i)
      → get_or spans (get_or (ss ++ length hs ∷ []) i 0) None ≡ Some (get_or (fs ++ low ∷ []) i 0, get_or (ls ++ high ∷ []) i 0)
  own i below (inl inside) = ap (λ x. get_or spans x None) (ss_old i inside) ∙ s.owner i inside ∙ sym (pair_old i inside)
  own i below (inr end) =
      let same : length ls ≡ i = omega (arith, end, below, ls_longer) in
      subst (λ x. get_or spans (get_or (ss ++ length hs ∷ []) x 0) None ≡ Some (get_or (fs ++ low ∷ []) x 0, get_or (ls ++ high ∷ []) x 0)) same
      (ap (λ x. get_or spans x None) ss_new ∙ now ∙ sym pair_new)

-- the nodes of the first runs
pub record AreNodesTo (firsts starts parents : List ℕ) (n : ℕ) (nodes : List (Node ℕ)) : Type 0 where
  pub size : length nodes ≡ n
  pub each : (k : ℕ) → k < n → node_at nodes k ≡ record { first = get_or firsts k 0; start = get_or starts k 0; parent = get_or parents k 0 }

-- Runs with their parents and nodes are buckets.
pub buckets_from : (spans : List (Option (ℕ × ℕ))) (fs ls ss hs ps : List ℕ) (nodes : List (Node ℕ)) (count : ℕ) → AreNesting spans
    → ((i : ℕ) → i < length ls → IsSubnet (get_or fs i 0) (get_or ls i 0)) → AreRuns spans fs ls ss hs
    → ArePlain fs ps 0 → AreNodes fs ss ps (length hs) nodes → length hs ≤ count → AreBuckets ls nodes hs count
buckets_from spans fs ls ss hs ps nodes count nesting subnets s plain made most = record {
  size = let a : length nodes ≡ length fs + 1 = made.size in omega (arith, a, sized);
  rising = λ i j less below. nesting.rising (get_or ss i 0) (get_or ss j 0) (get_or fs i 0, get_or ls i 0) (get_or fs j 0, get_or ls j 0)
      (s.rising i j less below) (s.owner i (omega (arith, less, below))) (s.owner j below);
  subnets = λ i below. subst (λ x. IsSubnet x (get_or ls i 0)) (sym (first_is i below)) (subnets i below);
  nested = λ i j less below meets. nest i j less below meets;
  after = λ i below. subst (λ x. i < x) (sym (parent_is i below)) (plain.after i (omega arith) (inside i below));
  within = λ i below. subst (λ x. x ≤ length ls) (sym (parent_is i below))
      (subst (λ x. get_or ps i 0 ≤ x) sized (plain.within i (omega arith) (inside i below)));
  least = λ i j below less under.
      let a : get_or fs i 0 < get_or fs j 0 = plain.least i j (omega arith) (inside i below) less (subst (λ x. j < x) (parent_is i below) under) in
      let up : get_or ps i 0 ≤ length fs = plain.within i (omega arith) (inside i below) in
      let short : j < get_or ps i 0 = subst (λ x. j < x) (parent_is i below) under in
      let b : (node_at nodes i).first ≡ get_or fs i 0 = first_is i below in
      let d : (node_at nodes j).first ≡ get_or fs j 0 = first_is j (omega (arith, up, short, sized)) in
      omega (arith, a, b, d);
  starts = λ i j le below. start i j le below (cases_order i j) (cases_lt j (length ls));
  tail = tailed;
  few = most;
  home = s.home;
  begins = λ k b. subst (λ x. x ≤ k) (sym (start_is (get_or hs k 0) (s.home k b))) (s.begins k b);
  ends = λ k b. end k b (cases_lt (get_or hs k 0 + 1) (length ls));
} where
  sized : length fs ≡ length ls
  sized = s.firsts_size

  inside : (i : ℕ) → i < length ls → i < length fs
  inside i below = omega (arith, below, sized)

  first_is : (i : ℕ) → i < length ls → (node_at nodes i).first ≡ get_or fs i 0
  first_is i below = ap (λ (x : Node ℕ). x.first) (made.each i (inside i below))

  start_is : (i : ℕ) → i < length ls → (node_at nodes i).start ≡ get_or ss i 0
  start_is i below = ap (λ (x : Node ℕ). x.start) (made.each i (inside i below))

  parent_is : (i : ℕ) → i < length ls → (node_at nodes i).parent ≡ get_or ps i 0
  parent_is i below = ap (λ (x : Node ℕ). x.parent) (made.each i (inside i below))

  tailed : (node_at nodes (length ls)).start ≡ length hs
  tailed = subst (λ x. (node_at nodes x).start ≡ length hs) sized made.tail

  nest : (i j : ℕ) → i < j → j < length ls → (node_at nodes j).first ≤ get_or ls i 0 → (node_at nodes j).first ≤ (node_at nodes i).first
  nest i j less below meets =
      let early : i < length ls = omega (arith, less, below) in
      let b : (node_at nodes i).first ≡ get_or fs i 0 = first_is i early in
      let d : (node_at nodes j).first ≡ get_or fs j 0 = first_is j below in
      let a : get_or fs j 0 ≤ get_or fs i 0 =
      nesting.nested (get_or ss i 0) (get_or ss j 0) (get_or fs i 0, get_or ls i 0) (get_or fs j 0, get_or ls j 0) (s.rising i j less below)
      (s.owner i early) (s.owner j below)
      (omega (arith, meets, d)) in
      omega (arith, a, b, d)

  start : (i j : ℕ) → i ≤ j → j ≤ length ls → (i ≡ j) ⊎ ((i < j) ⊎ (j < i)) → (j < length ls) ⊎ (length ls ≤ j)
      → (node_at nodes i).start ≤ (node_at nodes j).start
  start i j le below (inl same) place = subst (λ x. (node_at nodes i).start ≤ (node_at nodes x).start) same (omega arith)
  start i j le below (inr (inl less)) (inl within) =
      let a : get_or ss i 0 < get_or ss j 0 = s.rising i j less within in
      let b : (node_at nodes i).start ≡ get_or ss i 0 = start_is i (omega (arith, less, within)) in
      let d : (node_at nodes j).start ≡ get_or ss j 0 = start_is j within in
      omega (arith, a, b, d)
  start i j le below (inr (inl less)) (inr end) =
      let same : length ls ≡ j = omega (arith, below, end) in
      let early : i < length ls = omega (arith, less, same) in
      let a : get_or ss i 0 < length hs = s.started i early in
      let b : (node_at nodes i).start ≡ get_or ss i 0 = start_is i early in
      subst (λ x. (node_at nodes i).start ≤ (node_at nodes x).start) same (omega (arith, a, b, tailed))
  start i j le below (inr (inr more)) place = omega (arith, le, more)

  end : (k : ℕ) → k < length hs → (get_or hs k 0 + 1 < length ls) ⊎ (length ls ≤ get_or hs k 0 + 1) → k < (node_at nodes (get_or hs k 0 + 1)).start
  end k b (inl more) = subst (λ x. k < x) (sym (start_is (get_or hs k 0 + 1) more)) (s.ends k b more)
  end k b (inr last) =
      let h : get_or hs k 0 < length ls = s.home k b in
      let same : length ls ≡ get_or hs k 0 + 1 = omega (arith, last, h) in
      subst (λ x. k < (node_at nodes x).start) same (omega (arith, b, tailed))

-- the rules are housed in the buckets of their runs
pub housed_from : (spans : List (Option (ℕ × ℕ))) (b : Buckets) (fs ls ss hs ps : List ℕ) → AreNesting spans → AreRuns spans fs ls ss hs
    → AreNodes fs ss ps (length hs) (nodes_in b.nodes)
    → numbers_in b.lasts ≡ ls → b.homes.items ≡ hs → get_or spans (length hs) None ≡ None → AreHoused spans b
housed_from spans b fs ls ss hs ps nesting s made l h rest = record {
  homed = λ k below.
      let inside : k < length hs = subst (λ (xs : List ℕ). k < length xs) h below in
      subst (λ (xs : List ℕ). get_or spans k None
      ≡ Some ((node_at (nodes_in b.nodes) (get_or xs k 0)).first, get_or (numbers_in b.lasts) (get_or xs k 0) 0)) (sym h)
      (subst (λ (xs : List ℕ). get_or spans k None ≡ Some ((node_at (nodes_in b.nodes) (get_or hs k 0)).first, get_or xs (get_or hs k 0) 0)) (sym l)
      (s.span k inside ∙ ap (λ (x : ℕ). Some (x, get_or ls (get_or hs k 0) 0))
      (sym (ap (λ (x : Node ℕ). x.first) (made.each (get_or hs k 0) (inner k inside))))));
  bare = λ k above. nesting.bare (length hs) k (subst (λ (xs : List ℕ). length xs ≤ k) h above) rest;
} where
  inner : (k : ℕ) → k < length hs → get_or hs k 0 < length fs
  inner k inside = let a : get_or hs k 0 < length ls = s.home k inside in let z : length fs ≡ length ls = s.firsts_size in omega (arith, a, z)
