-- Buckets of which one has another count of rules.
use Rattle.fs_buckets.proofs.Words.{◌≡◌, ℕ, ◌+◌, ◌-◌, ◌^◌, ◌<◌, ◌≤◌, ◌⊎◌, inl, inr, sym, ap, ap₂, subst, ◌∙◌, Option, Some, None, List, length}
use Rattle.fs_buckets.proofs.Words.{get_or, replicate, arith, splice, cases_lt, get_or-replicate, get_or_default, length-replicate, Buckets, Node}
use Rattle.fs_buckets.proofs.Words.{numbers_in, nodes_in, AreAbove, AreChanged, IsSubnet, moved, node_at, AreHoused, span_at, AreBucketsOf, IsHolder}
use Rattle.fs_buckets.proofs.Words.{AreSound, AreTo}
use Rattle.fs_buckets.proofs.Splicing.{Part, at_back, at_front, at_middle, part_at, spliced_size}
use Rattle.fs_buckets.proofs.Stretching.{first_of, home_of, home_over, home_under, none, start_of}

-- the first buckets with so many rules in one of them, which are those from one number on before another in the other
pub record AreResized (old new : Buckets) (bucket from to count : ℕ) : Type 0 where
  pub lasts : numbers_in new.lasts ≡ numbers_in old.lasts
  pub nodes : AreChanged (bucket + 1) (length (nodes_in old.nodes)) (λ k. moved (to - from) count) (nodes_in old.nodes) (nodes_in new.nodes)
  pub homes : new.homes.items ≡ splice old.homes.items from to (replicate count bucket)

-- the bucket's rules are some of the rules
pub bounds : (old : Buckets) (n bucket from to : ℕ) (span : ℕ × ℕ) → AreSound old n → IsHolder old bucket span from to
    → (from ≤ to) × (to ≤ length old.homes.items)
bounds old n bucket from to span s h =
    let a : start_of old bucket ≤ start_of old (bucket + 1) = s.starts bucket (bucket + 1) (omega arith) (let w = h.within in omega (arith, w)) in
    let b : start_of old (bucket + 1) ≤ start_of old (length (numbers_in old.lasts)) =
    s.starts (bucket + 1) (length (numbers_in old.lasts)) (let w = h.within in omega (arith, w)) (omega arith) in
    (let x = h.start in let y = h.end in omega (arith, a, x, y), let y = h.end in let z = s.tail in omega (arith, b, y, z))

-- where a rule's home comes from
abbrev Place : (old new : Buckets) (bucket from to count k : ℕ) → Type 0
Place old new bucket from to count k = Part old.homes.items new.homes.items bucket 0 from to count k

-- the nodes keep their addresses and parents
node_is : (old new : Buckets) (bucket from to count i : ℕ) → AreResized old new bucket from to count → i < length (nodes_in old.nodes)
    → (first_of new i ≡ first_of old i) × ((node_at (nodes_in new.nodes) i).parent ≡ (node_at (nodes_in old.nodes) i).parent)
node_is old new bucket from to count i r below = elim (cases_lt i (bucket + 1)) [
  | inl early ↦ (ap (λ (x : Node ℕ). x.first) (r.nodes.front i none early), ap (λ (x : Node ℕ). x.parent) (r.nodes.front i none early))
  | inr late ↦ (ap (λ (x : Node ℕ). x.first) (r.nodes.done i none late below), ap (λ (x : Node ℕ). x.parent) (r.nodes.done i none late below))
]

start_front : (old new : Buckets) (bucket from to count i : ℕ) → AreResized old new bucket from to count → i < bucket + 1 → start_of new i ≡ start_of old i
start_front old new bucket from to count i r early = ap (λ (x : Node ℕ). x.start) (r.nodes.front i none early)

start_back : (old new : Buckets) (bucket from to count i : ℕ) → AreResized old new bucket from to count → bucket + 1 ≤ i → i < length (nodes_in old.nodes)
    → start_of new i ≡ start_of old i - (to - from) + count
start_back old new bucket from to count i r late below = ap (λ (x : Node ℕ). x.start) (r.nodes.done i none late below)

-- the starts behind the bucket can be moved
pub shift_fits : (old : Buckets) (n bucket from to count : ℕ) (span : ℕ × ℕ) → AreSound old n → IsHolder old bucket span from to
    → from + count + length old.homes.items < 2 ^ 32 + to → AreAbove (bucket + 1) (to - from) count (nodes_in old.nodes)
shift_fits old n bucket from to count span s h fits k d above below =
    subst (λ (x : Node ℕ). (to - from ≤ x.start) × (x.start + count < 2 ^ 32 + (to - from))) (sym (get_or_default (nodes_in old.nodes) k d none below))
    (omega (arith, low, end), omega (arith, high, tail, fits, ordered)) where
      within : k ≤ length (numbers_in old.lasts)
      within = let a = s.size in omega (arith, below, a)

      low : start_of old (bucket + 1) ≤ start_of old k
      low = s.starts (bucket + 1) k above within

      end : start_of old (bucket + 1) ≡ to
      end = h.end

      high : start_of old k ≤ start_of old (length (numbers_in old.lasts))
      high = s.starts k (length (numbers_in old.lasts)) within (omega arith)

      tail : start_of old (length (numbers_in old.lasts)) ≡ length old.homes.items
      tail = s.tail

      ordered : from ≤ to
      ordered = (bounds old n bucket from to span s h).0

-- They are buckets of the rules with those put there.
pub resizes : (old new : Buckets) (n most bucket from to count : ℕ) (span : ℕ × ℕ) (spans news : List (Option (ℕ × ℕ))) → AreSound old n
    → IsHolder old bucket span from to → AreResized old new bucket from to count
    → from + count + length old.homes.items ≤ most + to → AreHoused spans old → length old.homes.items ≤ length spans → AreTo (Some span) news
    → length news ≡ count → AreBucketsOf (splice spans from to news) new most
resizes old new n most bucket from to count span spans news s h r fits housed whole each size = record {
  sound = record {
    size = let a = r.nodes.size in let b = s.size in omega (arith, a, b, lasts);
    rising = λ i j less below. subst (λ xs. get_or xs i 0 ≤ get_or xs j 0) (sym r.lasts) (s.rising i j less (down below));
    subnets = λ i below.
        subst (λ x. IsSubnet x (get_or (numbers_in new.lasts) i 0))
        (sym ((node_is old new bucket from to count i r (inside i (omega (arith, below, lasts)))).0))
        (subst (λ xs. IsSubnet (node_at (nodes_in old.nodes) i).first (get_or xs i 0)) (sym r.lasts) (s.subnets i (down below)));
    nested = λ i j less below meets.
        let a = (node_is old new bucket from to count i r (inside i (omega (arith, less, below, lasts)))).0 in
        let b = (node_is old new bucket from to count j r (inside j (omega (arith, below, lasts)))).0 in
        let m : (node_at (nodes_in new.nodes) j).first ≤ get_or (numbers_in old.lasts) i 0 =
        subst (λ xs. (node_at (nodes_in new.nodes) j).first ≤ get_or xs i 0) r.lasts meets in
        let c = s.nested i j less (down below) (omega (arith, m, b)) in
        omega (arith, a, b, c);
    after = λ i below. let a = (node_is old new bucket from to count i r (inside i (omega (arith, below, lasts)))).1 in let b =
        s.after i (down below) in omega (arith, a, b);
    within = λ i below. let a = (node_is old new bucket from to count i r (inside i (omega (arith, below, lasts)))).1 in let b =
        s.within i (down below) in omega (arith, a, b, lasts);
    least = λ i j below less under.
        let a = (node_is old new bucket from to count i r (inside i (omega (arith, below, lasts)))).0 in
        let p = (node_is old new bucket from to count i r (inside i (omega (arith, below, lasts)))).1 in
        let w = s.within i (down below) in
        let b = (node_is old new bucket from to count j r (inside j (omega (arith, under, p, w)))).0 in
        let c = s.least i j (down below) less (omega (arith, under, p)) in
        omega (arith, a, b, c);
    starts = λ i j le below. start i j le (omega (arith, below, lasts)) (cases_lt i (bucket + 1)) (cases_lt j (bucket + 1));
    tail = let a : start_of new (length (numbers_in new.lasts)) ≡ start_of new (length (numbers_in old.lasts)) = ap (start_of new) lasts in
        let b = start_back old new bucket from to count (length (numbers_in old.lasts)) r (let w = h.within in
        omega (arith, w)) (inside (length (numbers_in old.lasts)) (omega arith)) in
        let t : start_of old (length (numbers_in old.lasts)) ≡ length old.homes.items = s.tail in
        omega (arith, a, b, t, homes, ordered, ends);
    few = omega (arith, homes, fits);
    home = λ k below. subst (λ m. home_of new k < m) (sym lasts) (home k below (place k));
    begins = λ k below. begins k below (place k);
    ends = λ k below. end k below (place k);
  };
  housed = record { homed = λ k below. homed k below (place k); bare = λ k past. bare k past };
} where
  lasts : length (numbers_in new.lasts) ≡ length (numbers_in old.lasts)
  lasts = ap length r.lasts

  ordered : from ≤ to
  ordered = (bounds old n bucket from to span s h).0

  ends : to ≤ length old.homes.items
  ends = (bounds old n bucket from to span s h).1

  homes : length new.homes.items + to ≡ from + count + length old.homes.items
  homes = let a = spliced_size old.homes.items (replicate count bucket) from to ordered ends in
      let b : length new.homes.items ≡ length (splice old.homes.items from to (replicate count bucket)) = ap length r.homes in let c =
      length-replicate count bucket in omega (arith, a, b, c)

  down : {i : ℕ} → i < length (numbers_in new.lasts) → i < length (numbers_in old.lasts)
  down {i} below = subst (λ m. i < m) lasts below

  inside : (i : ℕ) → i ≤ length (numbers_in old.lasts) → i < length (nodes_in old.nodes)
  inside i le = let a = s.size in omega (arith, le, a)

  place : (k : ℕ) → Place old new bucket from to count k
  place k = part_at old.homes.items (replicate count bucket) new.homes.items bucket 0 from to count k (omega (arith, ordered, ends)) r.homes
      (length-replicate count bucket) (λ i below. get_or-replicate count i bucket 0 (omega (arith, below, length-replicate count bucket)))

  start : (i j : ℕ) → i ≤ j → j ≤ length (numbers_in old.lasts) → (i < bucket + 1) ⊎ (bucket + 1 ≤ i) → (j < bucket + 1) ⊎ (bucket + 1 ≤ j)
      → start_of new i ≤ start_of new j
  start i j le below (inl a) (inl b) =
      let x = start_front old new bucket from to count i r a in
      let y = start_front old new bucket from to count j r b in
      let z = s.starts i j le below in
      omega (arith, x, y, z)
  start i j le below (inl a) (inr b) =
      let x = start_front old new bucket from to count i r a in
      let y = start_back old new bucket from to count j r b (inside j below) in
      let z : start_of old i ≤ start_of old bucket = s.starts i bucket (omega (arith, a)) (let w = h.within in omega (arith, w)) in
      let u : start_of old (bucket + 1) ≤ start_of old j = s.starts (bucket + 1) j b below in
      let f : start_of old bucket ≡ from = h.start in
      let t : start_of old (bucket + 1) ≡ to = h.end in
      omega (arith, x, y, z, u, f, t, ordered)
  start i j le below (inr a) (inl b) = absurd (omega (arith, le, a, b))
  start i j le below (inr a) (inr b) =
      let x = start_back old new bucket from to count i r a (inside i (omega (arith, le, below))) in
      let y = start_back old new bucket from to count j r b (inside j below) in
      let z = s.starts i j le below in
      omega (arith, x, y, z)

  earlier : (k : ℕ) → k < from → home_of old k < bucket
  earlier k below = home_under old n bucket k s (let w = h.within in omega (arith, w)) (let f = h.start in omega (arith, below, f))

  behind : ℕ → ℕ
  behind k = to + (k - (from + count))

  there : (k : ℕ) → from + count ≤ k → k < length new.homes.items → behind k < length old.homes.items
  there k past below = omega (arith, past, below, homes, ordered, ends)

  later : (k : ℕ) → from + count ≤ k → k < length new.homes.items → bucket + 1 ≤ home_of old (behind k)
  later k past below = home_over old n (bucket + 1) (behind k) s (let w = h.within in omega (arith, w)) (there k past below) (let t = h.end in omega (arith, t))

  home : (k : ℕ) → k < length new.homes.items → Place old new bucket from to count k → home_of new k < length (numbers_in old.lasts)
  home k below (inl a) = let e = a.1 in let x = earlier k a.0 in let w = h.within in omega (arith, e, x, w)
  home k below (inr (inl a)) = let e = a.2 in let w = h.within in omega (arith, e, w)
  home k below (inr (inr a)) = let e : home_of new k ≡ home_of old (behind k) = a.1 in let x = s.home (behind k) (there k a.0 below) in omega (arith, e, x)

  begins : (k : ℕ) → k < length new.homes.items → Place old new bucket from to count k → start_of new (home_of new k) ≤ k
  begins k below (inl a) =
      let e : start_of new (home_of new k) ≡ start_of new (home_of old k) = ap (start_of new) a.1 in
      let x = earlier k a.0 in
      let y = start_front old new bucket from to count (home_of old k) r (omega (arith, x)) in
      let z = s.begins k (let b = a.0 in omega (arith, b, ordered, ends)) in
      omega (arith, e, y, z)
  begins k below (inr (inl a)) =
      let e : start_of new (home_of new k) ≡ start_of new bucket = ap (start_of new) a.2 in
      let y = start_front old new bucket from to count bucket r (omega arith) in
      let f : start_of old bucket ≡ from = h.start in
      let l = a.0 in
      omega (arith, e, y, f, l)
  begins k below (inr (inr a)) =
      let e : start_of new (home_of new k) ≡ start_of new (home_of old (behind k)) = ap (start_of new) a.1 in
      let x = later k a.0 below in
      let w = s.home (behind k) (there k a.0 below) in
      let y = start_back old new bucket from to count (home_of old (behind k)) r x (inside (home_of old (behind k)) (omega (arith, w))) in
      let z : start_of old (home_of old (behind k)) ≤ behind k = s.begins (behind k) (there k a.0 below) in
      let u : start_of old (bucket + 1) ≤ start_of old (home_of old (behind k)) = s.starts (bucket + 1) (home_of old (behind k)) x (omega (arith, w)) in
      let t : start_of old (bucket + 1) ≡ to = h.end in
      let l = a.0 in
      omega (arith, e, y, z, u, t, l, ordered)

  end : (k : ℕ) → k < length new.homes.items → Place old new bucket from to count k → k < start_of new (home_of new k + 1)
  end k below (inl a) =
      let e : start_of new (home_of new k + 1) ≡ start_of new (home_of old k + 1) = ap (λ m. start_of new (m + 1)) a.1 in
      let x = earlier k a.0 in
      let y = start_front old new bucket from to count (home_of old k + 1) r (omega (arith, x)) in
      let z = s.ends k (let b = a.0 in omega (arith, b, ordered, ends)) in
      omega (arith, e, y, z)
  end k below (inr (inl a)) =
      let e : start_of new (home_of new k + 1) ≡ start_of new (bucket + 1) = ap (λ m. start_of new (m + 1)) a.2 in
      let y = start_back old new bucket from to count (bucket + 1) r (omega arith) (inside (bucket + 1) (let w = h.within in omega (arith, w))) in
      let t : start_of old (bucket + 1) ≡ to = h.end in
      let l = a.1 in
      omega (arith, e, y, t, l, ordered)
  end k below (inr (inr a)) =
      let e : start_of new (home_of new k + 1) ≡ start_of new (home_of old (behind k) + 1) = ap (λ m. start_of new (m + 1)) a.1 in
      let x = later k a.0 below in
      let w = s.home (behind k) (there k a.0 below) in
      let y = start_back old new bucket from to count (home_of old (behind k) + 1) r (omega (arith, x))
      (inside (home_of old (behind k) + 1) (omega (arith, w))) in
      let z : behind k < start_of old (home_of old (behind k) + 1) = s.ends (behind k) (there k a.0 below) in
      let l = a.0 in
      omega (arith, e, y, z, l, ordered)

  begin : from ≤ length spans
  begin = omega (arith, ordered, ends, whole)

  -- the bucket of a rule has the addresses that it had
  same : (k i : ℕ) → home_of new k ≡ i → i < length (numbers_in old.lasts)
      → ◌≡◌ {A = Option (ℕ × ℕ)} (Some (span_at new k)) (Some ((node_at (nodes_in old.nodes) i).first, get_or (numbers_in old.lasts) i 0))
  same k i e below = ap₂ (λ (x y : ℕ). Some (x, y))
      (ap (λ m. (node_at (nodes_in new.nodes) m).first) e ∙ (node_is old new bucket from to count i r (omega (arith, below, s.size))).0)
      (ap₂ (λ (xs : List ℕ) (m : ℕ). get_or xs m 0) r.lasts e)

  shift : (k : ℕ) → from + count ≤ k → get_or (splice spans from to news) k None ≡ get_or spans (behind k) None
  shift k past = at_back spans news from to k (behind k) None begin (omega arith) (omega (arith, past, size))

  homed : (k : ℕ) → k < length new.homes.items → Place old new bucket from to count k → get_or (splice spans from to news) k None ≡ Some (span_at new k)
  homed k below (inl a) =
      let inside : k < length old.homes.items = omega (arith, a.0, ordered, ends) in
      at_front spans news from to k None begin a.0 ∙ housed.homed k inside ∙ sym (same k (home_of old k) a.1 (s.home k inside))
  homed k below (inr (inl a)) =
      let inside : k - from < length news = omega (arith, a.0, a.1, size) in
      at_middle spans news from to k (k - from) None begin (omega (arith, a.0)) inside ∙ each (k - from) inside
      ∙ sym (same k bucket a.2 h.within ∙ ap₂ (λ (x y : ℕ). Some (x, y)) h.first h.last)
  homed k below (inr (inr a)) =
      let inside : behind k < length old.homes.items = omega (arith, a.0, below, homes, ordered, ends) in
      shift k a.0 ∙ housed.homed (behind k) inside ∙ sym (same k (home_of old (behind k)) a.1 (s.home (behind k) inside))

  bare : (k : ℕ) → length new.homes.items ≤ k → get_or (splice spans from to news) k None ≡ None
  bare k past = shift k (omega (arith, past, homes, ends)) ∙ housed.bare (behind k) (omega (arith, past, homes, ordered, ends))
