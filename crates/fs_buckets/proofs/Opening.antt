-- Buckets with an empty one more among them.
use Rattle.fs_buckets.proofs.Words.{◌≡◌, ℕ, ◌+◌, ◌-◌, ◌^◌, ◌<◌, ◌≤◌, ◌⊎◌, ◌||◌, inl, inr, refl, sym, ap, ap₂, subst, ◌∙◌, [], ◌∷◌, Bool, true, false}
use Rattle.fs_buckets.proofs.Words.{if◌then◌else◌, nat_le, nat_lt, Some, length, get_or, arith, insert, mod-eq_of_lt, cases_lt, cases_order, le-leb}
use Rattle.fs_buckets.proofs.Words.{le-ltb, lt-leb, lt-ltb, Buckets, Node, numbers_in, nodes_in, AreChanged, AreOpened, IsSubnet, beside, node_at}
use Rattle.fs_buckets.proofs.Words.{parent_beside, HasEmpty, IsGap, IsLeft, IsPassed, bucket_span, AreSound}
use Rattle.fs_buckets.proofs.Splicing.{at_back, at_front, at_middle, spliced_size}
use Rattle.fs_buckets.proofs.Stretching.{first_of, home_of, home_over, home_under, last_of, none, start_of}
use Rattle.fs_buckets.proofs.Subnets.{subnet_proper, subnets_nest}

-- where a bucket stands among those with one more at a place
lift : (place i : ℕ) → ℕ
lift place i = if nat_lt i place then i else i + 1

lift_low : (place i : ℕ) → i < place → lift place i ≡ i
unfolding lift
lift_low place i less = ap (λ (b : Bool). if b then i else i + 1) (lt-ltb i place less)

lift_high : (place i : ℕ) → place ≤ i → lift place i ≡ i + 1
unfolding lift
lift_high place i past = ap (λ (b : Bool). if b then i else i + 1) (le-ltb i place past)

lifted : (place i : ℕ) → ((i < place) × (lift place i ≡ i)) ⊎ ((place ≤ i) × (lift place i ≡ i + 1))
lifted place i = elim (cases_lt i place) [ inl less ↦ inl (less, lift_low place i less) | inr past ↦ inr (past, lift_high place i past) ]

lift_least : (place i : ℕ) → i ≤ lift place i
lift_least place i = elim (lifted place i) [ inl l ↦ omega (arith, l.1) | inr l ↦ omega (arith, l.1) ]

lift_most : (place i : ℕ) → lift place i ≤ i + 1
lift_most place i = elim (lifted place i) [ inl l ↦ omega (arith, l.1) | inr l ↦ omega (arith, l.1) ]

below_it : (place i : ℕ) → lift place i < place → i < place
below_it place i h = elim (lifted place i) [ inl l ↦ l.0 | inr l ↦ omega (arith, h, l.0, l.1) ]

behind_it : (place i : ℕ) → place < lift place i → place ≤ i
behind_it place i h = elim (lifted place i) [ inl l ↦ omega (arith, h, l.0, l.1) | inr l ↦ l.0 ]

in_order : (place i j : ℕ) → lift place i < lift place j → i < j
in_order place i j h = at (lifted place i) (lifted place j) where
  at : ((i < place) × (lift place i ≡ i)) ⊎ ((place ≤ i) × (lift place i ≡ i + 1))
      → ((j < place) × (lift place j ≡ j)) ⊎ ((place ≤ j) × (lift place j ≡ j + 1)) → i < j
  at (inl l) (inl k) = omega (arith, h, l.1, k.1)
  at (inl l) (inr k) = omega (arith, l.0, k.0)
  at (inr l) (inl k) = omega (arith, h, l.0, l.1, k.0, k.1)
  at (inr l) (inr k) = omega (arith, h, l.1, k.1)

-- one of the new ones is that at the place, or one of the old
abbrev Origin : (place m i : ℕ) → Type 0
Origin place m i = (i ≡ place) ⊎ ((o : ℕ) × (lift place o ≡ i) × (o < m))

origin : (place m i : ℕ) → place ≤ m → i < m + 1 → Origin place m i
origin place m i within below = at (cases_order i place) where
  at : (i ≡ place) ⊎ ((i < place) ⊎ (place < i)) → Origin place m i
  at (inl same) = inl same
  at (inr (inl less)) = inr (i, lift_low place i less, omega (arith, less, within))
  at (inr (inr more)) = inr (
    i - 1,
    lift_high place (i - 1) (omega (arith, more)) ∙ (let e : i - 1 + 1 ≡ i = omega (arith, more) in e),
    omega (arith, below, more),
  )

one : (place m : ℕ) (P : ℕ → Type 0) → place ≤ m → ((o : ℕ) → o < m → P (lift place o)) → P place → (i : ℕ) → i < m + 1 → P i
one place m P within old new i below = at (origin place m i within below) where
  at : Origin place m i → P i
  at (inl same) = subst P (sym same) new
  at (inr (o, is, inside)) = subst P is (old o inside)

two : (place m : ℕ) (R : ℕ → ℕ → Type 0) → place ≤ m → ((o p : ℕ) → o < p → p < m → R (lift place o) (lift place p))
    → ((o : ℕ) → o < place → R (lift place o) place)
    → ((p : ℕ) → place ≤ p → p < m → R place (lift place p)) → (i j : ℕ) → i < j → j < m + 1 → R i j
two place m R within olds to from i j less below = at (origin place m i within (omega (arith, less, below))) (origin place m j within below) where
  at : Origin place m i → Origin place m j → R i j
  at (inl a) (inl b) = absurd (omega (arith, less, a, b))
  at (inl a) (inr (p, e, inside)) = subst (λ x. R x j) (sym a) (subst (R place) e (from p (behind_it place p (omega (arith, less, a, e))) inside))
  at (inr (o, d, inside)) (inl b) = subst (R i) (sym b) (subst (λ x. R x place) d (to o (below_it place o (omega (arith, less, d, b)))))
  at (inr (o, d, inner)) (inr (p, e, inside)) =
      subst (λ x. R x j) d (subst (R (lift place o)) e (olds o p (in_order place o p (omega (arith, less, d, e))) inside))

-- the first buckets with an empty one of these addresses at a place, whose rules would stand from a number on
pub record IsOpened (old new : Buckets) (bucket low from parent : ℕ) (span : ℕ × ℕ) : Type 0 where
  pub lasts : numbers_in new.lasts ≡ insert (numbers_in old.lasts) bucket span.1
  pub nodes : AreOpened bucket low (record { first = span.0; start = from; parent = parent + 1 }) (nodes_in old.nodes) (nodes_in new.nodes)
  pub homes : AreChanged from (length old.homes.items) (λ k n. n + 1) old.homes.items new.homes.items
  -- buckets before `low` end before it begins, and none before its parent begins as early
  pub apart : (i : ℕ) → i < low → get_or (numbers_in old.lasts) i 0 < span.0
  pub over : (bucket ≤ parent) × (parent ≤ length (numbers_in old.lasts))
  pub least : (j : ℕ) → bucket ≤ j → j < parent → span.0 < (node_at (nodes_in old.nodes) j).first

abbrev parent_of : Buckets → ℕ → ℕ
parent_of b i = (node_at (nodes_in b.nodes) i).parent

pub opens : (old new : Buckets) (n bucket low from parent : ℕ) (span : ℕ × ℕ) → AreSound old n → IsSubnet span.0 span.1 → IsGap old bucket span from
    → IsOpened old new bucket low from parent span
    → HasEmpty old new bucket span from
opens old new n bucket low from parent span s own gap o = record {
  sound = record {
    size = omega (arith, o.nodes.size, s.size, lasts);
    rising = λ i j less below. two bucket m (λ i j. last_of new i ≤ last_of new j) inside
        (λ i j less below. omega (arith, last_is i, last_is j, s.rising i j less below))
        (λ i less. omega (arith, last_is i, last_at, last_passed i less))
        (λ j past below. omega (arith, last_is j, last_at, last_left j past below)) i j less (omega (arith, below, lasts));
    subnets = λ i below. one bucket m (λ i. IsSubnet (first_of new i) (last_of new i)) inside
        (λ i below. subst (λ x. IsSubnet x (last_of new (lift bucket i))) (sym (first_is i (omega (arith, below))))
        (subst (IsSubnet (first_of old i)) (sym (last_is i)) (s.subnets i below)))
        (subst (λ x. IsSubnet x (last_of new bucket)) (sym first_at) (subst (IsSubnet span.0) (sym last_at) own)) i (omega (arith, below, lasts));
    nested = λ i j less below. two bucket m (λ i j. first_of new j ≤ last_of new i → first_of new j ≤ first_of new i) inside nests
        (λ i less meets. let x = first_is i (omega (arith, less, inside)) in
        omega (arith, x, first_at, first_passed i less (omega (arith, meets, first_at, last_is i))))
        (λ j past below meets. let x = first_is j (omega (arith, below)) in
        omega (arith, x, first_at, first_left j past below (omega (arith, meets, x, last_at)))) i j less (omega (arith, below, lasts));
    after = λ i below. (ups i (omega (arith, below, lasts))).0;
    within = λ i below. let w = (ups i (omega (arith, below, lasts))).1 in omega (arith, w, lasts);
    least = λ i j below less under. two bucket m (λ i j. j < parent_of new i → first_of new i < first_of new j) inside leasts before
        (λ j past below under. let x = first_is j (omega (arith, below)) in
        omega (arith, x, first_at, o.least j past (omega (arith, under, parent_at, lift_high bucket j past))))
        i j less (let top = (ups i (omega (arith, below, lasts))).1 in omega (arith, under, top)) under;
    starts = λ i j le below. start i j le (omega (arith, below, lasts)) (cases_lt i j);
    tail = ap (start_of new) (lasts ∙ sym (lift_high bucket m inside)) ∙ start_is m (omega arith) ∙ s.tail ∙ sym o.homes.size;
    few = omega arith;
    home = λ k below. omega (arith, home_is k (here k below), lift_most bucket (home_of old k), s.home k (here k below), lasts);
    begins = λ k below. let h = s.home k (here k below) in
        let e : start_of new (home_of new k) ≡ start_of old (home_of old k) = ap (start_of new) (home_is k (here k below))
        ∙ start_is (home_of old k) (omega (arith, h)) in
        omega (arith, e, s.begins k (here k below));
    ends = λ k below. end k (here k below) (cases_order (home_of old k + 1) bucket);
  };
  holder = record {
    within = omega (arith, inside, lasts);
    few = omega (arith, inside, gap.few);
    first = first_at;
    last = last_at;
    start = start_at;
    end = ap (start_of new) (sym (lift_high bucket bucket (omega arith))) ∙ start_is bucket inside ∙ gap.start;
  };
  size = o.homes.size;
  housed = λ spans housed. record {
    homed = λ k below. let h = s.home k (here k below) in
        housed.homed k (here k below) ∙ sym (ap (λ i. Some (bucket_span new i)) (home_is k (here k below))
        ∙ ap₂ (λ (x y : ℕ). Some (x, y)) (first_is (home_of old k) (omega (arith, h))) (last_is (home_of old k)));
    bare = λ k past. housed.bare k (omega (arith, past, o.homes.size));
  };
} where
  m : ℕ
  m = length (numbers_in old.lasts)

  inside : bucket ≤ length (numbers_in old.lasts)
  inside = gap.within

  lasts : length (numbers_in new.lasts) ≡ length (numbers_in old.lasts) + 1
  lasts = let a = spliced_size (numbers_in old.lasts) (span.1 ∷ []) bucket bucket (omega arith) inside in
      let b : length (numbers_in new.lasts) ≡ length (insert (numbers_in old.lasts) bucket span.1) = ap length o.lasts in omega (arith, a, b)

  -- last addresses
  last_is : (i : ℕ) → last_of new (lift bucket i) ≡ last_of old i
  last_is i = elim (lifted bucket i) [
    | inl l ↦ ap₂ (λ xs k. get_or xs k 0) o.lasts l.1 ∙ at_front (numbers_in old.lasts) (span.1 ∷ []) bucket bucket i 0 inside l.0
    | inr l ↦ ap₂ (λ xs k. get_or xs k 0) o.lasts l.1 ∙ at_back (numbers_in old.lasts) (span.1 ∷ []) bucket bucket (i + 1) i 0 inside l.0 (omega arith)
  ]

  last_at : last_of new bucket ≡ span.1
  last_at = ap (λ xs. get_or xs bucket 0) o.lasts ∙ at_middle (numbers_in old.lasts) (span.1 ∷ []) bucket bucket bucket 0 0 inside (omega arith) (omega arith)

  -- nodes
  node_is : (i : ℕ) → i ≤ length (numbers_in old.lasts) → node_at (nodes_in new.nodes) (lift bucket i) ≡ beside bucket low i (node_at (nodes_in old.nodes) i)
  node_is i below = elim (lifted bucket i) [
    | inl l ↦ ap (node_at (nodes_in new.nodes)) l.1 ∙ o.nodes.front i none l.0
    | inr l ↦ ap (node_at (nodes_in new.nodes)) l.1 ∙ o.nodes.back i none l.0 (omega (arith, below, s.size))
  ]

  first_is : (i : ℕ) → i ≤ length (numbers_in old.lasts) → first_of new (lift bucket i) ≡ first_of old i
  first_is i below = ap (λ (x : Node ℕ). x.first) (node_is i below)

  first_at : first_of new bucket ≡ span.0
  first_at = ap (λ (x : Node ℕ). x.first) (o.nodes.at none)

  start_is : (i : ℕ) → i ≤ length (numbers_in old.lasts) → start_of new (lift bucket i) ≡ start_of old i
  start_is i below = ap (λ (x : Node ℕ). x.start) (node_is i below)

  start_at : start_of new bucket ≡ from
  start_at = ap (λ (x : Node ℕ). x.start) (o.nodes.at none)

  begin : start_of old bucket ≡ from
  begin = gap.start

  -- the parent of an old one is as it was, goes on by one, or is the new one
  Parent : ℕ → Type 0
  Parent i = ((parent_of old i < bucket) × (parent_of new (lift bucket i) ≡ parent_of old i))
      ⊎ (((bucket ≤ parent_of old i) × ((i < low) ⊎ (bucket ≤ i)) × (parent_of new (lift bucket i) ≡ parent_of old i + 1))
      ⊎ ((bucket ≤ parent_of old i) × (i < bucket) × (parent_of new (lift bucket i) ≡ bucket)))

  parent_is : (i : ℕ) → i < length (numbers_in old.lasts) → Parent i
  parent_is i below = at (cases_lt (parent_of old i) bucket) (cases_lt i low) (cases_lt i bucket) where
    is : parent_of new (lift bucket i) ≡ parent_beside bucket low i (parent_of old i)
    is = ap (λ (x : Node ℕ). x.parent) (node_is i (omega (arith, below)))

    fits : parent_of old i + 1 < 2 ^ 32
    fits = omega (arith, s.within i below, gap.few)

    by : (near far : Bool) → nat_lt (parent_of old i) bucket ≡ near → (nat_lt i low || nat_le bucket i) ≡ far
        → parent_of new (lift bucket i) ≡ (if near then parent_of old i else (if far then parent_of old i + 1 else bucket))
    by near far e f = is ∙ (λ j. if e j then parent_of old i else (if f j then mod-eq_of_lt fits j else bucket))

    at : (parent_of old i < bucket) ⊎ (bucket ≤ parent_of old i) → (i < low) ⊎ (low ≤ i) → (i < bucket) ⊎ (bucket ≤ i) → Parent i
    at (inl near) c d = inl (near, by true _ (lt-ltb (parent_of old i) bucket near) refl)
    at (inr over) (inl before) d =
        inr (inl (over, inl before, by false true (le-ltb (parent_of old i) bucket over) (ap (λ b. b || nat_le bucket i) (lt-ltb i low before))))
    at (inr over) (inr within) (inl front) =
        inr (inr (over, front, by false false (le-ltb (parent_of old i) bucket over) (λ j. le-ltb i low within j || lt-leb bucket i front j)))
    at (inr over) (inr within) (inr past) =
        inr (inl (over, inr past, by false true (le-ltb (parent_of old i) bucket over) (λ j. le-ltb i low within j || le-leb bucket i past j)))

  parent_at : parent_of new bucket ≡ parent + 1
  parent_at = ap (λ (x : Node ℕ). x.parent) (o.nodes.at none)

  ups : (i : ℕ) → i < length (numbers_in old.lasts) + 1 → (i < parent_of new i) × (parent_of new i ≤ length (numbers_in old.lasts) + 1)
  ups = one bucket m (λ i. (i < parent_of new i) × (parent_of new i ≤ length (numbers_in old.lasts) + 1)) inside
      (λ i below. up i below (parent_is i below) (s.after i below) (s.within i below))
      (omega (arith, parent_at, o.over.0), omega (arith, parent_at, o.over.1)) where
        up : (i : ℕ) → i < length (numbers_in old.lasts) → Parent i → i < parent_of old i → parent_of old i ≤ length (numbers_in old.lasts)
            → (lift bucket i < parent_of new (lift bucket i)) × (parent_of new (lift bucket i) ≤ length (numbers_in old.lasts) + 1)
        up i below (inl p) a b = (omega (arith, p.0, p.1, a, lift_low bucket i (omega (arith, p.0, a))), omega (arith, p.1, b))
        up i below (inr (inl p)) a b = (omega (arith, p.2, a, lift_most bucket i), omega (arith, p.2, b))
        up i below (inr (inr p)) a b = (omega (arith, p.1, p.2, lift_low bucket i p.1), omega (arith, p.2, inside))

  -- what is passed and what is left
  last_passed : (i : ℕ) → i < bucket → last_of old i ≤ span.1
  last_passed i below = at (gap.before i below) where
    at : IsPassed (bucket_span old i) span false → last_of old i ≤ span.1
    at (inl less) = let l : last_of old i < span.1 = less in omega (arith, l)
    at (inr tied) = let e : last_of old i ≡ span.1 = tied.0 in omega (arith, e)

  last_left : (i : ℕ) → bucket ≤ i → i < length (numbers_in old.lasts) → span.1 ≤ last_of old i
  last_left i above below = at (gap.behind i above below) where
    at : IsLeft (bucket_span old i) span false → span.1 ≤ last_of old i
    at (inl less) = let l : span.1 < last_of old i = less in omega (arith, l)
    at (inr tied) = let e : span.1 ≡ last_of old i = tied.0 in omega (arith, e)

  first_passed : (i : ℕ) → i < bucket → span.0 ≤ last_of old i → span.0 ≤ first_of old i
  first_passed i below meets = at (gap.before i below) where
    at : IsPassed (bucket_span old i) span false → span.0 ≤ first_of old i
    at (inl less) = subnets_nest (first_of old i) (last_of old i) span.0 span.1 (s.subnets i (omega (arith, below, inside))) own less meets
    at (inr tied) = let l : span.0 < first_of old i + 0 = tied.1 in omega (arith, l)

  first_left : (i : ℕ) → bucket ≤ i → i < length (numbers_in old.lasts) → first_of old i ≤ span.1 → first_of old i ≤ span.0
  first_left i above below meets = at (gap.behind i above below) where
    at : IsLeft (bucket_span old i) span false → first_of old i ≤ span.0
    at (inl less) = subnets_nest span.0 span.1 (first_of old i) (last_of old i) own (s.subnets i below) less meets
    at (inr tied) = let l : first_of old i + 0 ≤ span.0 = tied.1 in omega (arith, l)

  -- two of the old ones, and one before the new
  nests : (i j : ℕ) → i < j → j < length (numbers_in old.lasts) → first_of new (lift bucket j) ≤ last_of new (lift bucket i)
      → first_of new (lift bucket j) ≤ first_of new (lift bucket i)
  nests i j less below meets =
      let x = first_is i (omega (arith, less, below)) in
      let y = first_is j (omega (arith, below)) in
      omega (arith, x, y, s.nested i j less below (omega (arith, meets, y, last_is i)))

  leasts : (i j : ℕ) → i < j → j < length (numbers_in old.lasts) → lift bucket j < parent_of new (lift bucket i)
      → first_of new (lift bucket i) < first_of new (lift bucket j)
  leasts i j less below under =
      let early : i < length (numbers_in old.lasts) = omega (arith, less, below) in
      omega (arith, first_is i (omega (arith, early)), first_is j (omega (arith, below)), s.least i j early less (short (parent_is i early))) where
        short : Parent i → j < parent_of old i
        short (inl p) = omega (arith, p.1, under, lift_least bucket j)
        short (inr (inl p)) = in_order bucket j (parent_of old i) (omega (arith, p.2, under, lift_high bucket (parent_of old i) p.0))
        short (inr (inr p)) = omega (arith, p.0, p.2, under, lift_least bucket j)

  before : (i : ℕ) → i < bucket → bucket < parent_of new (lift bucket i) → first_of new (lift bucket i) < first_of new bucket
  before i less under =
      let early : i < length (numbers_in old.lasts) = omega (arith, less, inside) in
      omega (
        arith,
        first_is i (omega (arith, early)),
        first_at,
        subnet_proper (first_of old i) (last_of old i) (s.subnets i early),
        o.apart i (at (parent_is i early)),
      ) where
        at : Parent i → i < low
        at (inl p) = absurd (omega (arith, p.0, p.1, under))
        at (inr (inl p)) = elim p.1 [ inl early ↦ early | inr past ↦ absurd (omega (arith, less, past)) ]
        at (inr (inr p)) = absurd (omega (arith, p.2, under))

  start : (i j : ℕ) → i ≤ j → j ≤ length (numbers_in old.lasts) + 1 → (i < j) ⊎ (j ≤ i) → start_of new i ≤ start_of new j
  start i j le below (inl less) = two bucket (m + 1) (λ i j. start_of new i ≤ start_of new j) (omega (arith, inside))
      (λ i j less below. omega (
        arith,
        start_is i (omega (arith, less, below)),
        start_is j (omega (arith, below)),
        s.starts i j (omega (arith, less)) (omega (arith, below)),
      ))
      (λ i less. omega (arith, start_is i (omega (arith, less, inside)), start_at, begin, s.starts i bucket (omega (arith, less)) inside))
      (λ j past below. omega (arith, start_is j (omega (arith, below)), start_at, begin, s.starts bucket j past (omega (arith, below)))) i j less
      (omega (arith, below))
  start i j le below (inr past) = let same : i ≡ j = omega (arith, le, past) in subst (λ k. start_of new i ≤ start_of new k) same (omega arith)

  -- homes
  here : (k : ℕ) → k < length new.homes.items → k < length old.homes.items
  here k below = omega (arith, below, o.homes.size)

  home_is : (k : ℕ) → k < length old.homes.items → home_of new k ≡ lift bucket (home_of old k)
  home_is k below = elim (cases_lt k from) [
    | inl early ↦ o.homes.front k 0 early ∙ sym (lift_low bucket (home_of old k) (home_under old n bucket k s inside (omega (arith, early, begin))))
    | inr late ↦ o.homes.done k 0 late below ∙ sym (lift_high bucket (home_of old k) (home_over old n bucket k s inside below (omega (arith, late, begin))))
  ]

  end : (k : ℕ) → k < length old.homes.items → (home_of old k + 1 ≡ bucket) ⊎ ((home_of old k + 1 < bucket) ⊎ (bucket < home_of old k + 1))
      → k < start_of new (home_of new k + 1)
  end k below place = at place where
    next : home_of new k + 1 ≡ lift bucket (home_of old k + 1) → k < start_of new (home_of new k + 1)
    next is = let h = s.home k below in
        let e : start_of new (home_of new k + 1) ≡ start_of old (home_of old k + 1) = ap (start_of new) is ∙ start_is (home_of old k + 1) (omega (arith, h)) in
        omega (arith, e, s.ends k below)

    at : (home_of old k + 1 ≡ bucket) ⊎ ((home_of old k + 1 < bucket) ⊎ (bucket < home_of old k + 1)) → k < start_of new (home_of new k + 1)
    at (inl last) =
        let e : start_of new (home_of new k + 1) ≡ start_of new bucket =
        ap (start_of new) (omega (arith, home_is k below, lift_low bucket (home_of old k) (omega (arith, last)), last)) in
        let a : start_of old (home_of old k + 1) ≡ start_of old bucket = ap (start_of old) last in
        omega (arith, e, a, start_at, begin, s.ends k below)
    at (inr (inl less)) = next (omega (arith, home_is k below, lift_low bucket (home_of old k) (omega (arith, less)), lift_low bucket (home_of old k + 1) less))
    at (inr (inr more)) = next (omega (
      arith,
      home_is k below,
      lift_high bucket (home_of old k) (omega (arith, more)),
      lift_high bucket (home_of old k + 1) (omega (arith, more)),
    ))
