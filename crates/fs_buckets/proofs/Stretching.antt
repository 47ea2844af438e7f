-- How destinations stand to one another, and that rules in order stay nested with a stretch put anew.
use Rattle.fs_buckets.proofs.Words.{◌≡◌, ℕ, zero, suc, ◌+◌, ◌-◌, ◌<◌, ◌≤◌, ◌⊎◌, inl, inr, refl, sym, ap, ap₂, subst, ◌∙◌, Bool, true, false}
use Rattle.fs_buckets.proofs.Words.{if◌then◌else◌, Option, Some, None, List, [], ◌∷◌, length, get_or, Less, Equal, Greater, nat_cmp, arith}
use Rattle.fs_buckets.proofs.Words.{AllByRecursion, splice, nat_cmp_is, ordering_then, cases_lt, cases_order, get_or_past, length-map, none-some}
use Rattle.fs_buckets.proofs.Words.{Family, Listed, Buckets, Node, numbers_in, nodes_in, node_at, AreHoused, span_at, IsLeft, IsPassed, Mends, Passes}
use Rattle.fs_buckets.proofs.Words.{bucket_span, AreSound, IsOfFamily, span_of, spans_of, AreTo, IsStretch, place_by, span_cmp, AreNesting}
use Rattle.fs_buckets.proofs.Homes.{home_before, home_from}
use Rattle.fs_buckets.proofs.Nesting.{Fits, Follows, follows_none, nesting_from, span_proper, spans_fit}
use Rattle.fs_buckets.proofs.Subnets.{subnet_proper}
use Rattle.fs_buckets.proofs.Splicing.{Part, at_back, at_front, at_middle, map_spliced, part_at}

-- one destination stands before another
abbrev pub Before : ℕ × ℕ → ℕ × ℕ → Type 0
Before p q = (p.1 < q.1) ⊎ ((p.1 ≡ q.1) × (q.0 < p.0))

pub of_before : (p q : ℕ × ℕ) → Before p q → span_cmp p q ≡ Less
of_before p q (inl less) = ap (λ o. ordering_then o (nat_cmp q.0 p.0)) (sym (nat_cmp_is p.1 q.1 Less less))
of_before p q (inr tied) = ap₂ ordering_then (sym (nat_cmp_is p.1 q.1 Equal tied.0)) (sym (nat_cmp_is q.0 p.0 Less tied.1))

pub of_behind : (p q : ℕ × ℕ) → Before q p → span_cmp p q ≡ Greater
of_behind p q (inl less) = ap (λ o. ordering_then o (nat_cmp q.0 p.0)) (sym (nat_cmp_is p.1 q.1 Greater less))
of_behind p q (inr tied) = ap₂ ordering_then (sym (nat_cmp_is p.1 q.1 Equal (sym tied.0))) (sym (nat_cmp_is q.0 p.0 Greater tied.1))

pub of_same : (p q : ℕ × ℕ) → p.1 ≡ q.1 → p.0 ≡ q.0 → span_cmp p q ≡ Equal
of_same p q last first = ap₂ ordering_then (sym (nat_cmp_is p.1 q.1 Equal last)) (sym (nat_cmp_is q.0 p.0 Equal (sym first)))

-- which of the three it is
pub three : (p q : ℕ × ℕ) → Before p q ⊎ (((p.1 ≡ q.1) × (p.0 ≡ q.0)) ⊎ Before q p)
three p q = at (cases_order p.1 q.1) (cases_order p.0 q.0) where
  at : (p.1 ≡ q.1) ⊎ ((p.1 < q.1) ⊎ (q.1 < p.1)) → (p.0 ≡ q.0) ⊎ ((p.0 < q.0) ⊎ (q.0 < p.0)) → Before p q ⊎ (((p.1 ≡ q.1) × (p.0 ≡ q.0)) ⊎ Before q p)
  at (inr (inl less)) f = inl (inl less)
  at (inr (inr more)) f = inr (inr (inl more))
  at (inl last) (inl first) = inr (inl (last, first))
  at (inl last) (inr (inl less)) = inr (inr (inr (sym last, less)))
  at (inl last) (inr (inr more)) = inl (inr (last, more))

pub less_equal : Less ≡ Equal → ⊥
less_equal e = absurd cc

pub less_greater : Less ≡ Greater → ⊥
less_greater e = absurd cc

pub equal_greater : Equal ≡ Greater → ⊥
equal_greater e = absurd cc

pub before_of : (p q : ℕ × ℕ) → span_cmp p q ≡ Less → Before p q
before_of p q e = at (three p q) where
  at : Before p q ⊎ (((p.1 ≡ q.1) × (p.0 ≡ q.0)) ⊎ Before q p) → Before p q
  at (inl b) = b
  at (inr (inl s)) = absurd (less_equal (sym e ∙ of_same p q s.0 s.1))
  at (inr (inr b)) = absurd (less_greater (sym e ∙ of_behind p q b))

pub same_of : (p q : ℕ × ℕ) → span_cmp p q ≡ Equal → (p.1 ≡ q.1) × (p.0 ≡ q.0)
same_of p q e = at (three p q) where
  at : Before p q ⊎ (((p.1 ≡ q.1) × (p.0 ≡ q.0)) ⊎ Before q p) → (p.1 ≡ q.1) × (p.0 ≡ q.0)
  at (inl b) = absurd (less_equal (sym (of_before p q b) ∙ e))
  at (inr (inl s)) = s
  at (inr (inr b)) = absurd (equal_greater (sym e ∙ of_behind p q b))

pub behind_of : (p q : ℕ × ℕ) → span_cmp p q ≡ Greater → Before q p
behind_of p q e = at (three p q) where
  at : Before p q ⊎ (((p.1 ≡ q.1) × (p.0 ≡ q.0)) ⊎ Before q p) → Before q p
  at (inl b) = absurd (less_greater (sym (of_before p q b) ∙ e))
  at (inr (inl s)) = absurd (equal_greater (sym (of_same p q s.0 s.1) ∙ e))
  at (inr (inr b)) = b

follows_same : (s : Option (ℕ × ℕ)) → Follows s s
follows_same None = tt
follows_same (Some p) = (omega arith, λ meets. omega arith)

pub follows_at : (xs : List (Option (ℕ × ℕ))) (i j : ℕ) → AreNesting xs → i < j → Follows (get_or xs i None) (get_or xs j None)
follows_at xs i j h less = at (get_or xs i None) (get_or xs j None) refl refl where
  at : (s t : Option (ℕ × ℕ)) → get_or xs i None ≡ s → get_or xs j None ≡ t → Follows s t
  at None None e f = tt
  at None (Some q) e f = absurd (none-some q (sym (h.bare i j (omega (arith, less)) e) ∙ f))
  at (Some p) None e f = tt
  at (Some p) (Some q) e f = (h.rising i j p q less e f, h.nested i j p q less e f)

-- The rules of an index nest, since its buckets do.
pub nesting_housed : (xs : List (Option (ℕ × ℕ))) (b : Buckets) (count : ℕ) → AreSound b count → AreHoused xs b → AreNesting xs
nesting_housed xs b count sound housed = nesting_from xs (λ i j less. at i j less (cases_lt j (length b.homes.items))) where
  home : ℕ → ℕ
  home k = get_or b.homes.items k 0

  later : (i j : ℕ) → i < j → j < length b.homes.items → (home j < home i) → ⊥
  later i j less below more =
      let a : (node_at (nodes_in b.nodes) (home i)).start ≤ i = sound.begins i (omega (arith, less, below)) in
      let c : j < (node_at (nodes_in b.nodes) (home j + 1)).start = sound.ends j below in
      let last : home i < length (numbers_in b.lasts) = sound.home i (omega (arith, less, below)) in
      let d : (node_at (nodes_in b.nodes) (home j + 1)).start ≤ (node_at (nodes_in b.nodes) (home i)).start =
      sound.starts (home j + 1) (home i) (omega (arith, more)) (omega (arith, last)) in
      omega (arith, less, a, c, d)

  fits : (i j : ℕ) → i < j → j < length b.homes.items → (home i ≡ home j) ⊎ ((home i < home j) ⊎ (home j < home i)) → Fits (span_at b i) (span_at b j)
  fits i j less below (inl same) =
      subst (λ h. Fits (span_at b i) ((node_at (nodes_in b.nodes) h).first, get_or (numbers_in b.lasts) h 0)) same (omega arith, λ meets. omega arith)
  fits i j less below (inr (inl earlier)) =
      (sound.rising (home i) (home j) earlier (sound.home j below), λ meets. sound.nested (home i) (home j) earlier (sound.home j below) meets)
  fits i j less below (inr (inr more)) = absurd (later i j less below more)

  at : (i j : ℕ) → i < j → (j < length b.homes.items) ⊎ (length b.homes.items ≤ j) → Follows (get_or xs i None) (get_or xs j None)
  at i j less (inr past) = subst (Follows (get_or xs i None)) (sym (housed.bare j past)) (follows_none (get_or xs i None))
  at i j less (inl below) =
      subst (λ s. Follows s (get_or xs j None)) (sym (housed.homed i (omega (arith, less, below))))
      (subst (Follows (Some (span_at b i))) (sym (housed.homed j below)) (fits i j less below (cases_order (home i) (home j))))

nesting_parts : (xs news : List (Option (ℕ × ℕ))) (target : Option (ℕ × ℕ)) (from to : ℕ) → AreNesting xs → from ≤ to
    → ((k : ℕ) → Part xs (splice xs from to news) target None from to (length news) k)
    → ((k : ℕ) → k < from → 0 < length news → Follows (get_or xs k None) target)
    → ((k : ℕ) → to ≤ k → 0 < length news → Follows target (get_or xs k None)) → AreNesting (splice xs from to news)
nesting_parts xs news target from to h le part front back = nesting_from (splice xs from to news) (λ i j less. at i j less (part i) (part j)) where
  place : ℕ → ℕ
  place k = to + (k - (from + length news))

  both : (i j : ℕ) (s t : Option (ℕ × ℕ)) → get_or (splice xs from to news) i None ≡ s → get_or (splice xs from to news) j None ≡ t → Follows s t
      → Follows (get_or (splice xs from to news) i None) (get_or (splice xs from to news) j None)
  both i j s t e f k = subst (λ x. Follows x (get_or (splice xs from to news) j None)) (sym e) (subst (Follows s) (sym f) k)

  at : (i j : ℕ) → i < j → Part xs (splice xs from to news) target None from to (length news) i
      → Part xs (splice xs from to news) target None from to (length news) j
      → Follows (get_or (splice xs from to news) i None) (get_or (splice xs from to news) j None)
  at i j less (inl a) (inl b) = both i j _ _ a.1 b.1 (follows_at xs i j h less)
  at i j less (inl a) (inr (inl b)) = both i j _ _ a.1 b.2 (front i a.0 (omega (arith, b.0, b.1)))
  at i j less (inl a) (inr (inr b)) = both i j _ _ a.1 b.1 (follows_at xs i (place j) h (omega (arith, a.0, le)))
  at i j less (inr (inl a)) (inl b) = absurd (omega (arith, less, a.0, b.0))
  at i j less (inr (inl a)) (inr (inl b)) = both i j _ _ a.2 b.2 (follows_same target)
  at i j less (inr (inl a)) (inr (inr b)) = both i j _ _ a.2 b.1 (back (place j) (omega arith) (omega (arith, a.0, a.1)))
  at i j less (inr (inr a)) (inl b) = absurd (omega (arith, less, a.0, b.0))
  at i j less (inr (inr a)) (inr (inl b)) = absurd (omega (arith, less, a.0, b.1))
  at i j less (inr (inr a)) (inr (inr b)) = both i j _ _ a.1 b.1 (follows_at xs (place i) (place j) h (omega (arith, less, a.0, b.0)))

-- the rule of a number
record RuleAt (family : Family) (rules : List Listed) (k : ℕ) : Type 0 where
  pub r : Listed
  pub own : IsOfFamily family r
  pub span : get_or (spans_of rules) k None ≡ span_of r.rule

rule_at : (family : Family) (rules : List Listed) (k : ℕ) → AllByRecursion (IsOfFamily family) rules → k < length rules → RuleAt family rules k
rule_at family [] k each below = absurd (omega (arith, below))
rule_at family (r ∷ rs) zero each below = record { r = r; own = each.0; span = refl }
rule_at family (r ∷ rs) (suc k) each below = let a : RuleAt family rs k = rule_at family rs k each.1 (omega (arith, below)) in
    record { r = a.r; own = a.own; span = a.span }

pub proper_at : (family : Family) (rules : List Listed) (k : ℕ) (p : ℕ × ℕ) → AllByRecursion (IsOfFamily family) rules
    → get_or (spans_of rules) k None ≡ Some p → p.0 ≤ p.1
proper_at family [] k p each e = absurd (none-some p e)
proper_at family (r ∷ rs) zero p each e = span_proper r.rule p each.0.rule e
proper_at family (r ∷ rs) (suc k) p each e = proper_at family rs k p each.1 e

-- two rules in the order of their destinations
rules_follow : (family : Family) (a b : Listed) (s t : Option (ℕ × ℕ)) → IsOfFamily family a → IsOfFamily family b → span_of a.rule ≡ s → span_of b.rule ≡ t
    → (place_by t s ≡ Less) ⊎ (place_by s t ≡ Greater) → Follows s t
rules_follow family a b s None own other e f order = follows_none s
rules_follow family a b None (Some q) own other e f (inl order) = absurd (less_greater (sym order))
rules_follow family a b None (Some q) own other e f (inr order) = absurd (less_greater order)
rules_follow family a b (Some p) (Some q) own other e f order = at (before order) where
  before : (span_cmp p q ≡ Less) ⊎ (span_cmp q p ≡ Greater) → Before p q
  before (inl o) = before_of p q o
  before (inr o) = behind_of q p o

  at : Before p q → Fits p q
  at (inl less) = spans_fit a.rule b.rule p q own.rule other.rule (own.same
      ∙ sym other.same) e f (omega (arith, less)) (λ same. absurd (omega (arith, less, same)))
  at (inr tied) = spans_fit a.rule b.rule p q own.rule other.rule (own.same ∙ sym other.same) e f (let same = tied.0 in
      omega (arith, same)) (λ same. let less = tied.1 in omega (arith, less))

-- The rules with a stretch put anew nest.
pub nesting_spliced : (family : Family) (rules news : List Listed) (target : Option (ℕ × ℕ)) (from to : ℕ) → AllByRecursion (IsOfFamily family) rules
    → AllByRecursion (IsOfFamily family) news
    → AreNesting (spans_of rules) → IsStretch (spans_of rules) target from to
    → ((i : ℕ) → i < length (spans_of news) → get_or (spans_of news) i None ≡ target) → AreNesting (spans_of (splice rules from to news))
nesting_spliced family rules news target from to each own h s news_are =
    subst AreNesting (sym (map_spliced (λ r. span_of r.rule) rules news from to))
    (nesting_parts (spans_of rules) (spans_of news) target from to h s.ordered
    (λ k. part_at (spans_of rules) (spans_of news) _ target None from to _ k (omega (arith, s.ordered, s.within)) refl refl news_are) front
    back) where
      size : length (spans_of rules) ≡ length rules
      size = length-map rules (λ r. span_of r.rule)

      fresh : 0 < length (spans_of news) → RuleAt family news 0
      fresh some = rule_at family news 0 own (subst (λ n. 0 < n) (length-map news (λ r. span_of r.rule)) some)

      front : (k : ℕ) → k < from → 0 < length (spans_of news) → Follows (get_or (spans_of rules) k None) target
      front k below some =
          let old : RuleAt family rules k = rule_at family rules k each (omega (arith, below, s.ordered, s.within, size)) in
          let new : RuleAt family news 0 = fresh some in
          rules_follow family old.r new.r (get_or (spans_of rules) k None) target old.own new.own (sym old.span) (sym new.span
          ∙ news_are 0 some) (inl (s.before k below))

      back : (k : ℕ) → to ≤ k → 0 < length (spans_of news) → Follows target (get_or (spans_of rules) k None)
      back k above some = at (cases_lt k (length (spans_of rules))) where
        at : (k < length (spans_of rules)) ⊎ (length (spans_of rules) ≤ k) → Follows target (get_or (spans_of rules) k None)
        at (inr past) = subst (Follows target) (sym (get_or_past (spans_of rules) k None past)) (follows_none target)
        at (inl below) =
            let old : RuleAt family rules k = rule_at family rules k each (omega (arith, below, size)) in
            let new : RuleAt family news 0 = fresh some in
            rules_follow family new.r old.r target (get_or (spans_of rules) k None) new.own old.own (sym new.span
            ∙ news_are 0 some) (sym old.span) (inr (s.behind k above below))

-- Where each rule has the destination that stood there its buckets stay.
pub housed_same : (xs ys : List (Option (ℕ × ℕ))) (b : Buckets) → ((k : ℕ) → get_or ys k None ≡ get_or xs k None) → AreHoused xs b → AreHoused ys b
housed_same xs ys b same h = record { homed = λ k below. same k ∙ h.homed k below; bare = λ k above. same k ∙ h.bare k above }

-- the runs of the new rules, by the old buckets
pub mends_spliced : (xs news : List (Option (ℕ × ℕ))) (b : Buckets) (from to : ℕ) → AreHoused xs b → from ≤ to → to ≤ length b.homes.items
    → length b.homes.items ≤ length xs → Mends b from to news (splice xs from to news)
mends_spliced xs news b from to h le within whole = record {
  front = λ k above below.
      let same : 0 + (k - 0) ≡ k = omega arith in
      ap (λ i. get_or (splice xs from to news) i None) same ∙ at_front xs news from to k None inside below ∙ h.homed k (omega (arith, below, le, within));
  middle = λ k below. at_middle xs news from to (from + k) k None inside refl below;
  back = λ k above below. at_back xs news from to (from + length news + (k - to)) k None inside above (omega (arith, above)) ∙ h.homed k below;
} where
  inside : from ≤ length xs
  inside = omega (arith, le, within, whole)

pub rest_bare : (xs news : List (Option (ℕ × ℕ))) (b : Buckets) (from to n : ℕ) → AreHoused xs b → from ≤ to → to ≤ length b.homes.items
    → length b.homes.items ≤ length xs
    → n + to ≡ from + length news + length b.homes.items → get_or (splice xs from to news) n None ≡ None
rest_bare xs news b from to n h le within whole is =
    at_back xs news from to n (length b.homes.items) None (omega (arith, le, within, whole)) within is ∙ h.bare (length b.homes.items) (omega arith)

-- Where the buckets before a number are passed, so are the rules before it, and the others aren't.
abbrev pub start_of : Buckets → ℕ → ℕ
start_of b i = (node_at (nodes_in b.nodes) i).start

abbrev pub home_of : Buckets → ℕ → ℕ
home_of b k = get_or b.homes.items k 0

start_within : (b : Buckets) (count i : ℕ) → AreSound b count → i ≤ length (numbers_in b.lasts) → start_of b i ≤ length b.homes.items
start_within b count i sound within = let a : start_of b i ≤ start_of b (length (numbers_in b.lasts)) =
    sound.starts i (length (numbers_in b.lasts)) within (omega arith) in let t : start_of b (length (numbers_in b.lasts)) ≡ length b.homes.items =
    sound.tail in omega (arith, a, t)

abbrev pub first_of : Buckets → ℕ → ℕ
first_of b i = (node_at (nodes_in b.nodes) i).first

abbrev pub last_of : Buckets → ℕ → ℕ
last_of b i = get_or (numbers_in b.lasts) i 0

abbrev pub none : Node ℕ
none = record { first = 0; start = 0; parent = 0 }

pub home_under : (b : Buckets) (count i k : ℕ) → AreSound b count → i ≤ length (numbers_in b.lasts) → k < start_of b i → home_of b k < i
home_under b count i k sound within less = (home_before (numbers_in b.lasts) (nodes_in b.nodes) b.homes.items count i k sound within less).1

pub home_over : (b : Buckets) (count i k : ℕ) → AreSound b count → i ≤ length (numbers_in b.lasts) → k < length b.homes.items → start_of b i ≤ k
    → i ≤ home_of b k
home_over b count i k sound within below le = home_from (numbers_in b.lasts) (nodes_in b.nodes) b.homes.items count i k sound within below le

-- what is passed and what is left
passed_before : (p q : ℕ × ℕ) → IsPassed p q false → Before p q
passed_before p q (inl less) = inl less
passed_before p q (inr tied) = inr (tied.0, let less : q.0 < p.0 + 0 = tied.1 in omega (arith, less))

left_behind : (p q : ℕ × ℕ) → IsLeft p q true → Before q p
left_behind p q (inl less) = inl less
left_behind p q (inr tied) = inr (tied.0, let le : p.0 + 1 ≤ q.0 = tied.1 in omega (arith, le))

between : (p q : ℕ × ℕ) → IsLeft p q false → IsPassed p q true → span_cmp p q ≡ Equal
between p q (inl less) (inl more) = absurd (omega (arith, less, more))
between p q (inl less) (inr tied) = let same : p.1 ≡ q.1 = tied.0 in absurd (omega (arith, less, same))
between p q (inr tied) (inl more) = let same : q.1 ≡ p.1 = tied.0 in absurd (omega (arith, more, same))
between p q (inr tied) (inr other) = of_same p q other.0 (let le : p.0 + 0 ≤ q.0 = tied.1 in let less : q.0 < p.0 + 1 = other.1 in omega (arith, le, less))

never_both : (p q : ℕ × ℕ) → IsPassed p q false → IsLeft p q true → ⊥
never_both p q passed left = at (passed_before p q passed) (left_behind p q left) where
  at : Before p q → Before q p → ⊥
  at (inl less) (inl more) = omega (arith, less, more)
  at (inl less) (inr tied) = let same : q.1 ≡ p.1 = tied.0 in omega (arith, less, same)
  at (inr tied) (inl more) = let same : p.1 ≡ q.1 = tied.0 in omega (arith, more, same)
  at (inr tied) (inr other) = let a : q.0 < p.0 = tied.1 in let b : p.0 < q.0 = other.1 in omega (arith, a, b)

pub stretch_at : (b : Buckets) (count k n m : ℕ) (q : ℕ × ℕ) → AreSound b count → Passes b q false n → Passes b q true m
    → (node_at (nodes_in b.nodes) n).start ≤ k → k < (node_at (nodes_in b.nodes) m).start → span_cmp (span_at b k) q ≡ Equal
stretch_at b count k n m q sound h g le less =
    between (span_at b k) q (h.behind (home_of b k) (home_over b count n k sound h.within below le) (sound.home k below))
    (g.before (home_of b k) (home_under b count m k sound g.within less)) where
      below : k < length b.homes.items
      below = let a : start_of b m ≤ length b.homes.items = start_within b count m sound g.within in omega (arith, less, a)

pub stretch_ordered : (b : Buckets) (count n m : ℕ) (q : ℕ × ℕ) → AreSound b count → Passes b q false n → Passes b q true m
    → (node_at (nodes_in b.nodes) n).start ≤ (node_at (nodes_in b.nodes) m).start
stretch_ordered b count n m q sound h g = at (cases_lt (start_of b m) (start_of b n)) where
  at : (start_of b m < start_of b n) ⊎ (start_of b n ≤ start_of b m) → start_of b n ≤ start_of b m
  at (inr le) = le
  at (inl less) =
      let a : start_of b n ≤ length b.homes.items = start_within b count n sound h.within in
      let below : start_of b m < length b.homes.items = omega (arith, less, a) in
      absurd (never_both (span_at b (start_of b m)) q (h.before (home_of b (start_of b m)) (home_under b count n (start_of b m) sound h.within less))
      (g.behind (home_of b (start_of b m)) (home_over b count m (start_of b m) sound g.within below (omega arith)) (sound.home (start_of b m) below)))

pub stretch_before : (b : Buckets) (count k n : ℕ) (q : ℕ × ℕ) → AreSound b count → Passes b q false n → k < start_of b n → span_cmp (span_at b k) q ≡ Less
stretch_before b count k n q sound h less =
    of_before (span_at b k) q (passed_before (span_at b k) q (h.before (home_of b k) (home_under b count n k sound h.within less)))

pub stretch_behind : (b : Buckets) (count k m : ℕ) (q : ℕ × ℕ) → AreSound b count → Passes b q true m → k < length b.homes.items → start_of b m ≤ k
    → span_cmp (span_at b k) q ≡ Greater
stretch_behind b count k m q sound g below le =
    of_behind (span_at b k) q (left_behind (span_at b k) q
    (g.behind (home_of b k) (home_over b count m k sound g.within below le) (sound.home k below)))

-- what is left stays so
pub left_on : (b : Buckets) (count i j : ℕ) (q : ℕ × ℕ) (same : Bool) → AreSound b count → j < length (numbers_in b.lasts) → i ≤ j
    → IsLeft (bucket_span b i) q same → IsLeft (bucket_span b j) q same
left_on b count i j q same sound within le left = at (cases_lt i j) where
  at : (i < j) ⊎ (j ≤ i) → IsLeft (bucket_span b j) q same
  at (inr past) = let is : i ≡ j = omega (arith, le, past) in subst (λ n. IsLeft (bucket_span b n) q same) is left
  at (inl less) = by left where
    rises : get_or (numbers_in b.lasts) i 0 ≤ get_or (numbers_in b.lasts) j 0
    rises = sound.rising i j less within

    by : IsLeft (bucket_span b i) q same → IsLeft (bucket_span b j) q same
    by (inl more) = let a : q.1 < get_or (numbers_in b.lasts) i 0 = more in inl (omega (arith, a, rises))
    by (inr tied) = ends (cases_lt (get_or (numbers_in b.lasts) i 0) (get_or (numbers_in b.lasts) j 0)) where
      last : q.1 ≡ get_or (numbers_in b.lasts) i 0
      last = tied.0

      ends : (get_or (numbers_in b.lasts) i 0 < get_or (numbers_in b.lasts) j 0) ⊎ (get_or (numbers_in b.lasts) j 0 ≤ get_or (numbers_in b.lasts) i 0)
          → IsLeft (bucket_span b j) q same
      ends (inl later) = inl (omega (arith, last, later))
      ends (inr past) =
          let own = subnet_proper (node_at (nodes_in b.nodes) j).first (get_or (numbers_in b.lasts) j 0) (sound.subnets j within) in
          let inner : (node_at (nodes_in b.nodes) j).first ≤ (node_at (nodes_in b.nodes) i).first = sound.nested i j less within (omega (arith, own, past)) in
          let out : (node_at (nodes_in b.nodes) i).first + (if same then 1 else 0) ≤ q.0 = tied.1 in
          inr (omega (arith, last, past, rises), omega (arith, inner, out))

-- A stretch of the buckets is one of the rules.
pub stretch_some : (xs : List (Option (ℕ × ℕ))) (b : Buckets) (q : ℕ × ℕ) (from to : ℕ) → AreHoused xs b → length b.homes.items ≤ length xs
    → from ≤ to → to ≤ length b.homes.items
    → ((k : ℕ) → k < from → span_cmp (span_at b k) q ≡ Less) → ((k : ℕ) → from ≤ k → k < to → span_cmp (span_at b k) q ≡ Equal)
    → ((k : ℕ) → to ≤ k → k < length b.homes.items → span_cmp (span_at b k) q ≡ Greater) → IsStretch xs (Some q) from to
stretch_some xs b q from to h whole le within before at behind = record {
  ordered = le;
  within = omega (arith, within, whole);
  before = λ k below. ap (place_by (Some q)) (h.homed k (omega (arith, below, le, within))) ∙ before k below;
  at = λ k above below. ap (place_by (Some q)) (h.homed k (omega (arith, below, within))) ∙ at k above below;
  behind = λ k above below. by k above (cases_lt k (length b.homes.items));
} where
  by : (k : ℕ) → to ≤ k → (k < length b.homes.items) ⊎ (length b.homes.items ≤ k) → place_by (Some q) (get_or xs k None) ≡ Greater
  by k above (inl below) = ap (place_by (Some q)) (h.homed k below) ∙ behind k above below
  by k above (inr past) = ap (place_by (Some q)) (h.bare k past)

pub stretch_none : (xs : List (Option (ℕ × ℕ))) (b : Buckets) (count : ℕ) → AreHoused xs b → length b.homes.items ≤ count → count ≡ length xs
    → IsStretch xs None (length b.homes.items) count
stretch_none xs b count h le whole = record {
  ordered = le;
  within = omega (arith, whole);
  before = λ k below. ap (place_by None) (h.homed k below);
  at = λ k above below. ap (place_by None) (h.bare k above);
  behind = λ k above below. absurd (omega (arith, above, below, whole));
}

-- with the destination that stood there, or none, each number keeps its destination
pub same_place : (t s : Option (ℕ × ℕ)) → place_by t s ≡ Equal → s ≡ t
same_place None None e = refl
same_place None (Some p) e = absurd (less_equal e)
same_place (Some q) None e = absurd (equal_greater (sym e))
same_place (Some q) (Some p) e = let s : (p.1 ≡ q.1) × (p.0 ≡ q.0) = same_of p q e in ap₂ (λ (x y : ℕ). Some (x, y)) s.1 s.0

pub bare_behind : (s : Option (ℕ × ℕ)) → place_by None s ≡ Greater → ⊥
bare_behind None e = equal_greater e
bare_behind (Some p) e = less_greater e

pub same_count : (xs news : List (Option (ℕ × ℕ))) (target : Option (ℕ × ℕ)) (from to : ℕ) → IsStretch xs target from to → AreTo target news
    → length news ≡ to - from
    → (k : ℕ) → get_or (splice xs from to news) k None ≡ get_or xs k None
same_count xs news target from to s each size k = at (part_at xs news _ target None from to _ k (omega (arith, s.ordered, s.within)) refl refl each) where
  at : Part xs (splice xs from to news) target None from to (length news) k → get_or (splice xs from to news) k None ≡ get_or xs k None
  at (inl a) = a.1
  at (inr (inl a)) = a.2 ∙ sym (same_place target (get_or xs k None) (s.at k a.0 (omega (arith, a.1, size, s.ordered))))
  at (inr (inr a)) = let there : to + (k - (from + length news)) ≡ k = omega (arith, a.0, size, s.ordered) in a.1 ∙ ap (λ i. get_or xs i None) there

pub none_count : (xs news : List (Option (ℕ × ℕ))) (from to : ℕ) → IsStretch xs None from to → AreTo None news → (k : ℕ)
    → get_or (splice xs from to news) k None ≡ get_or xs k None
none_count xs news from to s each k = at (part_at xs news _ None None from to _ k (omega (arith, s.ordered, s.within)) refl refl each) where
  past : (i : ℕ) → from ≤ i → get_or xs i None ≡ None
  past i above = by (cases_lt i to) (cases_lt i (length xs)) where
    by : (i < to) ⊎ (to ≤ i) → (i < length xs) ⊎ (length xs ≤ i) → get_or xs i None ≡ None
    by (inl below) inside = same_place None (get_or xs i None) (s.at i above below)
    by (inr le) (inl inside) = absurd (bare_behind (get_or xs i None) (s.behind i le inside))
    by (inr le) (inr out) = get_or_past xs i None out

  at : Part xs (splice xs from to news) None None from to (length news) k → get_or (splice xs from to news) k None ≡ get_or xs k None
  at (inl a) = a.1
  at (inr (inl a)) = a.2 ∙ sym (past k a.0)
  at (inr (inr a)) = a.1 ∙ past (to + (k - (from + length news))) (omega (arith, s.ordered)) ∙ sym (past k (omega (arith, a.0)))
