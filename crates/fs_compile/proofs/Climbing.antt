-- The search through buckets, from one to its parent: what it passes holds no rule that matches, and what it tests is near.
use Rattle.fs_compile.proofs.Words.{◌≡◌, ℕ, ◌+◌, ◌-◌, ◌<◌, ◌≤◌, ◌⊎◌, inl, inr, max, sym, ap, subst, ◌∙◌, Bool, true, false, true≢false, Option, Some}
use Rattle.fs_compile.proofs.Words.{None, MatchOption, IfSome, cond, map, List, length, get_or, count_by, arith, cases_lt, get_or-map, sum_by-take-le}
use Rattle.fs_compile.proofs.Words.{false_from, Node, AreSound, nodes_in, numbers_in, node_at, Found, Missed, Scanned, Within, marked, tested_to}
use Rattle.fs_compile.proofs.Words.{tests_of, Search, Cursor, IsAt, IsNearIn, IsWhole, count_of}
use Rattle.fs_compile.proofs.Counts.{marked_all, marked_later, marked_tested}
use Rattle.fs_buckets.proofs.Homes.{home_before, home_from}

abbrev pub node_of : Search → ℕ → Node ℕ
node_of s i = node_at (nodes_in s.buckets.now.nodes) i

abbrev pub last_of : Search → ℕ → ℕ
last_of s i = get_or (numbers_in s.buckets.now.lasts) i 0

-- the bucket of a rule
abbrev pub home_of : Search → ℕ → ℕ
home_of s k = get_or s.buckets.now.homes.items k 0

-- the nodes of a place's bucket, of the next one and of its parent
abbrev pub own_node : Search → Cursor → Node ℕ
own_node s p = node_of s p.bucket

abbrev pub next_node : Search → Cursor → Node ℕ
next_node s p = node_of s (p.bucket + 1)

abbrev pub up_node : Search → Cursor → Node ℕ
up_node s p = node_of s (own_node s p).parent

-- Stretches joined.
missed_join : (hits : List Bool) (lo start to : ℕ) → Missed hits lo start → Missed hits (max lo start) to → Missed hits lo to
missed_join hits lo start to first second k above below = at (cases_lt k start) where
  at : (k < start) ⊎ (start ≤ k) → get_or hits k false ≡ false
  at (inl before) = first k above before
  at (inr behind) = let later : max lo start ≤ k = omega (arith, above, behind) in second k later below

found_join : (hits : List Bool) (lo start to count k : ℕ) → to ≤ count → Missed hits lo start → Found hits (max lo start) to k → Found hits lo count k
found_join hits lo start to count k most first f = record {
  above = let a : max lo start ≤ k = f.above in omega (arith, a);
  below = let a : k < to = f.below in omega (arith, most, a);
  hit = f.hit;
  before = missed_join hits lo start k first f.before;
}

-- where a bucket begins above the address, none up to its parent holds that
above_it : (s : Search) (p : Cursor) (near : List Bool) (k : ℕ) → IsAt s p → IsNearIn s p near → p.address < (own_node s p).first
    → (own_node s p).start ≤ k → k < (up_node s p).start → get_or near k false ≡ false
above_it s p near k at n high low below = false_from (get_or near k false) (λ hit. by (cases_lt p.bucket (home_of s k)) (n.apart k before.0 hit).0)
  where
    b : AreSound s.buckets.now (count_of s)
    b = at.whole.sound

    before : (k < length s.buckets.now.homes.items) × (home_of s k < (own_node s p).parent)
    before = home_before _ _ _ _ (own_node s p).parent k b (b.within p.bucket at.inside) below

    from : p.bucket ≤ home_of s k
    from = home_from _ _ _ _ p.bucket k b (omega (arith, at.inside)) before.0 low

    by : (p.bucket < home_of s k) ⊎ (home_of s k ≤ p.bucket) → (node_of s (home_of s k)).first ≤ p.address → ⊥
    by (inl later) held =
        let a : (own_node s p).first < (node_of s (home_of s k)).first = b.least p.bucket (home_of s k) at.inside later before.1 in
        omega (arith, a, held, high)
    by (inr no_later) held =
        let same : home_of s k ≡ p.bucket = omega (arith, from, no_later) in
        let own : (own_node s p).first ≤ p.address = subst (λ h. (node_of s h).first ≤ p.address) same held in
        omega (arith, own, high)

-- nor does one behind a bucket that ends no earlier, up to its parent
beyond_it : (s : Search) (p : Cursor) (near : List Bool) (k : ℕ) → IsAt s p → IsNearIn s p near
    → (next_node s p).start ≤ k → k < (up_node s p).start → get_or near k false ≡ false
beyond_it s p near k at n low below = false_from (get_or near k false) (λ hit.
    let held : (node_of s (home_of s k)).first ≤ p.address = (n.apart k before.0 hit).0 in
    let a : (own_node s p).first < (node_of s (home_of s k)).first = b.least p.bucket (home_of s k) at.inside (omega (arith, from)) before.1 in
    let ends : p.address ≤ last_of s p.bucket = at.ends in
    let meets : (node_of s (home_of s k)).first ≤ last_of s p.bucket = omega (arith, held, ends) in
    let c : (node_of s (home_of s k)).first ≤ (own_node s p).first =
    b.nested p.bucket (home_of s k) (omega (arith, from)) (b.home k before.0) meets in
    omega (arith, a, c))
  where
    b : AreSound s.buckets.now (count_of s)
    b = at.whole.sound

    before : (k < length s.buckets.now.homes.items) × (home_of s k < (own_node s p).parent)
    before = home_before _ _ _ _ (own_node s p).parent k b (b.within p.bucket at.inside) below

    from : p.bucket + 1 ≤ home_of s k
    from = home_from _ _ _ _ (p.bucket + 1) k b (omega (arith, at.inside)) before.0 low

-- what isn't near doesn't match
not_near : (hits near : List Bool) (k : ℕ) → Within hits near → get_or near k false ≡ false → get_or hits k false ≡ false
not_near hits near k w e = false_from (get_or hits k false) (λ hit. true≢false (sym (w k hit) ∙ e))

-- A step from a bucket to its parent: the bucket isn't searched, or is searched in vain.
pub skipped_up : (s : Search) (p : Cursor) (near : List Bool) → IsAt s p → IsNearIn s p near → Within (tests_of s.tested) near
    → p.address < (own_node s p).first
    → Missed (tests_of s.tested) p.from (own_node s p).start → Missed (tests_of s.tested) p.from (up_node s p).start
skipped_up s p near at n w high missed k above below = by (cases_lt k (own_node s p).start) where
  by : (k < (own_node s p).start) ⊎ ((own_node s p).start ≤ k) → get_or (tests_of s.tested) k false ≡ false
  by (inl before) = missed k above before
  by (inr behind) = not_near (tests_of s.tested) near k w (above_it s p near k at n high behind below)

searched_up : (s : Search) (p : Cursor) (near : List Bool) → IsAt s p → IsNearIn s p near → Within (tests_of s.tested) near
    → Missed (tests_of s.tested) p.from (own_node s p).start → Missed (tests_of s.tested) (max p.from (own_node s p).start) (next_node s p).start
    → Missed (tests_of s.tested) p.from (up_node s p).start
searched_up s p near at n w missed searched k above below = by (cases_lt k (next_node s p).start) where
  by : (k < (next_node s p).start) ⊎ ((next_node s p).start ≤ k) → get_or (tests_of s.tested) k false ≡ false
  by (inl before) = missed_join (tests_of s.tested) p.from (own_node s p).start (next_node s p).start missed searched k above before
  by (inr behind) = not_near (tests_of s.tested) near k w (beyond_it s p near k at n behind below)

-- a bucket ends where the next begins, which is no later than its parent
next_starts : (s : Search) (p : Cursor) → IsAt s p
    → ((own_node s p).start ≤ (next_node s p).start) × ((next_node s p).start ≤ (up_node s p).start) × ((next_node s p).start ≤ count_of s)
next_starts s p at = (own, up, omega (arith, all, tail, few)) where
  b : AreSound s.buckets.now (count_of s)
  b = at.whole.sound

  own : (own_node s p).start ≤ (next_node s p).start
  own = b.starts p.bucket (p.bucket + 1) (omega arith) (omega (arith, at.inside))

  up : (next_node s p).start ≤ (up_node s p).start
  up = let after : p.bucket < (own_node s p).parent = b.after p.bucket at.inside in
      b.starts (p.bucket + 1) (own_node s p).parent (omega (arith, after)) (b.within p.bucket at.inside)

  all : (next_node s p).start ≤ (node_of s (length (numbers_in s.buckets.now.lasts))).start
  all = b.starts (p.bucket + 1) (length (numbers_in s.buckets.now.lasts)) (omega (arith, at.inside)) (omega arith)

  tail : (node_of s (length (numbers_in s.buckets.now.lasts))).start ≡ length s.buckets.now.homes.items
  tail = b.tail

  few : length s.buckets.now.homes.items ≤ count_of s
  few = b.few

-- The steps: none for a bucket that isn't searched; of one that is, each rule tested is near.
pub skipped_cost : (s : Search) (p : Cursor) (near : List Bool) → IsAt s p
    → marked (max p.from (own_node s p).start) near ≤ marked (max p.from (up_node s p).start) near
skipped_cost s p near at =
    let n = next_starts s p at in
    let a : (own_node s p).start ≤ (next_node s p).start = n.0 in
    let b : (next_node s p).start ≤ (up_node s p).start = n.1 in
    marked_later (max p.from (own_node s p).start) (max p.from (up_node s p).start) near (omega (arith, a, b))

searched_cost : (s : Search) (p : Cursor) (near : List Bool) (low stop : ℕ) → IsAt s p → IsNearIn s p near → (own_node s p).first ≤ p.address
    → (own_node s p).start ≤ low → stop ≤ (next_node s p).start → marked low near + (stop - low) ≤ marked (max low stop) near
searched_cost s p near low stop at n begins from to = marked_tested near low stop most each where
  b : AreSound s.buckets.now (count_of s)
  b = at.whole.sound

  most : stop ≤ length near
  most =
      let a : (next_node s p).start ≤ count_of s = (next_starts s p at).2 in
      let size : length near ≡ count_of s = n.size in
      omega (arith, size, a, to)

  each : (k : ℕ) → low ≤ k → k < stop → get_or near k false ≡ true
  each k above below =
      let before = home_before _ _ _ _ (p.bucket + 1) k b (omega (arith, at.inside)) (omega (arith, below, to)) in
      let least : p.bucket ≤ home_of s k = home_from _ _ _ _ p.bucket k b (omega (arith, at.inside)) before.0 (omega (arith, from, above)) in
      let most : home_of s k < p.bucket + 1 = before.1 in
      let same : p.bucket ≡ home_of s k = omega (arith, least, most) in
      n.held k before.0 (subst (λ h. (node_of s h).first ≤ p.address) same begins) (subst (λ h. p.address ≤ last_of s h) same at.ends)

-- a scan in which each rule tested is near
scanned_cost : (hits near : List Bool) (low to before after : ℕ) (r : Option ℕ) → Scanned hits low to to before after r
    → ((stop : ℕ) → stop ≤ to → marked low near + (stop - low) ≤ marked (max low stop) near)
    → after + marked low near ≤ before + marked (tested_to r (max low to)) near
scanned_cost hits near low to before after None scanned cost =
    let c : marked low near + (to - low) ≤ marked (max low to) near = cost to (omega arith) in
    let own : after ≤ before + (to - low) = scanned.steps in
    omega (arith, c, own)
scanned_cost hits near low to before after (Some k) scanned cost =
    let above : low ≤ k = scanned.found.above in
    let below : k < to = scanned.found.below in
    let same : max low (k + 1) ≡ k + 1 = omega (arith, above) in
    let c : marked low near + (k + 1 - low) ≤ marked (k + 1) near =
    subst (λ n. marked low near + (k + 1 - low) ≤ marked n near) same (cost (k + 1) (omega (arith, below))) in
    let own : after ≤ before + (k + 1 - low) = scanned.steps in
    omega (arith, c, own)

tested_later : (r : Option ℕ) (n m : ℕ) (near : List Bool) → marked n near ≤ marked m near → marked (tested_to r n) near ≤ marked (tested_to r m) near
tested_later None n m near h = h
tested_later (Some k) n m near h = omega arith

option_weaker : {A : Type 0} (P P' : Type 0) (Q Q' : A → Type 0) (r : Option A) → (P → P') → ((k : A) → Q k → Q' k) → MatchOption r P Q → MatchOption r P' Q'
option_weaker P P' Q Q' None f g h = f h
option_weaker P P' Q Q' (Some k) f g h = g k h

-- What a bucket's search says: of its run, by the nodes that were read, and of what is passed up to its parent.
pub scanned_at : (s : Search) (p : Cursor) (node end : Node ℕ) (low before after : ℕ) (r : Option ℕ) → node ≡ own_node s p → end ≡ next_node s p
    → low ≡ max p.from node.start → Scanned (tests_of s.tested) low end.start end.start before after r
    → Scanned (tests_of s.tested) (max p.from (own_node s p).start) (next_node s p).start (next_node s p).start before after r
scanned_at s p node end low before after r e f l scanned =
    subst (λ (x : Node ℕ). Scanned (tests_of s.tested) (max p.from (own_node s p).start) x.start x.start before after r) f
    (subst (λ (n : ℕ). Scanned (tests_of s.tested) n end.start end.start before after r) (l ∙ ap (λ (x : Node ℕ). max p.from x.start) e) scanned)

pub searched_found : (s : Search) (p : Cursor) (near : List Bool) (before after : ℕ) (r : Option ℕ) → IsAt s p → IsNearIn s p near
    → Within (tests_of s.tested) near → Missed (tests_of s.tested) p.from (own_node s p).start
    → Scanned (tests_of s.tested) (max p.from (own_node s p).start) (next_node s p).start (next_node s p).start before after r
    → MatchOption r (Missed (tests_of s.tested) p.from (up_node s p).start) (Found (tests_of s.tested) p.from (count_of s))
searched_found s p near before after r at n w missed scanned =
    option_weaker (Missed (tests_of s.tested) (max p.from (own_node s p).start) (next_node s p).start)
    (Missed (tests_of s.tested) p.from (up_node s p).start)
    (Found (tests_of s.tested) (max p.from (own_node s p).start) (next_node s p).start) (Found (tests_of s.tested) p.from (count_of s)) r
    (searched_up s p near at n w missed)
    (λ k f. found_join (tests_of s.tested) p.from (own_node s p).start (next_node s p).start (count_of s) k (next_starts s p at).2 missed f)
    scanned.found

pub searched_steps : (s : Search) (p : Cursor) (near : List Bool) (before after : ℕ) (r : Option ℕ) → IsAt s p → IsNearIn s p near
    → (own_node s p).first ≤ p.address
    → Scanned (tests_of s.tested) (max p.from (own_node s p).start) (next_node s p).start (next_node s p).start before after r
    → after + marked (max p.from (own_node s p).start) near ≤ before + marked (tested_to r (max p.from (up_node s p).start)) near
searched_steps s p near before after r at n begins scanned = omega (arith, own, later) where
  own : after + marked (max p.from (own_node s p).start) near
      ≤ before + marked (tested_to r (max (max p.from (own_node s p).start) (next_node s p).start)) near
  own = scanned_cost (tests_of s.tested) near (max p.from (own_node s p).start) (next_node s p).start before after r scanned
      (λ stop to. searched_cost s p near (max p.from (own_node s p).start) stop at n begins (omega arith) to)

  later : marked (tested_to r (max (max p.from (own_node s p).start) (next_node s p).start)) near
      ≤ marked (tested_to r (max p.from (up_node s p).start)) near
  later =
      let parts = next_starts s p at in
      let a : (own_node s p).start ≤ (next_node s p).start = parts.0 in
      let b : (next_node s p).start ≤ (up_node s p).start = parts.1 in
      tested_later r (max (max p.from (own_node s p).start) (next_node s p).start) (max p.from (up_node s p).start) near
      (marked_later (max (max p.from (own_node s p).start) (next_node s p).start) (max p.from (up_node s p).start) near (omega (arith, a, b)))

pub searched_inside : (s : Search) (p : Cursor) (before after : ℕ) (r : Option ℕ) → IsAt s p
    → Scanned (tests_of s.tested) (max p.from (own_node s p).start) (next_node s p).start (next_node s p).start before after r
    → IfSome r (λ number. ((own_node s p).start ≤ number) × (number < count_of s))
searched_inside s p before after None at scanned = tt
searched_inside s p before after (Some k) at scanned =
    let a : max p.from (own_node s p).start ≤ k = scanned.found.above in
    let b : k < (next_node s p).start = scanned.found.below in
    let most : (next_node s p).start ≤ count_of s = (next_starts s p at).2 in
    (omega (arith, a), omega (arith, b, most))

-- one more that doesn't match
pub missed_more : (hits : List Bool) (lo n : ℕ) → Missed hits lo n → get_or hits n false ≡ false → Missed hits lo (n + 1)
missed_more hits lo n missed fails k above below = at (cases_lt k n) where
  at : (k < n) ⊎ (n ≤ k) → get_or hits k false ≡ false
  at (inl before) = missed k above before
  at (inr behind) = let same : n ≡ k = omega (arith, behind, below) in subst (λ i. get_or hits i false ≡ false) same fails

-- what was missed, where nothing was found
pub missed_none : {A : Type 0} (P : Type 0) (Q : A → Type 0) (r : Option A) → MatchOption r P Q → r ≡ None → P
missed_none P Q r h e = subst (λ (o : Option _). MatchOption o P Q) e h

-- the parent of a bucket that doesn't end below the address
pub parent_ends : (s : Search) (p : Cursor) → IsAt s p → (own_node s p).parent < length (numbers_in s.buckets.now.lasts)
    → p.address ≤ last_of s (own_node s p).parent
parent_ends s p at below =
    let ends : p.address ≤ last_of s p.bucket = at.ends in
    let up : last_of s p.bucket ≤ last_of s (own_node s p).parent =
    at.whole.sound.rising p.bucket (own_node s p).parent (at.whole.sound.after p.bucket at.inside) below in
    omega (arith, ends, up)

pub marked_most : (n : ℕ) (near : List Bool) → marked n near ≤ count_by (λ b. b) near
marked_most n near = sum_by-take-le (λ (b : Bool). cond b 1 0) near n

-- a test that fails is a rule that doesn't match
pub test_fails : {X : Type 0} (test : X → Bool) (xs : List X) (i : ℕ) (d : X) (r : Bool) → i < length xs → r ≡ test (get_or xs i d) → r ≡ false
    → get_or (map test xs) i false ≡ false
test_fails test xs i d r below e f = get_or-map test xs i d false below ∙ sym e ∙ f

-- what is tested behind the last bucket, where all rules are near
pub climbed_cost : (s : Search) (p : Cursor) (near : List Bool) (at low before between after : ℕ) (r : Option ℕ) → IsWhole s → IsNearIn s p near
    → at ≡ length (numbers_in s.buckets.now.lasts) → low ≡ max p.from (length s.buckets.now.homes.items)
    → between + marked p.from near ≤ before + marked (max p.from (node_of s at).start) near
    → Scanned (tests_of s.tested) low (count_of s) (count_of s) between after r
    → after + marked p.from near ≤ before + marked (tested_to r (count_of s)) near
climbed_cost s p near at low before between after r whole n last least inv scanned = omega (arith, so_far, own, all) where
  size : length near ≡ count_of s
  size = n.size

  so_far : between + marked p.from near ≤ before + marked low near
  so_far =
      let start : (node_of s at).start ≡ length s.buckets.now.homes.items = ap (λ i. (node_of s i).start) last ∙ whole.sound.tail in
      let same : max p.from (node_of s at).start ≡ low = omega (arith, start, least) in
      subst (λ m. between + marked p.from near ≤ before + marked m near) same inv

  own : after + marked low near ≤ between + marked (tested_to r (max low (count_of s))) near
  own = scanned_cost (tests_of s.tested) near low (count_of s) between after r scanned
      (λ stop to. marked_tested near low stop (omega (arith, size, to))
      (λ k above below. n.bare k (omega (arith, least, above)) (omega (arith, below, to))))

  all : marked (tested_to r (max low (count_of s))) near ≤ marked (tested_to r (count_of s)) near
  all =
      let a : marked (max low (count_of s)) near ≤ count_by (λ b. b) near = marked_most (max low (count_of s)) near in
      let m : marked (count_of s) near ≡ count_by (λ b. b) near = marked_all near (count_of s) (omega (arith, size)) in
      tested_later r (max low (count_of s)) (count_of s) near (omega (arith, a, m))
