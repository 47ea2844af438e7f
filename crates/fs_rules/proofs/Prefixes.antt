-- The prefixes at which peers gave unicast routes, and the routes that are taken away along them.
use Rattle.fs_rules.proofs.Words.{ℕ, ◌≡◌, ◌≤◌, ◌+◌, refl, sym, ap, subst, ◌∙◌, Bool, true, false, true≢false, not, ◌||◌, ◌==◌, cond, List, [], ◌∷◌}
use Rattle.fs_rules.proofs.Words.{Some, is_some, Ordering, Less, Equal, Greater, is_eq, nat_cmp, arith, IsTotalOrder, IsStrictlySortedBy, keys_of}
use Rattle.fs_rules.proofs.Words.{lookup, remove_entry, ordering_then, nat_tests, sorted_head, sorted_tail, Config, Path, Prefix, prefix_cmp}
use Rattle.fs_rules.proofs.Words.{each_weaker, each_both, each_of_map, each_insert, each_remove, filter_all, same_from_cmp, equal_of_is_eq}
use Rattle.fs_rules.proofs.Words.{is_eq_of_first, Place, Route, place_cmp, put_path, has_path, place_total, place, Counts, count_of, may_hold}
use Rattle.fs_rules.proofs.Words.{StaysHeld, AreHeld, AreAmong, IsKept, routes_of, Kept, Held, without_peer_unicast, related_count, remove_nothing}
use Rattle.fs_rules.proofs.{Chosen.{with_unicast}, Counting.{counted_as}}
use Rattle.fs_rules.proofs.Losing.{is_place, peers_equal, Hit, hit_at, IsLosing, losing_more}
use Rattle.std.proofs.lemmas.Bool.{eqb-true}
use Rattle.fs_flows.specs.Destinations.{is_among}

-- What was listed still is.
pub held_still : (old new : Counts) (unicast : List Route) → StaysHeld old new → AreHeld old unicast → AreHeld new unicast
held_still old new unicast stays h =
    each_weaker (λ r. may_hold old r.0.peer r.0.prefix ≡ true) (λ r. may_hold new r.0.peer r.0.prefix ≡ true)
    (λ r k. stays r.0.peer r.0.prefix k) unicast h

pub held_taken : (old new : Counts) (test : Place → Bool) (unicast left : List Route) → StaysHeld old new → left ≡ remove_entry test unicast
    → AreHeld old unicast → AreHeld new left
held_taken old new test unicast left stays e h =
    subst (AreHeld new) (sym e) (each_remove (λ r. may_hold new r.0.peer r.0.prefix ≡ true) test unicast (held_still old new unicast stays h))

-- so what is kept still is, where the counts are the same
pub kept_still : (config : Config) (unicast : List Route) (kept : List Kept) (old new : Counts)
    → ((other : ℕ) → count_of other new ≡ count_of other old) → StaysHeld old new → IsKept config unicast kept old → IsKept config unicast kept new
kept_still config unicast kept old new same stays h = record {
  keeps = h.keeps;
  counted = counted_as unicast (routes_of kept) old new same h.counted;
  held = held_still old new unicast stays h.held;
  ordered = h.ordered;
}

-- a route that is held is listed
held_there : (counts : Counts) (peer : ℕ) (prefix : Prefix) (unicast : List Route) → AreHeld counts unicast → has_path peer prefix unicast ≡ true
    → may_hold counts peer prefix ≡ true
held_there counts peer prefix [] h there = absurd (true≢false (sym there))
held_there counts peer prefix (r ∷ rs) h there = at (is_place prefix peer r.0) refl there (held_there counts peer prefix rs h.1) where
  here : is_place prefix peer r.0 ≡ true → may_hold counts peer prefix ≡ true
  here t = subst (λ p. may_hold counts peer p ≡ true)
      (sym (same_from_cmp prefix r.0.prefix (is_eq_of_first (prefix_cmp prefix r.0.prefix) (nat_cmp peer r.0.peer) t)))
      (subst (λ n. may_hold counts n r.0.prefix ≡ true) (eqb-true r.0.peer peer (peers_equal (prefix_cmp prefix r.0.prefix) peer r.0.peer t)) h.0)

  at : (b : Bool) → is_place prefix peer r.0 ≡ b → is_some (cond b (Some r.1) (lookup (is_place prefix peer) rs)) ≡ true
      → (has_path peer prefix rs ≡ true → may_hold counts peer prefix ≡ true) → may_hold counts peer prefix ≡ true
  at true t k ih = here t
  at false t k ih = ih k

-- so is a new one
pub held_put : (old new : Counts) (peer : ℕ) (prefix : Prefix) (path : Path) (unicast unicast' : List Route) (more : Bool) → StaysHeld old new
    → (more ≡ true → may_hold new peer prefix ≡ true) → more ≡ not (has_path peer prefix unicast) → unicast' ≡ put_path peer prefix path unicast
    → AreHeld old unicast → AreHeld new unicast'
held_put old new peer prefix path unicast unicast' more stays listed fresh e h = subst (AreHeld new) (sym e)
    (each_insert place_cmp (λ q. may_hold new q.peer q.prefix ≡ true) (place prefix peer) path (at (has_path peer prefix unicast) refl) unicast
    (held_still old new unicast stays h)) where
      at : (b : Bool) → has_path peer prefix unicast ≡ b → may_hold new peer prefix ≡ true
      at true t = stays peer prefix (held_there old peer prefix unicast h t)
      at false t = listed (fresh ∙ ap not t)

-- Where a peer holds none, those of the others stay listed.
abbrev StaysBut : ℕ → Counts → Counts → Type 0
StaysBut peer old new = (other : ℕ) (p : Prefix) → (other == peer) ≡ false → may_hold old other p ≡ true → may_hold new other p ≡ true

held_each : (old new : Counts) (peer : ℕ) (unicast : List Route) → StaysBut peer old new → AreHeld old unicast → AreHeld new (without_peer_unicast peer unicast)
held_each old new peer [] stays h = tt
held_each old new peer (r ∷ rs) stays h = at (r.0.peer == peer) refl (held_each old new peer rs stays h.1) where
  at : (b : Bool) → (r.0.peer == peer) ≡ b → AreHeld new (without_peer_unicast peer rs)
      → AreHeld new (cond (not b) (r ∷ without_peer_unicast peer rs) (without_peer_unicast peer rs))
  at true n ih = ih
  at false n ih = (stays r.0.peer r.0.prefix n h.0, ih)

pub held_others : (old new : Counts) (peer : ℕ) (unicast : List Route) → StaysBut peer old new → without_peer_unicast peer unicast ≡ unicast
    → AreHeld old unicast → AreHeld new unicast
held_others old new peer unicast stays none h = subst (AreHeld new) none (held_each old new peer unicast stays h)

-- the peer's routes stand at the prefixes that are handed out
pub among_held : (counts : Counts) (peer : ℕ) (prefixes : List Prefix) (unicast : List Route)
    → ((p : Prefix) → may_hold counts peer p ≡ true → is_among prefixes p ≡ true) → AreHeld counts unicast → AreAmong peer prefixes unicast
among_held counts peer prefixes unicast taken h =
    each_weaker (λ r. may_hold counts r.0.peer r.0.prefix ≡ true) (λ r. (r.0.peer == peer) ≡ true → is_among prefixes r.0.prefix ≡ true)
    (λ r k own. taken r.0.prefix (subst (λ n. may_hold counts n r.0.prefix ≡ true) (eqb-true r.0.peer peer own) k)) unicast h

-- Behind a withdrawal those that are left stand at the other prefixes.
other_prefix : (o : Ordering) (m n : ℕ) → is_eq (ordering_then o (nat_cmp m n)) ≡ false → (n == m) ≡ true → is_eq o ≡ false
other_prefix Less m n h own = refl
other_prefix Equal m n h own = grind (arith, nat_tests)
other_prefix Greater m n h own = refl

fewer : (peer : ℕ) (d : Prefix) (ds : List Prefix) (r : Route) → is_place d peer r.0 ≡ false
    → ((r.0.peer == peer) ≡ true → is_among (d ∷ ds) r.0.prefix ≡ true) → (r.0.peer == peer) ≡ true → is_among ds r.0.prefix ≡ true
fewer peer d ds r off among own = sym (ap (λ b. b || is_among ds r.0.prefix) (other_prefix (prefix_cmp d r.0.prefix) peer r.0.peer off own)) ∙ among own

among_left : (peer : ℕ) (d : Prefix) (ds : List Prefix) (unicast : List Route) → IsStrictlySortedBy place_cmp (keys_of unicast)
    → AreAmong peer (d ∷ ds) unicast → AreAmong peer ds (remove_entry (is_place d peer) unicast)
among_left peer d ds [] sorted h = tt
among_left peer d ds (r ∷ rs) sorted h = at (is_place d peer r.0) refl (among_left peer d ds rs (sorted_tail place_cmp r.0 (keys_of rs) sorted) h.1) where
  behind : is_place d peer r.0 ≡ true → AreAmong peer ds rs
  behind t = each_both (λ s. place_cmp r.0 s.0 ≡ Less) (λ s. (s.0.peer == peer) ≡ true
      → is_among (d ∷ ds) s.0.prefix ≡ true) (λ s. (s.0.peer == peer) ≡ true → is_among ds s.0.prefix ≡ true)
      (λ s less among. fewer peer d ds s
      (ap is_eq (IsTotalOrder.congr place_total (place d peer) r.0 s.0 (equal_of_is_eq (place_cmp (place d peer) r.0) t) ∙ less)) among) rs
      (each_of_map (λ s. s.0) (λ q. place_cmp r.0 q ≡ Less) rs (sorted_head place_cmp r.0 (keys_of rs) sorted)) h.1

  at : (b : Bool) → is_place d peer r.0 ≡ b → AreAmong peer ds (remove_entry (is_place d peer) rs)
      → AreAmong peer ds (cond b rs (r ∷ remove_entry (is_place d peer) rs))
  at true t ih = behind t
  at false t ih = (fewer peer d ds r t h.0, ih)

pub among_more : (peer : ℕ) (d : Prefix) (ds : List Prefix) (now new : Held) → IsStrictlySortedBy place_cmp (keys_of now.unicast)
    → new ≡ with_unicast (remove_entry (is_place d peer)) now
    → AreAmong peer (d ∷ ds) now.unicast → AreAmong peer ds new.unicast
among_more peer d ds now new sorted e h = subst (AreAmong peer ds) (sym (ap (λ held. held.unicast) e)) (among_left peer d ds now.unicast sorted h)

-- at no prefix there is none
pub none_among : (peer : ℕ) (unicast : List Route) → AreAmong peer [] unicast → without_peer_unicast peer unicast ≡ unicast
none_among peer unicast h = filter_all (λ r. not (r.0.peer == peer)) unicast
    (each_weaker (λ r. (r.0.peer == peer) ≡ true → false ≡ true) (λ r. not (r.0.peer == peer) ≡ true) (λ r k. at (r.0.peer == peer) k) unicast h) where
      at : (b : Bool) → (b ≡ true → false ≡ true) → not b ≡ true
      at true k = k refl
      at false k = refl

-- A withdrawal at a prefix takes what it may, whether there is a route or not.
there_hit : (prefix : Prefix) (peer : ℕ) (unicast : List Route) → has_path peer prefix unicast ≡ true → Hit prefix peer unicast
there_hit prefix peer [] h = absurd (true≢false (sym h))
there_hit prefix peer (r ∷ rs) h =
    hit_at prefix peer r rs (is_place prefix peer r.0) refl
    (λ t. there_hit prefix peer rs (sym (ap (λ b. is_some (cond b (Some r.1) (lookup (is_place prefix peer) rs))) t) ∙ h))

pub along_more : (peer : ℕ) (start now new : Held) (before after more : ℕ) (prefix : Prefix) → IsLosing peer start now before after
    → new ≡ with_unicast (remove_entry (is_place prefix peer)) now
    → after ≤ more → more ≤ after + related_count prefix now.flows → (new ≡ now → more ≡ after) → IsLosing peer start new before more
along_more peer start now new before after more prefix h e later steps idle = at (has_path peer prefix now.unicast) refl where
  nothing : has_path peer prefix now.unicast ≡ false → new ≡ now
  nothing t = e ∙ ap (λ (u : List Route). with_unicast (λ _. u) now) (remove_nothing (is_place prefix peer) now.unicast t)

  at : (b : Bool) → has_path peer prefix now.unicast ≡ b → IsLosing peer start new before more
  at true t = losing_more peer start now new before after more prefix h (there_hit prefix peer now.unicast t) e later steps
  at false t = subst (λ (held : Held). IsLosing peer start held before more) (sym (nothing t))
      (subst (IsLosing peer start now before) (sym (idle (nothing t))) h)
