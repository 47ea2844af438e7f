-- What the search over the buckets of an index says of the rules that it stands for.
use Rattle.fs_compile.proofs.Words.{◌≡◌, ℕ, zero, suc, ◌+◌, ◌-◌, ◌<◌, ◌≤◌, ◌⊎◌, inl, inr, refl, sym, ap, ap₂, subst, ◌∙◌, Bool, true, false}
use Rattle.fs_compile.proofs.Words.{true≢false, cond, if◌then◌else◌, Option, Some, None, MatchOption, max, List, [], ◌∷◌, length, get_or, drop, map}
use Rattle.fs_compile.proofs.Words.{count_by, get_or-drop, drop_of_length-le, arith, AllByRecursion, cases_lt, drop-map, get_or_past, length-map}
use Rattle.fs_compile.proofs.Words.{sum_by-cons, sum_by-take-drop, none-some, Family, V4, V6, Viewed, family_of, is_match, Listed, first_from}
use Rattle.fs_compile.proofs.Words.{Compiled, Fast, Hit, AreFacts, Facts, IsSmall, StandsFor, Indexed, IsIndexOf, StandForEach, IsOfFamily, spans_of}
use Rattle.fs_compile.proofs.Words.{StandsForLists, next_from, number_of, reaches, reaching, reaching_behind, reaching_from, Found, IsNear, Missed}
use Rattle.fs_compile.proofs.Words.{Within, hit_number, hits, marked, tested_to, each_size}
use Rattle.fs_compile.proofs.{Climbing.{marked_most}, Reaching.{bare_reaches, match_reaches, span_reaches}}
use Rattle.fs_ranges.proofs.Placing.{held_of}

abbrev matches_of : Viewed → List Listed → List Bool
matches_of view rules = map (λ r. is_match r.rule view) rules

abbrev near_of : Viewed → List Listed → List Bool
near_of view rules = map (λ r. reaches view r.rule) rules

near_count : (view : Viewed) (rules : List Listed) → count_by (λ b. b) (near_of view rules) ≡ reaching view rules
near_count view [] = refl
near_count view (r ∷ rs) =
    sum_by-cons (λ (b : Bool). cond b 1 0) (reaches view r.rule) (near_of view rs)
    ∙ ap (λ (n : ℕ). cond (reaches view r.rule) 1 0 + n) (near_count view rs)
    ∙ sym (sum_by-cons (λ (r : Listed). cond (reaches view r.rule) 1 0) r rs)

pub stand_size : (rules : List Listed) (fasts : List Fast) → StandForEach rules fasts → length fasts ≡ length rules
stand_size rules fasts h = each_size (λ r f. StandsFor r.rule f) rules fasts h

hits_are : (view : Viewed) (facts : Facts) (rules : List Listed) (fasts : List Fast) → AreFacts view facts → StandForEach rules fasts
    → hits facts fasts ≡ matches_of view rules
hits_are view facts [] [] are h = refl
hits_are view facts [] (f ∷ fs) are h = absurd h
hits_are view facts (r ∷ rs) [] are h = absurd h
hits_are view facts (r ∷ rs) (f ∷ fs) are h =
    ap₂ (λ (b : Bool) (bs : List Bool). b ∷ bs) (held_of view facts f are ∙ h.0 view are.small) (hits_are view facts rs fs are h.1)

-- Of the rule of a number: whether it is near.
near_held : (view : Viewed) (rules : List Listed) (k : ℕ) (p : ℕ × ℕ) → AllByRecursion (IsOfFamily view.family) rules
    → family_of view.destination ≡ view.family → IsSmall view
    → get_or (spans_of rules) k None ≡ Some p → p.0 ≤ number_of view.destination → number_of view.destination ≤ p.1 → get_or (near_of view rules) k false ≡ true
near_held view [] k p each f small s low high = absurd (none-some p s)
near_held view (r ∷ rs) zero p each f small s low high = (span_reaches r.rule view p each.0.rule each.0.same f small.destination s).1 (low, high)
near_held view (r ∷ rs) (suc k) p each f small s low high = near_held view rs k p each.1 f small s low high

near_apart : (view : Viewed) (rules : List Listed) (k : ℕ) (p : ℕ × ℕ) → AllByRecursion (IsOfFamily view.family) rules
    → family_of view.destination ≡ view.family → IsSmall view
    → get_or (spans_of rules) k None ≡ Some p → get_or (near_of view rules) k false ≡ true
    → (p.0 ≤ number_of view.destination) × (number_of view.destination ≤ p.1)
near_apart view [] k p each f small s near = absurd (none-some p s)
near_apart view (r ∷ rs) zero p each f small s near = (span_reaches r.rule view p each.0.rule each.0.same f small.destination s).0 near
near_apart view (r ∷ rs) (suc k) p each f small s near = near_apart view rs k p each.1 f small s near

near_bare : (view : Viewed) (rules : List Listed) (k : ℕ) → k < length rules → get_or (spans_of rules) k None ≡ None
    → get_or (near_of view rules) k false ≡ true
near_bare view [] k below s = absurd (omega (arith, below))
near_bare view (r ∷ rs) zero below s = bare_reaches r.rule view s
near_bare view (r ∷ rs) (suc k) below s = near_bare view rs k (omega (arith, below)) s

near_matched : (view : Viewed) (rules : List Listed) → AllByRecursion (IsOfFamily view.family) rules → (k : ℕ)
    → get_or (matches_of view rules) k false ≡ true → get_or (near_of view rules) k false ≡ true
near_matched view [] each k m = absurd (true≢false (sym m))
near_matched view (r ∷ rs) each zero m = match_reaches r.rule view each.0.rule m
near_matched view (r ∷ rs) each (suc k) m = near_matched view rs each.1 k m

are_near : (view : Viewed) (rules : List Listed) (index : Indexed) → IsIndexOf view.family rules index → IsSmall view → family_of view.destination ≡ view.family
    → IsNear index.buckets (number_of view.destination) (length index.rules) (near_of view rules)
are_near view rules index h small f = record {
  size = length-map rules (λ r. reaches view r.rule) ∙ sym (stand_size rules index.rules h.stands);
  held = λ k b low high. near_held view rules k _ h.each f small (h.housed.homed k b) low high;
  apart = λ k b near. near_apart view rules k _ h.each f small (h.housed.homed k b) near;
  bare = λ k above below. near_bare view rules k (subst (λ n. k < n) (stand_size rules index.rules h.stands) below) (h.housed.bare k above);
}

-- the first of a list that matches
from_some : (view : Viewed) (xs : List Listed) (m k : ℕ) → get_or (matches_of view xs) k false ≡ true
    → ((i : ℕ) → i < k → get_or (matches_of view xs) i false ≡ false) → first_from m view xs ≡ Some (m + k)
from_some view [] m k hit before = absurd (true≢false (sym hit))
from_some view (x ∷ xs) m zero hit before = ap (λ (b : Bool). if b then Some m else first_from (m + 1) view xs) hit ∙ ap Some whole where
  whole : m ≡ m + 0
  whole = omega arith
from_some view (x ∷ xs) m (suc k) hit before =
    ap (λ (b : Bool). if b then Some m else first_from (m + 1) view xs) (before 0 first)
    ∙ from_some view xs (m + 1) k hit (λ i below. before (suc i) (omega (arith, below)))
    ∙ ap Some whole where
      first : 0 < suc k
      first = omega arith

      whole : m + 1 + k ≡ m + suc k
      whole = omega arith

from_none : (view : Viewed) (xs : List Listed) (m : ℕ) → ((i : ℕ) → get_or (matches_of view xs) i false ≡ false) → first_from m view xs ≡ None
from_none view [] m none = refl
from_none view (x ∷ xs) m none =
    ap (λ (b : Bool). if b then Some m else first_from (m + 1) view xs) (none 0)
    ∙ from_none view xs (m + 1) (λ i. none (suc i))

-- what is behind a number
behind : (view : Viewed) (rules : List Listed) (n i : ℕ) → get_or (matches_of view (drop n rules)) i false ≡ get_or (matches_of view rules) (n + i) false
behind view rules n i =
    ap (λ (bs : List Bool). get_or bs i false) (sym (drop-map (λ (r : Listed). is_match r.rule view) n rules))
    ∙ get_or-drop n (matches_of view rules) i false

next_is : (view : Viewed) (rules : List Listed) (n : ℕ) (r : Option ℕ)
    → MatchOption r (Missed (matches_of view rules) n (length rules)) (Found (matches_of view rules) n (length rules)) → r ≡ next_from n view rules
next_is view rules n None missed = sym (from_none view (drop n rules) n (λ i. behind view rules n i ∙ at i (cases_lt (n + i) (length rules)))) where
  at : (i : ℕ) → (n + i < length rules) ⊎ (length rules ≤ n + i) → get_or (matches_of view rules) (n + i) false ≡ false
  at i (inl below) = missed (n + i) (omega arith) below
  at i (inr past) = get_or_past (matches_of view rules) (n + i) false (omega (arith, past, length-map rules (λ r. is_match r.rule view)))
next_is view rules n (Some k) found = sym (from_some view (drop n rules) n (k - n) hit before ∙ ap Some whole) where
  above : n ≤ k
  above = found.above

  below : k < length rules
  below = found.below

  whole : n + (k - n) ≡ k
  whole = omega (arith, above)

  hit : get_or (matches_of view (drop n rules)) (k - n) false ≡ true
  hit = behind view rules n (k - n) ∙ ap (λ i. get_or (matches_of view rules) i false) whole ∙ found.hit

  before : (i : ℕ) → i < k - n → get_or (matches_of view (drop n rules)) i false ≡ false
  before i less = behind view rules n i ∙ found.before (n + i) (omega arith) (omega (arith, less))

numbered : (P : Type 0) (Q : ℕ → Type 0) (r : Option Hit) → MatchOption r P (λ hit. Q hit.number) → MatchOption (hit_number r) P Q
numbered P Q None h = h
numbered P Q (Some hit) h = h

near_at : (view : Viewed) (facts : Facts) (rules : List Listed) (index : Indexed) (lent : List Fast) (address : ℕ) → lent ≡ index.rules
    → AreFacts view facts → address ≡ number_of facts.view.destination
    → IsIndexOf view.family rules index → IsNear index.buckets address (length lent) (near_of view rules)
near_at view facts rules index lent address e are at h =
    subst (λ (fs : List Fast). IsNear index.buckets address (length fs) (near_of view rules)) (sym e)
    (subst (λ (a : ℕ). IsNear index.buckets a (length index.rules) (near_of view rules)) (sym (at ∙ (λ i. number_of (are.same i).destination)))
    (are_near view rules index h are.small are.same_family))

-- What a search over the index says, by what it says of any list of tests that are near.
pub search_is : (view : Viewed) (facts : Facts) (rules : List Listed) (index : Indexed) (lent : List Fast) (address n : ℕ) (r : Option Hit)
    → lent ≡ index.rules → AreFacts view facts
    → address ≡ number_of facts.view.destination → IsIndexOf view.family rules index
    → ((near : List Bool) → IsNear index.buckets address (length lent) near → Within (hits facts lent) near
    → MatchOption r (Missed (hits facts lent) n (length lent)) (λ hit. Found (hits facts lent) n (length lent) hit.number))
    → hit_number r ≡ next_from n view rules
search_is view facts rules index lent address n r e are at h found =
    next_is view rules n (hit_number r) (numbered (Missed (matches_of view rules) n (length rules)) (Found (matches_of view rules) n (length rules)) r
    (subst (λ (m : ℕ). MatchOption r (Missed (matches_of view rules) n m) (λ hit. Found (matches_of view rules) n m hit.number)) size
    (subst (λ (bs : List Bool). MatchOption r (Missed bs n (length lent)) (λ hit. Found bs n (length lent) hit.number)) same own))) where
      size : length lent ≡ length rules
      size = ap length e ∙ stand_size rules index.rules h.stands

      same : hits facts lent ≡ matches_of view rules
      same = ap (hits facts) e ∙ hits_are view facts rules index.rules are h.stands

      own : MatchOption r (Missed (hits facts lent) n (length lent)) (λ hit. Found (hits facts lent) n (length lent) hit.number)
      own = found (near_of view rules) (near_at view facts rules index lent address e are at h)
          (subst (λ (bs : List Bool). Within bs (near_of view rules)) (sym same) (near_matched view rules h.each))

-- the rules that reach the packet, before a number and from it on
near_rest : (view : Viewed) (rules : List Listed) (n : ℕ) → marked n (near_of view rules) + reaching_from n view rules ≡ reaching view rules
near_rest view rules n =
    ap (λ (m : ℕ). marked n (near_of view rules) + m)
    (sym (ap (count_by (λ b. b)) (drop-map (λ (r : Listed). reaches view r.rule) n rules) ∙ near_count view (drop n rules)))
    ∙ (sum_by-take-drop (λ (b : Bool). cond b 1 0) (near_of view rules) n ∙ near_count view rules)

-- a bound over tests that are near, said of what is still ahead
ahead : (view : Viewed) (rules : List Listed) (from most before after : ℕ) (r : Option ℕ)
    → after + marked from (near_of view rules) ≤ before + marked (tested_to r most) (near_of view rules)
    → after + reaching_behind r view rules ≤ before + reaching_from from view rules
ahead view rules from most before after None h =
    let a : marked from (near_of view rules) + reaching_from from view rules ≡ reaching view rules = near_rest view rules from in
    let b : marked most (near_of view rules) ≤ count_by (λ b. b) (near_of view rules) = marked_most most (near_of view rules) in
    let c : count_by (λ b. b) (near_of view rules) ≡ reaching view rules = near_count view rules in
    omega (arith, h, a, b, c)
ahead view rules from most before after (Some k) h =
    let a : marked from (near_of view rules) + reaching_from from view rules ≡ reaching view rules = near_rest view rules from in
    let b : marked (k + 1) (near_of view rules) + reaching_from (k + 1) view rules ≡ reaching view rules = near_rest view rules (k + 1) in
    omega (arith, h, a, b)

pub steps_are : (view : Viewed) (facts : Facts) (rules : List Listed) (index : Indexed) (lent : List Fast) (address from before after : ℕ)
    (r : Option ℕ) → lent ≡ index.rules → AreFacts view facts
    → address ≡ number_of facts.view.destination → IsIndexOf view.family rules index
    → ((near : List Bool) → IsNear index.buckets address (length lent) near → after + marked from near ≤ before + marked (tested_to r (length lent)) near)
    → after + reaching_behind r view rules ≤ before + reaching_from from view rules
steps_are view facts rules index lent address from before after r e are at h bound =
    ahead view rules from (length lent) before after r (bound (near_of view rules) (near_at view facts rules index lent address e are at h))

-- no more are ahead than there are
pub no_more_steps : (view : Viewed) (rules : List Listed) (from before after : ℕ) (r : Option ℕ)
    → after + reaching_behind r view rules ≤ before + reaching_from from view rules → after ≤ before + reaching view rules
no_more_steps view rules from before after r h =
    let a : marked from (near_of view rules) + reaching_from from view rules ≡ reaching view rules = near_rest view rules from in
    omega (arith, h, a)

-- no family has more rules than the one that has more of them
pub no_more_rules : (rules : Family → List Listed) (compiled : Compiled) (most : ℕ) → StandsForLists rules compiled
    → most ≡ max (length compiled.v4.rules) (length compiled.v6.rules)
    → (family : Family) → length (rules family) ≤ most
no_more_rules rules compiled most h e V4 = let size : length compiled.v4.rules ≡ length (rules V4) =
    stand_size (rules V4) compiled.v4.rules h.v4.stands in omega (arith, e, size)
no_more_rules rules compiled most h e V6 = let size : length compiled.v6.rules ≡ length (rules V6) =
    stand_size (rules V6) compiled.v6.rules h.v6.stands in omega (arith, e, size)

pub most_rules : (rules : Family → List Listed) (compiled : Compiled) (most : ℕ) → StandsForLists rules compiled
    → most ≡ max (length compiled.v4.rules) (length compiled.v6.rules)
    → most ≡ max (length (rules V4)) (length (rules V6))
most_rules rules compiled most h e =
    e ∙ ap₂ max (stand_size (rules V4) compiled.v4.rules h.v4.stands) (stand_size (rules V6) compiled.v6.rules h.v6.stands)

-- behind the last rule nothing is found
pub none_behind : (view : Viewed) (rules : List Listed) (index : Indexed) (family : Family) (n : ℕ) → IsIndexOf family rules index
    → length index.rules ≤ n → None ≡ next_from n view rules
none_behind view rules index family n h past = sym (ap (first_from n view) (drop_of_length-le rules short)) where
  short : length rules ≤ n
  short = subst (λ m. m ≤ n) (stand_size rules index.rules h.stands) past
