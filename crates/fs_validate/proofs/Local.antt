-- The validity of a flow route reads only the unicast routes that its destination is related to.
use Rattle.fs_validate.proofs.Words.{ℕ, ◌≡◌, refl, sym, ap, ◌∙◌, Bool, true, false, true≢false, not, ◌&&◌, ◌||◌, cond, List, [], ◌∷◌, filter, map}
use Rattle.fs_validate.proofs.Words.{Option, Some, None, nat_le, list_any, list_all, covers, Prefix, Config, and_first, false_from, or_first}
use Rattle.fs_validate.proofs.Words.{or_second, Route, best_of, best_match_of, is_longest, others_under, is_other, is_strictly_under, is_same_prefix}
use Rattle.fs_validate.proofs.Words.{candidate, FlowRoute, Valid, MoreSpecific, LeftAs, Originator, validity, validity_to, validity_at}
use Rattle.fs_validate.proofs.Words.{neighbour_of_best, has_originator, has_leftmost, is_related, related, AgreeAt, AgreeFor, destination_prefix}

pub any_within : {X : Type 0} (p q : X → Bool) → ((x : X) → p x ≡ true → q x ≡ true) → (xs : List X) → list_any p (filter q xs) ≡ list_any p xs
any_within p q h [] = refl
any_within {X} p q h (x ∷ xs) = at (q x) refl (any_within p q h xs) where
  drop : (b : Bool) → (b ≡ true → q x ≡ true) → q x ≡ false → (c : Bool) → c ≡ (b || c)
  drop true f e c = absurd (true≢false (sym (f refl) ∙ e))
  drop false f e c = refl

  at : (b : Bool) → q x ≡ b → list_any p (filter q xs) ≡ list_any p xs → list_any p (cond b (x ∷ filter q xs) (filter q xs)) ≡ (p x || list_any p xs)
  at true e ih = ap (λ c. p x || c) ih
  at false e ih = ih ∙ drop (p x) (h x) e (list_any p xs)

-- the elements that don't pass q pass p
all_within : {X : Type 0} (p q : X → Bool) → ((x : X) → q x ≡ false → p x ≡ true) → (xs : List X) → list_all p (filter q xs) ≡ list_all p xs
all_within p q h [] = refl
all_within {X} p q h (x ∷ xs) = at (q x) refl (all_within p q h xs) where
  drop : (b : Bool) → b ≡ true → (c : Bool) → c ≡ (b && c)
  drop true e c = refl
  drop false e c = absurd (true≢false (sym e))

  at : (b : Bool) → q x ≡ b → list_all p (filter q xs) ≡ list_all p xs → list_all p (cond b (x ∷ filter q xs) (filter q xs)) ≡ (p x && list_all p xs)
  at true e ih = ap (λ c. p x && c) ih
  at false e ih = ih ∙ drop (p x) (h x e) (list_all p xs)

same_filter : {X : Type 0} (p q : X → Bool) → ((x : X) → p x ≡ q x) → (xs : List X) → filter p xs ≡ filter q xs
same_filter p q h [] = refl
same_filter p q h (x ∷ xs) = let e : p x ≡ q x = h x in let k : filter p xs ≡ filter q xs = same_filter p q h xs in cc

filter_then : {X : Type 0} (p q : X → Bool) (xs : List X) → filter p (filter q xs) ≡ filter (λ x. q x && p x) xs
filter_then p q [] = refl
filter_then {X} p q (x ∷ xs) = at (q x) (filter_then p q xs) where
  at : (b : Bool) → filter p (filter q xs) ≡ filter (λ y. q y && p y) xs
      → filter p (cond b (x ∷ filter q xs) (filter q xs)) ≡ cond (b && p x) (x ∷ filter (λ y. q y && p y) xs) (filter (λ y. q y && p y) xs)
  at true ih = ap (λ ys. cond (p x) (x ∷ ys) ys) ih
  at false ih = ih

-- s's prefix is no longer than r's, if it covers d
abbrev pub no_longer : Prefix → Route → Route → Bool
no_longer d r s = not (covers s.0.prefix d) || nat_le s.0.prefix.length r.0.prefix.length

-- The best match of d is that of the routes whose prefixes pass a test, where each route that it may be passes, and none
-- that doesn't pass is longer than one that does.
pub best_match_among : (held : List Route) (d : Prefix) (test : Prefix → Bool) → ((r : Route) → is_longest held d r ≡ true → test r.0.prefix ≡ true)
    → ((r s : Route) → test r.0.prefix ≡ true → test s.0.prefix ≡ false → no_longer d r s ≡ true)
    → best_match_of (filter (λ r. test r.0.prefix) held) d ≡ best_match_of held d
best_match_among held d test passes shorter = ap (λ rs. best_of (map candidate rs))
    (filter_then (is_longest kept d) among held ∙ same_filter (λ r. among r && is_longest kept d r) (is_longest held d) (λ r. at r (among r) refl) held) where
      among : Route → Bool
      among r = test r.0.prefix

      kept : List Route
      kept = filter among held

      at : (r : Route) (b : Bool) → among r ≡ b → (b && is_longest kept d r) ≡ is_longest held d r
      at r true e = ap (λ b. covers r.0.prefix d && b) (all_within (no_longer d r) among (λ s f. shorter r s e f) held)
      at r false e = sym (false_from (is_longest held d r) (λ yes. true≢false (sym (passes r yes) ∙ e)))

-- so of those that pass a test which each cover of d passes
pub best_match_covers : (held : List Route) (d : Prefix) (test : Prefix → Bool) → ((q : Prefix) → covers q d ≡ true → test q ≡ true)
    → best_match_of (filter (λ r. test r.0.prefix) held) d ≡ best_match_of held d
best_match_covers held d test h = best_match_among held d test (λ r k. h r.0.prefix (and_first (covers r.0.prefix d) (list_all (no_longer d r) held) k))
    (λ r s _ f. or_first (not (covers s.0.prefix d)) (nat_le s.0.prefix.length r.0.prefix.length)
    (ap not (false_from (covers s.0.prefix d) (λ c. true≢false (sym (h s.0.prefix c) ∙ f)))))

-- whether another neighbouring AS is strictly under d is told by the routes that pass a test which each prefix there passes
pub others_among : (held : List Route) (d : Prefix) (local_as : ℕ) (asn : Option ℕ) (test : Prefix → Bool)
    → ((q : Prefix) → is_strictly_under d q ≡ true → test q ≡ true)
    → others_under (filter (λ r. test r.0.prefix) held) d local_as asn ≡ others_under held d local_as asn
others_among held d local_as asn test h = any_within (λ r. is_strictly_under d r.0.prefix && is_other local_as asn r.1) (λ r. test r.0.prefix)
    (λ r k. h r.0.prefix (and_first (is_strictly_under d r.0.prefix) (is_other local_as asn r.1) k)) held

-- both are those of the related routes
pub best_match_within : (held : List Route) (d : Prefix) → best_match_of (related d held) d ≡ best_match_of held d
best_match_within held d = best_match_covers held d (is_related d) (λ q h. or_first (covers q d) (covers d q) h)

pub others_within : (held : List Route) (d : Prefix) (local_as : ℕ) (asn : Option ℕ)
    → others_under (related d held) d local_as asn ≡ others_under held d local_as asn
others_within held d local_as asn =
    others_among held d local_as asn (is_related d) (λ q h. or_second (covers q d) (covers d q) (and_first (covers d q) (not (is_same_prefix d q)) h))

pub validity_within : (held : List Route) (config : Config) (route : FlowRoute) (d : Prefix)
    → validity_to (related d held) config route (Some d) ≡ validity_to held config route (Some d)
validity_within held config route d = let e : best_match_of (related d held) d ≡ best_match_of held d = best_match_within held d in
    let k : others_under (related d held) d config.local_as (neighbour_of_best config (best_match_of held d))
    ≡ others_under held d config.local_as (neighbour_of_best config (best_match_of held d)) =
    others_within held d config.local_as (neighbour_of_best config (best_match_of held d)) in
    ap (validity_at (related d held) config route d) e
    ∙ ap (λ b. cond (has_originator config route (best_match_of held d))
    (cond b MoreSpecific (cond (has_leftmost route (best_match_of held d)) Valid LeftAs)) Originator) k

pub validity_local : (config : Config) (route : FlowRoute) (destination : Option Prefix) (held other : List Route) → AgreeAt destination held other
    → validity_to held config route destination ≡ validity_to other config route destination
validity_local config route None held other h = refl
validity_local config route (Some d) held other h = sym (validity_within held config route d) ∙ ap (λ rs. validity_to rs config route (Some d)) h
    ∙ validity_within other config route d

-- the law
pub validity_agrees : (config : Config) (route : FlowRoute) (held other : List Route) → AgreeFor route held other
    → validity held config route ≡ validity other config route
validity_agrees config route held other h = validity_local config route (destination_prefix route.rule) held other h
