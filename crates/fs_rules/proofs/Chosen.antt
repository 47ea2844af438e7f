-- What the kept validities tell is what is defined over all held routes.
use Rattle.fs_rules.proofs.Words.{ℕ, zero, suc, ◌≡◌, refl, sym, ap, ap₂, subst, ◌∙◌, Bool, true, false, not, ◌&&◌, ◌||◌, cond, List, [], ◌∷◌, filter}
use Rattle.fs_rules.proofs.Words.{map, slice_get, option_map, Option, list_any, AllByRecursion, Config, Family, each_weaker, filter_on, each_mapped}
use Rattle.fs_rules.proofs.Words.{Route, place_cmp, validity, FlowRoute, Kept, Held, is_of_family, is_valid, beats, is_most_preferred, admitted}
use Rattle.fs_rules.proofs.Words.{IsRuleOf, Judged, judged, listed, held_flows, judgement, listing, routes_of, AreRight, Keeps, is_chosen, chosen}
use Rattle.fs_rules.proofs.Words.{mended, AreSorted, of_family, routes-filter, AgreeOff, keeps-mended, agree_insert, agree_remove, insert_entry}
use Rattle.fs_rules.proofs.Words.{is_at, remove_entry, Prefix, Path, Place, is_to, Entry, IsSound, AreLent, AreTold}
use Rattle.fs_rules.proofs.Complete.{held_rising, is_admitted_list}
use Rattle.fs_flows.proofs.Places.{stands_here}

abbrev pub held_of : Config → List Route → List FlowRoute → Held
held_of config unicast flows = record { config = config; unicast = unicast; flows = flows }

abbrev pub with_flows : (List FlowRoute → List FlowRoute) → Held → Held
with_flows f held = record { config = held.config; unicast = held.unicast; flows = f held.flows }

abbrev pub with_unicast : (List Route → List Route) → Held → Held
with_unicast f held = record { config = held.config; unicast = f held.unicast; flows = held.flows }

pub flows_changed : (f : List FlowRoute → List FlowRoute) (config : Config) (unicast : List Route) (ks new : List Kept) (now : Held)
    → held_of config unicast (routes_of ks) ≡ now → routes_of new ≡ f (routes_of ks) → held_of config unicast (routes_of new) ≡ with_flows f now
flows_changed f config unicast ks new now v e = ap (held_of config unicast) e ∙ ap (with_flows f) v

pub unicast_changed : (f : List Route → List Route) (config : Config) (unicast other : List Route) (ks new : List Kept) (now : Held)
    → held_of config unicast (routes_of ks) ≡ now → other ≡ f unicast → routes_of new ≡ routes_of ks → held_of config other (routes_of new) ≡ with_unicast f now
unicast_changed f config unicast other ks new now v e k = ap (held_of config other) k ∙ ap (λ u. held_of config u (routes_of ks)) e ∙ ap (with_unicast f) v

beaten_is : (config : Config) (unicast : List Route) (r : FlowRoute) (ks : List Kept) → AreRight unicast config ks
    → list_any (λ s. is_valid s.validity && beats s.route r) ks ≡ list_any (λ s. is_valid (validity unicast config s) && beats s r) (routes_of ks)
beaten_is config unicast r [] h = refl
beaten_is config unicast r (k ∷ ks) h = ap₂ (λ a b. (is_valid a && beats k.route r) || b) h.0 (beaten_is config unicast r ks h.1)

pub chosen_is : (family : Family) (config : Config) (unicast : List Route) (ks : List Kept) → Keeps config unicast ks
    → routes_of (chosen family ks) ≡ admitted family (held_of config unicast (routes_of ks))
chosen_is family config unicast ks keeps =
    ap routes_of (filter_on (is_chosen family ks)
    (λ k. is_of_family family k.route && is_most_preferred (held_of config unicast (routes_of ks)) k.route) ks
    (each_weaker (λ k. k.validity ≡ validity unicast config k.route)
    (λ k. is_chosen family ks k ≡ (is_of_family family k.route && is_most_preferred (held_of config unicast (routes_of ks)) k.route)) same ks
    keeps.right))
    ∙ routes-filter (λ r. is_of_family family r && is_most_preferred (held_of config unicast (routes_of ks)) r) ks where
      same : (k : Kept) → k.validity ≡ validity unicast config k.route
          → is_chosen family ks k ≡ (is_of_family family k.route && is_most_preferred (held_of config unicast (routes_of ks)) k.route)
      same k e = ap₂ (λ a b. is_of_family family k.route && (is_valid a && not b)) e (beaten_is config unicast k.route ks keeps.right)

pub admitted_is : (family : Family) (config : Config) (unicast : List Route) (ks : List Kept) (now : Held) → Keeps config unicast ks
    → held_of config unicast (routes_of ks) ≡ now → routes_of (chosen family ks) ≡ admitted family now
admitted_is family config unicast ks now keeps v = chosen_is family config unicast ks keeps ∙ ap (admitted family) v

pub map-map : {X Y Z : Type 0} (f : X → Y) (g : Y → Z) (xs : List X) → map (λ x. g (f x)) xs ≡ map g (map f xs)
map-map f g [] = refl
map-map f g (x ∷ xs) = ap (λ ys. g (f x) ∷ ys) (map-map f g xs)

pub get-routes : (ks : List Kept) (n : ℕ) → option_map listing (slice_get ks n) ≡ option_map listed (slice_get (routes_of ks) n)
get-routes [] n = refl
get-routes (k ∷ ks) zero = refl
get-routes (k ∷ ks) (suc n) = get-routes ks n

-- the validities of the held routes of a family
marked_is : (family : Family) (config : Config) (unicast : List Route) (flows : List FlowRoute) (ks : List Kept) → AreRight unicast config ks
    → map judgement (filter (λ k. is_of_family family k.route) ks) ≡ map (judged (held_of config unicast flows)) (filter (is_of_family family) (routes_of ks))
marked_is family config unicast flows [] h = refl
marked_is family config unicast flows (k ∷ ks) h = at (is_of_family family k.route) (marked_is family config unicast flows ks h.1) where
  same : judgement k ≡ judged (held_of config unicast flows) k.route
  same = ap (λ m. let j : Judged = record { rule = k.route.rule; peer = k.route.peer; validity = m } in j) h.0

  at : (b : Bool) → map judgement (filter (λ k. is_of_family family k.route) ks)
      ≡ map (judged (held_of config unicast flows)) (filter (is_of_family family) (routes_of ks))
      → map judgement (cond b (k ∷ filter (λ k. is_of_family family k.route) ks) (filter (λ k. is_of_family family k.route) ks))
      ≡ map (judged (held_of config unicast flows))
      (cond b (k.route ∷ filter (is_of_family family) (routes_of ks)) (filter (is_of_family family) (routes_of ks)))
  at true ih = ap₂ (λ x xs. x ∷ xs) same ih
  at false ih = ih

pub held_is : (family : Family) (config : Config) (unicast : List Route) (ks : List Kept) (now : Held) → Keeps config unicast ks
    → held_of config unicast (routes_of ks) ≡ now
    → map judgement (filter (λ k. is_of_family family k.route) ks) ≡ held_flows family now
held_is family config unicast ks now keeps v = marked_is family config unicast (routes_of ks) ks keeps.right ∙ ap (held_flows family) v

pub keeps_after : (config : Config) (p : Prefix) (old new : List Route) (ks ms : List Kept) → AgreeOff p old new → ms ≡ map (mended p new config) ks
    → Keeps config old ks → Keeps config new ms
keeps_after config p old new ks ms agree e keeps = subst (Keeps config new) (sym e) (keeps-mended config p old new agree ks keeps)

pub agree_put : (place : Place) (path : Path) (old new : List Route) → new ≡ insert_entry place_cmp old place path → AgreeOff place.prefix old new
agree_put place path old new e = subst (AgreeOff place.prefix old) (sym e) (agree_insert place path old)

pub agree_taken : (place : Place) (old new : List Route) → new ≡ remove_entry (is_at (place_cmp place)) old → AgreeOff place.prefix old new
agree_taken place old new e = subst (AgreeOff place.prefix old) (sym e) (agree_remove place old)

admitted_to : (family : Family) (destination : Option Prefix) (config : Config) (unicast : List Route) (ks : List Kept) (now : Held)
    → Keeps config unicast ks → held_of config unicast (routes_of ks) ≡ now
    → routes_of (filter (stands_here family destination) (chosen family ks)) ≡ filter (λ r. is_to family destination r.rule) (admitted family now)
admitted_to family destination config unicast ks now keeps v = routes-filter (λ r. is_to family destination r.rule) (chosen family ks)
    ∙ ap (filter (λ r. is_to family destination r.rule)) (admitted_is family config unicast ks now keeps v)

pub told_now : (family : Family) (config : Config) (unicast : List Route) (ks : List Kept) (es : List Entry) (rest : List Kept) (now : Held)
    → Keeps config unicast ks → held_of config unicast (routes_of ks) ≡ now
    → AreLent family (chosen family ks) (of_family family ks) es rest → ((f : Family) → AllByRecursion (IsSound f) (chosen f ks)) → AreTold family now es rest
told_now family config unicast ks es rest now keeps v lent rules = record {
  sorted = lent.sorted;
  bare = lent.bare;
  few = lent.few;
  admits = ap routes_of lent.whole ∙ admitted_is family config unicast ks now keeps v;
  to = λ d. ap routes_of (lent.to d) ∙ admitted_to family d config unicast ks now keeps v;
  judges = ap (map judgement) lent.routes ∙ held_is family config unicast ks now keeps v;
  list = λ f. is_admitted_list f now sorted;
  rules = λ f. subst (AllByRecursion (IsRuleOf f)) (admitted_is f config unicast ks now keeps v)
      (each_mapped (λ k. k.route) (IsRuleOf f) (chosen f ks) (rules f));
  rising = held_rising family now sorted;
} where
  sorted : AreSorted now.flows
  sorted = subst AreSorted (ap (λ (held : Held). held.flows) v) keeps.sorted
