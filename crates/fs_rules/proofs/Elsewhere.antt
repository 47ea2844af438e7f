-- Of the rules that a change doesn't touch the same routes are admitted, since a route is beaten only by one of its rule.
use Rattle.fs_rules.proofs.Words.{◌≡◌, refl, sym, ap, ap₂, subst, ◌∙◌, Bool, true, false, not, ◌&&◌, ◌||◌, cond, List, [], ◌∷◌, filter, IfSome}
use Rattle.fs_rules.proofs.Words.{Option, Some, Ordering, Less, Equal, Greater, nat_cmp, ℕ, list_any, AllByRecursion, match_ordering, Config, Family}
use Rattle.fs_rules.proofs.Words.{Prefix, and_both, and_first, and_second, false_of_not, or_second, same_tests, any_filter, any_on, each, each_both}
use Rattle.fs_rules.proofs.Words.{each_weaker, filter_none, filter_on, each_mapped, equal_of_is_eq, Ruled, IsRule, destination_prefix, rule_cmp}
use Rattle.fs_rules.proofs.Words.{first_equal, same_rules, preferred, IsSwapOf, Route, Swap, validity, FlowRoute, Kept, IsRight, AreRight, IsMarked}
use Rattle.fs_rules.proofs.Words.{has_route, none_each}
use Rattle.fs_rules.proofs.Words.{is_related_kept, routes_of, HaveRules, MendsKept, AdmitsElsewhere, Covers, Noted, StaysNoted, is_noted, touched_by}
use Rattle.fs_rules.proofs.Words.{Held, admitted, beats, is_key, is_most_preferred, is_of_family, is_valid, key_cmp, put_route, same_rule}
use Rattle.fs_rules.proofs.Words.{without_route, AgreeOff, each-filtered, each-put_route, unrelated}
use Rattle.fs_rules.proofs.Chosen.{held_of}
use Rattle.fs_flows.proofs.{Changed.{all_stay}, Noting.{filter_both, joined, spares}}

filter_swap : {X : Type 0} (p q : X → Bool) (xs : List X) → filter p (filter q xs) ≡ filter q (filter p xs)
filter_swap p q xs = filter_both p q xs
    ∙ filter_on (λ x. q x && p x) (λ x. p x && q x) xs (each (λ x. (q x && p x) ≡ (p x && q x)) (λ x. turned (q x) (p x)) xs)
    ∙ sym (filter_both q p xs) where
      turned : (a b : Bool) → (a && b) ≡ (b && a)
      turned true true = refl
      turned true false = refl
      turned false true = refl
      turned false false = refl

module _ (touched : Ruled → Bool) where
  abbrev pub HasRule : FlowRoute → Type 0
  HasRule r = IsRule r.rule

  -- Whatever routes of touched rules come and go, others are beaten by the same routes as before.
  module _ (config : Config) (unicast : List Route) where
    abbrev wins : FlowRoute → FlowRoute → Bool
    wins r s = is_valid (validity unicast config s) && beats s r

    rival_spared : (r s : FlowRoute) → HasRule r → HasRule s → spares touched r ≡ true → wins r s ≡ (spares touched s && wins r s)
    rival_spared r s h k e = same_tests (wins r s) (spares touched s && wins r s)
        (λ w. and_both (spares touched s) (wins r s) (ap (λ rule. not (touched rule)) (same w) ∙ e) w)
        (λ w. and_second (spares touched s) (wins r s) w) where
          same : wins r s ≡ true → s.rule ≡ r.rule
          same w = same_rules s.rule r.rule k h
              (equal_of_is_eq (rule_cmp s.rule r.rule)
              (and_first (same_rule s r) (preferred (s.peer, s.path) (r.peer, r.path)) (and_second (is_valid (validity unicast config s)) (beats s r) w)))

    beaten_spared : (r : FlowRoute) → HasRule r → spares touched r ≡ true → (flows : List FlowRoute) → AllByRecursion HasRule flows
        → list_any (wins r) flows ≡ list_any (wins r) (filter (spares touched) flows)
    beaten_spared r h e flows k = any_on (wins r) (λ s. spares touched s && wins r s) flows
        (each_weaker HasRule (λ s. wins r s ≡ (spares touched s && wins r s)) (λ s t. rival_spared r s h t e) flows k)
        ∙ sym (any_filter (spares touched) (wins r) flows)

    abbrev is_in : Family → List FlowRoute → FlowRoute → Bool
    is_in family flows r = is_of_family family r && is_most_preferred (held_of config unicast flows) r

    elsewhere : (flows other : List FlowRoute) → AllByRecursion HasRule flows → AllByRecursion HasRule other
        → filter (spares touched) other ≡ filter (spares touched) flows
        → AdmitsElsewhere touched (held_of config unicast flows) (held_of config unicast other)
    elsewhere flows other h k e family =
        filter_swap (spares touched) (is_in family other) other
        ∙ ap (filter (is_in family other)) e
        ∙ filter_on (is_in family other) (is_in family flows) (filter (spares touched) flows)
        (each-filtered HasRule (λ r. is_in family other r ≡ is_in family flows r) (spares touched) same flows h)
        ∙ filter_swap (is_in family flows) (spares touched) flows where
          same : (r : FlowRoute) → HasRule r → spares touched r ≡ true → is_in family other r ≡ is_in family flows r
          same r s t = ap (λ b. is_of_family family r && (is_valid (validity unicast config r) && not b)) (beaten_spared r s t other k
              ∙ ap (list_any (wins r)) e ∙ sym (beaten_spared r s t flows h))

  -- Where the flow routes stay, and others' validities, others are admitted as before.
  pub revalued : (config : Config) (unicast other : List Route) (flows : List FlowRoute) → AllByRecursion HasRule flows
      → AllByRecursion (λ r. spares touched r ≡ true → validity other config r ≡ validity unicast config r) flows
      → AdmitsElsewhere touched (held_of config unicast flows) (held_of config other flows)
  revalued config unicast other flows h same family =
      filter_swap (spares touched) (is_in config other family flows) flows
      ∙ filter_on (is_in config other family flows) (is_in config unicast family flows) (filter (spares touched) flows)
      (each-filtered (λ r. HasRule r × (spares touched r ≡ true → IsSame r))
      (λ r. is_in config other family flows r ≡ is_in config unicast family flows r) (spares touched)
      (λ r f e. ap₂ (λ v b. is_of_family family r && (is_valid v && not b)) (f.1 e) (beaten r f.0 e)) flows
      (each_both HasRule (λ r. spares touched r ≡ true → IsSame r) (λ r. HasRule r × (spares touched r ≡ true → IsSame r)) (λ r a b. (a, b)) flows h same))
      ∙ filter_swap (is_in config unicast family flows) (spares touched) flows where
        IsSame : FlowRoute → Type 0
        IsSame r = validity other config r ≡ validity unicast config r

        beaten : (r : FlowRoute) → HasRule r → spares touched r ≡ true → list_any (wins config other r) flows ≡ list_any (wins config unicast r) flows
        beaten r k e = beaten_spared config other r k e flows h
            ∙ any_on (wins config other r) (wins config unicast r) (filter (spares touched) flows)
            (each-filtered (λ s. spares touched s ≡ true → IsSame s) (λ s. wins config other r s ≡ wins config unicast r s) (spares touched)
            (λ s f t. ap (λ v. is_valid v && beats s r) (f t)) flows same)
            ∙ sym (beaten_spared config unicast r k e flows h)

  -- A route of a touched rule comes.
  put_spared : (r : FlowRoute) → HasRule r → touched r.rule ≡ true → (flows : List FlowRoute) → AllByRecursion HasRule flows
      → filter (spares touched) (put_route r flows) ≡ filter (spares touched) flows
  put_spared r h t [] k = ap (λ b. cond (not b) (r ∷ []) []) t
  put_spared r h t (x ∷ xs) k = at (key_cmp r.rule r.peer x) refl (put_spared r h t xs k.1) where
    at : (o : Ordering) → key_cmp r.rule r.peer x ≡ o → filter (spares touched) (put_route r xs) ≡ filter (spares touched) xs
        → filter (spares touched) (match_ordering o (r ∷ x ∷ xs) (r ∷ xs) (x ∷ put_route r xs)) ≡ filter (spares touched) (x ∷ xs)
    at Less e ih = ap (λ b. cond (not b) (r ∷ filter (spares touched) (x ∷ xs)) (filter (spares touched) (x ∷ xs))) t
    at Equal e ih = ap (λ b. cond (not b) (r ∷ filter (spares touched) xs) (filter (spares touched) xs)) t
        ∙ sym (ap (λ b. cond (not b) (x ∷ filter (spares touched) xs) (filter (spares touched) xs))
        (ap touched (sym (same_rules r.rule x.rule h k.0 (first_equal (rule_cmp r.rule x.rule) (nat_cmp r.peer x.peer) e))) ∙ t))
    at Greater e ih = ap (λ ys. cond (spares touched x) (x ∷ ys) ys) ih

  pub put_elsewhere : (config : Config) (unicast : List Route) (r : FlowRoute) (ks : List Kept) (new : List FlowRoute) (now : Held)
      → held_of config unicast (routes_of ks) ≡ now → new ≡ put_route r (routes_of ks)
      → IsRule r.rule → HaveRules ks → touched r.rule ≡ true → AdmitsElsewhere touched now (held_of config unicast new)
  put_elsewhere config unicast r ks new now v e h k t = subst (λ held. AdmitsElsewhere touched held (held_of config unicast new)) v
      (subst (λ flows. AdmitsElsewhere touched (held_of config unicast (routes_of ks)) (held_of config unicast flows)) (sym e)
      (elsewhere config unicast (routes_of ks) (put_route r (routes_of ks)) all (each-put_route HasRule r h (routes_of ks) all)
      (put_spared r h t (routes_of ks) all))) where
        all : AllByRecursion HasRule (routes_of ks)
        all = each_mapped (λ k. k.route) HasRule ks k

  -- The route of a touched rule goes.
  taken_spared : (rule : Ruled) (peer : ℕ) → IsRule rule → touched rule ≡ true → (flows : List FlowRoute) → AllByRecursion HasRule flows
      → filter (spares touched) (without_route rule peer flows) ≡ filter (spares touched) flows
  taken_spared rule peer h t flows k = filter_both (spares touched) (λ r. not (is_key rule peer r)) flows
      ∙ filter_on (λ r. not (is_key rule peer r) && spares touched r) (spares touched) flows
      (each_weaker HasRule (λ r. (not (is_key rule peer r) && spares touched r) ≡ spares touched r) (λ r s. at r s (is_key rule peer r) refl) flows k) where
        at : (r : FlowRoute) → HasRule r → (b : Bool) → is_key rule peer r ≡ b → (not b && spares touched r) ≡ spares touched r
        at r s true e = sym (ap not (ap touched
            (sym (same_rules rule r.rule h s (first_equal (rule_cmp rule r.rule) (nat_cmp peer r.peer) (equal_of_is_eq (key_cmp rule peer r) e)))) ∙ t))
        at r s false e = refl

  pub taken_elsewhere : (config : Config) (unicast : List Route) (rule : Ruled) (peer : ℕ) (ks : List Kept) (new : List FlowRoute) (now : Held)
      → held_of config unicast (routes_of ks) ≡ now → new ≡ without_route rule peer (routes_of ks)
      → IsRule rule → HaveRules ks → touched rule ≡ true → AdmitsElsewhere touched now (held_of config unicast new)
  taken_elsewhere config unicast rule peer ks new now v e h k t = subst (λ held. AdmitsElsewhere touched held (held_of config unicast new)) v
      (subst (λ flows. AdmitsElsewhere touched (held_of config unicast (routes_of ks)) (held_of config unicast flows)) (sym e)
      (elsewhere config unicast (routes_of ks) (without_route rule peer (routes_of ks)) all
      (each-filtered HasRule HasRule (λ r. not (is_key rule peer r)) (λ r s _. s) (routes_of ks) all)
      (taken_spared rule peer h t (routes_of ks) all))) where
        all : AllByRecursion HasRule (routes_of ks)
        all = each_mapped (λ k. k.route) HasRule ks k

-- a swap that was told
pub swap_told : (peer : ℕ) (p : Prefix) (unicast other : List Route) {told : Option Swap} {swap : Swap}
    → IfSome told (λ s. IsSwapOf peer p s unicast other) → told ≡ Some swap → IsSwapOf peer p swap unicast other
swap_told peer p unicast other h e = subst (λ m. IfSome m (λ s. IsSwapOf peer p s unicast other)) e h

-- what is mended at its prefix is so at this one
pub mends_at : {peer : ℕ} {p : Prefix} {swap : Swap} {config : Config} {unicast other : List Route} {ks ms : List Kept} {noted more :
    Noted} {before after : ℕ} → IsSwapOf peer p swap unicast other
    → MendsKept swap.prefix other config ks ms noted more before after → MendsKept p other config ks ms noted more before after
mends_at {config = config} {other = other} {ks} {ms} {noted} {more} {before} {after} s m =
    subst (λ q. MendsKept q other config ks ms noted more before after) s.at_prefix m

-- where each related route that isn't noted has the validity that it had, the same rules are admitted but for the noted
pub related_elsewhere : (noted : Noted) (p : Prefix) (config : Config) (unicast other : List Route) (ks ms : List Kept) (old : Held)
    → held_of config unicast (routes_of ks) ≡ old → AgreeOff p unicast other → AreRight unicast config ks
    → routes_of ms ≡ routes_of ks → HaveRules ks → AllByRecursion (IsMarked noted p other config) ks
    → AdmitsElsewhere (is_noted noted) old (held_of config other (routes_of ms))
related_elsewhere noted p config unicast other ks ms old view agree right e rules marked =
    subst (λ held. AdmitsElsewhere (is_noted noted) held (held_of config other (routes_of ms))) view
    (subst (λ flows. AdmitsElsewhere (is_noted noted) (held_of config unicast (routes_of ks)) (held_of config other flows)) (sym e)
    (revalued (is_noted noted) config unicast other (routes_of ks) (each_mapped (λ k. k.route) (λ r. IsRule r.rule) ks rules)
    (each_mapped (λ k. k.route) Stays ks
    (each_both (IsRight unicast config) (λ k. IsRule k.route.rule × IsMarked noted p other config k) (λ k. Stays k.route)
    (λ k r both. at k (is_related_kept p k) refl r both.0 both.1) ks right
    (each_both (λ k. IsRule k.route.rule) (IsMarked noted p other config) (λ k. IsRule k.route.rule × IsMarked noted p other config k)
    (λ k a b. (a, b)) ks rules marked)))))
  where
    Stays : FlowRoute → Type 0
    Stays r = not (is_noted noted r.rule) ≡ true → validity other config r ≡ validity unicast config r

    at : (k : Kept) (b : Bool) → is_related_kept p k ≡ b → IsRight unicast config k → IsRule k.route.rule → IsMarked noted p other config k → Stays k.route
    at k true t r rule m e = sym (m rule (false_of_not (is_noted noted k.route.rule) e) t) ∙ r
    at k false t r rule m e = sym (unrelated config k.route (destination_prefix k.route.rule) p unicast other agree t)

-- with all places at which a rule may have changed
pub covers_noted : (base old new : Held) (a b : Noted) → StaysNoted a b → AdmitsElsewhere (is_noted b) old new → Covers base a old → Covers base b new
covers_noted base old new a b stays k h none = at a.all refl where
  placed : (rule : Ruled) → is_noted b rule ≡ true → touched_by b.places rule ≡ true
  placed rule n = ap (λ c. c || touched_by b.places rule) (sym none) ∙ n

  at : (c : Bool) → a.all ≡ c → AdmitsElsewhere (touched_by b.places) base new
  at true e = (λ family. empty (admitted family new) ∙ sym (empty (admitted family base))) where
    empty : (xs : List FlowRoute) → filter (spares (touched_by b.places)) xs ≡ []
    empty xs = filter_none (spares (touched_by b.places)) xs
        (each (λ r. spares (touched_by b.places) r ≡ false) (λ r. ap not (placed r.rule (stays r.rule (ap (λ c. c || touched_by a.places r.rule) e))))
        xs)
  at false e = joined (touched_by a.places) (is_noted b) (touched_by b.places)
      (λ rule t. placed rule (stays rule (or_second a.all (touched_by a.places rule) t))) placed base old new (h e) k

-- a table from which a route is taken that it doesn't hold stays as it is
pub without_nothing : (rule : Ruled) (peer : ℕ) (old new : Held)
    → new ≡ record { config = old.config; unicast = old.unicast; flows = without_route rule peer old.flows } → has_route rule peer old.flows ≡ false
    → new ≡ old
without_nothing rule peer old new e none = e
    ∙ ap (held_of old.config old.unicast) (all_stay (is_key rule peer) old.flows (none_each (is_key rule peer) old.flows none))
