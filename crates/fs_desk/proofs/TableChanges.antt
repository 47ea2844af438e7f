-- What each call of the table changes.
use Rattle.fs_desk.proofs.Words.{◌≡◌, ◌==◌, ℕ, List, [], ◌∷◌, Bool, true, false, not, ◌&&◌, ◌||◌, cond, Option, Some, None, if◌then◌else◌, map}
use Rattle.fs_desk.proofs.Words.{option_map, refl, ap, sym, subst, ◌∙◌, true≢false, arith, nat_tests, Ordering, Less, Equal, Greater, is_eq}
use Rattle.fs_desk.proofs.Words.{ordering_reverse, match_ordering, IsTotalOrder, eq_by_cmp_equiv, IsStrictlySortedBy, remove_entry, keys_of}
use Rattle.fs_desk.proofs.Words.{insert_entry, is_at, lookup-remove_entry, IsDistinct-from_sorted, Path, Prefix, equal_of_is_eq, Ruled, shown}
use Rattle.fs_desk.proofs.Words.{rule_cmp, place_cmp, Route, Place, place_total, FlowRoute, Held, put_route, without_route, without_peer}
use Rattle.fs_desk.proofs.Words.{without_peer_unicast, without_peer_flows, unicast_at, flow_at, flow_key, flow_key_cmp, FlowKey, given_of, is_prefix}
use Rattle.fs_desk.proofs.Words.{is_rule, Changes, same, nothing, taken_of, given_at, rules_taken, rules_given, given_or, lookup-insert_entry}
use Rattle.fs_desk.proofs.Words.{sorted-insert_entry, sorted-remove_entry}
use Rattle.fs_desk.proofs.KeyedLists.{at_key, put_by, at_key-put_by, at_key-without, at_key-filter, listed-put_by, listed-filter}
use Rattle.fs_desk.proofs.Keys.{flow_key_total, place_same, key_same}

reverse_eq : (r : Ordering) → is_eq (ordering_reverse r) ≡ is_eq r
reverse_eq Less = refl
reverse_eq Equal = refl
reverse_eq Greater = refl

place_swapped : (a b : Place) → is_eq (place_cmp a b) ≡ is_eq (place_cmp b a)
place_swapped a b = ap is_eq (IsTotalOrder.antisymm place_total a b) ∙ reverse_eq (place_cmp b a)

untouched : {A : Type 0} (b : Bool) (a : A) → a ≡ (if b then a else a)
untouched true a = refl
untouched false a = refl

-- taking one prefix of the peer away
taken_choice : (a b : Bool) (before : Option Path) → cond (a && b) None before ≡ (if b then (if (a || false) then None else before) else before)
taken_choice true true before = refl
taken_choice true false before = refl
taken_choice false true before = refl
taken_choice false false before = refl

pub changes_taken : (peer : ℕ) (prefix : Prefix) (held : Held) (place : Place) → place ≡ record { prefix = prefix; peer = peer }
    → Changes peer (taken_of (shown prefix ∷ [])) same held (record held { unicast = remove_entry (is_at (place_cmp place)) held.unicast })
changes_taken peer prefix held place e = record {
  config_is = refl;
  listed = λ l. record { unicast = sorted-remove_entry place_cmp place_total (is_at (place_cmp place)) held.unicast l.unicast; flows = l.flows };
  unicast = λ l q.
      lookup-remove_entry (eq_by_cmp_equiv place_total) (is_at (place_cmp place))
      (λ x y h. ap is_eq (IsTotalOrder.congr place_total place x y (equal_of_is_eq (place_cmp place x) h))) q held.unicast
      (IsDistinct-from_sorted place_cmp (keys_of held.unicast) l.unicast)
      ∙ ap (λ (b : Bool). cond b None (unicast_at q held.unicast)) (place_swapped place q ∙ place_same q place)
      ∙ ap (λ (p : Place). cond (is_prefix q.prefix (shown p.prefix) && (q.peer == p.peer)) None (unicast_at q held.unicast)) e
      ∙ taken_choice (is_prefix q.prefix (shown prefix)) (q.peer == peer) (unicast_at q held.unicast);
  flows = λ l rule other. untouched (other == peer) (flow_at rule other held.flows);
}

given_choice : (a b : Bool) (path : Path) (before : Option Path)
    → (if (a && b) then Some path else before) ≡ (if b then (if (a || false) then Some path else before) else before)
given_choice true true path before = refl
given_choice true false path before = refl
given_choice false true path before = refl
given_choice false false path before = refl

pub changes_given : (peer : ℕ) (prefix : Prefix) (path : Path) (held : Held) (place : Place) → place ≡ record { prefix = prefix; peer = peer }
    → Changes peer (given_at (shown prefix ∷ []) path) same held (record held { unicast = insert_entry place_cmp held.unicast place path })
changes_given peer prefix path held place e = record {
  config_is = refl;
  listed = λ l. record { unicast = sorted-insert_entry place_cmp place_total place path held.unicast l.unicast; flows = l.flows };
  unicast = λ l q.
      lookup-insert_entry place_cmp place_total q place path held.unicast
      ∙ ap (λ (b : Bool). if b then Some path else unicast_at q held.unicast) (place_same q place)
      ∙ ap (λ (p : Place). if (is_prefix q.prefix (shown p.prefix) && (q.peer == p.peer)) then Some path else unicast_at q held.unicast) e
      ∙ given_choice (is_prefix q.prefix (shown prefix)) (q.peer == peer) path (unicast_at q held.unicast);
  flows = λ l rule other. untouched (other == peer) (flow_at rule other held.flows);
}

rule_taken_choice : (a b : Bool) (found : Option FlowRoute)
    → option_map given_of (if (a && b) then None else found)
    ≡ (if b then (if (a || false) then None else option_map given_of found) else option_map given_of found)
rule_taken_choice true true found = refl
rule_taken_choice true false found = refl
rule_taken_choice false true found = refl
rule_taken_choice false false found = refl

pub changes_rule_taken : (peer : ℕ) (rule : Ruled) (held : Held)
    → Changes peer same (rules_taken (rule ∷ [])) held (record held { flows = without_route rule peer held.flows })
changes_rule_taken peer rule held = record {
  config_is = refl;
  listed = λ l. record {
    unicast = l.unicast;
    flows =
        listed-filter flow_key flow_key_cmp flow_key_total (λ r. not (is_eq (flow_key_cmp (rule, peer) (flow_key r)))) held.flows l.flows;
  };
  unicast = λ l place. untouched (place.peer == peer) (unicast_at place held.unicast);
  flows = λ l other from.
      ap (option_map given_of) (at_key-without flow_key flow_key_cmp flow_key_total (other, from) (rule, peer) held.flows)
      ∙ ap (λ (b : Bool). option_map given_of (if b then None else at_key flow_key flow_key_cmp (other, from) held.flows)) (key_same other rule from peer)
      ∙ rule_taken_choice (is_rule other rule) (from == peer) (at_key flow_key flow_key_cmp (other, from) held.flows);
}

put_same : (r : FlowRoute) (flows : List FlowRoute) → put_route r flows ≡ put_by flow_key flow_key_cmp r flows
put_same r [] = refl
put_same r (x ∷ xs) = ap (λ (rest : List FlowRoute). match_ordering (flow_key_cmp (flow_key r) (flow_key x)) (r ∷ x ∷ xs) (r ∷ xs) (x ∷ rest)) (put_same r xs)

rule_given_choice : (a b : Bool) (r : FlowRoute) (found : Option FlowRoute)
    → option_map given_of (if (a && b) then Some r else found)
    ≡ (if b then given_or (option_map given_of found) (if a then Some r.rule else None) r.path r.actions else option_map given_of found)
rule_given_choice true true r found = refl
rule_given_choice true false r found = refl
rule_given_choice false true r found = refl
rule_given_choice false false r found = refl

pub changes_rule_given : (r : FlowRoute) (held : Held)
    → Changes r.peer same (rules_given (r.rule ∷ []) r.path r.actions) held (record held { flows = put_route r held.flows })
changes_rule_given r held = record {
  config_is = refl;
  listed = λ l. record {
    unicast = l.unicast;
    flows = subst (λ (flows : List FlowRoute). IsStrictlySortedBy flow_key_cmp (map flow_key flows)) (sym (put_same r held.flows))
        (listed-put_by flow_key flow_key_cmp flow_key_total r held.flows l.flows);
  };
  unicast = λ l place. untouched (place.peer == r.peer) (unicast_at place held.unicast);
  flows = λ l other from.
      ap (λ (flows : List FlowRoute). flow_at other from flows) (put_same r held.flows)
      ∙ ap (option_map given_of) (at_key-put_by flow_key flow_key_cmp flow_key_total (other, from) r held.flows)
      ∙ ap (λ (b : Bool). option_map given_of (if b then Some r else at_key flow_key flow_key_cmp (other, from) held.flows)) (key_same other r.rule from r.peer)
      ∙ rule_given_choice (is_rule other r.rule) (from == r.peer) r (at_key flow_key flow_key_cmp (other, from) held.flows);
}

lost_flow : (b : Bool) (found : Option FlowRoute) → option_map given_of (if not b then found else None) ≡ (if b then None else option_map given_of found)
lost_flow true found = refl
lost_flow false found = refl

as_element : (place : Place) (es : List Route) → unicast_at place es ≡ option_map (λ (e : Route). e.1) (at_key (λ (e : Route). e.0) place_cmp place es)
as_element place [] = refl
as_element place (e ∷ es) = at (is_eq (place_cmp place e.0)) (as_element place es)
  where
    at : (b : Bool) → unicast_at place es ≡ option_map (λ (x : Route). x.1) (at_key (λ (x : Route). x.0) place_cmp place es)
        → cond b (Some e.1) (unicast_at place es) ≡ option_map (λ (x : Route). x.1) (cond b (Some e) (at_key (λ (x : Route). x.0) place_cmp place es))
    at true h = refl
    at false h = h

mapped_choice : (b : Bool) (found : Option Route)
    → option_map (λ (e : Route). e.1) (if not b then found else None) ≡ (if b then None else option_map (λ (e : Route). e.1) found)
mapped_choice true found = refl
mapped_choice false found = refl

same_peer : (peer : ℕ) (a b : Place) → place_cmp a b ≡ Equal → not (a.peer == peer) ≡ not (b.peer == peer)
same_peer peer a b h = at (is_prefix a.prefix (shown b.prefix)) (sym (place_same a b) ∙ ap is_eq h)
  where
    at : (x : Bool) → (x && (a.peer == b.peer)) ≡ true → not (a.peer == peer) ≡ not (b.peer == peer)
    at true e = grind (arith, nat_tests)
    at false e = absurd (true≢false (sym e))

same_from : (peer : ℕ) (a b : FlowKey) → flow_key_cmp a b ≡ Equal → not (a.1 == peer) ≡ not (b.1 == peer)
same_from peer a b h = at (is_eq (rule_cmp a.0 b.0)) (sym (key_same a.0 b.0 a.1 b.1) ∙ ap is_eq h)
  where
    at : (x : Bool) → (x && (a.1 == b.1)) ≡ true → not (a.1 == peer) ≡ not (b.1 == peer)
    at true e = grind (arith, nat_tests)
    at false e = absurd (true≢false (sym e))

pub changes_lost : (peer : ℕ) (held : Held)
    → Changes peer nothing nothing held (record held { unicast = without_peer_unicast peer held.unicast; flows = without_peer_flows peer held.flows })
changes_lost peer held = record {
  config_is = refl;
  listed = λ l. record {
    unicast = listed-filter (λ (e : Route). e.0) place_cmp place_total (λ (e : Route). not (e.0.peer == peer)) held.unicast l.unicast;
    flows = listed-filter flow_key flow_key_cmp flow_key_total (λ (r : FlowRoute). not (r.peer == peer)) held.flows l.flows;
  };
  unicast = λ l place.
      as_element place (without_peer_unicast peer held.unicast)
      ∙ ap (option_map (λ (e : Route). e.1))
      (at_key-filter (λ (e : Route). e.0) place_cmp place_total (λ (p : Place). not (p.peer == peer)) (same_peer peer) place held.unicast)
      ∙ mapped_choice (place.peer == peer) (at_key (λ (e : Route). e.0) place_cmp place held.unicast)
      ∙ ap (λ (o : Option Path). if (place.peer == peer) then None else o) (sym (as_element place held.unicast));
  flows = λ l rule other.
      ap (option_map given_of) (at_key-filter flow_key flow_key_cmp flow_key_total (λ (k : FlowKey). not (k.1 == peer)) (same_from peer) (
        rule,
        other,
      ) held.flows)
      ∙ lost_flow (other == peer) (at_key flow_key flow_key_cmp (rule, other) held.flows);
}

-- the same, of the table behind the call
pub taken_to : (peer : ℕ) (prefix : Prefix) (held new : Held) (place : Place) → place ≡ record { prefix = prefix; peer = peer }
    → new ≡ record held { unicast = remove_entry (is_at (place_cmp place)) held.unicast } → Changes peer (taken_of (shown prefix ∷ [])) same held new
taken_to peer prefix held new place e h =
    subst (λ (n : Held). Changes peer (taken_of (shown prefix ∷ [])) same held n) (sym h) (changes_taken peer prefix held place e)

pub given_to : (peer : ℕ) (prefix : Prefix) (path : Path) (held new : Held) (place : Place) → place ≡ record { prefix = prefix; peer = peer }
    → new ≡ record held { unicast = insert_entry place_cmp held.unicast place path } → Changes peer (given_at (shown prefix ∷ []) path) same held new
given_to peer prefix path held new place e h =
    subst (λ (n : Held). Changes peer (given_at (shown prefix ∷ []) path) same held n) (sym h) (changes_given peer prefix path held place e)

pub rule_taken_to : (peer : ℕ) (rule : Ruled) (held new : Held)
    → new ≡ record held { flows = without_route rule peer held.flows } → Changes peer same (rules_taken (rule ∷ [])) held new
rule_taken_to peer rule held new h = subst (λ (n : Held). Changes peer same (rules_taken (rule ∷ [])) held n) (sym h) (changes_rule_taken peer rule held)

pub rule_given_to : (r : FlowRoute) (held new : Held)
    → new ≡ record held { flows = put_route r held.flows } → Changes r.peer same (rules_given (r.rule ∷ []) r.path r.actions) held new
rule_given_to r held new h = subst (λ (n : Held). Changes r.peer same (rules_given (r.rule ∷ []) r.path r.actions) held n) (sym h) (changes_rule_given r held)

pub lost_to : (peer : ℕ) (held new : Held)
    → new ≡ without_peer peer held → Changes peer nothing nothing held new
lost_to peer held new h = subst (λ (n : Held). Changes peer nothing nothing held n) (sym h) (changes_lost peer held)
