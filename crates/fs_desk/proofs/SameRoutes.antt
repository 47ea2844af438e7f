-- Tapes that leave the same routes leave one list of held routes.
use Rattle.fs_desk.proofs.Words.{◌≡◌, ℕ, List, [], ◌∷◌, Bool, true, false, cond, Some, option_map, refl, ap, sym, ◌∙◌, subst, map, find, Equal, is_eq}
use Rattle.fs_desk.proofs.Words.{nat_cmp, IsStrictlySortedBy, keys_of, prefix_cmp, Config, Path, Prefix, Ruled, rule_cmp, place_cmp, Route, Place}
use Rattle.fs_desk.proofs.Words.{place_total, FlowRoute, Held, Item, life, peer_of, Desked, IsListed, Leaves, LeavesBut, Played, PlayedBut, StandsAs}
use Rattle.fs_desk.proofs.Words.{session_at, standing_at_desk, flow_key, flow_key_cmp, given_of, unicast_at, flow_at, Given}
use Rattle.fs_desk.proofs.{KeyedSame.{value_at, one_list}, Keys.{flow_key_total}, Leaves.{played_leaves_but}, Standing.{desk_stands_but}}
use Rattle.fs_desk.specs.Laws.{LeaveSame}
use Rattle.fs_base.proofs.SamePrefix.{same_from_cmp}
use Rattle.fs_order.proofs.{Same.{first_equal, second_equal}, Pairs.{equal_numbers}}

abbrev placed : Prefix → ℕ → Place
placed prefix peer = record { prefix = prefix; peer = peer }

abbrev flow : ℕ → Ruled → Path → List (List ℕ) → FlowRoute
flow peer rule path actions = record { peer = peer; rule = rule; path = path; actions = actions }

abbrev held_with : Config → List Route → List FlowRoute → Held
held_with config unicast flows = record { config = config; unicast = unicast; flows = flows }

one_place : (p q : Place) → place_cmp p q ≡ Equal → p ≡ q
one_place p q e =
    let prefixes : p.prefix ≡ q.prefix = same_from_cmp p.prefix q.prefix (ap is_eq (first_equal (prefix_cmp p.prefix q.prefix) (nat_cmp p.peer q.peer) e)) in
    let peers : p.peer ≡ q.peer = equal_numbers p.peer q.peer (second_equal (prefix_cmp p.prefix q.prefix) (nat_cmp p.peer q.peer) e) in
    ap (λ (x : Prefix). placed x p.peer) prefixes ∙ ap (λ (n : ℕ). placed q.prefix n) peers

one_route : (x y : Route) → place_cmp x.0 y.0 ≡ Equal → x.1 ≡ y.1 → x ≡ y
one_route x y e f = ap (λ (p : Place). (p, x.1)) (one_place x.0 y.0 e) ∙ ap (λ (p : Path). (y.0, p)) f

one_flow : (x y : FlowRoute) → flow_key_cmp (flow_key x) (flow_key y) ≡ Equal → given_of x ≡ given_of y → x ≡ y
one_flow x y e f =
    let peers : x.peer ≡ y.peer = equal_numbers x.peer y.peer (second_equal (rule_cmp x.rule y.rule) (nat_cmp x.peer y.peer) e) in
    let rules : x.rule ≡ y.rule = ap (λ (g : Given). g.0) f in
    let paths : x.path ≡ y.path = ap (λ (g : Given). g.1) f in
    let actions : x.actions ≡ y.actions = ap (λ (g : Given). g.2) f in
    ap (λ (n : ℕ). flow n x.rule x.path x.actions) peers
    ∙ ap (λ (r : Ruled). flow y.peer r x.path x.actions) rules
    ∙ ap (λ (p : Path). flow y.peer y.rule p x.actions) paths
    ∙ ap (λ (a : List (List ℕ)). flow y.peer y.rule y.path a) actions

abbrev place_of : Route → Place
place_of r = r.0

abbrev path_of : Route → Path
path_of r = r.1

looked_up : (place : Place) (routes : List Route) → unicast_at place routes ≡ value_at place_of path_of place_cmp place routes
looked_up place [] = refl
looked_up place (r ∷ routes) = by (is_eq (place_cmp place r.0)) (looked_up place routes)
  where
    by : (b : Bool) → unicast_at place routes ≡ value_at place_of path_of place_cmp place routes
        → cond b (Some r.1) (unicast_at place routes) ≡ option_map path_of (cond b (Some r) (find (λ x. is_eq (place_cmp place (place_of x))) routes))
    by true e = refl
    by false e = e

keys_are : (routes : List Route) → keys_of routes ≡ map place_of routes
keys_are [] = refl
keys_are (r ∷ routes) = ap (λ (ks : List Place). r.0 ∷ ks) (keys_are routes)

one_unicast : (xs ys : List Route) → IsStrictlySortedBy place_cmp (keys_of xs) → IsStrictlySortedBy place_cmp (keys_of ys)
    → ((place : Place) → unicast_at place xs ≡ unicast_at place ys) → xs ≡ ys
one_unicast xs ys s t e =
    one_list place_of path_of place_cmp place_total one_route xs ys
    (subst (λ (ks : List Place). IsStrictlySortedBy place_cmp ks) (keys_are xs) s)
    (subst (λ (ks : List Place). IsStrictlySortedBy place_cmp ks) (keys_are ys) t)
    (λ place. sym (looked_up place xs) ∙ e place ∙ looked_up place ys)

one_flows : (xs ys : List FlowRoute) → IsStrictlySortedBy flow_key_cmp (map flow_key xs) → IsStrictlySortedBy flow_key_cmp (map flow_key ys)
    → ((rule : Ruled) (peer : ℕ) → flow_at rule peer xs ≡ flow_at rule peer ys) → xs ≡ ys
one_flows xs ys s t e = one_list flow_key given_of flow_key_cmp flow_key_total one_flow xs ys s t (λ k. e k.0 k.1)

-- of two lists of routes that are told alike at each key
same_held : (held held' : Held) → held.config ≡ held'.config → IsListed held → IsListed held'
    → ((place : Place) → unicast_at place held.unicast ≡ unicast_at place held'.unicast)
    → ((rule : Ruled) (peer : ℕ) → flow_at rule peer held.flows ≡ flow_at rule peer held'.flows) → held ≡ held'
same_held held held' configs l l' at_places of_rules =
    let unicast : held.unicast ≡ held'.unicast = one_unicast held.unicast held'.unicast l.unicast l'.unicast at_places in
    let flows : held.flows ≡ held'.flows = one_flows held.flows held'.flows l.flows l'.flows of_rules in
    ap (λ (c : Config). held_with c held.unicast held.flows) configs
    ∙ ap (λ (u : List Route). held_with held'.config u held.flows) unicast
    ∙ ap (λ (l : List FlowRoute). held_with held'.config held'.unicast l) flows

pub one_held : (config : Config) (items other : List Item) (held held' : Held) → LeaveSame config items other → Leaves config items held
    → Leaves config other held' → held ≡ held'
one_held config items other held held' same l l' =
    same_held held held' (l.config_is ∙ sym l'.config_is) l.listed l'.listed (λ place. l.unicast place ∙ same.unicast place ∙ sym (l'.unicast place))
    (λ rule peer. l.flows rule peer ∙ same.flows rule peer ∙ sym (l'.flows rule peer))

-- and of two desks that stand as the same items leave them
pub same_desk : (expired : ℕ → Bool) (config : Config) (items : List Item) (desk other : Desked) → PlayedBut expired config items desk
    → PlayedBut expired config items other
    → (desk.held ≡ other.held) × ((number : ℕ) → standing_at_desk desk number ≡ standing_at_desk other number)
same_desk expired config items desk other p q =
    let l : LeavesBut expired config items desk.held = played_leaves_but config items desk p in
    let m : LeavesBut expired config items other.held = played_leaves_but config items other q in (
      same_held desk.held other.held (l.config_is ∙ sym m.config_is) l.listed m.listed (λ place. l.unicast place
          ∙ sym (m.unicast place)) (λ rule peer. l.flows rule peer ∙ sym (m.flows rule peer)),
      λ number. desk_stands_but config items desk number p ∙ sym (desk_stands_but config items other number q),
    )

-- where the clock has closed no session
pub expired_none : (expired : ℕ → Bool) (config : Config) (items : List Item) (desk : Desked) → PlayedBut expired config items desk
    → ((number : ℕ) → expired number ≡ false) → Played config items desk
expired_none expired config items desk p none = record {
  config_is = p.config_is;
  held_is = p.held_is;
  listed = p.listed;
  sessions = p.sessions;
  each = λ number. subst (λ (b : Bool). StandsAs b config (peer_of number config.peers) (life number items)
      (session_at number desk.sessions) number desk.held) (none number) (p.each number);
}
