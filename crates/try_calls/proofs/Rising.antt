-- How a put changes the counts that bound the steps.
use Rattle.std.proofs.Common.{ℕ, ◌≡◌, ◌+◌, ◌≤◌, sym, subst, Bool, true, false, ◌==◌, cond, List, [], ◌∷◌, length, filter, Option, Ordering, Less}
use Rattle.std.proofs.Common.{Equal, Greater, arith}
use Rattle.std.specs.{BTreeMap.{insert_entry}, Ordering.{match_ordering}}
use Rattle.fs_base.specs.declared.{prefix.Prefix.{Prefix}, path.Path.{Path}}
use Rattle.fs_unicast.specs.{Unicast.{Route, place_cmp}, declared.unicast.Place.{Place}}
use Rattle.fs_nlri.specs.Rule.{destination_prefix}
use Rattle.fs_validate.specs.declared.route.FlowRoute.{FlowRoute}
use Rattle.fs_rules.specs.Table.{Held, key_cmp, put_route, has_related, related_count, related_sum}

abbrev pub one_at : Prefix → Option Prefix → ℕ
one_at p d = cond (has_related p d) 1 0

-- a flow route more
pub count_put : (p : Prefix) (r : FlowRoute) (rs : List FlowRoute)
    → related_count p (put_route r rs) ≤ related_count p rs + one_at p (destination_prefix r.rule)
count_put p r [] = omega arith
count_put p r (x ∷ xs) = at (key_cmp r.rule r.peer x) (count_put p r xs) where
  at : (o : Ordering) → related_count p (put_route r xs) ≤ related_count p xs + one_at p (destination_prefix r.rule)
      → related_count p (match_ordering o (r ∷ x ∷ xs) (r ∷ xs) (x ∷ put_route r xs)) ≤ related_count p (x ∷ xs) + one_at p (destination_prefix r.rule)
  at Less ih = omega arith
  at Equal ih = omega arith
  at Greater ih = omega (arith, ih)

-- a unicast route more
pub sum_insert : (peer : ℕ) (k : Place) (path : Path) (flows : List FlowRoute) (rs : List Route)
    → related_sum peer (insert_entry place_cmp rs k path) flows ≤ related_sum peer rs flows + related_count k.prefix flows
sum_insert peer k path flows [] = at (k.peer == peer) where
  at : (b : Bool) → cond b (related_count k.prefix flows) 0 + 0 ≤ 0 + related_count k.prefix flows
  at true = omega arith
  at false = omega arith
sum_insert peer k path flows (r ∷ rs) = at (place_cmp k r.0) (sum_insert peer k path flows rs) where
  here : (b : Bool) (n : ℕ) → cond b (related_count k.prefix flows) 0 + n ≤ n + related_count k.prefix flows
  here true n = omega arith
  here false n = omega arith

  at : (o : Ordering) → related_sum peer (insert_entry place_cmp rs k path) flows ≤ related_sum peer rs flows + related_count k.prefix flows
      → related_sum peer (match_ordering o ((k, path) ∷ r ∷ rs) ((r.0, path) ∷ rs) (r ∷ insert_entry place_cmp rs k path)) flows
      ≤ related_sum peer (r ∷ rs) flows + related_count k.prefix flows
  at Less ih = here (k.peer == peer) (related_sum peer (r ∷ rs) flows)
  at Equal ih = omega arith
  at Greater ih = omega (arith, ih)

-- what a table's put of a flow route adds
pub count_held : (p : Prefix) (d : Option Prefix) (r : FlowRoute) (old new : Held) → d ≡ destination_prefix r.rule
    → new ≡ record old { flows = put_route r old.flows }
    → related_count p new.flows ≤ related_count p old.flows + one_at p d
count_held p d r old new at put =
    subst (λ (e : Option Prefix). related_count p new.flows ≤ related_count p old.flows + one_at p e) (sym at)
    (subst (λ (h : Held). related_count p h.flows ≤ related_count p old.flows + one_at p (destination_prefix r.rule)) (sym put) (count_put p r old.flows))

-- what a table's put of a unicast route adds
pub sum_held : (peer : ℕ) (k : Place) (path : Path) (old new : Held) (ds : List (Option Prefix)) (n : ℕ)
    → new ≡ record old { unicast = insert_entry place_cmp old.unicast k path }
    → ((p : Prefix) → related_count p old.flows ≤ length (filter (has_related p) ds)) → n ≡ length (filter (has_related k.prefix) ds)
    → related_sum peer new.unicast new.flows ≤ related_sum peer old.unicast old.flows + n
sum_held peer k path old new ds n put few is =
    subst (λ (h : Held). related_sum peer h.unicast h.flows ≤ related_sum peer old.unicast old.flows + n) (sym put)
    (enough (related_sum peer (insert_entry place_cmp old.unicast k path) old.flows) (related_sum peer old.unicast old.flows)
    (related_count k.prefix old.flows) (length (filter (has_related k.prefix) ds)) n
    (sum_insert peer k path old.flows old.unicast) (few k.prefix) is)
  where
    enough : (a b c d e : ℕ) → a ≤ b + c → c ≤ d → e ≡ d → a ≤ b + e
    enough a b c d e h i j = omega (arith, h, i, j)
