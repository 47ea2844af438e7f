use Rattle.fs_flows.proofs.Words.{ℕ, rules, not, ◌≡◌, ◌≤◌, ◌+◌, refl, sym, ap, subst, ◌∙◌, arith, AllByRecursion, AreSorted, routes_of, put_kept}
use Rattle.fs_flows.proofs.Words.{has_key, IsSound, kept_in, AreNoShorter}
use Rattle.fs_flows.proofs.PuttingInGroups.{sorted_groups, sorted_rest, put_entries, put_rest, each_entry}
use Rattle.fs_flows.proofs.{Grouping.{grouped_put, grouped_rest}, BothFamilies.{rules_of}, TakingFromGroups.{taken_held, held_rest, turned}}
use Rattle.fs_flows.proofs.groups.Groups.put.Goals as goal

pub put_at-requires : goal.put_at-requires
put_at-requires c = sorted_groups c.self.inside.groups.entries c.self.inside.rest
    (subst (λ ks. AreSorted (routes_of ks)) (sym c.self.view_is) c.requires.sorted)

pub put-requires : goal.put-requires
put-requires c = sorted_rest c.self.inside.groups.entries c.self.inside.rest (subst (λ ks. AreSorted (routes_of ks)) (sym c.self.view_is) c.requires.sorted)

pub invariant_of-self-in-Some-destination : goal.invariant_of-self-in-Some-destination
invariant_of-self-in-Some-destination c = (
  grouped_put c.self.invariant.0 c.args.k.route.rule.family c.args.k (record { family = refl; rule = c.destination-destination.ensures.rule })
      (subst (AllByRecursion (IsSound c.args.k.route.rule.family)) (sym c.self.view_is) c.requires.sound) one (omega arith)
      c.in-Some-destination.destination (sym c.destination-destination.ensures.value ∙ c.in-Some-destination.is) c.in_ok-is_new-in-Some-destination.ensures.ok,
  subst (AreNoShorter shortest) (sym c.in_ok-is_new-in-Some-destination.ensures.ok)
      (each_entry (λ q. shortest ≤ q.length) c.in-Some-destination.destination c.args.k c.self.inside.groups.entries
      c.shortest_with-shortest.ensures.put c.shortest_with-shortest.ensures.held),
) where
  shortest : ℕ
  shortest = c.shortest_with-shortest.result

  one : c.in-Some.most ≡ c.self.inside.most + 1
  one = search rules

pub invariant_of-self-in-None : goal.invariant_of-self-in-None
invariant_of-self-in-None c = (
  grouped_rest c.self.invariant.0 c.args.k.route.rule.family c.args.k (record { family = refl; rule = c.destination-destination.ensures.rule })
      (subst (AllByRecursion (IsSound c.args.k.route.rule.family)) (sym c.self.view_is) c.requires.sound) one (omega arith)
      (sym c.destination-destination.ensures.value ∙ c.in-None.is) c.in_ok-is_new-in-None.ensures.ok,
  c.self.invariant.1,
) where
  one : c.in-Some.most ≡ c.self.inside.most + 1
  one = search rules

pub returns-in_ok-is_new-in-Some-destination-clause-ok : goal.returns-in_ok-is_new-in-Some-destination-clause-ok
returns-in_ok-is_new-in-Some-destination-clause-ok c = ap (λ es. kept_in es c.self.inside.rest) c.in_ok-is_new-in-Some-destination.ensures.ok
    ∙ put_entries c.args.k.route.rule.family c.in-Some-destination.destination c.args.k c.self.inside.groups.entries c.self.inside.rest
    (record { family = refl; rule = c.destination-destination.ensures.rule }) (sym c.destination-destination.ensures.value
    ∙ c.in-Some-destination.is)
    c.self.invariant.0.ordered c.self.invariant.0.placed c.self.invariant.0.bare
    (subst (AllByRecursion (IsSound c.args.k.route.rule.family)) (sym c.self.view_is) c.requires.sound) ∙ ap (put_kept c.args.k) c.self.view_is

pub returns-in_ok-is_new-in-None-clause-ok : goal.returns-in_ok-is_new-in-None-clause-ok
returns-in_ok-is_new-in-None-clause-ok c = ap (kept_in c.self.inside.groups.entries) c.in_ok-is_new-in-None.ensures.ok
    ∙ put_rest c.args.k.route.rule.family c.args.k c.self.inside.groups.entries c.self.inside.rest
    (record { family = refl; rule = c.destination-destination.ensures.rule }) (sym c.destination-destination.ensures.value ∙ c.in-None.is)
    c.self.invariant.0.placed (subst (AllByRecursion (IsSound c.args.k.route.rule.family)) (sym c.self.view_is) c.requires.sound)
    ∙ ap (put_kept c.args.k) c.self.view_is

pub returns-in_ok-is_new-in-Some-destination-clause-fresh : goal.returns-in_ok-is_new-in-Some-destination-clause-fresh
returns-in_ok-is_new-in-Some-destination-clause-fresh c = turned c.in_ok-is_new-in-Some-destination.is_new _
    (taken_held c.args.k.route.rule c.args.k.route.peer c.destination-destination.ensures.rule c.in-Some-destination.destination
    c.self.inside.groups.entries c.self.inside.rest (not c.in_ok-is_new-in-Some-destination.is_new) (sym c.destination-destination.ensures.value
    ∙ c.in-Some-destination.is) c.self.invariant.0.ordered c.self.invariant.0.placed c.self.invariant.0.bare
    (rules_of c.args.k.route.rule.family _ (subst (AllByRecursion (IsSound c.args.k.route.rule.family)) (sym c.self.view_is) c.requires.sound))
    c.in_ok-is_new-in-Some-destination.ensures.fresh
    ∙ ap (has_key c.args.k.route.rule c.args.k.route.peer) c.self.view_is)

pub returns-in_ok-is_new-in-None-clause-fresh : goal.returns-in_ok-is_new-in-None-clause-fresh
returns-in_ok-is_new-in-None-clause-fresh c = c.in_ok-is_new-in-None.ensures.fresh
    ∙ ap not (held_rest c.args.k.route.rule c.args.k.route.peer c.destination-destination.ensures.rule c.self.inside.groups.entries c.self.inside.rest
    (sym c.destination-destination.ensures.value ∙ c.in-None.is) c.self.invariant.0.placed
    (rules_of c.args.k.route.rule.family _ (subst (AllByRecursion (IsSound c.args.k.route.rule.family)) (sym c.self.view_is) c.requires.sound))
    ∙ ap (has_key c.args.k.route.rule c.args.k.route.peer) c.self.view_is)
