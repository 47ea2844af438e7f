use Rattle.fs_flows.proofs.Words.{sym, ap, subst, ◌∙◌, ◌≤◌, filter, list_any, is_key, kept_in, AreNoShorter, AreSorted, routes_of, is_other_key}
use Rattle.fs_flows.proofs.Words.{HaveRules}
use Rattle.fs_flows.proofs.TakingFromGroups.{taken_kept, taken_held, taken_rest, held_rest, each_at}
use Rattle.fs_flows.proofs.{PuttingInGroups.{sorted_groups, sorted_rest}, Grouping.{grouped_taken, grouped_taken_rest}}
use Rattle.fs_flows.proofs.groups.Groups.take.Goals as goal

pub invariant_of-self : goal.invariant_of-self
invariant_of-self c = (
  grouped_taken c.self.invariant.0 c.args.rule.now c.args.peer c.destination_key.ensures.rule (subst HaveRules (sym c.self.view_is) c.requires.rules)
      c.in-Some.destination (sym c.destination_key.ensures.value ∙ c.in-Some.is) c.take_at.ensures.taken,
  subst (AreNoShorter c.self.inside.shortest) (sym c.take_at.ensures.taken)
      (each_at (λ q. c.self.inside.shortest ≤ q.length) c.in-Some.destination (is_other_key c.args.rule.now c.args.peer) c.self.inside.groups.entries
      c.self.invariant.1),
)

pub invariant_of-self-in-None : goal.invariant_of-self-in-None
invariant_of-self-in-None c = (
  grouped_taken_rest c.self.invariant.0 c.args.rule.now c.args.peer c.destination_key.ensures.rule
      (subst HaveRules (sym c.self.view_is) c.requires.rules) (sym c.destination_key.ensures.value ∙ c.in-None.is) c.take.ensures.taken,
  c.self.invariant.1,
)

pub returns-in-Some-clause-taken : goal.returns-in-Some-clause-taken
returns-in-Some-clause-taken c = ap (λ es. kept_in es c.self.inside.rest) c.take_at.ensures.taken
    ∙ taken_kept c.args.rule.now c.args.peer c.destination_key.ensures.rule c.in-Some.destination c.self.inside.groups.entries c.self.inside.rest
    (sym c.destination_key.ensures.value ∙ c.in-Some.is) c.self.invariant.0.ordered c.self.invariant.0.placed c.self.invariant.0.bare
    (subst HaveRules (sym c.self.view_is) c.requires.rules) ∙ ap (filter (is_other_key c.args.rule.now c.args.peer)) c.self.view_is

pub returns-in-Some-clause-held : goal.returns-in-Some-clause-held
returns-in-Some-clause-held c =
    taken_held c.args.rule.now c.args.peer c.destination_key.ensures.rule c.in-Some.destination c.self.inside.groups.entries c.self.inside.rest
    c.take_at.result (sym c.destination_key.ensures.value ∙ c.in-Some.is) c.self.invariant.0.ordered c.self.invariant.0.placed c.self.invariant.0.bare
    (subst HaveRules (sym c.self.view_is) c.requires.rules) c.take_at.ensures.held
    ∙ ap (list_any (λ k. is_key c.args.rule.now c.args.peer k.route)) c.self.view_is

pub returns-in-None-clause-taken : goal.returns-in-None-clause-taken
returns-in-None-clause-taken c = ap (kept_in c.self.inside.groups.entries) c.take.ensures.taken
    ∙ taken_rest c.args.rule.now c.args.peer c.destination_key.ensures.rule c.self.inside.groups.entries c.self.inside.rest
    (sym c.destination_key.ensures.value ∙ c.in-None.is) c.self.invariant.0.placed
    (subst HaveRules (sym c.self.view_is) c.requires.rules) ∙ ap (filter (is_other_key c.args.rule.now c.args.peer)) c.self.view_is

pub returns-in-None-clause-held : goal.returns-in-None-clause-held
returns-in-None-clause-held c = c.take.ensures.held
    ∙ held_rest c.args.rule.now c.args.peer c.destination_key.ensures.rule c.self.inside.groups.entries c.self.inside.rest
    (sym c.destination_key.ensures.value ∙ c.in-None.is) c.self.invariant.0.placed
    (subst HaveRules (sym c.self.view_is) c.requires.rules) ∙ ap (list_any (λ k. is_key c.args.rule.now c.args.peer k.route)) c.self.view_is

pub take_at-requires : goal.take_at-requires
take_at-requires c = sorted_groups c.self.inside.groups.entries c.self.inside.rest
    (subst (λ ks. AreSorted (routes_of ks)) (sym c.self.view_is) c.requires.sorted)

pub take-requires : goal.take-requires
take-requires c = sorted_rest c.self.inside.groups.entries c.self.inside.rest (subst (λ ks. AreSorted (routes_of ks)) (sym c.self.view_is) c.requires.sorted)
