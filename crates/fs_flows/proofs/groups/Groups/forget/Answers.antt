use Rattle.fs_flows.proofs.Words.{ap, sym, subst, ◌∙◌, ◌≤◌, filter, AreNoShorter, is_of_other}
use Rattle.fs_flows.proofs.{Grouping.{grouped_kept, kept_left}, TakingFromGroups.{each_left}}
use Rattle.fs_flows.proofs.groups.Groups.forget.Goals as goal

pub invariant_of-self : goal.invariant_of-self
invariant_of-self c = (
  grouped_kept c.self.invariant.0 (is_of_other c.args.peer) c.forget_each.ensures.kept c.forget.ensures c.forget_each.ensures.ordered,
  subst (AreNoShorter c.self.inside.shortest) (sym c.forget_each.ensures.kept)
      (each_left (λ q. c.self.inside.shortest ≤ q.length) (is_of_other c.args.peer) c.self.inside.groups.entries c.self.invariant.1),
)

pub returns : goal.returns
returns c = kept_left c.self.invariant.0 (is_of_other c.args.peer) c.forget_each.ensures.kept c.forget.ensures
    ∙ ap (filter (is_of_other c.args.peer)) c.self.view_is
