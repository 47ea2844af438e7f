use Rattle.fs_flows.proofs.Words.{ap, sym, subst, ◌∙◌, ◌≡◌, ◌≤◌, false, not, ◌==◌, filter, AllByRecursion, AreNoShorter, IsAmong, is_of_other}
use Rattle.fs_flows.proofs.Along.{along_keys, grouped_along, kept_along}
use Rattle.fs_flows.proofs.groups.Groups.forget_along.Goals as goal

pub invariant_of-self : goal.invariant_of-self
invariant_of-self c = (
  grouped_along (is_of_other c.args.peer) c.args.destinations.now c.self.invariant.0
      (subst (AllByRecursion (λ k. not (k.route.peer == c.args.peer) ≡ false → IsAmong c.args.destinations.now k)) (sym c.self.view_is) c.requires)
      c.forget_along.ensures c.forget.ensures,
  subst (AreNoShorter c.self.inside.shortest) (sym c.forget_along.ensures)
      (along_keys (is_of_other c.args.peer) (λ q. c.self.inside.shortest ≤ q.length) c.args.destinations.now c.self.inside.groups.entries
      c.self.invariant.1),
)

pub returns : goal.returns
returns c = kept_along (is_of_other c.args.peer) c.args.destinations.now c.self.invariant.0
    (subst (AllByRecursion (λ k. not (k.route.peer == c.args.peer) ≡ false → IsAmong c.args.destinations.now k)) (sym c.self.view_is) c.requires)
    c.forget_along.ensures c.forget.ensures
    ∙ ap (filter (is_of_other c.args.peer)) c.self.view_is
