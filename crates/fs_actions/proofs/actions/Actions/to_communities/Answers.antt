use Rattle.std.proofs.Common.{◌++◌, List, ℕ, ap, ◌∙◌, arith}
use Rattle.fs_actions.proofs.ReadBack.{joined_more, read_back, whole_joined}
use Rattle.fs_actions.proofs.actions.Actions.to_communities.Goals as goal

pub loop-action-preserved : goal.loop-action-preserved
loop-action-preserved c =
    c.in-Ok.ensures.items
    ∙ ap (λ (octets : List ℕ). c.loop-action.out.items ++ octets) (c.octets.ensures ∙ c.action-item.is)
    ∙ joined_more c.deref-action-items.result.now c.loop-action.action-index c.action-item.result c.args.out.now.items c.loop-action.out.items
    (omega arith) c.loop-action.invariant

pub returns-in-Err-clause-whole : goal.returns-in-Err-clause-whole
returns-in-Err-clause-whole c = rw (← c.self.view_is) (whole_joined c.self.inside.list.items c.self.invariant)

pub returns-in-Err-clause-read_back : goal.returns-in-Err-clause-read_back
returns-in-Err-clause-read_back c = rw (← c.self.view_is) (read_back c.self.inside.list.items c.self.invariant)

pub returns-clause-whole : goal.returns-clause-whole
returns-clause-whole c = rw (← c.self.view_is) (whole_joined c.self.inside.list.items c.self.invariant)

pub returns-clause-read_back : goal.returns-clause-read_back
returns-clause-read_back c = rw (← c.self.view_is) (read_back c.self.inside.list.items c.self.invariant)
