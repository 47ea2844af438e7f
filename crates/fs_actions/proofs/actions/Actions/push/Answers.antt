use Rattle.fs_actions.proofs.{Words.{sym, subst, IsActions}, Behind.{actions_more}}
use Rattle.fs_actions.proofs.actions.Actions.push.Goals as goal

pub invariant_of-self-2 : goal.invariant_of-self-2
invariant_of-self-2 c =
    subst IsActions (sym c.in_ok-push.ensures.items)
    (actions_more c.self.inside.list.items c.args.action c.self.invariant c.requires.action (rw (← c.self.view_is) at c.requires.above))
