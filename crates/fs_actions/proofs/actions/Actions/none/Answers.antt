use Rattle.fs_actions.proofs.Insertion.{no_actions}
use Rattle.fs_actions.proofs.actions.Actions.none.Goals as goal

pub invariant_of-result : goal.invariant_of-result
invariant_of-result c = rw c.new.ensures.items no_actions
