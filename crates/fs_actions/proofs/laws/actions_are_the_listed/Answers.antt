use Rattle.fs_actions.proofs.Listed.{are_listed}
use Rattle.fs_actions.proofs.laws.actions_are_the_listed.Goals as goal

pub returns : goal.returns
returns c = are_listed
