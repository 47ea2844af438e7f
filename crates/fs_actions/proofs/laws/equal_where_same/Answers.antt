use Rattle.fs_actions.specs.Same.{same_actions_decides}
use Rattle.fs_actions.proofs.laws.equal_where_same.Goals as goal

pub returns : goal.returns
returns c = same_actions_decides
