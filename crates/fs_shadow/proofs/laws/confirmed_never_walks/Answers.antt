use Rattle.fs_shadow.proofs.Walked.{confirmed_never_walks}
use Rattle.fs_shadow.proofs.laws.confirmed_never_walks.Goals as goal

pub returns : goal.returns
returns c = confirmed_never_walks
