use Rattle.fs_shadow.proofs.Walked.{covered_never_walks}
use Rattle.fs_shadow.proofs.laws.covered_never_walks.Goals as goal

pub returns : goal.returns
returns c = covered_never_walks
