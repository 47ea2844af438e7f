use Rattle.fs_changes.proofs.Along.{follows_law}
use Rattle.fs_changes.proofs.laws.follows.Goals as goal

pub returns : goal.returns
returns c = follows_law
