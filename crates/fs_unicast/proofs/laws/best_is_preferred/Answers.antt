use Rattle.fs_unicast.proofs.Best.{best_law}
use Rattle.fs_unicast.proofs.laws.best_is_preferred.Goals as goal

pub returns : goal.returns
returns c = best_law
