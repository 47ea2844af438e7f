use Rattle.fs_peering.proofs.Kept.{keeps_equal}
use Rattle.fs_peering.proofs.laws.keeps_equal.Goals as goal

pub returns : goal.returns
returns c = keeps_equal
