use Rattle.fs_order.proofs.Same.{same_law}
use Rattle.fs_order.proofs.laws.equal_only_itself.Goals as goal

pub returns : goal.returns
returns c = same_law
