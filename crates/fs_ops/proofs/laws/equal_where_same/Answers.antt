use Rattle.fs_ops.specs.Same.{same_pairs_decides}
use Rattle.fs_ops.proofs.laws.equal_where_same.Goals as goal

pub returns : goal.returns
returns c = same_pairs_decides
