use Rattle.fs_nlri.proofs.Again.{canonical_tells}
use Rattle.fs_nlri.proofs.laws.canonical_tells.Goals as goal

pub returns : goal.returns
returns c = canonical_tells
