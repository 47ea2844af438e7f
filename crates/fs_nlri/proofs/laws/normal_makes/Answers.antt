use Rattle.fs_nlri.proofs.InNormalForm.{makes_normal}
use Rattle.fs_nlri.proofs.laws.normal_makes.Goals as goal

pub returns : goal.returns
returns c = makes_normal
