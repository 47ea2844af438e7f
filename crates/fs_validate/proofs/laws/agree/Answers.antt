use Rattle.fs_validate.proofs.Local.{validity_agrees}
use Rattle.fs_validate.proofs.laws.agree.Goals as goal

pub returns : goal.returns
returns c = validity_agrees
