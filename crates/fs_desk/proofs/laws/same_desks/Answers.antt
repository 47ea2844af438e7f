use Rattle.fs_desk.proofs.SameRoutes.{same_desk}
use Rattle.fs_desk.proofs.laws.same_desks.Goals as goal

pub returns : goal.returns
returns c = same_desk
