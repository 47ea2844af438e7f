use Rattle.fs_desk.proofs.SameRoutes.{one_held}
use Rattle.fs_desk.proofs.laws.same_routes.Goals as goal

pub returns : goal.returns
returns c = one_held
