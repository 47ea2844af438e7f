use Rattle.fs_desk.proofs.SameRoutes.{expired_none}
use Rattle.fs_desk.proofs.laws.none_expired.Goals as goal

pub returns : goal.returns
returns c = expired_none
