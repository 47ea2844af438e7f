use Rattle.fs_session.proofs.Arriving.{all_arrive}
use Rattle.fs_session.proofs.laws.rules_arrive.Goals as goal

pub returns : goal.returns
returns c = all_arrive
