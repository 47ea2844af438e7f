use Rattle.fs_peering.proofs.Sendable.{sends_front}
use Rattle.fs_peering.proofs.laws.sends_a_front.Goals as goal

pub returns : goal.returns
returns c = sends_front c.takes_a_front.ensures c.takes_none_unnamed.ensures
