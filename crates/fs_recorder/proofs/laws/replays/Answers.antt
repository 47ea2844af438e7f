use Rattle.fs_recorder.proofs.Recorded.{replays}
use Rattle.fs_recorder.proofs.laws.replays.Goals as goal

pub returns : goal.returns
returns c = replays c.same_desks.ensures
