use Rattle.fs_recorder.proofs.Recorded.{reads_back_recorded}
use Rattle.fs_recorder.proofs.laws.reads_back_recorded.Goals as goal

pub returns : goal.returns
returns c = reads_back_recorded c.reads_back.ensures
