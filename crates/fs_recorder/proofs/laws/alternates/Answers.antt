use Rattle.fs_recorder.proofs.Alternating.{alternates}
use Rattle.fs_recorder.proofs.laws.alternates.Goals as goal

pub returns : goal.returns
returns c = alternates
