use Rattle.fs_pcapng.proofs.Written.{reads_back}
use Rattle.fs_pcapng.proofs.laws.reads_back.Goals as goal

pub returns : goal.returns
returns c = reads_back
