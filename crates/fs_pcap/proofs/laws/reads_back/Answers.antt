use Rattle.fs_pcap.proofs.ReadsBack.{reads_back}
use Rattle.fs_pcap.proofs.laws.reads_back.Goals as goal

pub returns : goal.returns
returns c = reads_back
