use Rattle.fs_tape.proofs.Fronts.{front_reads}
use Rattle.fs_tape.proofs.laws.front_reads.Goals as goal

pub returns : goal.returns
returns c = front_reads
