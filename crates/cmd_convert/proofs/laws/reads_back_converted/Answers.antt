use Rattle.cmd_convert.proofs.Fitting.{reads_back_converted}
use Rattle.cmd_convert.proofs.laws.reads_back_converted.Goals as goal

pub returns : goal.returns
returns c = reads_back_converted
