use Rattle.fs_conf.proofs.Faulted.{names_the_fault}
use Rattle.fs_conf.proofs.laws.names_the_fault.Goals as goal

pub returns : goal.returns
returns c = names_the_fault
