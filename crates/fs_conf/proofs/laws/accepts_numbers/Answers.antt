use Rattle.fs_conf.proofs.Accepted.{accepts_numbers}
use Rattle.fs_conf.proofs.laws.accepts_numbers.Goals as goal

pub returns : goal.returns
returns c = accepts_numbers
