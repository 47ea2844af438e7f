use Rattle.fs_conf.proofs.Announced.{accepts_rules}
use Rattle.fs_conf.proofs.laws.accepts_rules.Goals as goal

pub returns : goal.returns
returns c = accepts_rules
