use Rattle.fs_conf.proofs.RulesFaulted.{names_the_rules_fault}
use Rattle.fs_conf.proofs.laws.names_the_rules_fault.Goals as goal

pub returns : goal.returns
returns c = names_the_rules_fault
