use Rattle.fs_conf.proofs.TextSought.{says_its_own}
use Rattle.fs_conf.proofs.worded.says_its_own.Goals as goal

pub returns : goal.returns
returns c = says_its_own c.rules_are_the_outcome.ensures c.each_text_has_one_pair.ensures
