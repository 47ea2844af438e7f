use Rattle.fs_nlri.specs.Same.{same_part_decides, same_rule_decides}
use Rattle.fs_nlri.proofs.laws.equal_where_same.Goals as goal

pub returns-clause-components : goal.returns-clause-components
returns-clause-components c = same_part_decides

pub returns-clause-rules : goal.returns-clause-rules
returns-clause-rules c = same_rule_decides
