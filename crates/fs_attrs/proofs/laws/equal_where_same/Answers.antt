use Rattle.fs_attrs.specs.Same.{same_prefixes_decides, same_rules_decides}
use Rattle.fs_attrs.proofs.laws.equal_where_same.Goals as goal

pub returns-clause-prefixes : goal.returns-clause-prefixes
returns-clause-prefixes c = same_prefixes_decides

pub returns-clause-rules : goal.returns-clause-rules
returns-clause-rules c = same_rules_decides
