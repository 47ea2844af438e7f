use Rattle.fs_nlri.proofs.Reading.{field_is}
use Rattle.fs_attrs.proofs.laws.rules_are_the_outcome.Goals as goal

pub returns : goal.returns
returns c = field_is
