use Rattle.fs_text.proofs.Wide.{width_high}
use Rattle.fs_text.proofs.lists.loose_coded.Goals as goal

pub loose_octets-requires-clause-high : goal.loose_octets-requires-clause-high
loose_octets-requires-clause-high c = width_high c.args.code c.requires
