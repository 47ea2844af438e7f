use Rattle.fs_text.proofs.{Words.{map, as_part}, Prefixed.{range_read}}
use Rattle.fs_text.proofs.prefixes.loose_range.Goals as goal

pub returns : goal.returns
returns c = range_read (map as_part c.args.parts.now) c.loose_ends.result c.loose_ends.ensures.whole c.loose_ends.ensures.part
