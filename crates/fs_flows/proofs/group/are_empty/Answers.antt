use Rattle.fs_flows.proofs.Cutting.{some_left}
use Rattle.fs_flows.proofs.group.are_empty.Goals as goal

pub returns-in_default : goal.returns-in_default
returns-in_default c = some_left c.args.blocks.now c.in_default.len_at_least c.requires.filled
