use Rattle.fs_order.proofs.First as first
use Rattle.fs_order.proofs.laws.destinations_first.Goals as goal

pub returns : goal.returns
returns c = first.destinations_first
