use Rattle.fs_flows.proofs.Places.{lent_now}
use Rattle.fs_flows.proofs.groups.Groups.lend.Goals as goal

pub returns : goal.returns
returns c = λ family sorted sound. lent_now family c.self.invariant.0 c.self.view_is sound sorted
