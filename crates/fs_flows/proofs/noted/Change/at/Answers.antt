use Rattle.fs_flows.proofs.Noting.{place_at}
use Rattle.fs_flows.proofs.noted.Change.at.Goals as goal

pub returns-clause-place : goal.returns-clause-place
returns-clause-place c = place_at c.args.destination
