use Rattle.fs_cli.proofs.Following.{changes_same}
use Rattle.fs_cli.proofs.laws.same_changes.Goals as goal

pub returns : goal.returns
returns c = changes_same c.same_routes.ensures
