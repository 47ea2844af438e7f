use Rattle.fs_shadow.proofs.Matched.{contained_matches}
use Rattle.fs_shadow.proofs.laws.contained_matches.Goals as goal

pub returns : goal.returns
returns c = contained_matches
