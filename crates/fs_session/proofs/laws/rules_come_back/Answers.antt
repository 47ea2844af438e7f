use Rattle.fs_session.proofs.Returning.{comes_back}
use Rattle.fs_session.proofs.laws.rules_come_back.Goals as goal

pub returns : goal.returns
returns c = comes_back
