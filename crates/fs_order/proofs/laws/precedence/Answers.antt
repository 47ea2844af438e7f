use Rattle.fs_order.proofs.Precede.{before_law}
use Rattle.fs_order.proofs.laws.precedence.Goals as goal

pub returns : goal.returns
returns c = before_law
