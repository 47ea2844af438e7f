use Rattle.fs_base.proofs.PrefixPrecedence.{precedence_law}
use Rattle.fs_base.proofs.laws.precedence.Goals as goal

pub returns : goal.returns
returns c = precedence_law
