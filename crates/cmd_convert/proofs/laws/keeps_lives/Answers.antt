use Rattle.cmd_convert.proofs.Living.{keeps_lives}
use Rattle.cmd_convert.proofs.laws.keeps_lives.Goals as goal

pub returns : goal.returns
returns c = keeps_lives
