use Rattle.cmd_enforce.proofs.AtMoments.{outputs_agree}
use Rattle.cmd_enforce.proofs.laws.same_lines.Goals as goal

pub returns : goal.returns
returns c = outputs_agree c.same_routes.ensures
