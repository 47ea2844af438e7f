use Rattle.cmd_stages.proofs.Reading.{none_admitted}
use Rattle.cmd_stages.proofs.items.ItemPlayer.begin.Goals as goal

pub returns-clause-none : goal.returns-clause-none
returns-clause-none g c = λ family. none_admitted c.same_routes.ensures c.args.config.now c.in_ok-desk.desk family c.in_ok-desk.ensures.played
