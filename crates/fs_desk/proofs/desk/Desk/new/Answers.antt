use Rattle.fs_desk.proofs.Played.{played_new}
use Rattle.fs_desk.proofs.desk.Desk.new.Goals as goal

pub returns-clause-played : goal.returns-clause-played
returns-clause-played c = played_new c.args.config.now c.new.result c.new-3.result.entries c.new.ensures c.new-3.ensures.empty
