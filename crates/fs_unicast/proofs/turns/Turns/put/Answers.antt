use Rattle.fs_unicast.proofs.Parting.{parts_inserted, stays_inserted}
use Rattle.fs_unicast.proofs.turns.Turns.put.Goals as goal

pub returns-clause-ok : goal.returns-clause-ok
returns-clause-ok c = parts_inserted c.args.turn c.args.self.now.places.keys c.insert.new.self.keys c.in_ok-is_new.ensures.keys

pub returns-clause-stays : goal.returns-clause-stays
returns-clause-stays c = stays_inserted c.args.turn c.args.self.now.places.keys c.insert.new.self.keys c.in_ok-is_new.ensures.keys
