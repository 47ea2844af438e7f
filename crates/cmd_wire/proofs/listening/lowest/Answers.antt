use Rattle.cmd_wire.proofs.Words.{sym, is_told}
use Rattle.cmd_wire.proofs.listening.lowest.Goals as goal

pub new-requires : goal.new-requires
new-requires c = is_told c.args.config.now.peers c.in-Some.peer.now (sym c.in-Some.ensures)
