use Rattle.cmd_wire.proofs.FromPairing.{joined_from}
use Rattle.cmd_wire.proofs.pairing.join.Goals as goal

pub returns-in-Ok-clause-joined : goal.returns-in-Ok-clause-joined
returns-in-Ok-clause-joined g c = λ config sending text begins lists.
    joined_from begins _ _ _ _ (g.W.Wire.tells c.open_end.new.self) (g.W.Wire.tells c.pair_over.new.wire) _
    lists c.in_ok-open_end.ensures.opened c.in-Ok.ensures.pairs c.in_ok-close_end-in-Ok.ensures.closes
