use Rattle.cmd_wire.proofs.FromStages.{connected_as}
use Rattle.cmd_wire.proofs.announcing.speak.Goals as goal

pub returns-in-Ok-clause-spoken : goal.returns-in-Ok-clause-spoken
returns-in-Ok-clause-spoken g c =
    connected_as _ _ _ _ c.in_ok-teller.teller.announcer c.in_ok-teller.teller.started (g.W.Wire.tells c.open_end.new.self)
    (g.W.Wire.tells c.announce_over.new.wire) _
    c.requires.sendable c.in_ok-teller.ensures.made c.in_ok-open_end.ensures.opened c.in-Ok.ensures.tells c.in_ok-close_end-in-Ok.ensures.closes
