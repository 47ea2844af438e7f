use Rattle.cmd_wire.proofs.Hearing.{through}
use Rattle.cmd_wire.proofs.listening.hear.Goals as goal

pub returns-in-Ok-clause-heard : goal.returns-in-Ok-clause-heard
returns-in-Ok-clause-heard g c =
    through _ _ _ _ _ (g.W.Wire.tells c.open_end.new.self) (g.W.Wire.tells c.listen_over.new.wire) _
    c.in_ok-open_end.ensures.opened c.in-Ok.ensures.listens c.in_ok-close_end-in-Ok.ensures.closes
