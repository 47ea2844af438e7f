use Rattle.std.proofs.Common.{refl}
use Rattle.cmd_wire.proofs.Kept.{open_dialled}
use Rattle.cmd_wire.proofs.keeping.Station.dial.Goals as goal

pub returns-clause-dials : goal.returns-clause-dials
returns-clause-dials g c =
    open_dialled _ _ c.self.view_is refl (g.G.Gate.turns c.args.gate.now) (g.G.Gate.turns c.dial.new.gate) c.dial.new.self c.args.time c.in_ok-dial.ensures.took
