use Rattle.fs_base.proofs.Grew.{on_err}
use Rattle.fs_base.specs.Gate.{what_from}
use Rattle.cmd_wire.proofs.{KeptFold.{next_broke, next_none, next_took}, Recorded.{err_to, never_failed, ok_to}}
use Rattle.cmd_wire.proofs.keeping.hear_next.Goals as goal

pub returns-in_err-event-clause-breaks : goal.returns-in_err-event-clause-breaks
returns-in_err-event-clause-breaks g c =
    on_err c.from_residual.result
    (next_none c.args.station.now (g.G.Gate.turns c.args.gate.now) (g.G.Gate.turns c.next.new.self) (g.S.Sink.written c.args.sink.now)
    c.in_err-event.ensures.told (λ limited. never_failed c.from_residual.result c.from_residual.ensures.1 limited))

pub returns-clause-hears : goal.returns-clause-hears
returns-clause-hears g c =
    ok_to c.hear.result c.hear.ensures.hears (λ h.
    next_took c.in_ok-event.event.moment c.in_ok-event.event.time (what_from c.in_ok-event.event.came c.next.new.into) c.args.station.now c.hear.new.self
    (g.G.Gate.turns c.args.gate.now) (g.G.Gate.turns c.next.new.self) (g.G.Gate.turns c.hear.new.gate)
    (g.S.Sink.written c.args.sink.now) (g.S.Sink.written c.hear.new.sink) c.in_ok-event.ensures.told h)

pub returns-clause-breaks : goal.returns-clause-breaks
returns-clause-breaks g c =
    err_to c.hear.result c.hear.ensures.breaks (λ b.
    next_broke c.in_ok-event.event.moment c.in_ok-event.event.time (what_from c.in_ok-event.event.came c.next.new.into) c.args.station.now
    (g.G.Gate.turns c.args.gate.now) (g.G.Gate.turns c.next.new.self) (g.G.Gate.turns c.hear.new.gate)
    (g.S.Sink.written c.args.sink.now) (g.S.Sink.written c.hear.new.sink) c.in_ok-event.ensures.told b)
