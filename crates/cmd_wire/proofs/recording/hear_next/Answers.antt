use Rattle.fs_base.proofs.Grew.{on_err}
use Rattle.cmd_wire.proofs.Recorded.{breaks_before, err_to, never_failed, ok_to}
use Rattle.cmd_wire.proofs.recording.hear_next.Goals as goal

pub returns-in_err-event-clause-breaks : goal.returns-in_err-event-clause-breaks
returns-in_err-event-clause-breaks g c =
    on_err c.from_residual.result
    (breaks_before c.args.recorder.now (g.G.Gate.turns c.args.gate.now) (g.G.Gate.turns c.next_event.new.gate) (g.S.Sink.written c.args.sink.now)
    c.in_err-event.ensures.told (λ limited. never_failed c.from_residual.result c.from_residual.ensures.1 limited))

pub returns-clause-hears : goal.returns-clause-hears
returns-clause-hears g c = ok_to c.hear_one.result c.hear_one.ensures.hears (λ h. h (g.G.Gate.turns c.args.gate.now) c.in_ok-event.ensures.told)

pub returns-clause-breaks : goal.returns-clause-breaks
returns-clause-breaks g c = err_to c.hear_one.result c.hear_one.ensures.breaks (λ b. b (g.G.Gate.turns c.args.gate.now) c.in_ok-event.ensures.told)
