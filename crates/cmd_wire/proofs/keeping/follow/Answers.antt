use Rattle.std.proofs.Common.{inl, inr}
use Rattle.fs_base.proofs.Grew.{Grew-refl}
use Rattle.fs_recorder.proofs.Doing.{handed_on, no_memory}
use Rattle.cmd_wire.{specs.Keeping.{order_by}, proofs.{KeptFold.{kept_all, kept_full}, KeepingEnds.{begun_so, handed_failed, missing_so, rose_behind, unbegun}}}
use Rattle.cmd_wire.proofs.keeping.follow.Goals as goal

pub returns-in_err-buffer-clause-keeps : goal.returns-in_err-buffer-clause-keeps
returns-in_err-buffer-clause-keeps g c =
    inl (unbegun (order_by c.args.order.now.rules.now c.args.order.now.address.now c.args.order.now.limit c.args.config.now)
    (g.G.Gate.turns c.args.gate.now) (g.G.Gate.turns c.args.gate.now) (g.S.Sink.written c.args.sink.now) (Grew-refl (g.G.Gate.turns c.args.gate.now)))

pub returns-in_err-buffer-clause-full : goal.returns-in_err-buffer-clause-full
returns-in_err-buffer-clause-full g c = λ limited. absurd (no_memory c.from_residual.result c.from_residual.ensures.1 limited)

pub returns-in_err-read_first-clause-keeps : goal.returns-in_err-read_first-clause-keeps
returns-in_err-read_first-clause-keeps g c =
    inl (begun_so c.new-station.result.order (order_by c.args.order.now.rules.now c.args.order.now.address.now c.args.order.now.limit c.args.config.now)
    (g.G.Gate.turns c.args.gate.now) (g.G.Gate.turns c.read_first.new.gate) (g.S.Sink.written c.args.sink.now) (g.S.Sink.written c.read_first.new.sink)
    c.new-station.ensures.order c.in_err-read_first.ensures.breaks)

pub returns-in_err-read_first-clause-full : goal.returns-in_err-read_first-clause-full
returns-in_err-read_first-clause-full g c = λ limited.
    absurd (c.in_err-read_first.ensures.unlimited
    (handed_on c.in_err-read_first.field-0.0 c.from_residual-in_err-read_first.result c.from_residual-in_err-read_first.ensures.1 limited))

pub returns-in_err-read_first-clause-failed : goal.returns-in_err-read_first-clause-failed
returns-in_err-read_first-clause-failed g c = λ failed.
    missing_so c.new-station.result.order (order_by c.args.order.now.rules.now c.args.order.now.address.now c.args.order.now.limit c.args.config.now)
    (g.G.Gate.turns c.args.gate.now) (g.G.Gate.turns c.read_first.new.gate) c.new-station.ensures.order
    (c.in_err-read_first.ensures.failed
    (handed_failed c.in_err-read_first.field-0.0 c.from_residual-in_err-read_first.result c.from_residual-in_err-read_first.ensures.1 failed))

pub returns-clause-keeps : goal.returns-clause-keeps
returns-clause-keeps g c =
    inr (kept_all (order_by c.args.order.now.rules.now c.args.order.now.address.now c.args.order.now.limit c.args.config.now) c.new-station.result
    c.read_first.new.self
    (g.G.Gate.turns c.args.gate.now) (g.G.Gate.turns c.read_first.new.gate) (g.G.Gate.turns c.hear_all.new.gate)
    (g.S.Sink.written c.args.sink.now) (g.S.Sink.written c.read_first.new.sink) (g.S.Sink.written c.hear_all.new.sink)
    c.new-station.ensures.order c.in_ok-read_first.ensures.begins c.hear_all.ensures.continues)

pub returns-clause-full : goal.returns-clause-full
returns-clause-full g c = λ limited.
    kept_full (order_by c.args.order.now.rules.now c.args.order.now.address.now c.args.order.now.limit c.args.config.now) c.new-station.result
    c.read_first.new.self
    (g.G.Gate.turns c.args.gate.now) (g.G.Gate.turns c.read_first.new.gate) (g.G.Gate.turns c.hear_all.new.gate)
    (g.S.Sink.written c.args.sink.now) (g.S.Sink.written c.read_first.new.sink) (g.S.Sink.written c.hear_all.new.sink)
    c.new-station.ensures.order c.in_ok-read_first.ensures.begins c.hear_all.ensures.continues limited

pub returns-clause-failed : goal.returns-clause-failed
returns-clause-failed g c = λ failed.
    inl (rose_behind (g.S.Sink.faults c.args.sink.now) (g.S.Sink.faults c.read_first.new.sink) (g.S.Sink.faults c.hear_all.new.sink)
    (g.G.Gate.faults c.args.gate.now) (g.G.Gate.faults c.read_first.new.gate) (g.G.Gate.faults c.hear_all.new.gate)
    c.in_ok-read_first.ensures.later.1 c.in_ok-read_first.ensures.later.0 (c.hear_all.ensures.failed failed))
