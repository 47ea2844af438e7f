use Rattle.std.proofs.Common.{sym, ◌∙◌}
use Rattle.fs_base.proofs.Grew.{on_err}
use Rattle.cmd_wire.proofs.{Kept.{looks_still, looks_took, looks_unread, looks_untold}, Recorded.{err_to, ok_to}}
use Rattle.cmd_wire.proofs.keeping.Station.look.Goals as goal

pub returns-then-not-is_read-clause-looks : goal.returns-then-not-is_read-clause-looks
returns-then-not-is_read-clause-looks g c =
    looks_still c.args.is_up c.args.time c.args.self.now (g.G.Gate.turns c.args.gate.now) (g.S.Sink.written c.args.sink.now) (sym c.is_read.ensures
    ∙ c.if-not-is_read.true)

pub returns-in_err-read-clause-breaks : goal.returns-in_err-read-clause-breaks
returns-in_err-read-clause-breaks g c = on_err c.from_residual.result
    (looks_unread c.args.is_up c.args.time c.args.self.now (sym c.is_read.ensures ∙ c.if-not-is_read.false)
    (g.G.Gate.turns c.args.gate.now) (g.G.Gate.turns c.read.new.gate) (g.S.Sink.written c.args.sink.now)
    (g.S.Sink.written c.read.new.sink) c.in_err-read.ensures.breaks)

pub returns-clause-looks : goal.returns-clause-looks
returns-clause-looks g c = ok_to c.tell_if.result c.tell_if.ensures.took (λ told.
    looks_took c.args.is_up c.args.time c.args.self.now (sym c.is_read.ensures ∙ c.if-not-is_read.false) c.read.new.self
    (g.G.Gate.turns c.args.gate.now) (g.G.Gate.turns c.read.new.gate) (g.G.Gate.turns c.tell_if.new.gate)
    (g.S.Sink.written c.args.sink.now) (g.S.Sink.written c.read.new.sink) (g.S.Sink.written c.tell_if.new.sink) c.in_ok-read.ensures.reads
    c.tell_if.new.self told)

pub returns-clause-breaks : goal.returns-clause-breaks
returns-clause-breaks g c = err_to c.tell_if.result c.tell_if.ensures.breaks (λ broke.
    looks_untold c.args.is_up c.args.time c.args.self.now (sym c.is_read.ensures ∙ c.if-not-is_read.false) c.read.new.self
    (g.G.Gate.turns c.args.gate.now) (g.G.Gate.turns c.read.new.gate) (g.G.Gate.turns c.tell_if.new.gate)
    (g.S.Sink.written c.args.sink.now) (g.S.Sink.written c.read.new.sink) (g.S.Sink.written c.tell_if.new.sink) c.in_ok-read.ensures.reads broke)
