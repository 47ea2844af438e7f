use Rattle.fs_base.{proofs.Grew.{on_err}, specs.Gate.{what_from}}
use Rattle.cmd_wire.proofs.{Kept.{follows_took, follows_undialled, follows_unheard, follows_unread}, Recorded.{err_to, ok_to}}
use Rattle.cmd_wire.proofs.keeping.Station.follow.Goals as goal

pub returns-in_err-is_up-clause-breaks : goal.returns-in_err-is_up-clause-breaks
returns-in_err-is_up-clause-breaks g c = on_err c.from_residual.result
    (follows_unheard c.args.event.now.time (what_from c.args.event.now.came c.args.into.now) c.args.self.now
    (g.G.Gate.turns c.args.gate.now) (g.G.Gate.turns c.attend.new.gate) (g.S.Sink.written c.args.sink.now)
    (g.S.Sink.written c.attend.new.sink) c.in_err-is_up.ensures.breaks)

pub returns-in_err-dial-clause-breaks : goal.returns-in_err-dial-clause-breaks
returns-in_err-dial-clause-breaks g c = on_err c.from_residual-in_err-dial.result
    (follows_undialled c.args.event.now.time (what_from c.args.event.now.came c.args.into.now) c.args.self.now c.attend.new.self
    (g.G.Gate.turns c.args.gate.now) (g.G.Gate.turns c.attend.new.gate) (g.G.Gate.turns c.dial.new.gate) (g.S.Sink.written c.args.sink.now)
    (g.S.Sink.written c.attend.new.sink)
    c.in_ok-is_up.ensures.took c.in_err-dial.ensures.breaks)

pub returns-clause-follows : goal.returns-clause-follows
returns-clause-follows g c = ok_to c.look.result c.look.ensures.looks (λ looked.
    follows_took c.args.event.now.time (what_from c.args.event.now.came c.args.into.now) c.args.self.now c.attend.new.self
    (g.G.Gate.turns c.args.gate.now) (g.G.Gate.turns c.attend.new.gate) (g.G.Gate.turns c.dial.new.gate) (g.S.Sink.written c.args.sink.now)
    (g.S.Sink.written c.attend.new.sink)
    c.in_ok-is_up.ensures.took c.dial.new.self c.in_ok-is_up.is_up c.in_ok-is_up.ensures.up c.in_ok-dial.ensures.dials
    c.look.new.self (g.G.Gate.turns c.look.new.gate) (g.S.Sink.written c.look.new.sink) looked)

pub returns-clause-breaks : goal.returns-clause-breaks
returns-clause-breaks g c = err_to c.look.result c.look.ensures.breaks (λ broke.
    follows_unread c.args.event.now.time (what_from c.args.event.now.came c.args.into.now) c.args.self.now c.attend.new.self
    (g.G.Gate.turns c.args.gate.now) (g.G.Gate.turns c.attend.new.gate) (g.G.Gate.turns c.dial.new.gate) (g.S.Sink.written c.args.sink.now)
    (g.S.Sink.written c.attend.new.sink)
    c.in_ok-is_up.ensures.took c.dial.new.self c.in_ok-is_up.is_up c.in_ok-is_up.ensures.up c.in_ok-dial.ensures.dials
    (g.G.Gate.turns c.look.new.gate) (g.S.Sink.written c.look.new.sink) broke)
