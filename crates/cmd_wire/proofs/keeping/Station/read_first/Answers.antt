use Rattle.std.proofs.Common.{sym, ◌∙◌}
use Rattle.fs_base.{proofs.Grew.{on_err}, specs.Gate.{content_from}}
use Rattle.cmd_wire.proofs.{Kept.{read_by}, KeepingEnds.{begins_broke, begins_took, found_there, missed, missing_why, unbegun}, Recorded.{err_to, ok_to}}
use Rattle.cmd_wire.proofs.keeping.Station.read_first.Goals as goal

pub returns-in_err-reading-clause-breaks : goal.returns-in_err-reading-clause-breaks
returns-in_err-reading-clause-breaks g c = on_err c.from_residual.result
    (unbegun c.args.self.now.order (g.G.Gate.turns c.args.gate.now) (g.G.Gate.turns c.reread.new.self)
    (g.S.Sink.written c.args.sink.now) c.in_err-reading.ensures.read)

pub returns-then-is_missing-clause-breaks : goal.returns-then-is_missing-clause-breaks
returns-then-is_missing-clause-breaks g c =
    missed c.args.self.now.order c.in_ok-reading.reading.moment c.in_ok-reading.reading.time c.in_ok-reading.reading.found c.reread.new.into.items
    (g.G.Gate.turns c.args.gate.now) (g.G.Gate.turns c.reread.new.self) (g.S.Sink.written c.args.sink.now) (sym c.is_missing.ensures ∙ c.if-is_missing.true)
    (read_by _ _ c.self.view_is _ _ _ _ _ c.in_ok-reading.ensures.read)

pub returns-then-is_missing-clause-failed : goal.returns-then-is_missing-clause-failed
returns-then-is_missing-clause-failed g c = λ failed.
    missing_why c.args.self.now.order.rules c.in_ok-reading.reading.moment c.in_ok-reading.reading.time c.in_ok-reading.reading.found c.reread.new.into.items
    (g.G.Gate.turns c.args.gate.now) (g.G.Gate.turns c.reread.new.self) (sym c.is_missing.ensures ∙ c.if-is_missing.true) c.in_ok-reading.ensures.cause.failed
    (read_by _ _ c.self.view_is _ _ _ _ _ c.in_ok-reading.ensures.read)

pub returns-clause-begins : goal.returns-clause-begins
returns-clause-begins g c = ok_to c.shelve.result c.shelve.ensures.shelves (λ b.
    begins_took c.in_ok-reading.reading.moment c.in_ok-reading.reading.time (content_from c.in_ok-reading.reading.found c.reread.new.into.items) c.args.self.now
    (g.G.Gate.turns c.args.gate.now) (g.G.Gate.turns c.reread.new.self) (g.G.Gate.turns c.shelve.new.gate) (g.S.Sink.written c.args.sink.now)
    (g.S.Sink.written c.shelve.new.sink)
    (found_there c.in_ok-reading.reading.found c.reread.new.into.items (sym c.is_missing.ensures ∙ c.if-is_missing.false)) c.requires
    (read_by _ _ c.self.view_is _ _ _ _ _ c.in_ok-reading.ensures.read) c.shelve.new.self b)

pub returns-clause-breaks : goal.returns-clause-breaks
returns-clause-breaks g c = err_to c.shelve.result c.shelve.ensures.breaks (λ b.
    begins_broke c.in_ok-reading.reading.moment c.in_ok-reading.reading.time (content_from c.in_ok-reading.reading.found c.reread.new.into.items)
    c.args.self.now
    (g.G.Gate.turns c.args.gate.now) (g.G.Gate.turns c.reread.new.self) (g.G.Gate.turns c.shelve.new.gate) (g.S.Sink.written c.args.sink.now)
    (g.S.Sink.written c.shelve.new.sink)
    (found_there c.in_ok-reading.reading.found c.reread.new.into.items (sym c.is_missing.ensures ∙ c.if-is_missing.false)) c.requires
    (read_by _ _ c.self.view_is _ _ _ _ _ c.in_ok-reading.ensures.read) b)
