use Rattle.fs_base.{proofs.Grew.{on_err}, specs.Gate.{content_from}}
use Rattle.cmd_wire.proofs.{Kept.{read_by, reads_broke, reads_none, reads_took}, Recorded.{err_to, ok_to}}
use Rattle.cmd_wire.proofs.keeping.Station.read.Goals as goal

pub returns-in_err-reading-clause-breaks : goal.returns-in_err-reading-clause-breaks
returns-in_err-reading-clause-breaks g c = on_err c.from_residual.result
    (reads_none c.args.self.now (g.G.Gate.turns c.args.gate.now) (g.G.Gate.turns c.reread.new.self)
    (g.S.Sink.written c.args.sink.now) c.in_err-reading.ensures.read)

pub returns-clause-reads : goal.returns-clause-reads
returns-clause-reads g c = ok_to c.shelve.result c.shelve.ensures.shelves (λ b.
    reads_took c.in_ok-reading.reading.moment c.in_ok-reading.reading.time (content_from c.in_ok-reading.reading.found c.reread.new.into.items)
    c.args.self.now c.shelve.new.self
    (g.G.Gate.turns c.args.gate.now) (g.G.Gate.turns c.reread.new.self) (g.G.Gate.turns c.shelve.new.gate) (g.S.Sink.written c.args.sink.now)
    (g.S.Sink.written c.shelve.new.sink)
    (read_by _ _ c.self.view_is _ _ _ _ _ c.in_ok-reading.ensures.read) b)

pub returns-clause-breaks : goal.returns-clause-breaks
returns-clause-breaks g c = err_to c.shelve.result c.shelve.ensures.breaks (λ b.
    reads_broke c.in_ok-reading.reading.moment c.in_ok-reading.reading.time (content_from c.in_ok-reading.reading.found c.reread.new.into.items) c.args.self.now
    (g.G.Gate.turns c.args.gate.now) (g.G.Gate.turns c.reread.new.self) (g.G.Gate.turns c.shelve.new.gate) (g.S.Sink.written c.args.sink.now)
    (g.S.Sink.written c.shelve.new.sink)
    (read_by _ _ c.self.view_is _ _ _ _ _ c.in_ok-reading.ensures.read) b)
