use Rattle.fs_base.{proofs.Grew.{on_err}, specs.Gate.{what_from}}
use Rattle.cmd_wire.{proofs.{KeptFold.{hears_broke, hears_over, hears_took, octets_counted}, Recorded.{err_to, ok_to}}, specs.Keeping.{count_of}}
use Rattle.cmd_wire.proofs.keeping.Station.hear.Goals as goal

pub returns-in_err-pass-clause-breaks : goal.returns-in_err-pass-clause-breaks
returns-in_err-pass-clause-breaks g c = on_err c.from_residual.result
    (hears_over c.args.event.now.moment c.args.event.now.time (what_from c.args.event.now.came c.args.into.now) (count_of c.args.event.now.came)
    (octets_counted c.args.event.now.came c.args.into.now c.requires) c.args.self.now (g.G.Gate.turns c.args.gate.now) (g.S.Sink.written c.args.sink.now)
    c.in_err-pass.ensures.over)

pub returns-clause-hears : goal.returns-clause-hears
returns-clause-hears g c = ok_to c.follow.result c.follow.ensures.follows (λ did.
    hears_took c.args.event.now.moment c.args.event.now.time (what_from c.args.event.now.came c.args.into.now) (count_of c.args.event.now.came)
    (octets_counted c.args.event.now.came c.args.into.now c.requires) c.args.self.now c.pass.new.self c.in_ok-pass.ensures.passed c.follow.new.self
    (g.G.Gate.turns c.args.gate.now) (g.G.Gate.turns c.follow.new.gate) (g.S.Sink.written c.args.sink.now) (g.S.Sink.written c.follow.new.sink)
    c.in_ok-pass.ensures.below did)

pub returns-clause-breaks : goal.returns-clause-breaks
returns-clause-breaks g c = err_to c.follow.result c.follow.ensures.breaks (λ broke.
    hears_broke c.args.event.now.moment c.args.event.now.time (what_from c.args.event.now.came c.args.into.now) (count_of c.args.event.now.came)
    (octets_counted c.args.event.now.came c.args.into.now c.requires) c.args.self.now c.pass.new.self c.in_ok-pass.ensures.passed
    (g.G.Gate.turns c.args.gate.now) (g.G.Gate.turns c.follow.new.gate) (g.S.Sink.written c.args.sink.now) (g.S.Sink.written c.follow.new.sink)
    c.follow.ensures.unlimited broke)
