use Rattle.std.proofs.Common.{rules, ◌≡◌}
use Rattle.std.specs.Prelude.{max}
use Rattle.fs_base.specs.Gate.{content_from}
use Rattle.cmd_wire.{specs.{Holding.{content_of}, Judged.{judged_as}}, proofs.{Kept.{shelve_broke, shelve_took}, Recorded.{err_to, ok_to}}}
use Rattle.cmd_wire.proofs.keeping.Station.shelve.Goals as goal

pub returns-clause-shelves : goal.returns-clause-shelves
returns-clause-shelves g c =
    let at : c.max-self-inside.result ≡ max c.self.inside.moment c.args.reading.now.moment = search rules in
    ok_to c.settle.result c.settle.ensures.took (λ took.
    shelve_took c.args.reading.now.moment c.args.reading.now.time (content_from c.args.reading.now.found c.args.octets.items)
    (content_of c.new-holding.result) c.new-holding.ensures
    _ c.args.self.now c.self.view_is c.put.new.self c.max-self-inside.result c.put.result c.put.ensures.shelved at c.put.ensures.answered
    (judged_as c.in_ok-judged.judged) c.config.result.now c.config.ensures c.if-not-put.false c.in_ok-judged.ensures.judged
    (g.G.Gate.turns c.args.gate.now) (g.G.Gate.turns c.settle.new.gate) (g.S.Sink.written c.args.sink.now)
    (g.S.Sink.written c.settle.new.sink) c.settle.new.self took)

pub returns-clause-breaks : goal.returns-clause-breaks
returns-clause-breaks g c =
    let at : c.max-self-inside.result ≡ max c.self.inside.moment c.args.reading.now.moment = search rules in
    err_to c.settle.result c.settle.ensures.breaks (λ broke.
    shelve_broke c.args.reading.now.moment c.args.reading.now.time (content_from c.args.reading.now.found c.args.octets.items)
    (content_of c.new-holding.result) c.new-holding.ensures
    _ c.args.self.now c.self.view_is c.put.new.self c.max-self-inside.result c.put.result c.put.ensures.shelved at c.put.ensures.answered
    (judged_as c.in_ok-judged.judged) c.config.result.now c.config.ensures c.if-not-put.false c.in_ok-judged.ensures.judged
    (g.G.Gate.turns c.args.gate.now) (g.G.Gate.turns c.settle.new.gate) (g.S.Sink.written c.args.sink.now) (g.S.Sink.written c.settle.new.sink) broke)
