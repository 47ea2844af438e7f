use Rattle.std.proofs.Common.{refl}
use Rattle.fs_base.proofs.Grew.{on_err}
use Rattle.fs_peering.specs.Keeper.{tells_all}
use Rattle.cmd_wire.proofs.{Kept.{open_broke, open_took, open_untold, told_by, untold_by, untold_not}, Recorded.{err_to, ok_to}}
use Rattle.cmd_wire.proofs.keeping.Station.tell_if.Goals as goal

pub returns-then-not-is_up-clause-took : goal.returns-then-not-is_up-clause-took
returns-then-not-is_up-clause-took g c =
    untold_not c.args.is_up c.if-not-is_up.true c.args.time c.args.self.now (g.G.Gate.turns c.args.gate.now) (g.S.Sink.written c.args.sink.now)

pub returns-in_err-news-clause-breaks : goal.returns-in_err-news-clause-breaks
returns-in_err-news-clause-breaks g c = on_err c.from_residual.result
    (untold_by c.args.is_up c.if-not-is_up.false c.args.time c.args.self.now _ _ _ _
    (open_broke (λ config. tells_all config c.args.time) _ _ c.self.view_is refl
    (g.G.Gate.turns c.args.gate.now) (g.G.Gate.turns c.tell_all.new.gate) (g.S.Sink.written c.args.sink.now)
    (g.S.Sink.written c.args.sink.now) c.in_err-news.ensures.breaks))

pub returns-clause-breaks : goal.returns-clause-breaks
returns-clause-breaks g c = err_to c.write_news.result c.write_news.ensures.err (λ part.
    untold_by c.args.is_up c.if-not-is_up.false c.args.time c.args.self.now _ _ _ _
    (open_untold (λ config. tells_all config c.args.time) _ _ c.self.view_is refl
    (g.G.Gate.turns c.args.gate.now) (g.G.Gate.turns c.tell_all.new.gate) (g.S.Sink.written c.args.sink.now) (g.S.Sink.written c.write_news.new.sink)
    c.tell_all.new.self c.in_ok-news.news c.in_ok-news.ensures.took part))

pub returns-clause-took : goal.returns-clause-took
returns-clause-took g c = ok_to c.write_news.result c.write_news.ensures.ok (λ told.
    told_by c.args.is_up c.if-not-is_up.false c.args.time c.args.self.now _ _ _ _ _
    (open_took (λ config. tells_all config c.args.time) _ _ c.self.view_is refl
    (g.G.Gate.turns c.args.gate.now) (g.G.Gate.turns c.tell_all.new.gate) (g.S.Sink.written c.args.sink.now) (g.S.Sink.written c.write_news.new.sink)
    c.tell_all.new.self c.in_ok-news.news c.in_ok-news.ensures.took told))
