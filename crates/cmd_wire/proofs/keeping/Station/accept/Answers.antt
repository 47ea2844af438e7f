use Rattle.std.proofs.Common.{refl}
use Rattle.fs_base.proofs.Grew.{on_err}
use Rattle.fs_peering.specs.Keeper.{accepts}
use Rattle.cmd_wire.proofs.{Kept.{open_broke, open_took, open_untold}, Recorded.{err_to, ok_to}}
use Rattle.cmd_wire.proofs.keeping.Station.accept.Goals as goal

pub returns-in_err-news-clause-breaks : goal.returns-in_err-news-clause-breaks
returns-in_err-news-clause-breaks g c = on_err c.from_residual.result
    (open_broke (λ config. accepts config c.args.time c.args.rules) _ _ c.self.view_is refl
    (g.G.Gate.turns c.args.gate.now) (g.G.Gate.turns c.accept.new.gate) (g.S.Sink.written c.args.sink.now)
    (g.S.Sink.written c.args.sink.now) c.in_err-news.ensures.breaks)

pub returns-clause-breaks : goal.returns-clause-breaks
returns-clause-breaks g c = err_to c.write_news.result c.write_news.ensures.err (λ part.
    open_untold (λ config. accepts config c.args.time c.args.rules) _ _ c.self.view_is refl
    (g.G.Gate.turns c.args.gate.now) (g.G.Gate.turns c.accept.new.gate) (g.S.Sink.written c.args.sink.now) (g.S.Sink.written c.write_news.new.sink)
    c.accept.new.self c.in_ok-news.news c.in_ok-news.ensures.took part)

pub returns-clause-took : goal.returns-clause-took
returns-clause-took g c = ok_to c.write_news.result c.write_news.ensures.ok (λ told.
    open_took (λ config. accepts config c.args.time c.args.rules) _ _ c.self.view_is refl
    (g.G.Gate.turns c.args.gate.now) (g.G.Gate.turns c.accept.new.gate) (g.S.Sink.written c.args.sink.now) (g.S.Sink.written c.write_news.new.sink)
    c.accept.new.self c.in_ok-news.news c.in_ok-news.ensures.took told)
