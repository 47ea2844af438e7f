use Rattle.std.proofs.Common.{refl}
use Rattle.fs_base.{proofs.Grew.{on_err}, specs.Gate.{what_from}}
use Rattle.fs_peering.specs.Keeper.{hears}
use Rattle.cmd_wire.proofs.Kept.{open_broke, open_took, open_untold, open_up}
use Rattle.cmd_wire.proofs.keeping.Station.attend.Goals as goal

pub returns-in_err-news-clause-breaks : goal.returns-in_err-news-clause-breaks
returns-in_err-news-clause-breaks g c = on_err c.from_residual.result
    (open_broke (λ config. hears config c.args.event.now.time (what_from c.args.event.now.came c.args.into.now)) _ _ c.self.view_is refl
    (g.G.Gate.turns c.args.gate.now) (g.G.Gate.turns c.hear.new.gate) (g.S.Sink.written c.args.sink.now)
    (g.S.Sink.written c.args.sink.now) c.in_err-news.ensures.breaks)

pub returns-in_err-write_news-clause-breaks : goal.returns-in_err-write_news-clause-breaks
returns-in_err-write_news-clause-breaks g c = on_err c.from_residual-in_err-write_news.result
    (open_untold (λ config. hears config c.args.event.now.time (what_from c.args.event.now.came c.args.into.now)) _ _ c.self.view_is refl
    (g.G.Gate.turns c.args.gate.now) (g.G.Gate.turns c.hear.new.gate) (g.S.Sink.written c.args.sink.now) (g.S.Sink.written c.write_news.new.sink)
    c.hear.new.self c.in_ok-news.news c.in_ok-news.ensures.took c.in_err-write_news.ensures.err)

pub returns-clause-up : goal.returns-clause-up
returns-clause-up g c =
    open_up (λ config. hears config c.args.event.now.time (what_from c.args.event.now.came c.args.into.now)) _ _ c.self.view_is refl
    (g.G.Gate.turns c.args.gate.now) (g.G.Gate.turns c.hear.new.gate) (g.S.Sink.written c.args.sink.now) (g.S.Sink.written c.write_news.new.sink)
    c.hear.new.self c.in_ok-news.news _ c.in_ok-news.ensures.took c.is_up.ensures

pub returns-clause-took : goal.returns-clause-took
returns-clause-took g c =
    open_took (λ config. hears config c.args.event.now.time (what_from c.args.event.now.came c.args.into.now)) _ _ c.self.view_is refl
    (g.G.Gate.turns c.args.gate.now) (g.G.Gate.turns c.hear.new.gate) (g.S.Sink.written c.args.sink.now) (g.S.Sink.written c.write_news.new.sink)
    c.hear.new.self c.in_ok-news.news c.in_ok-news.ensures.took c.in_ok-write_news.ensures.ok
