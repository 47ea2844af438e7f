use Rattle.fs_cli.{specs.Program.{objects}, proofs.Running.{promises_none, promises_some}}
use Rattle.fs_cli.proofs.program.run_within.Goals as goal

pub returns-in-None : goal.returns-in-None
returns-in-None g c =
    promises_none c.args.limit g.F.Files g.S.Sink g.W.Wire g.C.Clock c.args.files.now c.args.sink.now c.args.wire.now c.args.clock.now _ c.in-None.ensures

pub returns-in-Some : goal.returns-in-Some
returns-in-Some g c =
    promises_some c.args.limit
    (objects g.F.Files g.S.Sink g.W.Wire g.C.Clock c.args.files.now c.perform.new.files c.args.sink.now c.perform.new.sink c.args.wire.now
    c.perform.new.wire c.args.clock.now c.perform.new.clock)
    _ _ c.perform.result
    c.in-Some.ensures c.perform.ensures.runs c.perform.ensures.known
    (λ three. ((c.perform.ensures.quiet three).0, (c.perform.ensures.quiet three).1.0, (c.perform.ensures.quiet three).1.1))
    c.perform.ensures.wanting c.perform.ensures.limited c.perform.ensures.still c.perform.ensures.early c.perform.ensures.stopped
    c.perform.ensures.unfinished c.perform.ensures.unopened c.perform.ensures.generates c.perform.ensures.opens c.perform.ensures.unspoken
