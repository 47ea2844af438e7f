use Rattle.std.{proofs.Common.{rules, ◌<◌}, specs.Prelude.{◌^◌, drop}}
use Rattle.fs_base.specs.Gate.{what_from}
use Rattle.cmd_wire.proofs.Recorded.{both_ok, breaks_of, err_to, hears_of, ran_err, ran_ok}
use Rattle.cmd_wire.proofs.recording.hear_one.Goals as goal

pub returns-clause-hears : goal.returns-clause-hears
returns-clause-hears g c =
    let small : c.args.event.moment < 2 ^ 64 = search rules in
    both_ok c.hear.result (ran_ok _ _ _ _ _ _ _ _ c.hear.result c.hear.ensures.ran) c.hear.ensures.stay (λ did stay before told.
    hears_of c.args.recorder.now c.hear.new.self c.args.event.moment c.args.event.time (what_from c.args.event.came (drop 15 c.args.buffer.now)) small
    before (g.G.Gate.turns c.args.gate.now) (g.G.Gate.turns c.hear.new.gate) (g.S.Sink.written c.args.sink.now)
    (g.S.Sink.written c.hear.new.sink) told did stay)

pub returns-clause-breaks : goal.returns-clause-breaks
returns-clause-breaks g c =
    let small : c.args.event.moment < 2 ^ 64 = search rules in
    err_to c.hear.result (ran_err _ _ _ _ _ _ _ _ c.hear.result c.hear.ensures.ran) (λ broke before told.
    breaks_of c.args.recorder.now c.hear.new.self c.args.event.moment c.args.event.time (what_from c.args.event.came (drop 15 c.args.buffer.now)) small
    before (g.G.Gate.turns c.args.gate.now) (g.G.Gate.turns c.hear.new.gate) (g.S.Sink.written c.args.sink.now) (g.S.Sink.written c.hear.new.sink) told broke)
