use Rattle.std.proofs.Common.{arith}
use Rattle.fs_recorder.proofs.Doing.{handed_on}
use Rattle.cmd_wire.proofs.KeptFold.{heard_all, heard_broken, heard_more}
use Rattle.cmd_wire.proofs.keeping.hear_all.Goals as goal

pub returns-in_err-hear_next-clause-continues : goal.returns-in_err-hear_next-clause-continues
returns-in_err-hear_next-clause-continues g c =
    heard_broken c.loop.counter c.args.station.now c.loop.station _ (g.G.Gate.turns c.loop.gate) _ _ (g.S.Sink.written c.loop.sink) _
    (handed_on c.in_err-hear_next.field-0.0 c.from_residual.result c.from_residual.ensures.1) c.loop.invariant.heard c.in_err-hear_next.ensures.breaks

pub loop-preserved : goal.loop-preserved
loop-preserved g c = record {
  gate_later = omega (arith, c.loop.invariant.gate_later, c.in_ok-hear_next.ensures.later.0);
  sink_later = omega (arith, c.loop.invariant.sink_later, c.in_ok-hear_next.ensures.later.1);
  size = omega (arith, c.loop.invariant.size, c.in_ok-hear_next.ensures.size);
  heard = heard_more c.loop.counter c.args.station.now c.loop.station c.hear_next.new.station _ (g.G.Gate.turns c.loop.gate) _ _
      (g.S.Sink.written c.loop.sink) _ c.loop.invariant.heard c.in_ok-hear_next.ensures.hears;
}

pub returns-clause-continues : goal.returns-clause-continues
returns-clause-continues g c =
    heard_all c.loop.counter c.args.station.now c.loop.station (g.G.Gate.turns c.args.gate.now) (g.G.Gate.turns c.loop.gate)
    (g.S.Sink.written c.args.sink.now) (g.S.Sink.written c.loop.sink) (omega arith) c.loop.invariant.heard
