use Rattle.std.proofs.Common.{◌≤◌, ◌<◌, length}
use Rattle.cmd_wire.proofs.KeptFold.{HeardSo}
use Rattle.cmd_wire.proofs.keeping.hear_all.Given as goal

abbrev pub invariant-loop : goal.invariant-loop
invariant-loop g l = record {
  gate_later : g.G.Gate.faults l.fn.gate ≤ g.G.Gate.faults l.gate;
  sink_later : g.S.Sink.faults l.fn.sink ≤ g.S.Sink.faults l.sink;
  size : 0 < length l.buffer;
  heard : HeardSo l.counter l.fn.station l.station
      (g.G.Gate.turns l.fn.gate) (g.G.Gate.turns l.gate) (g.S.Sink.written l.fn.sink) (g.S.Sink.written l.sink);
}
