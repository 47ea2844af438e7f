use Rattle.std.proofs.Common.{◌≡◌, ◌≤◌, length}
use Rattle.cmd_wire.proofs.Recorded.{Heard}
use Rattle.cmd_wire.proofs.recording.hear_all.Given as goal

abbrev pub invariant-loop : goal.invariant-loop
invariant-loop g l = record {
  gate_later : g.G.Gate.faults l.fn.gate ≤ g.G.Gate.faults l.gate;
  sink_later : g.S.Sink.faults l.fn.sink ≤ g.S.Sink.faults l.sink;
  size : length l.buffer ≡ 65551;
  heard : Heard l.counter l.fn.recorder.books.scribe.limit l.fn.recorder.books.desk.config l.recorder
      (g.G.Gate.turns l.fn.gate) (g.G.Gate.turns l.gate) (g.S.Sink.written l.fn.sink) (g.S.Sink.written l.sink);
}
