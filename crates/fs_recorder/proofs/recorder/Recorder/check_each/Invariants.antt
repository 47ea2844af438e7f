use Rattle.fs_recorder.proofs.Words.{take, ◌≡◌, ◌≤◌, StayKnown, RanSo, done}
use Rattle.fs_recorder.specs.Steps.{peers_in, sweeps}
use Rattle.fs_recorder.proofs.recorder.Recorder.check_each.Given as goal

abbrev pub invariant-loop-seat : goal.invariant-loop-seat
invariant-loop-seat g l = record {
  still : g.G.Gate.faults l.gate ≡ g.G.Gate.faults l.fn.gate;
  later : g.S.Sink.faults l.fn.sink ≤ g.S.Sink.faults l.sink;
  did : RanSo done (sweeps l.time (peers_in (take l.seat-index l.seats))) l.fn.self l.self (g.G.Gate.turns l.fn.gate) (g.G.Gate.turns l.gate)
      (g.S.Sink.written l.fn.sink) (g.S.Sink.written l.sink);
  stay : StayKnown l.fn.self l.self;
}
