use Rattle.std.proofs.Common.{◌≡◌, ◌≤◌, length}
use Rattle.fs_base.proofs.Writing.{Writing}
use Rattle.fs_base.proofs.writes.write_all.Given as goal

abbrev pub invariant-loop-rest : goal.invariant-loop-rest
invariant-loop-rest g l = record {
  later : g.S.Sink.faults l.fn.sink ≤ g.S.Sink.faults l.sink;
  idle : length l.fn.piece ≡ 0 → l.sink ≡ l.fn.sink;
  writing : Writing l.fn.piece l.rest (g.S.Sink.written l.fn.sink) (g.S.Sink.written l.sink);
}

abbrev pub decreases-loop-rest : goal.decreases-loop-rest
decreases-loop-rest g l = length l.rest
