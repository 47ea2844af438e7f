use Rattle.std.proofs.Common.{◌≡◌, ◌≤◌, length}
use Rattle.fs_peering.proofs.WrittenInParts.{Wrote}
use Rattle.fs_peering.proofs.round.write_end.Given as goal

abbrev pub invariant-loop-rest : goal.invariant-loop-rest
invariant-loop-rest g l = record {
  later : g.W.Wire.faults l.fn.wire ≤ g.W.Wire.faults l.wire;
  idle : length l.fn.piece ≡ 0 → (length l.rest ≡ 0) × (l.wire ≡ l.fn.wire);
  writing : Wrote l.fn.end l.fn.piece l.rest (g.W.Wire.tells l.fn.wire) (g.W.Wire.tells l.wire);
}

abbrev pub decreases-loop-rest : goal.decreases-loop-rest
decreases-loop-rest g l = length l.rest
