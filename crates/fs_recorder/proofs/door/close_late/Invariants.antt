use Rattle.fs_recorder.proofs.Words.{map, shut, take, ◌≡◌, Grew}
use Rattle.fs_recorder.specs.Door.{late_lines}
use Rattle.fs_recorder.proofs.door.close_late.Given as goal

abbrev pub invariant-loop-guest : goal.invariant-loop-guest
invariant-loop-guest g l = record {
  still : g.G.Gate.faults l.gate ≡ g.G.Gate.faults l.fn.gate;
  closed : Grew (g.G.Gate.turns l.fn.gate) (g.G.Gate.turns l.gate) (map shut (late_lines l.time (take l.guest-index l.guests)));
}
