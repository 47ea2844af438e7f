use Rattle.std.proofs.Common.{◌≡◌, ◌↔◌, drop}
use Rattle.fs_unicast.proofs.shared.are_same_segments.Given as goal

abbrev pub invariant-loop-place : goal.invariant-loop-place
invariant-loop-place l = (drop l.place l.ones ≡ drop l.place l.others) ↔ (l.ones ≡ l.others)
