use Rattle.fs_mrt.proofs.Words.{◌≡◌, None, drop, lowest}
use Rattle.fs_mrt.proofs.peers.number_at.Given as goal

abbrev pub invariant-loop-peer : goal.invariant-loop-peer
invariant-loop-peer l = lowest l.address l.found (drop l.peer-index l.peers) ≡ lowest l.address None l.peers
