use Rattle.fs_conf.proofs.Words.{◌≡◌, suc, drop, items_view}
use Rattle.fs_conf.specs.Fault.{each_fault, peer_fault}
use Rattle.fs_conf.proofs.faults.each_peer.Given as goal

-- what is left answers for all
abbrev pub invariant-loop-place : goal.invariant-loop-place
invariant-loop-place l = each_fault peer_fault (suc l.place) (items_view (drop l.place l.items)) ≡ each_fault peer_fault 1 (items_view l.items)
