use Rattle.std.proofs.Common.{◌≡◌, take}
use Rattle.fs_peering.proofs.link.copy_all.Given as goal

abbrev pub invariant-loop-sent : goal.invariant-loop-sent
invariant-loop-sent l = l.copies.items ≡ take l.sent-index l.rules
