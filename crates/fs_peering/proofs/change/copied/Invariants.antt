use Rattle.fs_peering.proofs.Words.{◌≡◌, ◌++◌, length}
use Rattle.fs_peering.proofs.change.copied.Given as goal

-- the copies, with the rules that are left, are the rules
abbrev pub invariant-loop-rest : goal.invariant-loop-rest
invariant-loop-rest l = l.copies.items ++ l.rest ≡ l.rules

abbrev pub decreases-loop-rest : goal.decreases-loop-rest
decreases-loop-rest l = length l.rest
