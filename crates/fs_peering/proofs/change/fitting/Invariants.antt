use Rattle.fs_peering.proofs.Words.{◌≡◌, ◌+◌, length}
use Rattle.fs_peering.specs.Keeper.{fitting}
use Rattle.fs_peering.proofs.change.fitting.Given as goal

-- with those that fit of the rules left, all are counted
abbrev pub invariant-loop-rest : goal.invariant-loop-rest
invariant-loop-rest l = record {
  counted : l.count + fitting l.left l.rest ≡ fitting l.room l.rules;
  passed : l.count + length l.rest ≡ length l.rules;
}

abbrev pub decreases-loop-rest : goal.decreases-loop-rest
decreases-loop-rest l = length l.rest
