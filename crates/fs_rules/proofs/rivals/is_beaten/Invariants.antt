use Rattle.fs_rules.proofs.Words.{◌≡◌, drop, is_beaten}
use Rattle.fs_rules.proofs.rivals.is_beaten.Given as goal

abbrev pub invariant-loop-s : goal.invariant-loop-s
invariant-loop-s l = is_beaten (drop l.s-index l.s-items) l.k ≡ is_beaten l.kept l.k
