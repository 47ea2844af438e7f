use Rattle.std.proofs.Common.{◌<◌, length}
use Rattle.fs_rules.proofs.rivals.leader_of.Given as goal

abbrev pub invariant-loop-next : goal.invariant-loop-next
invariant-loop-next l = l.leader < length l.kept
