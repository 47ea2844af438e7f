use Rattle.std.proofs.Common.{length}
use Rattle.fs_mrt.proofs.records.is_heard_within.Given as goal

abbrev pub decreases-records : goal.decreases-records
decreases-records l = length l.rest
