use Rattle.std.proofs.Common.{◌-◌, length}
use Rattle.fs_buckets.proofs.marks.put_before.Given as goal

abbrev pub decreases-stretches : goal.decreases-stretches
decreases-stretches l = l.stretch - length l.places.items
