use Rattle.fs_buckets.proofs.Words.{◌-◌, length, numbers_in}
use Rattle.fs_buckets.proofs.marks.put_places.Given as goal

abbrev pub decreases-asked : goal.decreases-asked
decreases-asked l = length (numbers_in l.list) - l.place
