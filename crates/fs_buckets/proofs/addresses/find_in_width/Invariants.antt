use Rattle.fs_buckets.proofs.Words.{◌+◌, IsBetween}
use Rattle.fs_buckets.proofs.addresses.find_in_width.Given as goal

abbrev pub invariant-halves : goal.invariant-halves
invariant-halves l = IsBetween l.items l.address l.place (l.place + l.size)

abbrev pub decreases-halves : goal.decreases-halves
decreases-halves l = l.size
