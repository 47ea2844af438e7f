use Rattle.fs_buckets.proofs.Words.{◌+◌, ◌≤◌, min, IsPlaceOf}
use Rattle.fs_buckets.proofs.addresses.count_below.Given as goal

abbrev pub invariant-loop-number : goal.invariant-loop-number
invariant-loop-number l = record {
  counted : IsPlaceOf l.items l.address (min l.number l.to) (l.from + l.count);
  few : l.count + l.from ≤ min l.number l.to;
}
