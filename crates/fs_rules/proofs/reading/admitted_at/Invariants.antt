use Rattle.fs_rules.proofs.Words.{◌≡◌, slice_get, HasSortedGroups, chosen_in}
use Rattle.fs_rules.proofs.reading.admitted_at.Given as goal

abbrev pub invariant-loop-group : goal.invariant-loop-group
invariant-loop-group l = record {
  found : slice_get (chosen_in l.family l.group-iterator l.rest) l.left ≡ slice_get (chosen_in l.family l.groups.entries l.rest) l.n;
  sorted : HasSortedGroups l.group-iterator;
}
