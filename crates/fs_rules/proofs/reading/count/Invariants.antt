use Rattle.fs_rules.proofs.Words.{◌≡◌, ◌+◌, length, HasSortedGroups, chosen_in}
use Rattle.fs_rules.proofs.reading.count.Given as goal

abbrev pub invariant-loop-group : goal.invariant-loop-group
invariant-loop-group l = record {
  total : l.total + length (chosen_in l.family l.group-iterator l.rest) ≡ length (chosen_in l.family l.groups.entries l.rest);
  sorted : HasSortedGroups l.group-iterator;
}
