use Rattle.fs_rules.proofs.{Words.{◌≡◌, ◌+◌, length, routes_of, HasSortedGroups, chosen_in, next_match}, InParts.{next_in}}
use Rattle.fs_rules.proofs.reading.next_match.Given as goal

abbrev pub invariant-loop-group : goal.invariant-loop-group
invariant-loop-group l = record {
  found : next_in l.view l.n l.number (chosen_in l.family l.group-iterator l.rest)
      ≡ next_match l.view l.n (routes_of (chosen_in l.family l.groups.entries l.rest));
  number : l.number + length (chosen_in l.family l.group-iterator l.rest) ≡ length (chosen_in l.family l.groups.entries l.rest);
  sorted : HasSortedGroups l.group-iterator;
}
