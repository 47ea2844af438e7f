use Rattle.fs_rules.proofs.Words.{◌≡◌, ◌++◌, map, HasSortedGroups, chosen_in}
use Rattle.fs_rules.proofs.reading.push_admitted.Given as goal

abbrev pub invariant-loop-group : goal.invariant-loop-group
invariant-loop-group g l = record {
  list : map g.T.OfKept.shown l.list.items ++ map (λ k. g.T.OfKept.shows k.route) (chosen_in l.family l.group-iterator l.rest)
      ≡ map g.T.OfKept.shown l.fn.list.items ++ map (λ k. g.T.OfKept.shows k.route) (chosen_in l.family l.groups.entries l.rest);
  sorted : HasSortedGroups l.group-iterator;
}
