use Rattle.fs_flows.proofs.{Words.{keys_of, Mends, progress}, Searching.{done, IsFrom, IsThere, left}}
use Rattle.fs_flows.proofs.search.retest_related.Given as goal

abbrev pub invariant-loop-next : goal.invariant-loop-next
invariant-loop-next g l = record {
  mends : Mends l.unicast l.config (done l.swap.prefix l.next) (progress l.fn.groups.entries l.fn.changes l.fn.steps)
      (progress l.groups.entries l.changes l.steps);
  from : IsFrom l.swap.prefix l.next;
  there : IsThere (keys_of l.groups.entries) l.next;
}

abbrev pub decreases-loop-next : goal.decreases-loop-next
decreases-loop-next g l = left l.next (keys_of l.groups.entries)
