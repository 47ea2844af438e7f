use Rattle.fs_shadow.proofs.{Words.{◌≡◌, ◌≤◌, ◌++◌, drop, take, all_admitted, report_behind, report_of}, Destinations.{AreApart}}
use Rattle.fs_shadow.proofs.reporting.append_report.Given as goal

-- what stands and what is to come is the whole, and no rule before the stretch contains one that is to come
abbrev pub invariant-loop-number : goal.invariant-loop-number
invariant-loop-number l = record {
  within : l.start ≤ l.number;
  apart : AreApart (all_admitted l.list) l.start l.number;
  rest : l.pairs.items ++ report_behind (take l.number (all_admitted l.list)) (drop l.number (all_admitted l.list)) ≡ l.fn.pairs.items
      ++ report_of (all_admitted l.list);
}
