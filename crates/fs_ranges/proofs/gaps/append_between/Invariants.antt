use Rattle.fs_ranges.proofs.Words.{◌≡◌, ◌^◌, ◌≤◌, ◌++◌, drop, gaps_from}
use Rattle.fs_ranges.proofs.gaps.append_between.Given as goal

-- what is left gives the rest
abbrev pub invariant-loop-first : goal.invariant-loop-first
invariant-loop-first l = record {
  small : l.from ≤ 2 ^ 64;
  rest : l.gaps.items ++ gaps_from l.from (drop l.first-index l.ranges) ≡ l.fn.gaps.items ++ gaps_from 0 l.ranges;
}
