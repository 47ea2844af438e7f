use Rattle.std.proofs.Common.{◌≡◌, drop}
use Rattle.fs_ranges.proofs.Enclosing.{all_within}
use Rattle.fs_ranges.proofs.spans.all_enclosed.Given as goal

-- what is left answers for all
abbrev pub invariant-loop-range : goal.invariant-loop-range
invariant-loop-range l = all_within (drop l.range-index l.ranges) l.others ≡ all_within l.ranges l.others
