use Rattle.fs_ranges.proofs.Words.{◌≡◌, drop, contains}
use Rattle.fs_ranges.proofs.spans.any_contains.Given as goal

-- what is left answers for all
abbrev pub invariant-loop-first : goal.invariant-loop-first
invariant-loop-first l = contains (drop l.first-index l.ranges) l.number ≡ contains l.ranges l.number
