use Rattle.fs_ranges.proofs.Words.{◌≡◌, ℕ, true, take, contains, is_in}
use Rattle.fs_ranges.proofs.spans.hull_of.Given as goal

abbrev pub invariant-loop-range : goal.invariant-loop-range
invariant-loop-range l = (n : ℕ) → contains (take l.range-index l.ranges) n ≡ true → is_in n (l.low, l.high) ≡ true
