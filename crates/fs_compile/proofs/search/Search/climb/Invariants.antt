use Rattle.fs_compile.proofs.Words.{◌+◌, ◌-◌, ◌<◌, ◌≤◌, List, Bool, get_or, length, max, numbers_in, IsNearIn, Missed, Within, tests_of, marked, start_at}
use Rattle.fs_compile.proofs.search.Search.climb.Given as goal

abbrev pub invariant-loop-bucket : goal.invariant-loop-bucket
invariant-loop-bucket g l = record {
  within : l.bucket ≤ length (numbers_in l.self.buckets.now.lasts);
  ends : l.bucket < length (numbers_in l.self.buckets.now.lasts) → l.start.address ≤ get_or (numbers_in l.self.buckets.now.lasts) l.bucket 0;
  later : l.initial.steps ≤ l.steps;
  missed : (near : List Bool) → IsNearIn l.self l.start near → Within (tests_of l.self.tested) near
      → Missed (tests_of l.self.tested) l.start.from (start_at l.self.buckets.now l.bucket);
  steps : (near : List Bool) → IsNearIn l.self l.start near
      → l.steps + marked l.start.from near ≤ l.initial.steps + marked (max l.start.from (start_at l.self.buckets.now l.bucket)) near;
}

abbrev pub decreases-loop-bucket : goal.decreases-loop-bucket
decreases-loop-bucket g l = length (numbers_in l.self.buckets.now.lasts) - l.bucket
