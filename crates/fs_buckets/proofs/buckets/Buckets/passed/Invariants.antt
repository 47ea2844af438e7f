use Rattle.fs_buckets.proofs.Words.{ℕ, ◌-◌, ◌<◌, ◌≤◌, length, get_or, numbers_in, IsPassed, bucket_span}
use Rattle.fs_buckets.proofs.buckets.Buckets.passed.Given as goal

abbrev pub invariant-loop-bucket : goal.invariant-loop-bucket
invariant-loop-bucket l = record {
  within : l.bucket ≤ length (numbers_in l.self.lasts);
  before : (b : ℕ) → b < l.bucket → IsPassed (bucket_span l.self b) (l.first, l.last) l.same;
  left : (b : ℕ) → l.bucket ≤ b → b < length (numbers_in l.self.lasts) → l.last ≤ get_or (numbers_in l.self.lasts) b 0;
}

abbrev pub decreases-loop-bucket : goal.decreases-loop-bucket
decreases-loop-bucket l = length (numbers_in l.self.lasts) - l.bucket
