use Rattle.fs_buckets.proofs.{Words.{◌<◌, length, arith, numbers_in}, Stretching.{left_on}}
use Rattle.fs_buckets.proofs.buckets.Buckets.passed.Goals as goal

pub returns-else-passes : goal.returns-else-passes
returns-else-passes c = record {
  within = c.loop-bucket.invariant.within;
  before = c.loop-bucket.invariant.before;
  behind = λ b le below.
      left_on c.args.self.now c.requires.sound.0 c.loop-bucket.bucket b (c.args.first, c.args.last) c.args.same c.requires.sound.1 below le
      (c.passes.ensures.no c.if-passes.false (c.loop-bucket.invariant.left c.loop-bucket.bucket (omega arith) within));
} where
  within : c.loop-bucket.bucket < length (numbers_in c.args.self.now.lasts)
  within = omega (arith, c.loop-bucket-test.true, c.len.ensures)
