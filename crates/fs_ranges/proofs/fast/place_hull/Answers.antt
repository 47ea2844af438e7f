use Rattle.std.proofs.Common.{arith}
use Rattle.fs_ranges.proofs.{Hulls.{hull_placed}, Placing.{put_free}}
use Rattle.fs_ranges.proofs.fast.place_hull.Goals as goal

pub returns-clause-same : goal.returns-clause-same
returns-clause-same c = λ facts none.
    hull_placed c.args.ranges.now c.put.new.self c.args.used c.in-Some.range c.args.test.now facts (let low = c.if-used-lt-LAST.true in
    omega (arith, low)) c.requires c.put.ensures none
    (λ h. c.in-Some.ensures facts h)

pub returns-clause-free : goal.returns-clause-free
returns-clause-free c = put_free c.args.ranges.now c.put.new.self c.args.used c.in-Some.range c.requires c.put.ensures
