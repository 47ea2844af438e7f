use Rattle.fs_compile.proofs.{Words.{◌<◌, ◌≤◌, length, arith, facts_hold, tests_of}, Climbing.{missed_more, test_fails}}
use Rattle.fs_compile.proofs.tested.Tested.scan.Goals as goal

pub loop-number-preserved : goal.loop-number-preserved
loop-number-preserved g c = record {
  missed = missed_more (tests_of c.args.self.now) c.args.from c.loop-number.number c.loop-number.invariant.missed
      (test_fails (facts_hold c.args.self.now.facts.now) c.args.self.now.rules.now c.loop-number.number c.index-self-number.result c.test_facts.result inside
      c.test_facts.ensures.holds c.if-test_facts.false);
  later = let a : c.args.steps.now ≤ c.loop-number.steps = c.loop-number.invariant.later in let b = c.test_facts.ensures.step in omega (arith, a, b);
  steps =
      let a = c.loop-number.invariant.steps in
      let b = c.test_facts.ensures.step in
      let d = c.loop-number.auto.number in
      omega (arith, a, b, d, c.loop-number-test.true);
} where
  inside : c.loop-number.number < length c.args.self.now.rules.now
  inside = omega (arith, c.loop-number-test.true, c.requires)
