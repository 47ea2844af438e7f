use Rattle.fs_compile.proofs.Words.{◌≡◌, ◌+◌, ◌<◌, ◌≤◌, ℕ, Option, Some, None, length, get_or, max, sym, rules, subst, arith, Node, Hit, numbers_in}
use Rattle.fs_compile.proofs.Words.{Missed, hit_number, count_of, tests_of, marked, start_at, tested_to}
use Rattle.fs_compile.proofs.{Counts.{marked_later}, Climbing.{climbed_cost, missed_none, parent_ends}}
use Rattle.fs_compile.proofs.search.Search.climb.Goals as goal

pub returns-in-Some-clause-steps : goal.returns-in-Some-clause-steps
returns-in-Some-clause-steps g c = λ near n.
    let inv = c.loop-bucket.invariant.steps near n in
    let own = c.in-Some.ensures.steps near n in
    omega (arith, inv, own)

pub loop-bucket-init : goal.loop-bucket-init
loop-bucket-init g c = record {
  within = c.requires.starts.within;
  ends = c.requires.starts.ends;
  later = omega arith;
  missed = search rules;
  steps = λ near n. let more = marked_later c.args.start.from (max c.args.start.from (start_at c.args.self.now.buckets.now c.args.start.bucket)) near
      (omega arith) in omega (arith, more);
}

pub bucket-requires : goal.bucket-requires
bucket-requires g c = record { whole = c.requires.whole; inside = inside; ends = c.loop-bucket.invariant.ends inside } where
  inside : c.loop-bucket.bucket < length (numbers_in c.args.self.now.buckets.now.lasts)
  inside = let t = c.loop-bucket-test.true in let l = c.len.ensures in omega (arith, t, l)

pub loop-bucket-preserved : goal.loop-bucket-preserved
loop-bucket-preserved g c = record {
  within = subst (λ (x : Node ℕ). x.parent ≤ length (numbers_in c.args.self.now.buckets.now.lasts)) (sym c.at-parent.ensures)
      (c.requires.whole.sound.within c.loop-bucket.bucket inside);
  ends = subst (λ (x : Node ℕ). x.parent < length (numbers_in c.args.self.now.buckets.now.lasts)
      → c.args.start.address ≤ get_or (numbers_in c.args.self.now.buckets.now.lasts) x.parent 0) (sym c.at-parent.ensures)
      (parent_ends c.args.self.now (record c.args.start { bucket = c.loop-bucket.bucket })
      (record { whole = c.requires.whole; inside = inside; ends = c.loop-bucket.invariant.ends inside }));
  later = let a = c.loop-bucket.invariant.later in let b = c.bucket.ensures.later in omega (arith, a, b);
  missed = λ near n w.
      subst (λ (x : Node ℕ). Missed (tests_of c.args.self.now.tested) c.args.start.from (start_at c.args.self.now.buckets.now x.parent))
      (sym c.at-parent.ensures)
      (missed_none _ _ c.bucket.result (c.bucket.ensures.found near n w (c.loop-bucket.invariant.missed near n w)) c.in_default.is);
  steps = λ near n.
      subst (λ (x : Node ℕ). c.bucket.new.steps + marked c.args.start.from near ≤ c.args.steps.now
      + marked (max c.args.start.from (start_at c.args.self.now.buckets.now x.parent)) near) (sym c.at-parent.ensures)
      (let inv = c.loop-bucket.invariant.steps near n in let own = c.in_default.ensures.steps near n in omega (arith, inv, own));
} where
  inside : c.loop-bucket.bucket < length (numbers_in c.args.self.now.buckets.now.lasts)
  inside = let t = c.loop-bucket-test.true in let l = c.len.ensures in omega (arith, t, l)

pub returns-in_err-number-clause-steps : goal.returns-in_err-number-clause-steps
returns-in_err-number-clause-steps g c = λ near n.
    subst (λ (hit : Option Hit). c.run.new.steps + marked c.args.start.from near ≤ c.args.steps.now
    + marked (tested_to (hit_number hit) (count_of c.args.self.now)) near) (sym c.from_residual.ensures)
    (climbed_cost c.args.self.now c.args.start near c.loop-bucket.bucket c.max-tail.result c.args.steps.now c.loop-bucket.steps c.run.new.steps
    None c.requires.whole n last low (c.loop-bucket.invariant.steps near n) c.in_err-number.ensures) where
      last : c.loop-bucket.bucket ≡ length (numbers_in c.args.self.now.buckets.now.lasts)
      last = let t = c.loop-bucket-test.false in let l = c.len.ensures in let w = c.loop-bucket.invariant.within in omega (arith, t, l, w)

      low : c.max-tail.result ≡ max c.args.start.from (length c.args.self.now.buckets.now.homes.items)
      low = let m = c.max-tail.ensures in let e = c.len-2.ensures in let o = c.args.self.now.buckets.now.homes.ok in omega (arith, m, e, o)

pub returns-clause-steps : goal.returns-clause-steps
returns-clause-steps g c = λ near n.
    climbed_cost c.args.self.now c.args.start near c.loop-bucket.bucket c.max-tail.result c.args.steps.now c.loop-bucket.steps c.run.new.steps
    (Some c.in_ok-number.number) c.requires.whole n last low (c.loop-bucket.invariant.steps near n) c.in_ok-number.ensures where
      last : c.loop-bucket.bucket ≡ length (numbers_in c.args.self.now.buckets.now.lasts)
      last = let t = c.loop-bucket-test.false in let l = c.len.ensures in let w = c.loop-bucket.invariant.within in omega (arith, t, l, w)

      low : c.max-tail.result ≡ max c.args.start.from (length c.args.self.now.buckets.now.homes.items)
      low = let m = c.max-tail.ensures in let e = c.len-2.ensures in let o = c.args.self.now.buckets.now.homes.ok in omega (arith, m, e, o)
