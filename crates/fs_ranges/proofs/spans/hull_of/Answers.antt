use Rattle.fs_ranges.proofs.{Words.{◌≡◌, ℕ, true, List, take, sym, ap, subst, ◌∙◌, arith, take-length, contains}, Hulls.{hull_more}}
use Rattle.fs_ranges.proofs.spans.hull_of.Goals as goal

pub loop-range-preserved : goal.loop-range-preserved
loop-range-preserved c = λ n h.
    hull_more c.args.ranges.now c.loop-range.range-index n c.loop-range.low c.loop-range.high c.min-low.result c.max-high.result (0, 0) c.loop-range-test.true
    (let m = c.min-low.ensures in omega (arith, m)) (let m = c.min-low.ensures in omega (arith, m)) (let m = c.max-high.ensures in
    omega (arith, m)) (let m = c.max-high.ensures in omega (arith, m))
    (c.loop-range.invariant n) h

pub returns : goal.returns
returns c = λ n h.
    c.loop-range.invariant n (subst (λ (ranges : List (ℕ × ℕ)). contains ranges n ≡ true) (sym whole) h) where
      whole : take c.loop-range.range-index c.args.ranges.now ≡ c.args.ranges.now
      whole = ap (λ (n : ℕ). take n c.args.ranges.now) (omega (arith, c.loop-range-test.false, c.loop-range.auto.range-index-end))
          ∙ take-length c.args.ranges.now
