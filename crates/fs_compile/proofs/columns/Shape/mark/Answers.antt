use Rattle.fs_compile.proofs.{Words.{◌≡◌, ℕ, true, List, take, sym, ap, subst, ◌∙◌, arith, contains}, Marking.{grown_on, range_more}}
use Rattle.std.proofs.Math.Seq.{take-length}
use Rattle.fs_ranges.specs.{declared.Limit.{Limit}, Limits.{allows}}
use Rattle.fs_compile.proofs.columns.Shape.mark.Goals as goal

pub loop-range-preserved : goal.loop-range-preserved
loop-range-preserved c = record {
  grown = grown_on c.args.rows.now c.loop-range.rows c.mark_range-in-loop-range.new.rows c.loop-range.invariant.grown
      c.mark_range-in-loop-range.ensures.grown;
  marked = range_more c.args.self.bounds.now c.loop-range.rows c.mark_range-in-loop-range.new.rows c.args.self.words c.args.rule
      c.loop-range.range-index c.in-Ranges.ranges.now (0, 0) c.loop-range-test.true c.mark_range-in-loop-range.ensures.grown
      c.loop-range.invariant.marked c.mark_range-in-loop-range.ensures.marked;
}

pub returns-after-loop-range-clause-marked : goal.returns-after-loop-range-clause-marked
returns-after-loop-range-clause-marked c = λ number class h classed.
    c.loop-range.invariant.marked number class (subst (λ (ranges : List (ℕ × ℕ)). contains ranges number ≡ true) (sym whole)
    (subst (λ (limit : Limit). allows limit number ≡ true) c.in-Ranges.is h)) classed where
      whole : take c.loop-range.range-index c.in-Ranges.ranges.now ≡ c.in-Ranges.ranges.now
      whole = ap (λ (n : ℕ). take n c.in-Ranges.ranges.now) (omega (arith, c.loop-range-test.false, c.loop-range.auto.range-index-end))
          ∙ take-length c.in-Ranges.ranges.now
