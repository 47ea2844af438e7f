use Rattle.fs_compile.proofs.{Words.{◌≡◌, ℕ, ◌-◌, true, false, get_or, arith, bit_in, hits, key_of}, Marking.{one_more, rule_holds, shaped_on}}
use Rattle.fs_compile.proofs.columns.Column.of.Goals as goal

pub loop-number-preserved : goal.loop-number-preserved
loop-number-preserved c = record {
  shaped = shaped_on _ _ _ _ c.loop-number.invariant.shaped c.mark.ensures.grown;
  marked = λ facts k class low below hit classed.
      one_more (λ (n : ℕ). get_or (hits facts c.args.run.rules.now) n false ≡ true
      → bit_in c.mark.new.rows c.words_of.result class (n - c.args.run.first) ≡ 1) c.loop-number.number k below
      (λ before was. c.mark.ensures.grown.kept _ _ (c.loop-number.invariant.marked facts k class low before was classed))
      (λ is. c.mark.ensures.marked (key_of facts c.args.field) class (c.limit-limit.ensures facts
      (rule_holds c.args.run.rules.now c.loop-number.number _ facts (omega (arith, c.loop-number-test.true, c.requires.within)) is)) classed) hit;
}
