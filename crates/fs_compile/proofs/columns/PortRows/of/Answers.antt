use Rattle.fs_compile.proofs.Words.{◌≡◌, ℕ, ◌-◌, true, false, max, get_or, arith, bit_at-lt, bit_in, hits}
use Rattle.fs_compile.proofs.Marking.{either_here, either_on, one_more, rule_holds, shaped_on}
use Rattle.fs_compile.proofs.columns.PortRows.of.Goals as goal

pub loop-number-preserved : goal.loop-number-preserved
loop-number-preserved c = record {
  to = shaped_on _ _ _ _ c.loop-number.invariant.to c.mark.ensures.grown;
  from = shaped_on _ _ _ _ c.loop-number.invariant.from c.mark-in-loop-number.ensures.grown;
  marked = λ facts k class other low below hit classed others.
      one_more (λ (n : ℕ). get_or (hits facts c.args.run.rules.now) n false ≡ true
      → max (bit_in c.mark.new.rows c.words_of-words.result class (n - c.args.run.first))
      (bit_in c.mark-in-loop-number.new.rows c.words_of-words.result other (n - c.args.run.first)) ≡ 1) c.loop-number.number k below
      (λ before was. either_on _ _ _ _ (bit_at-lt _ _) (bit_at-lt _ _) (c.mark.ensures.grown.kept _ _) (c.mark-in-loop-number.ensures.grown.kept _ _)
      (c.loop-number.invariant.marked facts k class other low before was classed others))
      (λ is. either_here _ _ _ _ (bit_at-lt _ _) (bit_at-lt _ _)
      (λ allowed. c.mark-in-loop-number.ensures.marked _ other allowed others) (λ allowed. c.mark.ensures.marked _ class allowed classed)
      (c.ports_limit-limit.ensures facts
      (rule_holds c.args.run.rules.now c.loop-number.number _ facts (omega (arith, c.loop-number-test.true, c.requires.within)) is))) hit;
}
