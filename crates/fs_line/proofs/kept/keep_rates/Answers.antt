use Rattle.std.proofs.Common.{◌++◌, List, ℕ, ◌∙◌, ap, arith}
use Rattle.fs_line.proofs.{Outputs.{item, kept_more}, Walks.{acting_left, rates_of, rates_of-append, rates_of-one}}
use Rattle.fs_line.proofs.kept.keep_rates.Goals as goal

pub loop-rule-preserved : goal.loop-rule-preserved
loop-rule-preserved c =
    let rule = c.rule-item.result in (
      kept_more (item rates_of rates_of-append c.args.walked.now c.loop-rule.rule-index rule c.loop-rule-test.true) c.args.output.now c.loop-rule.invariant.0
          (c.keep_rates_of.ensures.text ∙ ap (λ (more : List ℕ). c.loop-rule.output ++ more) (rates_of-one rule _ c.rule-item.is)),
      omega (
        arith,
        c.loop-rule.invariant.1,
        c.keep_rates_of.ensures.short,
        acting_left c.args.walked.now c.loop-rule.rule-index rule c.loop-rule-test.true c.rule-item.is,
      ),
    )
