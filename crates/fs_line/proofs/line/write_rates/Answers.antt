use Rattle.fs_line.proofs.{Walks.{rates_of, rates_of-append, rates_of-one}, Outputs.{item, sends_as, sends_more, sends_within}}
use Rattle.fs_line.proofs.line.write_rates.Goals as goal

pub returns-in_err-write_rates_of : goal.returns-in_err-write_rates_of
returns-in_err-write_rates_of g c =
    sends_within (item rates_of rates_of-append c.args.walked.now c.loop-rule.rule-index c.rule-item.result c.loop-rule-test.true) _
    c.from_residual.result c.from_residual.ensures.1 c.loop-rule.invariant
    (sends_as (rates_of-one c.rule-item.result _ c.rule-item.is) c.in_err-write_rates_of.ensures)

pub loop-rule-preserved : goal.loop-rule-preserved
loop-rule-preserved g c =
    sends_more (item rates_of rates_of-append c.args.walked.now c.loop-rule.rule-index c.rule-item.result c.loop-rule-test.true) c.loop-rule.invariant
    (sends_as (rates_of-one c.rule-item.result _ c.rule-item.is) c.in_ok-write_rates_of.ensures)
