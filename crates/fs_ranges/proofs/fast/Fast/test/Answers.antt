use Rattle.std.proofs.Common.{◌∙◌}
use Rattle.fs_ranges.proofs.Placing.{held_of}
use Rattle.fs_ranges.proofs.fast.Fast.test.Goals as goal

pub returns-clause-holds : goal.returns-clause-holds
returns-clause-holds g c = c.test_facts.ensures.holds ∙ held_of c.args.view.now c.of.result c.args.self.now c.of.ensures

pub returns-clause-matches : goal.returns-clause-matches
returns-clause-matches g c = λ rule stands. c.test_facts.ensures.holds ∙ held_of c.args.view.now c.of.result c.args.self.now c.of.ensures
    ∙ stands c.args.view.now c.of.ensures.small
