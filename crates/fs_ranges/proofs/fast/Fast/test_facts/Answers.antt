use Rattle.fs_ranges.specs.Fast.{facts_hold}
use Rattle.fs_ranges.proofs.fast.Fast.test_facts.Goals as goal

pub returns-clause-holds : goal.returns-clause-holds
unfolding facts_hold
returns-clause-holds g c = c.holds.ensures
