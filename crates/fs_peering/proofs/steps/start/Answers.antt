use Rattle.std.proofs.Common.{rules}
use Rattle.fs_peering.proofs.Ahead.{starts_ok}
use Rattle.fs_peering.proofs.steps.start.Goals as goal

pub returns-in-Ok-clause-open : goal.returns-in-Ok-clause-open
returns-in-Ok-clause-open c =
    (starts_ok _ _ _ _ _ (search rules) c.start.ensures.again c.start.ensures.exact).0

pub returns-in-Ok-clause-starts : goal.returns-in-Ok-clause-starts
returns-in-Ok-clause-starts c =
    (starts_ok _ _ _ _ _ (search rules) c.start.ensures.again c.start.ensures.exact).1
