use Rattle.fs_shadow.proofs.Words.{rules, implied_around}
use Rattle.fs_shadow.proofs.points.implied_around.Goals as goal

pub returns-then-implied_at-2 : goal.returns-then-implied_at-2
unfolding implied_around
returns-then-implied_at-2 c = search rules

pub returns-else-implied_at-2 : goal.returns-else-implied_at-2
unfolding implied_around
returns-else-implied_at-2 c = search rules
