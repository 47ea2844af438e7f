use Rattle.fs_unicast.proofs.turns.Turns.drop_idle.Goals as goal

pub returns-then-not-is_needed : goal.returns-then-not-is_needed
returns-then-not-is_needed c = rw c.remove.ensures.keys (c.is_needed.ensures c.if-not-is_needed.true)
