use Rattle.fs_speaker.proofs.ends.Ends.happen.Goals as goal

pub returns-in-Deliver-clause-ok : goal.returns-in-Deliver-clause-ok
returns-in-Deliver-clause-ok c = rw c.in-Deliver.is c.deliver.ensures.ok

pub returns-in-Tick-clause-ok : goal.returns-in-Tick-clause-ok
returns-in-Tick-clause-ok c = rw c.in-Tick.is c.wake.ensures.ok

pub returns-in-Cut-clause-ok : goal.returns-in-Cut-clause-ok
returns-in-Cut-clause-ok c = rw c.in-Cut.is c.cut.ensures.done
