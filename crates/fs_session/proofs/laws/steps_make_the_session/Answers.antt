use Rattle.fs_session.proofs.SessionSteps.{machine_takes, machine_stops, machine_waits}
use Rattle.fs_session.proofs.laws.steps_make_the_session.Goals as goal

pub returns : goal.returns
returns c = record { takes = machine_takes; stops = machine_stops; waits = machine_waits }
