use Rattle.fs_session.proofs.{MessageRuns.{runs_takes, runs_stops, runs_waits}, SessionSteps.{runs_updates, runs_text}}
use Rattle.fs_session.proofs.laws.steps_make_what_is_handed.Goals as goal

pub returns : goal.returns
returns c = record { takes = runs_takes; stops = runs_stops; waits = runs_waits; updates = runs_updates; replies = runs_text }
