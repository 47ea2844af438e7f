use Rattle.fs_desk.proofs.desk.Desk.tick.Given as goal

abbrev pub ghosts-tick_session : goal.ghosts-tick_session
ghosts-tick_session a = record { name = a.blank.name; parts = a.blank.parts }
