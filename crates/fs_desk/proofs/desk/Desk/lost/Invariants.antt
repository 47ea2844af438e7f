use Rattle.fs_desk.proofs.desk.Desk.lost.Given as goal

abbrev pub ghosts-lose : goal.ghosts-lose
ghosts-lose a = record { name = a.blank.name; parts = a.blank.parts }
