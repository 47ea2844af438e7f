use Rattle.fs_desk.proofs.desk.Desk.octets.Given as goal

abbrev pub ghosts-receive : goal.ghosts-receive
ghosts-receive a = record { name = a.blank.name; parts = a.blank.parts }
