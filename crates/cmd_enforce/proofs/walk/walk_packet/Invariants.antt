use Rattle.cmd_enforce.proofs.walk.walk_packet.Given as goal

abbrev pub ghosts-walk_family : goal.ghosts-walk_family
ghosts-walk_family a = record { name = a.blank.name; parts = a.blank.parts }
