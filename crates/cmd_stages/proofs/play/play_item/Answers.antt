use Rattle.cmd_stages.proofs.play.play_item.Goals as goal

pub returns-in-Up-clause-played : goal.returns-in-Up-clause-played
returns-in-Up-clause-played c = rw c.in-Up.is c.up.ensures.played

pub returns-in-Octets-clause-played : goal.returns-in-Octets-clause-played
returns-in-Octets-clause-played c = rw c.in-Octets.is c.octets.ensures.played

pub returns-in-Lost-clause-played : goal.returns-in-Lost-clause-played
returns-in-Lost-clause-played c = rw c.in-Lost.is c.lost.ensures.played
