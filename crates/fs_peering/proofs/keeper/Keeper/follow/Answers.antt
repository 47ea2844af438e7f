use Rattle.fs_peering.proofs.keeper.Keeper.follow.Goals as goal

pub returns-in-Made-clause-took : goal.returns-in-Made-clause-took
returns-in-Made-clause-took g c = rw c.in-Made.is c.begin.ensures.took

pub returns-in-Octets-clause-took : goal.returns-in-Octets-clause-took
returns-in-Octets-clause-took g c = rw c.in-Octets.is c.receive.ensures.took

pub returns-in-Ended-clause-took : goal.returns-in-Ended-clause-took
returns-in-Ended-clause-took g c = rw c.in-Ended.is (c.end.ensures (g.G.Gate.turns c.args.gate.now))
