use Rattle.fs_peering.{proofs.{Linking.{begun_link, linked}}, specs.{Keeping.{Linked}}}
use Rattle.fs_peering.proofs.link.Link.begin.Goals as goal

pub returns-clause-begins : goal.returns-clause-begins
returns-clause-begins c =
    let was : Linked = linked c.self.inside.line c.self.inside.made c.self.inside.since c.self.inside.announcer c.self.inside.told in
    begun_link was c.args.self.now c.self.view_is c.start.new.announcer c.args.time c.args.out.now.items c.start.new.out.items c.in_ok-start.ensures.starts
