use Rattle.fs_peering.proofs.{Words.{rules, sym, ◌∙◌, machine_in}, Linking.{if_both, in_view, linked, received_on, received_shut}}
use Rattle.fs_peering.specs.{Keeper.{received}, Keeping.{Linked}}
use Rattle.fs_peering.proofs.link.Link.take.Goals as goal

pub returns-in-Some-clause-says : goal.returns-in-Some-clause-says
returns-in-Some-clause-says c =
    let was : Linked = linked c.self.inside.line c.self.inside.made c.self.inside.since c.self.inside.announcer c.self.inside.told in
    if_both _ _ _ _ c.parting.ensures.says c.parting.ensures.other
    (λ news parts other. in_view _ _ c.self.view_is (λ (l : Linked). received (machine_in l.end) c.args.time c.args.piece.now) _ _
    _ _ (received_shut _ _ _ _ _ c.take.ensures.same.0 _ c.in_ok-take.ensures.says
    _ _ _ (sym c.closed.ensures ∙ c.in-Some.is) other parts))

pub returns-clause-says : goal.returns-clause-says
returns-clause-says c =
    let was : Linked = linked c.self.inside.line c.self.inside.made c.self.inside.since c.self.inside.announcer c.self.inside.told in
    in_view _ _ c.self.view_is (λ (l : Linked). received (machine_in l.end) c.args.time c.args.piece.now) _ _ _ _
    (received_on _ _ _ _ _ c.take.ensures.same.0 _ c.in_ok-take.ensures.says (search rules))
