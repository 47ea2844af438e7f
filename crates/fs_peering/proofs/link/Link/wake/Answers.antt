use Rattle.std.proofs.lemmas.Result.{IfOk-weaker}
use Rattle.fs_peering.{proofs.{Words.{rules, sym, ◌∙◌}, Linking.{in_view, linked, woken_late, woken_on, woken_shut}}, specs.{Keeper.{woken}, Keeping.{Linked}}}
use Rattle.fs_peering.proofs.link.Link.wake.Goals as goal

pub returns-in-Some-clause-says : goal.returns-in-Some-clause-says
returns-in-Some-clause-says c =
    let was : Linked = linked c.self.inside.line c.self.inside.made c.self.inside.since c.self.inside.announcer c.self.inside.told in
    in_view was c.args.self.now c.self.view_is (λ (l : Linked). woken c.args.time l.since) c.news_of.result c.wake.new.announcer
    c.args.out.now.items c.wake.new.out.items
    (woken_shut was c.wake.new.announcer c.args.time c.args.out.now.items c.wake.new.out.items c.wake.ensures.same.0
    c.in_ok-wake.ensures.wakes c.in-Some.why c.news_of.result (sym c.closed.ensures ∙ c.in-Some.is) c.news_of.ensures)

pub returns-then-is_late-clause-says : goal.returns-then-is_late-clause-says
returns-then-is_late-clause-says c =
    let was : Linked = linked c.self.inside.line c.self.inside.made c.self.inside.since c.self.inside.announcer c.self.inside.told in
    IfOk-weaker c.part.result _ _ (λ news parts. in_view was c.args.self.now c.self.view_is
    (λ (l : Linked). woken c.args.time l.since) news c.wake.new.announcer c.args.out.now.items c.part.new.out.items
    (woken_late was c.wake.new.announcer c.args.time c.args.out.now.items c.wake.new.out.items c.wake.ensures.same.0
    c.in_ok-wake.ensures.wakes news c.part.new.out.items (search rules) (sym c.is_late.ensures ∙ c.if-is_late.true) parts))
    c.part.ensures

pub returns-clause-says : goal.returns-clause-says
returns-clause-says c =
    let was : Linked = linked c.self.inside.line c.self.inside.made c.self.inside.since c.self.inside.announcer c.self.inside.told in
    in_view was c.args.self.now c.self.view_is (λ (l : Linked). woken c.args.time l.since) _ c.wake.new.announcer c.args.out.now.items c.wake.new.out.items
    (woken_on was c.wake.new.announcer c.args.time c.args.out.now.items c.wake.new.out.items c.wake.ensures.same.0 c.in_ok-wake.ensures.wakes
    (search rules) (sym c.is_late.ensures ∙ c.if-is_late.false))
