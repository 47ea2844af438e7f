use Rattle.fs_session.proofs.Words.{ℕ, Result, sym, subst, Announcing, Closed, FeedsAt, FeedsEnd, Needs, Role, announcer, announcing_in}
use Rattle.fs_session.proofs.{Words.{machine_as, needs_of, without_update}, Quiet.{fed_counted}}
use Rattle.fs_session.proofs.announcer.Announcer.feed_at.Goals as goal

pub returns-clause-exact : goal.returns-clause-exact
returns-clause-exact c =
    let inside = c.self.inside in
    let own = inside.intake in
    let needs : Needs = needs_of inside.sending.rules in
    let fed = c.feed_at in
    subst (λ (o : Announcing). FeedsEnd c.args.moment o (announcing_in fed.new.self inside.sending inside.started inside.appended) c.args.piece.now
    c.args.out.now.items fed.new.out.items c.count_of.result) c.self.view_is
    (λ h. subst (λ (r : Result ℕ Closed). FeedsAt (announcer own.side.config.now needs) c.args.moment own.line fed.new.self.line c.args.piece.now
    c.args.out.now.items fed.new.out.items (without_update r)) (sym c.count_of.ensures)
    (fed_counted own.side.config.now needs c.args.moment own.line fed.new.self.line c.args.piece.now c.args.out.now.items fed.new.out.items fed.result
    (subst (λ (r : Role). FeedsAt (machine_as own.side.config.now own.side.peer r) c.args.moment own.line fed.new.self.line c.args.piece.now
    c.args.out.now.items fed.new.out.items fed.result) c.self.invariant.0 (fed.ensures.exact h))))
