use Rattle.fs_session.proofs.Words.{subst, FeedsAt, Live, Role, live_in, machine_as, GoesOnAt}
use Rattle.fs_session.proofs.session.Session.feed_at.Goals as goal

pub returns-clause-exact : goal.returns-clause-exact
returns-clause-exact c =
    let own = c.self.inside.intake in
    let fed = c.feed_at in
    subst (λ (o : Live). GoesOnAt c.args.moment o (live_in fed.new.self) c.args.piece.now c.args.replies.now.items fed.new.out.items fed.result)
    c.self.view_is
    (λ h. subst (λ (r : Role). FeedsAt (machine_as own.side.config.now own.side.peer r) c.args.moment own.line fed.new.self.line c.args.piece.now
    c.args.replies.now.items fed.new.out.items fed.result) c.self.invariant (fed.ensures.exact h))
