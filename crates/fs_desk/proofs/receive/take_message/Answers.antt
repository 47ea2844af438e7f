use Rattle.fs_desk.proofs.Words.{None, Some, AreIdle, Live, drop, refl, subst, sym, ◌∙◌, reply_at, too_many}
use Rattle.fs_desk.proofs.{Idle.{idle_none, idle_update, held_nothing}, Coming.{comes_applied, comes_fed, comes_nothing, comes_shut}}
use Rattle.fs_desk.proofs.Pieces.{Brings, brought, fed_none, fed_update, fed_ceased, fed_closed, not_memory}
use Rattle.fs_desk.proofs.Replies.{replies_taken, replies_update, replies_ceased, replies_closed, replies_nothing, extends_fed, extends_then}
use Rattle.fs_desk.proofs.TableChanges.{lost_to}
use Rattle.fs_desk.proofs.receive.take_message.{Given.{Over}, Goals.{Else-not-is_open, In-Ok-default-None, Then-not-is_open}}
use Rattle.fs_desk.proofs.receive.take_message.Goals as goal

-- the message that was taken
brings-none : (g : Over) (c : In-Ok-default-None g) → Brings c.args.session.now c.feed.new.self c.args.piece.now c.in-Ok-default-None.count
    None c.args.replies.now.items c.feed.new.replies.items
brings-none g c =
    let fed = c.in-Ok-default-None in brought fed.field-0-1-is fed.ensures.closed fed.ensures.same fed.ensures.exact

brings-else : (g : Over) (c : Else-not-is_open g) → Brings c.args.session.now c.feed.new.self c.args.piece.now c.in-Ok-default-Some.count
    (Some c.in-Ok-default-Some.update) c.args.replies.now.items c.feed.new.replies.items
brings-else g c =
    let fed = c.in-Ok-default-Some in brought fed.field-0-1-is fed.ensures.closed fed.ensures.same fed.ensures.exact

brings-then : (g : Over) (c : Then-not-is_open g) → Brings c.args.session.now c.feed.new.self c.args.piece.now c.in-Ok-default-Some.count
    (Some c.in-Ok-default-Some.update) c.args.replies.now.items c.feed.new.replies.items
brings-then g c =
    let fed = c.in-Ok-default-Some in brought fed.field-0-1-is fed.ensures.closed fed.ensures.same fed.ensures.exact

pub returns-in-Ok-default-None-clause-taken : goal.returns-in-Ok-default-None-clause-taken
returns-in-Ok-default-None-clause-taken g c = fed_none (brings-none g c)

pub returns-else-not-is_open-clause-taken : goal.returns-else-not-is_open-clause-taken
returns-else-not-is_open-clause-taken g c = fed_update (brings-else g c) (rw c.if-not-is_open.false at c.in_ok-is_open-in-Ok-default-Some.ensures.taken)

pub returns-then-not-is_open-clause-taken : goal.returns-then-not-is_open-clause-taken
returns-then-not-is_open-clause-taken g c = fed_ceased (brings-then g c) (rw c.if-not-is_open.true at c.in_ok-is_open-in-Ok-default-Some.ensures.taken)

pub returns-in_ok-drop_routes-in-Err-clause-taken : goal.returns-in_ok-drop_routes-in-Err-clause-taken
returns-in_ok-drop_routes-in-Err-clause-taken g c =
    fed_closed c.args.peer c.args.session.now c.feed.new.self c.args.watched.now.table c.drop_routes.new.watched.table c.args.piece.now c.in-Err.why
    (λ h. (c.in-Err.ensures.exact h).0) (not_memory c.in-Err.why c.in_ok-drop_routes-in-Err.ensures.octets) c.in-Err.ensures.closed
    (lost_to c.args.peer c.args.watched.now.table c.drop_routes.new.watched.table c.in_ok-drop_routes-in-Err.ensures.lost)

pub returns-then-is_empty-clause-replied : goal.returns-then-is_empty-clause-replied
returns-then-is_empty-clause-replied g c =
    replies_nothing c.args.peer c.args.session.now c.args.watched.now.table c.args.replies.now.items c.args.piece.now (sym c.is_empty.ensures
    ∙ c.if-is_empty.true)

pub returns-in-Ok-default-None-clause-replied : goal.returns-in-Ok-default-None-clause-replied
returns-in-Ok-default-None-clause-replied g c = replies_taken (brings-none g c)

pub returns-else-not-is_open-clause-replied : goal.returns-else-not-is_open-clause-replied
returns-else-not-is_open-clause-replied g c = replies_update (brings-else g c) (rw c.if-not-is_open.false at c.in_ok-is_open-in-Ok-default-Some.ensures.taken)

pub returns-then-not-is_open-clause-replied : goal.returns-then-not-is_open-clause-replied
returns-then-not-is_open-clause-replied g c = replies_ceased (brings-then g c) (rw c.if-not-is_open.true at c.in_ok-is_open-in-Ok-default-Some.ensures.taken)

pub returns-in_ok-drop_routes-in-Err-clause-replied : goal.returns-in_ok-drop_routes-in-Err-clause-replied
returns-in_ok-drop_routes-in-Err-clause-replied g c =
    replies_closed c.args.peer c.args.session.now c.feed.new.self c.args.watched.now.table c.args.replies.now.items c.feed.new.replies.items
    c.args.piece.now c.in-Err.why
    c.in-Err.ensures.exact (not_memory c.in-Err.why c.in_ok-drop_routes-in-Err.ensures.octets) c.in-Err.ensures.closed

pub returns-in_ok-drop_routes-in-Err-clause-grows : goal.returns-in_ok-drop_routes-in-Err-clause-grows
returns-in_ok-drop_routes-in-Err-clause-grows g c =
    extends_fed c.args.session.now.closed c.args.session.now c.feed.new.self _ c.args.replies.now.items c.feed.new.replies.items
    (reply_at c.in-Err.why) c.in-Err.ensures.again
    (λ h. (c.in-Err.ensures.exact h).1)

pub returns-in_err-drop_routes-in-Err-clause-grows : goal.returns-in_err-drop_routes-in-Err-clause-grows
returns-in_err-drop_routes-in-Err-clause-grows g c =
    extends_fed c.args.session.now.closed c.args.session.now c.feed.new.self _ c.args.replies.now.items c.feed.new.replies.items
    (reply_at c.in-Err.why) c.in-Err.ensures.again
    (λ h. (c.in-Err.ensures.exact h).1)

pub returns-then-not-is_open-clause-grows : goal.returns-then-not-is_open-clause-grows
returns-then-not-is_open-clause-grows g c =
    let fed = c.in-Ok-default-Some in
    extends_then c.args.replies.now.items c.feed.new.replies.items c.take_update.new.replies.items
    (extends_fed c.args.session.now.closed c.args.session.now c.feed.new.self _ c.args.replies.now.items c.feed.new.replies.items _ fed.ensures.again
    (λ h. (fed.ensures.exact h).1))
    (reply_at too_many, (c.in_ok-is_open-in-Ok-default-Some.ensures.taken.ceases c.if-not-is_open.true).2)

pub returns-in-Ok-default-None-clause-handed : goal.returns-in-Ok-default-None-clause-handed
returns-in-Ok-default-None-clause-handed g c = λ h. (c.in-Ok-default-None.ensures.closed, comes_fed (brings-none g c) h)

pub returns-else-not-is_open-clause-handed : goal.returns-else-not-is_open-clause-handed
returns-else-not-is_open-clause-handed g c = comes_applied (brings-else g c) (rw c.if-not-is_open.false at c.in_ok-is_open-in-Ok-default-Some.ensures.taken)

pub returns-then-not-is_open-clause-handed : goal.returns-then-not-is_open-clause-handed
returns-then-not-is_open-clause-handed g c = λ h alive.
    comes_shut c.take_update.new.session too_many (c.in_ok-is_open-in-Ok-default-Some.ensures.taken.ceases c.if-not-is_open.true).0 alive

pub returns-in_ok-drop_routes-in-Err-clause-handed : goal.returns-in_ok-drop_routes-in-Err-clause-handed
returns-in_ok-drop_routes-in-Err-clause-handed g c = λ h alive. comes_shut c.feed.new.self c.in-Err.why c.in-Err.ensures.closed alive

pub returns-then-is_empty-clause-handed : goal.returns-then-is_empty-clause-handed
returns-then-is_empty-clause-handed g c =
    λ h. comes_nothing c.args.session.now c.args.piece.now c.args.replies.now.items (sym c.is_empty.ensures ∙ c.if-is_empty.true)

pub returns-then-is_empty-clause-idle : goal.returns-then-is_empty-clause-idle
returns-then-is_empty-clause-idle g c = λ alive idle keeps. refl

pub returns-in-Ok-default-None-clause-idle : goal.returns-in-Ok-default-None-clause-idle
returns-in-Ok-default-None-clause-idle g c = λ alive idle. (refl, idle_none (brings-none g c) alive idle)

pub returns-else-not-is_open-clause-idle : goal.returns-else-not-is_open-clause-idle
returns-else-not-is_open-clause-idle g c = λ alive idle.
    let both = idle_update (brings-else g c) alive idle in (
      (rw c.if-not-is_open.false at c.in_ok-is_open-in-Ok-default-Some.ensures.idle) both.0,
      subst (λ (s : Live). AreIdle s (drop c.in-Ok-default-Some.count c.args.piece.now))
          (sym (c.in_ok-is_open-in-Ok-default-Some.ensures.taken.stays c.if-not-is_open.false).0) both.1,
    )

pub returns-then-not-is_open-clause-idle : goal.returns-then-not-is_open-clause-idle
returns-then-not-is_open-clause-idle g c = λ alive idle keeps.
    (rw c.if-not-is_open.true at c.in_ok-is_open-in-Ok-default-Some.ensures.idle) (idle_update (brings-then g c) alive idle).0
    (held_nothing c.args.peer c.take_update.new.session c.args.watched.now too_many
    (c.in_ok-is_open-in-Ok-default-Some.ensures.taken.ceases c.if-not-is_open.true).0 keeps)

pub returns-in_ok-drop_routes-in-Err-clause-idle : goal.returns-in_ok-drop_routes-in-Err-clause-idle
returns-in_ok-drop_routes-in-Err-clause-idle g c = λ alive idle keeps.
    c.drop_routes.ensures.idle (held_nothing c.args.peer c.feed.new.self c.args.watched.now c.in-Err.why c.in-Err.ensures.closed keeps)
