use Rattle.fs_desk.proofs.Words.{◌++◌, List, ℕ, refl, AreIdle, KeepsAll, Watched, sym, subst, ap, ◌∙◌, is_some, take_rest, some_there, none_there}
use Rattle.fs_desk.proofs.Words.{bounded_replies_from, Comes, IsReplyingMore, HasTaken}
use Rattle.fs_desk.proofs.{Coming.{comes_all, comes_none, comes_shut, comes_then}, Pieces.{taken_none, taken_more_of, taken_all, up_ended}}
use Rattle.fs_desk.proofs.Replies.{replying_none, replying_more, replying_all, replied_to, replied_ended, extends_none, extends_then}
use Rattle.fs_desk.proofs.receive.receive.Goals as goal

pub returns-then-is_some-clause-taken : goal.returns-then-is_some-clause-taken
returns-then-is_some-clause-taken g c = λ config whose octets l s.
    let ended = ap is_some (sym c.closed.ensures) ∙ sym c.is_some.ensures ∙ c.if-is_some.true in
    let up = up_ended config whose c.args.peer octets c.args.piece.now c.args.session.now c.args.watched.now.table ended l s in
    (up.0, (up.1, replied_ended config whose c.args.peer octets c.args.piece.now c.args.session.now c.args.watched.now.table c.args.replies.now.items ended s))

pub messages-init : goal.messages-init
messages-init g c = (
  extends_none c.args.replies.now.items,
  λ base h. h,
  λ config whose octets l s.
      let open_ = none_there c.args.session.now.closed (ap is_some (sym c.closed.ensures) ∙ sym c.is_some.ensures ∙ c.if-is_some.false) in (
        taken_none config whose c.args.peer octets c.args.piece.now c.args.session.now c.args.watched.now.table s open_ l,
        replying_none config whose c.args.peer octets c.args.piece.now c.args.session.now c.args.watched.now.table c.args.replies.now.items s open_,
      ),
  none_there c.args.session.now.closed (ap is_some (sym c.closed.ensures) ∙ sym c.is_some.ensures ∙ c.if-is_some.false),
  comes_none c.args.session.now c.args.piece.now c.args.replies.now.items,
  λ idle. (refl, idle),
)

pub messages-preserved : goal.messages-preserved
messages-preserved g c = (
  extends_then c.args.replies.now.items c.messages.replies.items c.take_message.new.replies.items c.messages.invariant.0 c.take_message.ensures.grows,
  λ base h. c.in_ok-count.ensures.told base (c.messages.invariant.1 base h),
  λ config whose octets l s.
      let before = c.messages.invariant.2 config whose octets l s in (
        subst (λ (rest : List ℕ). HasTaken config whose c.args.peer (octets ++ c.args.piece.now) rest c.take_message.new.session c.args.watched.now.table
            c.take_message.new.watched.table)
            (sym (take_rest c.messages.rest.now c.in-Some.count))
            (taken_more_of c.in-Some.count before.0 (rw c.in-Some.is at c.in_ok-count.ensures.taken)),
        subst (λ (rest : List ℕ). IsReplyingMore config whose (octets ++ c.args.piece.now) rest c.take_message.new.session
            (bounded_replies_from config whose octets) c.args.replies.now.items c.take_message.new.replies.items)
            (sym (take_rest c.messages.rest.now c.in-Some.count))
            (replying_more before.1 ((rw c.in-Some.is at c.in_ok-count.ensures.replied) config whose (octets ++ c.args.piece.now) before.0.updates _
            before.0.follows before.0.within before.0.spares.listed before.0.left before.1.replied)),
      ),
  ((rw c.in-Some.is at c.in_ok-count.ensures.handed) c.messages.invariant.3).0,
  subst (λ (rest : List ℕ). Comes c.args.session.now c.args.piece.now c.take_message.new.session rest c.args.replies.now.items c.take_message.new.replies.items)
      (sym (take_rest c.messages.rest.now c.in-Some.count))
      (comes_then c.args.session.now c.messages.session c.take_message.new.session c.args.piece.now c.messages.rest.now _ c.args.replies.now.items
      c.messages.replies.items c.take_message.new.replies.items
      c.messages.invariant.4 ((rw c.in-Some.is at c.in_ok-count.ensures.handed) c.messages.invariant.3).1),
  λ idle.
      let before = c.messages.invariant.5 idle in
      let after = (rw c.in-Some.is at c.in_ok-count.ensures.idle) c.messages.invariant.3 before.1 in
      (after.0 ∙ before.0, subst (AreIdle c.take_message.new.session) (sym (take_rest c.messages.rest.now c.in-Some.count)) after.1),
)

pub returns-clause-taken : goal.returns-clause-taken
returns-clause-taken g c = λ config whose octets l s.
    let before = c.messages.invariant.2 config whose octets l s in
    let replied_ = replying_all before.1 ((rw c.in_default.is at c.in_ok-count.ensures.replied) config whose (octets ++ c.args.piece.now) before.0.updates _
    before.0.follows before.0.within before.0.spares.listed before.0.left before.1.replied) in
    let all = taken_all (bounded_replies_from config whose octets ++ replied_.more) before.0 replied_.replied
    (rw c.in_default.is at c.in_ok-count.ensures.taken) in (
      all.0,
      (
        all.1,
        replied_to config whose octets c.args.piece.now c.take_message.new.session all.0.updates c.args.replies.now.items
            c.take_message.new.replies.items all.0.fed replied_,
      ),
    )

pub returns-in_err-count-clause-grows : goal.returns-in_err-count-clause-grows
returns-in_err-count-clause-grows g c =
    extends_then c.args.replies.now.items c.messages.replies.items c.take_message.new.replies.items c.messages.invariant.0 c.take_message.ensures.grows

pub returns-clause-grows : goal.returns-clause-grows
returns-clause-grows g c =
    extends_then c.args.replies.now.items c.messages.replies.items c.take_message.new.replies.items c.messages.invariant.0 c.take_message.ensures.grows

pub returns-then-is_some-clause-told : goal.returns-then-is_some-clause-told
returns-then-is_some-clause-told g c = λ base h. h

pub returns-clause-told : goal.returns-clause-told
returns-clause-told g c = λ base h. c.in_ok-count.ensures.told base (c.messages.invariant.1 base h)

pub returns-then-is_some-clause-handed : goal.returns-then-is_some-clause-handed
returns-then-is_some-clause-handed g c = λ alive.
    let found = some_there c.args.session.now.closed (ap is_some (sym c.closed.ensures) ∙ sym c.is_some.ensures ∙ c.if-is_some.true) in
    comes_shut c.args.session.now found.0 found.1 alive

pub returns-clause-handed : goal.returns-clause-handed
returns-clause-handed g c = λ alive. (
  none_there c.args.session.now.closed (ap is_some (sym c.closed.ensures) ∙ sym c.is_some.ensures ∙ c.if-is_some.false),
  comes_all c.args.session.now c.messages.session c.take_message.new.session c.args.piece.now c.messages.rest.now c.args.replies.now.items
      c.messages.replies.items c.take_message.new.replies.items
      c.messages.invariant.4 ((rw c.in_default.is at c.in_ok-count.ensures.handed) c.messages.invariant.3) alive,
)

pub returns-then-is_some-clause-idle : goal.returns-then-is_some-clause-idle
returns-then-is_some-clause-idle g c = λ alive idle keeps. refl

pub returns-clause-idle : goal.returns-clause-idle
returns-clause-idle g c = λ alive idle keeps.
    let before = c.messages.invariant.5 idle in
    (rw c.in_default.is at c.in_ok-count.ensures.idle) c.messages.invariant.3 before.1
    (subst (KeepsAll c.args.peer c.take_message.new.session) (sym before.0) keeps)
    ∙ ap (λ (w : Watched). w.changes) before.0
