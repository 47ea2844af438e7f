use Rattle.fs_desk.proofs.Words.{◌≡◌, ℕ, List, ap, refl, subst, sym, nat_cmp, is_at, set_value, Live, Desked, PlayedBut, Watched}
use Rattle.fs_desk.proofs.Words.{standing_at_desk}
use Rattle.fs_desk.proofs.{Idle.{desk_notes_none}, Played.{desk_of, desk_same, down_at}}
use Rattle.fs_desk.proofs.Ticking.{Ticks, desk_expires, desk_rests, desk_ticks, stays_ticked, ticks_expire}
use Rattle.fs_desk.proofs.desk.Desk.tick.Goals.{In_ok-tick_session}
use Rattle.fs_desk.proofs.desk.Desk.tick.Goals as goal

-- what the clock does to the session of a peer that is up
ticks : (c : In_ok-tick_session) (sessions : List (ℕ × Live))
    → sessions ≡ set_value (is_at (nat_cmp c.args.peer)) c.self.inside.sessions.entries c.tick_session.new.session
    → Ticks c.args.peer c.args.moment c.in-Some.session.now c.tick_session.new.session c.args.self.now
    (desk_of c.self.inside.config.now c.tick_session.new.watched.table c.tick_session.new.watched.changes sessions)
    c.args.replies.now.items c.tick_session.new.replies.items
ticks c sessions e = rw (sym c.self.view_is) (record {
  on = record { config_is = refl; there = sym c.in-Some.ensures.value; sessions_are = e };
  ticks = c.in_ok-tick_session.ensures.ticked;
})

pub returns-clause-ticked : goal.returns-clause-ticked
returns-clause-ticked c = desk_ticks (ticks c _ (c.get_mut.follows.holds c.tick_session.new.session).0)

pub returns-clause-played : goal.returns-clause-played
returns-clause-played c = stays_ticked (ticks c _ (c.get_mut.follows.holds c.tick_session.new.session).0)

pub returns-in_default-clause-ticked : goal.returns-in_default-clause-ticked
returns-in_default-clause-ticked c = desk_rests c.args.peer c.args.moment c.args.replies.now.items
    (down_at c.args.peer c.self.view_is c.in_default.ensures.value) (desk_same c.get_mut.follows.holds-at-none c.self.view_is)

pub returns-in_default-clause-played : goal.returns-in_default-clause-played
returns-in_default-clause-played c = λ stays expired config items played.
    subst (PlayedBut expired config items) (sym (desk_same c.get_mut.follows.holds-at-none c.self.view_is)) played

pub returns-clause-expired : goal.returns-clause-expired
returns-clause-expired c = ticks_expire c.args.peer c.args.moment c.args.self.now _ c.args.replies.now.items c.tick_session.new.replies.items
    (returns-clause-ticked c)

pub returns-in_default-clause-expired : goal.returns-in_default-clause-expired
returns-in_default-clause-expired c =
    ticks_expire c.args.peer c.args.moment c.args.self.now _ c.args.replies.now.items c.args.replies.now.items (returns-in_default-clause-ticked c)

pub returns-clause-others : goal.returns-clause-others
returns-clause-others c = desk_expires (ticks c _ (c.get_mut.follows.holds c.tick_session.new.session).0)

pub returns-in_default-clause-others : goal.returns-in_default-clause-others
returns-in_default-clause-others c = λ other.
    absurd (other (ap (λ (d : Desked). standing_at_desk d c.args.peer) (desk_same c.get_mut.follows.holds-at-none c.self.view_is)))

pub returns-clause-idle : goal.returns-clause-idle
returns-clause-idle c =
    desk_notes_none (ticks c _ (c.get_mut.follows.holds c.tick_session.new.session).0).on c.self.inside.watched
    (ap (λ (d : Desked). d.held) c.self.view_is) (ap (λ (d : Desked). d.changes) c.self.view_is)
    (λ shut. ap (λ (w : Watched). w.changes) (c.tick_session.ensures.ended shut)) (λ alive. c.tick_session.ensures.idle)

pub returns-in_default-clause-idle : goal.returns-in_default-clause-idle
returns-in_default-clause-idle c = λ loses. ap (λ (d : Desked). d.changes) c.self.view_is
