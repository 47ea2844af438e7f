-- The clock at a session, and what is answered then.
use Rattle.fs_recorder.proofs.Words.{Answered, Recording, Seat, [], answered}
use Rattle.fs_recorder.proofs.Words.{◌≡◌, ◌≢◌, ◌⊎◌, inl, inr, ℕ, ◌==◌, ◌&&◌, ◌||◌, not, Bool, true, false, List, ◌++◌, Option, Some, None, refl, ap}
use Rattle.fs_recorder.proofs.Words.{sym, subst, ◌∙◌, eqb-true, eq_itself, AllByRecursion, IsWritable, items_in, Turn, Config, Item, Timed, was_lost}
use Rattle.fs_recorder.proofs.Words.{Desked, PlayedBut, StaysPlayed, ExpiresPlayed, ExpiresSo, TicksPeer, expired_after, expired_with, session_at}
use Rattle.fs_recorder.proofs.Words.{standing_at_desk, nobody, StandsAs, peer_of, Agrees, AgreesBut, Booked, Deed, Does, behind_answer, is_closed}
use Rattle.fs_recorder.proofs.Words.{items_of, told_at, Scribed}
use Rattle.std.proofs.Common.{if◌then◌else◌}
use Rattle.fs_speaker.specs.declared.{Closed.{Closed, TheVariants.{Fault}}, Standing.{Standing, TheVariants.{Ended, Live as LiveIn}}}
use Rattle.fs_speaker.specs.{Session.{Live}, State.{standing_by}, Times.{at_moment, tick_at}}
use Rattle.fs_session.specs.declared.times.Tick.{Tick, TheVariants.{Quiet, Keeps, Expires}}
use Rattle.fs_desk.specs.HoldTimer.{TickMakes, TicksIn}
use Rattle.fs_desk.specs.Life.{life}

never_ended : (session session' : Live) (why : Closed) → session.closed ≡ None → session'.closed ≡ Some why
    → standing_by (Some session') ≡ standing_by (Some session) → ⊥
never_ended session session' why alive shut e = ended_not (sym by ∙ e ∙ was)
  where
    ended_not : Ended why ≡ LiveIn session.phase.state → ⊥
    ended_not h = absurd cc

    by : standing_by (Some session') ≡ Ended why
    by = ap (λ (c : Option Closed). elim c [ Some w ↦ Ended w | None ↦ LiveIn session'.phase.state ]) shut

    was : standing_by (Some session) ≡ LiveIn session.phase.state
    was = ap (λ (c : Option Closed). elim c [ Some w ↦ Ended w | None ↦ LiveIn session.phase.state ]) alive

abbrev SameOrNot : Standing → Standing → Type 0
SameOrNot now was = (now ≡ was) ⊎ (now ≢ was)

-- how it stands with the peer is as before, or it isn't
tick_case : (peer time : ℕ) (old new : Desked) (replies replies' : List ℕ) → TicksPeer peer time old new replies replies'
    → SameOrNot (standing_at_desk new peer) (standing_at_desk old peer)
tick_case peer time old new replies replies' ticks = by (session_at peer old.sessions) refl ticks
  where
    of_session : (session session' : Live) (closed : Option Closed) → session.closed ≡ closed
        → TicksIn closed peer time session session' old.held new.held replies replies'
        → SameOrNot (standing_by (Some session')) (standing_by (Some session))
    of_session session session' (Some why) c t = inl (ap (λ s. standing_by (Some s)) t.0)
    of_session session session' None c t = made (tick_at session.phase.hold (at_moment time session.times)) t
      where
        made : (tick : Tick) → TickMakes tick peer (at_moment time session.times) session session' old.held new.held replies replies'
            → SameOrNot (standing_by (Some session')) (standing_by (Some session))
        made Quiet m = inl (ap (λ s. standing_by (Some s)) m.0)
        made Keeps m = inl (ap (λ s. standing_by (Some s)) m.0)
        made Expires m = inr (λ e. never_ended session session' (Fault 4 0) c m.0 e)

    by : (found : Option Live) → session_at peer old.sessions ≡ found
        → (elim found as (λ _. Type 0) [
          | None ↦ (new ≡ old) × (replies' ≡ replies)
          | Some session ↦
              (session' : Live)
              × (TicksIn session.closed peer time session session' old.held new.held replies replies'
              × ((number : ℕ)
              → session_at number new.sessions ≡ (if number == peer then Some session' else session_at number old.sessions)))
        ])
        → SameOrNot (standing_at_desk new peer) (standing_at_desk old peer)
    by None e t = inl (ap (λ d. standing_at_desk d peer) t.0)
    by (Some session) e t =
        let own : session_at peer new.sessions ≡ Some t.0 =
        t.1.1 peer ∙ ap (λ (b : Bool). if b then Some t.0 else session_at peer old.sessions) (eq_itself peer) in
        subst (λ now. SameOrNot (standing_by now) (standing_at_desk old peer)) (sym own)
        (subst (λ was. SameOrNot (standing_by (Some t.0)) (standing_by was)) (sym e) (of_session session t.0 session.closed refl t.1.0))

-- behind the loss of the one peer whose session has expired, none has
pub none_behind : (peer number : ℕ) → expired_after (was_lost peer) (expired_with peer nobody) number ≡ false
none_behind peer number = by (number == peer) refl
  where
    by : (b : Bool) → (number == peer) ≡ b → ((b || false) && not (peer == number)) ≡ false
    by true e = ap not (subst (λ n. peer == n ≡ true) (sym (eqb-true number peer e)) (eq_itself peer))
    by false e = refl

-- where the clock has closed no session
pub expired_none : (expired : ℕ → Bool) (config : Config) (items : List Item) (desk : Desked) → PlayedBut expired config items desk
    → ((number : ℕ) → expired number ≡ false) → PlayedBut nobody config items desk
expired_none expired config items desk p none = record {
  config_is = p.config_is;
  held_is = p.held_is;
  listed = p.listed;
  sessions = p.sessions;
  each = λ number.
      subst (λ b. StandsAs b config (peer_of number config.peers) (life number items) (session_at number desk.sessions) number desk.held)
      (none number) (p.each number);
}

with_played : (expired expired' : ℕ → Bool) (config : Config) (told : List Timed) (books : Booked) (desk : Desked)
    → AgreesBut expired config told books
    → (PlayedBut expired config (items_in told) books.desk → PlayedBut expired' config (items_in told) desk)
    → AgreesBut expired' config told (record { desk = desk; scribe = books.scribe })
with_played expired expired' config told books desk agrees plays = record {
  played = plays agrees.played;
  fit = agrees.fit;
  risen = agrees.risen;
  room = agrees.room;
  long = agrees.long;
  below = agrees.below;
}

settled : (peer : ℕ) (lives : Bool) (config : Config) (told : List Timed) (books : Booked)
    → AgreesBut (behind_answer lives peer nobody) config told books → Agrees config told books
settled peer true config told books agrees = agrees
settled peer false config told books agrees = agrees

-- an answer leaves no closed session behind
pub answered_so : (seat : Seat) (lives : Bool) (old new : Recording) (t t' : Option (List Turn)) (w w' : Option (List ℕ))
    → Answered seat lives old new t t' w w' → Does nobody nobody (answered lives seat old.replies) old.books new.books t t' w w'
answered_so seat lives old new t t' w w' a =
    let d = a.answers nobody in
    record {
      writable = d.writable;
      tape = d.tape;
      gate = d.gate;
      moment_is = d.moment_is;
      written_is = d.written_is;
      limit_is = d.limit_is;
      config_is = d.config_is;
      agrees = λ config told agrees. settled seat.peer lives config
          (told ++ told_at old.books.scribe.moment (items_of (answered lives seat old.replies))) new.books (d.agrees config told agrees);
    }

-- The clock was heard at a session.
pub record Woke (time peer : ℕ) (old mid : Recording) : Type 0 where
  pub ticks : TicksPeer peer time old.books.desk mid.books.desk [] mid.replies
  pub stays : StaysPlayed peer old.books.desk mid.books.desk
  pub expired : ExpiresPlayed peer old.books.desk mid.books.desk
  pub so : ExpiresSo peer old.books.desk mid.books.desk
  pub config_is : mid.books.desk.config ≡ old.books.desk.config
  pub scribe_is : mid.books.scribe ≡ old.books.scribe
  pub seats_are : mid.seats ≡ old.seats
  pub door_is : mid.door ≡ old.door

module _ (time : ℕ) (seat : Seat) (lives : Bool) (old mid new : Recording) (t t' : Option (List Turn)) (w w' : Option (List ℕ))
    (woke : Woke time seat.peer old mid) (a : Answered seat lives mid new t t' w w') where
  abbrev deeds : List Deed
  deeds = answered lives seat mid.replies

  abbrev told_on : List Timed → List Timed
  told_on told = told ++ told_at old.books.scribe.moment (items_of deeds)

  answers : (expired : ℕ → Bool)
      → Does expired (behind_answer lives seat.peer expired) deeds (record { desk = mid.books.desk; scribe = old.books.scribe }) new.books t t' w w'
  answers = subst (λ (s : Scribed). (expired : ℕ → Bool)
      → Does expired (behind_answer lives seat.peer expired) deeds (record { desk = mid.books.desk; scribe = s }) new.books t t' w w') woke.scribe_is a.answers

  lost_after : (b : Bool) → not b ≡ true → (config : Config) (told : List Timed)
      → AgreesBut (behind_answer b seat.peer (expired_with seat.peer nobody)) config told new.books → Agrees config told new.books
  lost_after true e config told agrees = absurd (let no : false ≡ true = e in cc)
  lost_after false e config told agrees =
      let expired = expired_after (was_lost seat.peer) (expired_with seat.peer nobody) in
      with_played expired nobody config told new.books new.books.desk agrees
      (λ played. expired_none expired config (items_in told) new.books.desk played (none_behind seat.peer))

  by_case : SameOrNot (standing_at_desk mid.books.desk seat.peer) (standing_at_desk old.books.desk seat.peer) → (config : Config) (told : List Timed)
      → Agrees config told old.books → Agrees config (told_on told) new.books
  by_case (inl same) config told agrees =
      settled seat.peer lives config (told_on told) new.books
      ((answers nobody).agrees config told
      (with_played nobody nobody config told old.books mid.books.desk agrees (λ played. woke.stays same nobody config (items_in told) played)))
  by_case (inr other) config told agrees =
      let shut : not lives ≡ true = sym a.closes ∙ ap is_closed (woke.so other).0 in
      lost_after lives shut config (told_on told)
      ((answers (expired_with seat.peer nobody)).agrees config told
      (with_played nobody (expired_with seat.peer nobody) config told old.books mid.books.desk agrees
      (λ played. woke.expired other nobody config (items_in told) played)))

  -- the clock at a session, and what is answered
  pub does_woke : Does nobody nobody deeds old.books new.books t t' w w'
  does_woke =
      let d = answers nobody in
      record {
        writable = subst (λ config. AllByRecursion (IsWritable config) (items_of deeds)) woke.config_is d.writable;
        tape = d.tape;
        gate = d.gate;
        moment_is = d.moment_is;
        written_is = d.written_is;
        limit_is = d.limit_is;
        config_is = d.config_is ∙ woke.config_is;
        agrees = λ config told agrees.
            by_case (tick_case seat.peer time old.books.desk mid.books.desk [] mid.replies woke.ticks) config told agrees;
      }
