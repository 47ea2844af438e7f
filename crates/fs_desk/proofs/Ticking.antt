-- The clock at a peer: what was played still stands, unless its session closes by it.
use Rattle.fs_desk.proofs.Words.{◌≡◌, ◌≢◌, ℕ, ◌==◌, ◌||◌, Bool, true, false, List, [], Option, Some, None, if◌then◌else◌, refl, ap, sym, ◌∙◌, subst}
use Rattle.fs_desk.proofs.Words.{peer_of, Config, Peer, eq_itself, if_true, Update, Held, Closed, Fault}
use Rattle.fs_desk.proofs.Words.{Ended, Times, Last, Live, at_start, still, standing_by, at_moment, tick_at, Item, Desked, ExpiresPlayed, ExpiresSo}
use Rattle.fs_desk.proofs.Words.{HasHoldTime, HasExpired, StandsAs, session_at, PeerIs, PlayedBut, expired_with, without_peer, TicksPeer}
use Rattle.fs_desk.proofs.Words.{standing_at_desk, life, bounded_from, bounded_replies_from, HasReplied, IsFed, IsUp, Changes, nothing, IsListed, StaysPlayed}
use Rattle.fs_desk.proofs.Follows.{follows_session}
use Rattle.fs_desk.proofs.Played.{GoesOn, goes_at, goes_own, goes_other, goes_sorted, stands_spared, each_peer}
use Rattle.fs_desk.proofs.{TableChanges.{lost_to}, Updates.{left_nothing, spares_others}}
use Rattle.fs_desk.specs.HoldTimer.{TickMakes, TicksIn, TicksSession, with_times}
use Rattle.fs_speaker.specs.declared.Standing.TheVariants.{Live as LiveIn}
use Rattle.fs_session.specs.declared.times.Tick.{Tick, TheVariants.{Quiet, Keeps, Expires}}

-- moments say nothing of what a session was fed with
fed_timed : (config : Config) (peer : Peer) (octets : List ℕ) (session : Live) (times : Times) (why : Option Closed) (updates : List Update)
    → IsFed config peer octets session why updates → IsFed config peer octets (with_times times session) why updates
fed_timed config peer octets session times None updates f =
    (record { alive = f.0.alive; config_is = f.0.config_is; peer_is = f.0.peer_is; waiting = f.0.waiting; goes = f.0.goes }, f.1)
fed_timed config peer octets session times (Some why) updates f = f

replied_timed : (config : Config) (peer : Peer) (octets : List ℕ) (session : Live) (times : Times) (why : Option Closed) (said : List ℕ)
    → HasReplied config peer octets session why said → HasReplied config peer octets (with_times times session) why said
replied_timed config peer octets session times None said r = record { said_is = r.said_is; goes = r.goes }
replied_timed config peer octets session times (Some why) said r = r

up_timed : (config : Config) (peer : Peer) (number : ℕ) (octets : List ℕ) (session : Live) (times : Times) (held : Held)
    → IsUp config peer number octets session held → IsUp config peer number octets (with_times times session) held
up_timed config peer number octets session times held u = record {
  updates = u.updates;
  fed = fed_timed config peer octets session times session.closed u.updates u.fed;
  replied = replied_timed config peer octets session times session.closed (bounded_replies_from config peer octets) u.replied;
  left = u.left;
}

-- the session of a peer is as it was, but for its moments
abbrev SameUp : ℕ → Live → Live → Held → Type 0
SameUp n session session' held =
    (config : Config) (peer : Peer) (octets : List ℕ) → IsUp config peer n octets session held → IsUp config peer n octets session' held

module _ {n : ℕ} {session session' : Live} {old new : Desked} (on : GoesOn n session session' old new) where
  stays_up : {expired : ℕ → Bool} (config : Config) (items : List Item) → new.held ≡ old.held → session'.closed ≡ session.closed
      → SameUp n session session' old.held → PlayedBut expired config items old → PlayedBut expired config items new
  stays_up {expired} config items h shut same p = record {
    config_is = on.config_is ∙ p.config_is;
    held_is = ap (λ (z : Held). z.config) h ∙ p.held_is;
    listed = subst (λ (z : Held). IsListed z) (sym h) p.listed;
    sessions = goes_sorted on p.sessions;
    each = λ m. subst (λ (z : Held). StandsAs (expired m) config (peer_of m config.peers) (life m items) (session_at m new.sessions) m z) (sym h)
        (each_peer (λ m. StandsAs (expired m) config (peer_of m config.peers) (life m items) (session_at m new.sessions) m old.held) n own_is
        (λ m e. subst (λ (x : Option Live). StandsAs (expired m) config (peer_of m config.peers) (life m items) x m old.held)
        (sym (goes_other on m e)) (p.each m)) m);
  }
    where
      by : (q : Option Peer) (l : Option (List ℕ)) → PeerIs config q l (Some session) n old.held → PeerIs config q l (Some session') n old.held
      by None None k = absurd k
      by (Some peer) None k = absurd k
      by None (Some octets) k = absurd k
      by (Some peer) (Some octets) k = same config peer octets k

      by_expired : (b : Bool) (q : Option Peer) (l : Option (List ℕ)) → StandsAs b config q l (Some session) n old.held
          → StandsAs b config q l (Some session') n old.held
      by_expired true q l k = (shut ∙ k.0, k.1)
      by_expired false q l k = by q l k

      own_is : StandsAs (expired n) config (peer_of n config.peers) (life n items) (session_at n new.sessions) n old.held
      own_is =
          subst (λ (x : Option Live). StandsAs (expired n) config (peer_of n config.peers) (life n items) x n old.held) (sym (goes_own on))
          (by_expired (expired n) (peer_of n config.peers) (life n items)
          (subst (λ (x : Option Live). StandsAs (expired n) config (peer_of n config.peers) (life n items) x n old.held) on.there (p.each n)))

  stands_still : standing_by (Some session') ≡ standing_by (Some session) → standing_at_desk new n ≡ standing_at_desk old n
  stands_still h = ap standing_by (goes_own on) ∙ h ∙ sym (ap standing_by on.there)

never_ended : (session session' : Live) (why : Closed) → session.closed ≡ None → session'.closed ≡ Some why
    → standing_by (Some session') ≡ standing_by (Some session) → ⊥
never_ended session session' why alive shut e = ended_not (sym by ∙ e ∙ was)
  where
    ended_not : Ended why ≡ LiveIn session.phase.state → ⊥
    ended_not h = absurd cc

    by : standing_by (Some session') ≡ Ended why
    by = ap (λ (c : Option Closed). elim c [ Some w ↦ Ended w | None ↦ LiveIn session'.phase.state ]) shut

    was : standing_by (Some session) ≡ LiveIn session.phase.state
    was = ap (λ (c : Option Closed). elim c [ Some w ↦ Ended w | None ↦ LiveIn session.phase.state ]) alive

-- the clock at the session of a peer that is up
pub record Ticks (n moment : ℕ) (session session' : Live) (old new : Desked) (replies replies' : List ℕ) : Type 0 where
  pub on : GoesOn n session session' old new
  pub ticks : TicksSession n moment session session' old.held new.held replies replies'

-- what was played still stands unless the session closes
pub stays_ticked : {n moment : ℕ} {session session' : Live} {old new : Desked} {replies replies' : List ℕ}
    → Ticks n moment session session' old new replies replies' → StaysPlayed n old new
stays_ticked {n} {moment} {session} {session'} {old} {new} {replies} {replies'} t stays expired config items p = by session.closed refl t.ticks
  where
    with_moments : (times : Times) → session' ≡ with_times times session → SameUp n session session' old.held
    with_moments times h config peer octets u =
        subst (λ (l : Live). IsUp config peer n octets l old.held) (sym h) (up_timed config peer n octets session times old.held u)

    untouched : session' ≡ session → SameUp n session session' old.held
    untouched h config peer octets u = subst (λ (l : Live). IsUp config peer n octets l old.held) (sym h) u

    makes : (tick : Tick) (times : Times) → session.closed ≡ None → TickMakes tick n times session session' old.held new.held replies replies'
        → PlayedBut expired config items new
    makes Quiet times alive k = stays_up t.on config items k.1.0 (ap (λ (l : Live). l.closed) k.0) (with_moments times k.0) p
    makes Keeps times alive k = stays_up t.on config items k.1.0 (ap (λ (l : Live). l.closed) k.0) (with_moments _ k.0) p
    makes Expires times alive k = absurd (never_ended session session' (Fault 4 0) alive k.0
        (sym (ap standing_by (goes_own t.on)) ∙ stays ∙ ap standing_by t.on.there))

    by : (c : Option Closed) → session.closed ≡ c → TicksIn c n moment session session' old.held new.held replies replies'
        → PlayedBut expired config items new
    by (Some why) h k = stays_up t.on config items k.1.0 (ap (λ (l : Live). l.closed) k.0) (untouched k.0) p
    by None h k = makes (tick_at session.phase.hold (at_moment moment session.times)) (at_moment moment session.times) h k

-- where the clock closes the session
expires_own : (b : Bool) → b ≡ true → (c : Bool) → (b || c) ≡ true
expires_own true e c = refl
expires_own false e c = cc

expires_other : (b : Bool) → b ≡ false → (c : Bool) → (b || c) ≡ c
expires_other b e c = ap (λ (x : Bool). x || c) e

closes_played : {expired : ℕ → Bool} (config : Config) (items : List Item) {n : ℕ} {session session' : Live} {old new : Desked}
    → GoesOn n session session' old new → session'.closed ≡ Some (Fault 4 0) → new.held ≡ without_peer n old.held
    → PlayedBut expired config items old → PlayedBut (expired_with n expired) config items new
closes_played {expired} config items {n} {session} {session'} {old} {new} on shut t p = record {
  config_is = on.config_is ∙ p.config_is;
  held_is = gone.config_is ∙ p.held_is;
  listed = gone.listed p.listed;
  sessions = goes_sorted on p.sessions;
  each = each_peer (λ m. StandsAs (expired_with n expired m) config (peer_of m config.peers) (life m items) (session_at m new.sessions) m new.held) n
      (subst (λ (b : Bool). StandsAs b config (peer_of n config.peers) (life n items) (session_at n new.sessions) n new.held)
      (sym (expires_own (n == n) (eq_itself n) (expired n)))
      (subst (λ (o : Option Live). HasExpired o n new.held) (sym (goes_own on)) (shut, left_nothing n old.held new.held gone p.listed)))
      (λ m e. stands_spared expired (expired_with n expired) config items items n m old new
      (expires_other (m == n) e (expired m)) refl (goes_other on m e)
      (spares_others n nothing nothing old.held new.held gone p.listed) e p);
}
  where
    gone : Changes n nothing nothing old.held new.held
    gone = lost_to n old.held new.held t

-- what the clock does at a peer, by the session that is kept of it
abbrev TicksFor : Option Live → ℕ → ℕ → Desked → Desked → (replies replies' : List ℕ) → Type 0
TicksFor found peer moment old new replies replies' =
    elim found [
      | None ↦ (new ≡ old) × (replies' ≡ replies)
      | Some session ↦
          (session' : Live)
          × (TicksSession peer moment session session' old.held new.held replies replies'
          × ((number : ℕ) → session_at number new.sessions ≡ (if number == peer then Some session' else session_at number old.sessions)))
    ]

pub desk_ticks : {n moment : ℕ} {session session' : Live} {old new : Desked} {replies replies' : List ℕ}
    → Ticks n moment session session' old new replies replies' → TicksPeer n moment old new replies replies'
desk_ticks {n} {moment} {session} {session'} {old} {new} {replies} {replies'} t =
    subst (λ (found : Option Live). TicksFor found n moment old new replies replies') (sym t.on.there) (session', (t.ticks, goes_at t.on))

pub desk_rests : (n moment : ℕ) (replies : List ℕ) {old new : Desked} → session_at n old.sessions ≡ None → new ≡ old
    → TicksPeer n moment old new replies replies
desk_rests n moment replies {old} {new} none same =
    subst (λ (found : Option Live). TicksFor found n moment old new replies replies) (sym none) (same, refl)

-- an open session's hold time is the one that the octets of its life agree on
has_hold_time : {expired : ℕ → Bool} (config : Config) (items : List Item) (n : ℕ) (session : Live) (desk : Desked)
    → session_at n desk.sessions ≡ Some session → session.closed ≡ None → session.phase.hold ≢ 0
    → PlayedBut expired config items desk → HasHoldTime config items n
has_hold_time {expired} config items n session desk there alive timed p =
    by_expired (expired n) (subst (λ (x : Option Live). StandsAs (expired n) config (peer_of n config.peers) (life n items) x n desk.held) there (p.each n))
  where
    session_with : Option Peer → List ℕ → List Update × Last
    session_with o octets = elim o [ None ↦ ([], still at_start) | Some whose ↦ bounded_from config whose octets ]

    by : (q : Option Peer) (l : Option (List ℕ)) → peer_of n config.peers ≡ q → life n items ≡ l → PeerIs config q l (Some session) n desk.held
        → HasHoldTime config items n
    by None None f g k = absurd k
    by (Some peer) None f g k = absurd k
    by None (Some octets) f g k = absurd k
    by (Some peer) (Some octets) f g k =
        let fed = subst (λ (c : Option Closed). IsFed config peer octets session c k.updates) alive k.fed in
        record {
          octets = octets;
          life_is = g;
          phase = session.phase;
          found = ap (λ (o : Option Peer). (session_with o octets).1) f
              ∙ ap (λ (r : List Update × Last). r.1) (follows_session config peer octets session k.updates fed.0 fed.1);
          timed = timed;
        }

    never : Some (Fault 4 0) ≡ None → ⊥
    never e = cc

    by_expired : (b : Bool) → StandsAs b config (peer_of n config.peers) (life n items) (Some session) n desk.held → HasHoldTime config items n
    by_expired true k = absurd (never (sym k.0 ∙ alive))
    by_expired false k = by (peer_of n config.peers) (life n items) refl refl k

expires_timed : (hold : ℕ) (now : Times) → tick_at hold now ≡ Expires → hold ≢ 0
expires_timed hold now h zero_is = quiet (subst (λ (n : ℕ). tick_at n now ≡ Expires) zero_is h)
  where
    quiet : Quiet ≡ Expires → ⊥
    quiet e = cc

-- Where the clock closes a session, the hold time has expired.
pub ticks_expire : (n moment : ℕ) (old new : Desked) (replies replies' : List ℕ) → TicksPeer n moment old new replies replies' → ExpiresSo n old new
ticks_expire n moment old new replies replies' ticks other = by_session (session_at n old.sessions) refl ticks
  where
    Answer : Type 0
    Answer = (standing_at_desk new n ≡ Ended (Fault 4 0))
        × ((expired : ℕ → Bool) (config : Config) (items : List Item) → PlayedBut expired config items old → HasHoldTime config items n)

    by_session : (found : Option Live) → session_at n old.sessions ≡ found → TicksFor found n moment old new replies replies' → Answer
    by_session None e k = absurd (other (ap (λ (d : Desked). standing_at_desk d n) k.0))
    by_session (Some session) there k = by session.closed refl k.1.0
      where
        session' : Live
        session' = k.0

        now_stands : standing_at_desk new n ≡ standing_by (Some session')
        now_stands = ap standing_by (k.1.1 n ∙ if_true (n == n) _ _ (eq_itself n))

        same : standing_by (Some session') ≡ standing_by (Some session) → ⊥
        same h = other (now_stands ∙ h ∙ sym (ap standing_by there))

        makes : (tick : Tick) → tick_at session.phase.hold (at_moment moment session.times) ≡ tick → session.closed ≡ None
            → TickMakes tick n (at_moment moment session.times) session session' old.held new.held replies replies' → Answer
        makes Quiet h alive m = absurd (same (ap (λ (l : Live). standing_by (Some l)) m.0))
        makes Keeps h alive m = absurd (same (ap (λ (l : Live). standing_by (Some l)) m.0))
        makes Expires h alive m = (
          now_stands ∙ ap (λ (c : Option Closed). elim c [ Some w ↦ Ended w | None ↦ LiveIn session'.phase.state ]) m.0,
          λ expired config items p. has_hold_time {expired =
              expired} config items n session old there alive (expires_timed session.phase.hold (at_moment moment session.times) h) p,
        )

        by : (c : Option Closed) → session.closed ≡ c → TicksIn c n moment session session' old.held new.held replies replies' → Answer
        by (Some why) h m = absurd (same (ap (λ (l : Live). standing_by (Some l)) m.0))
        by None h m = makes (tick_at session.phase.hold (at_moment moment session.times)) refl h m

-- and no other
pub desk_expires : {n moment : ℕ} {session session' : Live} {old new : Desked} {replies replies' : List ℕ}
    → Ticks n moment session session' old new replies replies' → ExpiresPlayed n old new
desk_expires {n} {moment} {session} {session'} {old} {new} {replies} {replies'} t other expired config items p = by session.closed t.ticks
  where
    makes : (tick : Tick) (times : Times) → TickMakes tick n times session session' old.held new.held replies replies'
        → PlayedBut (expired_with n expired) config items new
    makes Quiet times k = absurd (other (stands_still t.on (ap (λ (l : Live). standing_by (Some l)) k.0)))
    makes Keeps times k = absurd (other (stands_still t.on (ap (λ (l : Live). standing_by (Some l)) k.0)))
    makes Expires times k = closes_played config items t.on k.0 k.1.0 p

    by : (c : Option Closed) → TicksIn c n moment session session' old.held new.held replies replies' → PlayedBut (expired_with n expired) config items new
    by (Some why) k = absurd (other (stands_still t.on (ap (λ (l : Live). standing_by (Some l)) k.0)))
    by None k = makes (tick_at session.phase.hold (at_moment moment session.times)) (at_moment moment session.times) k
