-- What runs of `announce`, `listen` and `pair` promise.
use Rattle.std.specs.Prelude.{◌≡◌, ◌+◌, ◌<◌, ◌++◌, ℕ, List, true, length, Some}
use Rattle.fs_base.specs.{Happened.{Happened}, Sink.{Grew}, declared.config.Peer.{Peer}}
use Rattle.fs_session.specs.declared.transition.Phase.{Phase}
use Rattle.fs_speaker.specs.{Announcer.{is_established}, Sending.{needs_of, sender_of}, Session.{at_start, still}, Side.{announcer}}
use Rattle.fs_desk.specs.Limit.{bounded_from}
use Rattle.fs_peering.specs.{Opening.{opened_by}, Pair.{IsTimely, MayHold}, Round.{Pieces, moments_in, octets_in}, Teller.{HasExpired}}
use Rattle.cmd_stages.specs.Load.{Names, sending_stage}
use Rattle.cmd_wire.specs.{Announcing.{Announced}, Concluded.{IsSetUp, SessionPromises}, Conversation.{Conversation}}
use Rattle.cmd_wire.specs.{Listening.{HasExpired as HasPassed, Heard, hearing_stage}, Pairing.{Carries}}

-- The files are accepted, and what the other end is to give establishes the session, closes it nowhere, and has fewer
-- octets than the limit; and no hold time on which it agrees passes between the clock's answers.
pub record IsServed (limit : ℕ) (holds : Names) (config rules : List ℕ) (talk : Conversation) : Type 0 where
  pub set_up : IsSetUp (sending_stage limit holds config rules) talk
  pub phase : Phase
  pub behind : List ℕ
  pub opens : opened_by (announcer set_up.accepted.0 (needs_of set_up.accepted.1.rules)) at_start set_up.ends.second.to_receive
      ≡ (still phase, behind)
  pub up : is_established phase.state ≡ true
  pub within : length set_up.ends.second.to_receive < limit
  pub timely : (given : List ℕ)
      → Grew talk.answers talk.answers_now given
      → HasExpired (announcer set_up.accepted.0 (needs_of set_up.accepted.1.rules)) given set_up.ends.second.to_receive → ⊥

-- At 0 the rules of the file were announced: the OPEN, KEEPALIVEs, and an UPDATE for each rule were written to the other
-- end and nothing else, behind octets of it that establish the session. Their count was written.
abbrev pub AnnouncePromises : (limit : ℕ) (holds : Names) → (config rules : List ℕ) → Happened → Conversation → ℕ → Type 0
AnnouncePromises limit holds config rules call talk answer =
    SessionPromises (sending_stage limit holds config rules) (Announced limit talk) (IsServed limit holds config rules talk)
    call answer

-- The configuration is accepted, and what the other end is to give leaves the session established, and has fewer octets
-- than the limit; and no hold time on which a front of it agrees passes between the clock's answers.
pub record IsReached (limit : ℕ) (holds : Names) (config : List ℕ) (talk : Conversation) : Type 0 where
  pub set_up : IsSetUp (hearing_stage limit holds config) talk
  pub phase : Phase
  pub stays : (bounded_from set_up.accepted.0 set_up.accepted.1 set_up.ends.first.to_receive).1 ≡ still phase
  pub up : is_established phase.state ≡ true
  pub within : length set_up.ends.first.to_receive < limit
  pub timely : (heard : Pieces) (left : List ℕ)
      → set_up.ends.first.to_receive ≡ octets_in heard ++ left
      → Grew talk.answers talk.answers_now (moments_in heard)
      → HasPassed set_up.accepted.0 set_up.accepted.1 heard → ⊥

-- At 0 what the other end gave leaves its session established. The replies to it and what the clock appended were written
-- to it and nothing else, and the listing was written that `rules` writes of a tape on which the peer comes up and sends
-- the same octets.
abbrev pub ListenPromises : (limit : ℕ) (holds : Names) → (config : List ℕ) → Happened → Conversation → ℕ → Type 0
ListenPromises limit holds config call talk answer =
    SessionPromises (hearing_stage limit holds config) (Heard limit talk) (IsReached limit holds config talk) call answer

-- The files are accepted, and name an identifier other than 0.0.0.0; the peer may hold as many routes as there are
-- rules; each end said fewer octets than the limit; and no hold time can have passed between the clock's answers.
pub record CanBeCarried (limit : ℕ) (holds : Names) (config rules : List ℕ) (talk : Conversation) : Type 0 where
  pub set_up : IsSetUp (sending_stage limit holds config rules) talk
  pub named : 0 < set_up.accepted.1.id
  pub peer : Peer
  pub peer_is : sender_of set_up.accepted.0.peers ≡ Some peer
  pub may_hold : MayHold peer.max_routes (length set_up.accepted.1.rules)
  pub replied_within : length set_up.ends_now.first.written < length set_up.ends.first.written + limit
  pub announced_within : length set_up.ends_now.second.written < length set_up.ends.second.written + limit
  pub timely : (given : List ℕ) → Grew talk.answers talk.answers_now given → IsTimely set_up.accepted.0 given

-- At 0 the rules of the file were announced by the one end and received by the other: the OPEN, KEEPALIVEs, and an UPDATE
-- for each rule, in the file's order and nothing else; and where the wire tells, the other end took exactly their
-- updates. What these leave held was listed. Whatever the end, a front of that was announced.
abbrev pub PairPromises : (limit : ℕ) (holds : Names) → (config rules : List ℕ) → Happened → Conversation → ℕ → Type 0
PairPromises limit holds config rules call talk answer =
    SessionPromises (sending_stage limit holds config rules) (Carries limit talk) (CanBeCarried limit holds config rules talk)
    call answer
