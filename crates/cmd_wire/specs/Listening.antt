-- What `listen` answers, writes, and says to the other end.
use Rattle.std.specs.Prelude.{◌≡◌, ◌⊎◌, ℕ, List, [], ◌∷◌, ◌++◌, length, nat_le, if◌then◌else◌, Some, None}
use Rattle.fs_base.specs.{Happened.{Happened}, Sink.{Grew}, Wire.{Told, WireEnds, opened_end}, declared.config.{Config.{Config}, Peer.{Peer}}}
use Rattle.fs_speaker.specs.{declared.Closed.TheVariants.{Fault}, Announcer.{is_established}, Sending.{sender_of}, Session.{Last, closed, still}}
use Rattle.fs_speaker.specs.Times.{at_moment, tick_at}
use Rattle.fs_session.specs.declared.times.Tick.TheVariants.{Expires}
use Rattle.fs_desk.specs.{Desk.{Desked}, Limit.{bounded_from}}
use Rattle.fs_peering.specs.Round.{Pieces, octets_in}
use Rattle.fs_peering.specs.declared.tell.Ending.{Ending, TheVariants.{Done, Closed as HasClosed, Ended, AtLimit}}
use Rattle.fs_peering.specs.{Hearer.{Receives, tape_of, course_of}, Listen.{Listens}}
use Rattle.cmd_stages.specs.{Load.{Names, config_stage}, Refusal.{Found, Stage, and_then, or_stop}, declared.refusal.Refusal.TheVariants.{Rejected}}
use Rattle.cmd_wire.specs.{Concluded.{Concludes}, Conversation.{Conversation}, Listed.{IsListing}}

-- The configuration is accepted, and this is its peer with the lowest number.
abbrev pub with_peer : Config → Stage (Config × Peer)
with_peer accepted = and_then (or_stop Rejected (sender_of accepted.peers)) (λ peer. Found (accepted, peer))

abbrev pub hearing_stage : ℕ → Names → List ℕ → Stage (Config × Peer)
hearing_stage limit holds config = and_then (config_stage limit holds config) with_peer

-- a desk of that peer, which is up and has sent nothing yet
pub record Begins (config : Config) (desk : Desked) (number count : ℕ) : Type 0 where
  pub peer : Peer
  pub peer_is : sender_of config.peers ≡ Some peer
  pub number_is : number ≡ peer.number
  pub config_is : desk.config ≡ config
  pub fresh : Receives desk number count [] []

-- The end that the peer's octets call for: they close the session; or they are as many as the limit; or they leave it
-- established; or they end before.
abbrev pub ending_by : (limit size : ℕ) → Last → Ending
ending_by limit size (closed why) = HasClosed why
ending_by limit size (still phase) =
    if nat_le limit size then AtLimit else if is_established phase.state then Done else Ended

abbrev pub ending_of : Config → Peer → ℕ → List ℕ → Ending
ending_of config peer limit octets = ending_by limit (length octets) (bounded_from config peer octets).1

-- The hold time expired: the pieces up to the last leave the session open, and at the last one's moment the time on which
-- they agree has passed since a message came (RFC 4271, section 6.5).
pub record HasExpired (config : Config) (peer : Peer) (heard : Pieces) : Type 0 where
  pub earlier : Pieces
  pub moment : ℕ
  pub piece : List ℕ
  pub split : heard ≡ earlier ++ (moment, piece) ∷ []
  pub lived : (course_of config peer earlier).point.closed ≡ None
  pub due : tick_at (course_of config peer earlier).point.phase.hold
      (at_moment moment (course_of config peer earlier).point.times)
      ≡ Expires

-- It is the end that the octets call for, or a hold time expired.
abbrev pub IsHeard : Ending → Config → Peer → (limit : ℕ) → Pieces → Type 0
IsHeard ending config peer limit heard =
    (ending ≡ ending_of config peer limit (octets_in heard)) ⊎ ((ending ≡ HasClosed (Fault 4 0)) × HasExpired config peer heard)

-- end 0 listens, and has taken a connection
abbrev pub listening : WireEnds → WireEnds
listening ends = record { first = opened_end ends.first; second = ends.second }

-- Of what the other end was to give the end of the wire that took the connection gave these pieces, and this was said
-- through it. The session's end is one that is due. Where they leave the session established, the text is the listing of a tape on
-- which the peer comes up and sends these octets.
pub record Hears (ending : Ending) (config : Config) (peer : Peer) (text : List ℕ) (limit : ℕ) (given : List ℕ)
    (before now : WireEnds) : Type 0 where
  pub desk : Desked
  pub listens : Listens ending config desk peer.number limit given (listening before) now
  pub whose_is : listens.whose ≡ peer
  pub due : IsHeard ending config peer limit listens.heard
  pub lists : ending ≡ Done → IsListing config (tape_of peer.number (octets_in listens.heard)) text

-- The same, where wire and clock tell.
pub record Heard (limit : ℕ) (talk : Conversation) (accepted : Config × Peer) (ending : Ending) (text : List ℕ) : Type 0 where
  pub given : List ℕ
  pub grew : Grew talk.answers talk.answers_now given
  pub told : Told (Hears ending accepted.0 accepted.1 text limit given) talk.ends talk.ends_now

-- by the desk
pub record ListensThrough (ending : Ending) (config : Config) (desk : Desked) (number limit : ℕ) (talk : Conversation) : Type 0 where
  pub given : List ℕ
  pub grew : Grew talk.answers talk.answers_now given
  pub told : Told (λ before now. Listens ending config desk number limit given (listening before) now)
      talk.ends talk.ends_now

abbrev pub ListensTo : (limit : ℕ) (holds : Names) → (config : List ℕ) → Happened → Conversation → ℕ → Type 0
ListensTo limit holds config call talk answer = Concludes (hearing_stage limit holds config) (Heard limit talk) call answer
