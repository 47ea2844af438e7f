-- What `announce` answers, writes, and says to the other end.
use Rattle.std.specs.Prelude.{◌≡◌, ◌≢◌, ◌⊎◌, ℕ, ◌+◌, List, length, nat_le, if◌then◌else◌, Some}
use Rattle.fs_base.specs.{Happened.{Happened}, Sink.{Grew}, Wire.{Told, WireEnds, opened_end}, declared.config.{Config.{Config}, Peer.{Peer}}}
use Rattle.fs_speaker.specs.{declared.{Sending.{Sending}, Closed.TheVariants.{Fault}}, Announcer.{is_established}, Sending.{needs_of, sender_of}}
use Rattle.fs_speaker.specs.{Session.{Last, at_start, closed, still}, Side.{announcer}, Transition.{Machine}}
use Rattle.fs_peering.specs.declared.tell.Ending.{Ending, TheVariants.{Done, Closed as HasClosed, Ended, AtLimit}}
use Rattle.fs_peering.specs.{Opening.{opened_by}, Tell.{Tells}, Teller.{HasExpired}, Round.{octets_in}}
use Rattle.cmd_stages.specs.{Load.{Names, sending_stage}, Refusal.{Verdict}, declared.refusal.Refusal.{Refusal, TheVariants.{Outside, Memory}}}
use Rattle.cmd_wire.specs.{Concluded.{Concludes}, Conversation.{Conversation}, Lines.{sent_line}, Listed.{verdict_by}}

-- The end that the octets which were read from the other end call for: they close the session; or, without those behind
-- the message that establishes it, they are as many as the limit; or they establish it; or they end before.
abbrev pub ending_by : (limit size : ℕ) → Last × List ℕ → Ending
ending_by limit size (closed why, behind) = HasClosed why
ending_by limit size (still phase, behind) =
    if nat_le (limit + length behind) size then AtLimit else if is_established phase.state then Done else Ended

abbrev pub ending_of : Machine → ℕ → List ℕ → Ending
ending_of machine limit octets = ending_by limit (length octets) (opened_by machine at_start octets)

-- It is that, or a hold time expired.
abbrev pub IsDue : Ending → Machine → (limit : ℕ) → (moments octets : List ℕ) → Type 0
IsDue ending machine limit moments octets =
    (ending ≡ ending_of machine limit octets) ⊎ ((ending ≡ HasClosed (Fault 4 0)) × HasExpired machine moments octets)

-- end 1 has connected
abbrev pub dialling : WireEnds → WireEnds
dialling ends = record { first = ends.first; second = opened_end ends.second }

-- Of what the other end was to give the end of the wire that connected gave these pieces, and this was said through it.
-- The session's end is one that is due.
pub record Speaks (ending : Ending) (config : Config) (peer : Peer) (sending : Sending) (limit : ℕ) (given : List ℕ)
    (before now : WireEnds) : Type 0 where
  pub tells : Tells ending config peer sending limit given (dialling before) now
  pub due : IsDue ending (announcer config (needs_of sending.rules)) limit given (octets_in tells.heard)

-- The same, where wire and clock tell, as the configuration's peer with the lowest number.
pub record Connected (ending : Ending) (config : Config) (sending : Sending) (limit : ℕ) (talk : Conversation) : Type 0 where
  pub peer : Peer
  pub peer_is : sender_of config.peers ≡ Some peer
  pub given : List ℕ
  pub grew : Grew talk.answers talk.answers_now given
  pub told : Told (Speaks ending config peer sending limit given) talk.ends talk.ends_now

-- memory was wanting, or a call outside failed
abbrev pub IsBrokenOff : Type 0 → Refusal → Type 0
IsBrokenOff failed refusal = (refusal ≡ Memory) ⊎ ((refusal ≡ Outside) × failed)

-- a status of a session: of no tape, of no capture and of no dump
abbrev pub IsOfSession : ℕ → Type 0
IsOfSession status = (status ≢ 4) × (status ≢ 5) × (status ≢ 10)

-- so once the files are accepted: not 3 either
abbrev pub IsOfWire : ℕ → Type 0
IsOfWire status = (status ≢ 3) × IsOfSession status

-- what is answered and written at such an end, of so many rules
abbrev pub verdict_of : Ending → ℕ → Verdict
verdict_of ending count = verdict_by ending (sent_line count)

-- What the accepted files say to announce was said so, and the text tells how many rules.
abbrev pub Announced : (limit : ℕ) → Conversation → Config × Sending → Ending → List ℕ → Type 0
Announced limit talk accepted ending text =
    Connected ending accepted.0 accepted.1 limit talk × (text ≡ sent_line (length accepted.1.rules))

abbrev pub Announces : (limit : ℕ) (holds : Names) → (config rules : List ℕ) → Happened → Conversation → ℕ → Type 0
Announces limit holds config rules call talk answer =
    Concludes (sending_stage limit holds config rules) (Announced limit talk) call answer
