-- What `pair` answers, writes, and what its two ends say to each other.
use Rattle.std.specs.Prelude.{◌≡◌, ℕ, List, [], Bool, false, true, Some}
use Rattle.fs_base.specs.{Happened.{Happened}, Config.{peer_of}, Sink.{Grew}, Wire.{Told, WireEnds, joined_end}, declared.config.{Config.{Config}, Peer.{Peer}}}
use Rattle.fs_speaker.specs.{Announcer.{Announcing}, JointLaws.{CanArrive}, Line.{Lined}, Sending.{sender_of}, declared.Sending.{Sending}}
use Rattle.fs_desk.specs.Desk.{Desked, standing_at_desk}
use Rattle.fs_peering.specs.{declared.tell.Ending.{Ending, TheVariants.{Done}}, Tell.{begins_with}, Teller.{is_over}}
use Rattle.fs_peering.specs.{Hearer.{Receives, is_ended, tape_of}, Pair.{Pairs}}
use Rattle.cmd_stages.specs.Load.{Names, sending_stage}
use Rattle.cmd_wire.specs.{Concluded.{Concludes}, Conversation.{Conversation}, Listed.{IsListing}}

-- Both ends before their first octets, of the configuration's peer with the lowest number.
pub record BothBegin (config : Config) (sending : Sending) (desk : Desked) (number : ℕ) (sender : Announcing)
    (started : Bool) : Type 0 where
  pub peer : Peer
  pub peer_is : sender_of config.peers ≡ Some peer
  pub number_is : number ≡ peer.number
  pub known : peer_of number config.peers ≡ Some peer
  pub config_is : desk.config ≡ config
  pub sender_is : sender ≡ begins_with config peer sending
  pub unstarted : started ≡ false

-- They can be joined: the receiving end has heard nothing and is open, and the announcing one has heard nothing, is open,
-- and goes on hearing behind its rules.
pub record AreReady (desk : Desked) (number heard count : ℕ) (hears_on : Bool) (line : Lined) : Type 0 where
  pub unheard : Receives desk number heard [] []
  pub stands : is_ended (standing_at_desk desk number) ≡ false
  pub none : count ≡ 0
  pub on : hears_on ≡ true
  pub lives : is_over hears_on line ≡ false

-- both ends are joined
abbrev pub joining : WireEnds → WireEnds
joining ends = record { first = joined_end ends.first; second = joined_end ends.second }

-- What the two ends said and heard, and how that ended; and where all rules were announced and heard, the text lists
-- what the tape of the announced octets leaves held.
pub record Meets (ending : Ending) (config : Config) (peer : Peer) (sending : Sending) (desk : Desked) (limit : ℕ)
    (given text : List ℕ) (before now : WireEnds) : Type 0 where
  pub pairs : Pairs ending config peer sending desk peer.number limit given (joining before) now
  pub lists : ending ≡ Done → IsListing config (tape_of peer.number pairs.announced) text

-- The same, where wire and clock tell, as the configuration's peer with the lowest number.
pub record Joined (ending : Ending) (config : Config) (sending : Sending) (limit : ℕ) (text : List ℕ)
    (talk : Conversation) : Type 0 where
  pub peer : Peer
  pub peer_is : sender_of config.peers ≡ Some peer
  pub desk : Desked
  pub given : List ℕ
  pub grew : Grew talk.answers talk.answers_now given
  pub told : Told (Meets ending config peer sending desk limit given text) talk.ends talk.ends_now

-- So the two ends of the accepted files' session; and where it is done and the wire tells, the rules can arrive, so that
-- the receiving end took exactly their updates.
pub record Carries (limit : ℕ) (talk : Conversation) (accepted : Config × Sending) (ending : Ending) (text : List ℕ)
    : Type 0 where
  pub joined : Joined ending accepted.0 accepted.1 limit text talk
  pub can : ending ≡ Done
      → Told (λ before now. CanArrive accepted.0 joined.peer accepted.1) talk.ends talk.ends_now

abbrev pub Joins : (limit : ℕ) (holds : Names) → (config rules : List ℕ) → Happened → Conversation → ℕ → Type 0
Joins limit holds config rules call talk answer =
    Concludes (sending_stage limit holds config rules) (Carries limit talk) call answer
