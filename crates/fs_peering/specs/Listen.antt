-- What a receiving end hears and says over a wire, and how that ends.
use Rattle.std.specs.Prelude.{◌≡◌, ℕ, ◌≤◌, ◌<◌, List, [], ◌++◌, length, if◌then◌else◌, Bool, true, false, Option, Some, None}
use Rattle.fs_base.specs.{Config.{peer_of}, Sink.{Grew}, Wire.{Told, WireEnds}, declared.config.{Config.{Config}, Peer.{Peer}}}
use Rattle.fs_speaker.specs.{Announcer.{is_established}, Session.{still}}
use Rattle.fs_speaker.specs.declared.{Closed.{Closed}, Standing.{Standing, TheVariants.{Live, Ended as HasEnded}}}
use Rattle.fs_session.specs.declared.transition.Phase.{Phase}
use Rattle.fs_desk.specs.{Desk.{Desked, Played}, Limit.{bounded_session}}
use Rattle.fs_peering.specs.declared.tell.Ending.{Ending, TheVariants.{Done, Closed as WasClosed, Ended, AtLimit}}
use Rattle.fs_peering.specs.declared.listening.Stopped.{Stopped, TheVariants.{All, Over, AtLimit as MetIt}}
use Rattle.fs_peering.specs.{Round.{Pieces, moments_in, octets_in}, Hearer.{HasClosed, tape_of, course_of}}

-- the peer is up, and its session is established
abbrev pub is_settled : Standing → Bool
is_settled (Live state) = is_established state
is_settled _ = false

-- The pieces close the session nowhere, by their octets or by the clock: the desk is what the tape of them leaves, and exactly this was said: what is
-- replied to them, and what the clock appended.
pub record IsReceiving (desk : Desked) (peer : ℕ) (whose : Peer) (heard : Pieces) (said : List ℕ) : Type 0 where
  pub alive : (course_of desk.config whose heard).point.closed ≡ None
  pub played : Played desk.config (tape_of peer (octets_in heard)) desk
  pub phase : Phase
  pub found : (bounded_session desk.config peer (octets_in heard)).1 ≡ still phase
  pub said_is : said ≡ (course_of desk.config whose heard).text

-- They end so, established or not.
pub record EndsSo (established : Bool) (desk : Desked) (peer : ℕ) (whose : Peer) (limit : ℕ) (heard : Pieces)
    (said left : List ℕ) : Type 0 where
  pub receives : IsReceiving desk peer whose heard said
  pub settled : is_established receives.phase.state ≡ established
  pub within : length (octets_in heard) < limit
  pub none : left ≡ []

-- As many octets as the limit came.
pub record MeetsLimit (desk : Desked) (peer : ℕ) (whose : Peer) (limit : ℕ) (heard : Pieces) (said : List ℕ)
    : Type 0 where
  pub receives : IsReceiving desk peer whose heard said
  pub met : limit ≤ length (octets_in heard)

abbrev pub ListensSo : Ending → Desked → ℕ → Peer → (limit : ℕ) → Pieces → (said left : List ℕ) → Type 0
ListensSo Done desk peer whose limit heard said left = EndsSo true desk peer whose limit heard said left
ListensSo Ended desk peer whose limit heard said left = EndsSo false desk peer whose limit heard said left
ListensSo AtLimit desk peer whose limit heard said left = MeetsLimit desk peer whose limit heard said
ListensSo (WasClosed why) desk peer whose limit heard said left = HasClosed desk.config peer whose heard said why

-- The ending of a session of which no more is heard: a receiving end that has closed closes it.
abbrev pub EndsHearing : Stopped → Standing → Ending → Type 0
EndsHearing Over standing ending = (why : Closed) → standing ≡ HasEnded why → ending ≡ WasClosed why
EndsHearing MetIt standing ending = ending ≡ AtLimit
EndsHearing All standing ending = ending ≡ (if is_settled standing then Done else Ended)

-- The end of the wire gave these pieces of what it had left, no more than the limit, each before the clock answered its
-- moment, and this was written through it.
pub record Listens (ending : Ending) (config : Config) (desk : Desked) (peer limit : ℕ) (given : List ℕ)
    (before now : WireEnds) : Type 0 where
  pub whose : Peer
  pub whose_is : peer_of peer config.peers ≡ Some whose
  pub config_is : desk.config ≡ config
  pub heard : Pieces
  pub said : List ℕ
  pub read : before.first.left ≡ octets_in heard ++ now.first.left
  pub within : length (octets_in heard) ≤ limit
  pub wrote : now.first.written ≡ before.first.written ++ said
  pub asked : moments_in heard ≡ given
  pub ends : ListensSo ending desk peer whose limit heard said now.first.left

pub record ListensOver (ending : Ending) (config : Config) (desk : Desked) (peer limit : ℕ)
    (before now : Option WireEnds) (answers answers' : Option (List ℕ)) : Type 0 where
  pub given : List ℕ
  pub grew : Grew answers answers' given
  pub told : Told (Listens ending config desk peer limit given) before now
