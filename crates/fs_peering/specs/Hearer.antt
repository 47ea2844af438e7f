-- The receiving end of a session over a wire, by the pieces that it heard and what it said.
use Rattle.std.specs.Prelude.{◌≡◌, ◌⊎◌, ℕ, List, [], ◌∷◌, ◌++◌, length, Bool, true, false, Some, None}
use Rattle.fs_base.specs.{Config.{peer_of}, declared.config.{Config.{Config}, Peer.{Peer}}}
use Rattle.fs_speaker.specs.{End.{ticked}, Handed.{Handed}, Session.{Live}, Side.{notice_text, receiver}, Times.{at_moment, tick_at}}
use Rattle.fs_speaker.specs.declared.{Closed.{Closed, TheVariants.{Fault}}, Standing.{Standing, TheVariants.{Ended}}}
use Rattle.fs_session.specs.declared.times.Tick.TheVariants.{Expires}
use Rattle.fs_tape.specs.Tape.{Item, came_up, received}
use Rattle.fs_desk.specs.{Desk.{Desked, Played, session_at, standing_at_desk}, Limit.{bounded_replies}, Receive.{IsOver, point_of}}
use Rattle.fs_peering.specs.{Round.{Pieces, octets_in}, Course.{course}}

-- the tape of a peer that came up and sent these octets
abbrev pub tape_of : ℕ → List ℕ → List Item
tape_of peer octets = came_up peer ∷ received peer octets ∷ []

-- what a session with a peer comes to that hears these pieces, where no limit of routes is passed
abbrev pub course_of : Config → Peer → Pieces → Handed
course_of config whose heard = course (receiver config whose) heard

-- An open session: the desk stands as the octets leave it, the session where the pieces do, and it said what is
-- answered to these and what the clock appends.
pub record IsHearing (desk : Desked) (peer : ℕ) (whose : Peer) (heard : Pieces) (said : List ℕ) : Type 0 where
  pub session : Live
  pub session_is : session_at peer desk.sessions ≡ Some session
  pub alive : session.closed ≡ None
  pub played : Played desk.config (tape_of peer (octets_in heard)) desk
  pub point_is : point_of session ≡ (course_of desk.config whose heard).point
  pub said_is : said ≡ (course_of desk.config whose heard).text

-- The hold time has expired at a moment, and that was said (RFC 4271, section 6.5).
pub record ExpiresAt (config : Config) (whose : Peer) (earlier : Pieces) (moment : ℕ) (said : List ℕ) (why : Closed)
    : Type 0 where
  pub due : tick_at (course_of config whose earlier).point.phase.hold
      (at_moment moment (course_of config whose earlier).point.times)
      ≡ Expires
  pub why_is : why ≡ Fault 4 0
  pub said_is : said ≡ (course_of config whose earlier).text ++ notice_text 4 0

-- The octets close the session within a piece, whatever follows, and what is replied to them up to there was said.
pub record ClosesIn (config : Config) (peer : ℕ) (whose : Peer) (earlier : Pieces) (moment : ℕ) (piece said : List ℕ)
    (why : Closed) : Type 0 where
  pub lives : (ticked moment (course_of config whose earlier).point).point.closed ≡ None
  pub over : IsOver config whose (octets_in earlier ++ piece) why
  pub more : List ℕ
  pub replied : bounded_replies config peer (octets_in earlier ++ piece)
      ≡ bounded_replies config peer (octets_in earlier) ++ more
  pub said_is : said
      ≡ (course_of config whose earlier).text ++ ((ticked moment (course_of config whose earlier).point).text ++ more)

-- A session that has closed: up to the last of the pieces it is open, and there it closes, by the clock or by its octets.
pub record HasClosed (config : Config) (peer : ℕ) (whose : Peer) (heard : Pieces) (said : List ℕ) (why : Closed)
    : Type 0 where
  pub earlier : Pieces
  pub moment : ℕ
  pub piece : List ℕ
  pub split : heard ≡ earlier ++ (moment, piece) ∷ []
  pub lived : (course_of config whose earlier).point.closed ≡ None
  pub closes : ExpiresAt config whose earlier moment said why ⊎ ClosesIn config peer whose earlier moment piece said why

abbrev pub StandsBy : Standing → Desked → ℕ → Peer → Pieces → List ℕ → Type 0
StandsBy (Ended why) desk peer whose heard said = HasClosed desk.config peer whose heard said why
StandsBy standing desk peer whose heard said = IsHearing desk peer whose heard said

-- so of the session with a peer, and as many octets were heard
pub record Receives (desk : Desked) (peer count : ℕ) (heard : Pieces) (said : List ℕ) : Type 0 where
  pub whose : Peer
  pub whose_is : peer_of peer desk.config.peers ≡ Some whose
  pub stands : StandsBy (standing_at_desk desk peer) desk peer whose heard said
  pub counted : count ≡ length (octets_in heard)

abbrev pub is_ended : Standing → Bool
is_ended (Ended why) = true
is_ended _ = false

-- whose desk it is, and nothing more
abbrev pub bare : Desked → Desked
bare desk = record {
  config = desk.config;
  held = record { config = desk.config; unicast = []; flows = [] };
  changes = record { places = []; all = false };
  sessions = [];
}
