-- The parts of two joined ends, and the world that they are.
use Rattle.std.specs.Prelude.{◌≡◌, ℕ, true, List}
use Rattle.fs_base.specs.declared.config.{Config.{Config}, Peer.{Peer}}
use Rattle.fs_attrs.specs.declared.update.Update.{Update}
use Rattle.fs_session.specs.{declared.sending.Sending.{Sending}, Announcer.{Announcing}, Handed.{Point}, Session.{Live, line_of}}
use Rattle.fs_speaker.specs.{End.{StandsAt}, Flight.{Flying}, World.{World, taker_of, teller_of, says, next_said}}

-- what both ends keep
pub record Both : Type 0 where
  pub taker : Live
  pub teller : Announcing
  pub flight : Flying
  pub taken : List Update

abbrev pub both : Live → Announcing → Flying → List Update → Both
both taker teller flight taken = record { taker = taker; teller = teller; flight = flight; taken = taken }

-- the receiving end stands at this point
pub record IsTaker (config : Config) (peer : Peer) (sending : Sending) (taker : Live) (now : Point) : Type 0 where
  pub config_is : taker.config ≡ config
  pub peer_is : taker.peer ≡ peer
  pub stands : StandsAt (taker_of config peer sending) (line_of taker) now

-- the announcing end has said its OPEN and so many rules, and stands at this point
pub record IsTeller (config : Config) (peer : Peer) (sending : Sending) (teller : Announcing) (now : Point) (appended : ℕ) : Type 0 where
  pub config_is : teller.config ≡ config
  pub peer_is : teller.peer ≡ peer
  pub sending_is : teller.sending ≡ sending
  pub started : teller.started ≡ true
  pub appended_is : teller.appended ≡ appended
  pub stands : StandsAt (teller_of config peer sending) teller.line now

-- whose ends they are, and what is to be sent, stays as it is
abbrev pub SameOnes : Both → Both → Type 0
SameOnes old new = (new.teller.config ≡ old.teller.config) × (new.teller.peer ≡ old.teller.peer) × (new.teller.sending ≡ old.teller.sending)

-- both ends, what is in flight and the updates taken are this world
pub record AreIn (config : Config) (peer : Peer) (sending : Sending) (ends : Both) (w : World) : Type 0 where
  pub first : IsTaker config peer sending ends.taker w.taker
  pub second : IsTeller config peer sending ends.teller w.teller w.appended
  pub to_taker_is : ends.flight.to_taker ≡ w.to_taker
  pub to_teller_is : ends.flight.to_teller ≡ w.to_teller
  pub cut_is : ends.flight.cut ≡ w.cut
  pub taken_is : ends.taken ≡ w.taken

-- so of any world, by what makes another of it
abbrev pub Becomes : (Config → Peer → Sending → World → World) → Both → Both → Type 0
Becomes change old new =
    (config : Config) (peer : Peer) (sending : Sending) (w : World) → AreIn config peer sending old w
    → AreIn config peer sending new (change config peer sending w)

-- the announcing end says its next rule
abbrev pub says_next : Config → Peer → Sending → World → World
says_next config peer sending w = says (next_said config peer sending w.teller w.appended) w
