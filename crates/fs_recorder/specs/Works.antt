-- That a recorder takes a step: its tape, its desk, its gate and its seats.
use Rattle.std.specs.{Prelude.{ℕ, List, [], ◌∷◌, ◌++◌, Bool, true, Option, Some, None, Result, Ok, Err, ◌==◌, ◌≡◌, ◌≤◌, ◌+◌}, List.{AllByRecursion}}
use Rattle.std.specs.Prelude.{false, length, map, not, ⊤}
use Rattle.fs_base.specs.{Gate.{Turn}, Sink.{Grew, GrewPart}}
use Rattle.fs_tape.specs.{Laws.{IsNumbered, IsWritable}, Tape.{was_lost}}
use Rattle.fs_speaker.specs.Session.{Live}
use Rattle.fs_desk.specs.{Desk.{Desked, KeepsOthers, Played, Plays, session_at, standing_at_desk}, Leaves.{nobody}, Receive.{point_of}}
use Rattle.fs_recorder.specs.{Books.{Booked}, Door.{AtDoor}, Deeds.{Deed, Does, Recording, answered, asked_in, behind_answer, is_closed, items_of, text_at}}
use Rattle.fs_recorder.specs.Steps.{Place, expires, Station, Step, peers_at, place_for, seat_at, seats_one}
use Rattle.fs_recorder.specs.{Seats.{without}, declared.{seats.Seat.{Seat}, stop.Stop.{Stop, TheVariants.{Limit}}}}

-- The session through a place is open, and stands at the place's point.
pub record IsOpenAt (desk : Desked) (place : Place) : Type 0 where
  pub session : Live
  pub session_is : session_at place.peer desk.sessions ≡ Some session
  pub alive : session.closed ≡ None
  pub point_is : point_of session ≡ place.point

-- no two are the same
abbrev pub AreApart : List ℕ → Type 0
AreApart [] = ⊤
AreApart (peer ∷ peers) = AllByRecursion (λ (other : ℕ). (peer == other) ≡ false) peers × AreApart peers

-- The desk has played what was told, the seats are the places', each of a configured peer of its own and with an open
-- session.
pub record Stands (station : Station) (recording : Recording) : Type 0 where
  pub played : Played recording.books.desk.config station.told recording.books.desk
  pub seats_are : recording.seats ≡ map seat_at station.places
  pub live : AllByRecursion (IsOpenAt recording.books.desk) station.places
  pub apart : AreApart (peers_at station.places)
  pub known : AllByRecursion (IsNumbered recording.books.desk.config) (peers_at station.places)

-- The deeds of a step were done, and no others, it stands as the step leaves it, and so do the connections that wait.
pub record DoesStep (door : AtDoor) (step : Step) (old new : Recording) (turns turns' : Option (List Turn)) (before now : Option (List ℕ))
    : Type 0 where
  pub does : Does nobody nobody step.deeds old.books new.books turns turns' before now
  pub stands : Stands step.station new
  pub door_is : new.door ≡ door

-- It was broken off: a front of the records was written, and a front of what the gate was to be asked was; and where the
-- limit was named, the records would make the tape as long as it.
pub record BreaksAt (limited : Type 0) (deeds : List Deed) (old : Booked) (turns turns' : Option (List Turn)) (before now : Option (List ℕ)) : Type 0 where
  pub writable : AllByRecursion (IsWritable old.desk.config) (items_of deeds)
  pub part : GrewPart before now (text_at old.scribe.moment (items_of deeds))
  pub full : limited → old.scribe.limit ≤ old.scribe.written + length (text_at old.scribe.moment (items_of deeds))
  pub asked : List Turn
  pub later : List Turn
  pub front : asked ++ later ≡ asked_in deeds
  pub gate : Grew turns turns' asked

-- A step ran: it was done, or it was broken off.
abbrev pub Ran : {T : Type 0} → Result T Stop → AtDoor → Step → (old new : Recording) → (turns turns' : Option (List Turn))
    → (before now : Option (List ℕ)) → Type 0
Ran (Ok value) door step old new turns turns' before now = DoesStep door step old new turns turns' before now
Ran (Err stop) door step old new turns turns' before now = BreaksAt (stop ≡ Limit) step.deeds old.books turns turns' before now

-- so where nothing is answered
abbrev pub done : Result (Unit {0}) Stop
done = Ok tt

abbrev pub broken : Stop → Result (Unit {0}) Stop
broken stop = Err stop

-- from wherever it stood, and it changes which connections wait
abbrev pub RanHear : {T : Type 0} → Result T Stop → (door : AtDoor) → (Station → Step) → (old new : Recording) → (turns turns' : Option (List Turn))
    → (before now : Option (List ℕ)) → Type 0
RanHear result door step old new turns turns' before now =
    (station : Station) → Stands station old → Ran result door (step station) old new turns turns' before now

-- so where the same wait
abbrev pub RanSo : {T : Type 0} → Result T Stop → (Station → Step) → (old new : Recording) → (turns turns' : Option (List Turn))
    → (before now : Option (List ℕ)) → Type 0
RanSo result step old new turns turns' before now = RanHear result old.door step old new turns turns' before now

-- so where a seat is a place's
abbrev pub RanAt : {T : Type 0} → Result T Stop → Seat → (Place → Station → Step) → (old new : Recording) → (turns turns' : Option (List Turn))
    → (before now : Option (List ℕ)) → Type 0
RanAt result seat step old new turns turns' before now =
    (station : Station) → Stands station old
    → (place : Place) → place_for seat.peer station.places ≡ Some place → seat_at place ≡ seat
    → Ran result old.door (step place station) old new turns turns' before now

-- so where the gate is asked nothing
abbrev pub RanQuietly : {T : Type 0} → Result T Stop → (Station → Step) → (old new : Recording) → (before now : Option (List ℕ)) → Type 0
RanQuietly result step old new before now = (turns : Option (List Turn)) → RanSo result step old new turns turns before now

-- a peer takes a seat, for which none spoke if it is done
abbrev pub RanSeat : {T : Type 0} → Result T Stop → Seat → (old new : Recording) → (before now : Option (List ℕ)) → Type 0
RanSeat (Ok value) seat old new before now =
    (turns : Option (List Turn)) (station : Station) → Stands station old → place_for seat.peer station.places ≡ None
    → DoesStep old.door (seats_one seat station) old new turns turns before now
RanSeat (Err stop) seat old new before now =
    (turns : Option (List Turn)) (station : Station) → Stands station old
    → BreaksAt (stop ≡ Limit) (seats_one seat station).deeds old.books turns turns before now

-- A seat went: its peer was lost, and the sessions of other peers stay as they are.
pub record Left (seat : Seat) (old new : Recording) : Type 0 where
  pub plays : Plays (was_lost seat.peer) old.books.desk new.books.desk
  pub seats_are : new.seats ≡ without seat.line old.seats
  pub others : KeepsOthers seat.peer old.books.desk new.books.desk
  pub door_is : new.door ≡ old.door

-- A seat stays, and nothing changes; or it went.
abbrev pub Settled : (lives : Bool) → Seat → (old new : Recording) → Type 0
Settled true seat old new = (new.books ≡ old.books) × ((new.seats ≡ old.seats) × (new.door ≡ old.door))
Settled false seat old new = Left seat old new

-- What a session replied was sent; it is open still, or has closed and went.
pub record Answered (seat : Seat) (lives : Bool) (old new : Recording) (turns turns' : Option (List Turn)) (before now : Option (List ℕ)) : Type 0 where
  pub closes : is_closed (standing_at_desk old.books.desk seat.peer) ≡ not lives
  pub answers : (expired : ℕ → Bool)
      → Does expired (behind_answer lives seat.peer expired) (answered lives seat old.replies) old.books new.books turns turns' before now
  pub settled : Settled lives seat old new

-- so, or it has closed, and that was broken off
abbrev pub RanAnswer : Result Bool Stop → Seat → (old new : Recording) → (turns turns' : Option (List Turn)) → (before now : Option (List ℕ)) → Type 0
RanAnswer (Ok lives) seat old new turns turns' before now = Answered seat lives old new turns turns' before now
RanAnswer (Err stop) seat old new turns turns' before now =
    (is_closed (standing_at_desk old.books.desk seat.peer) ≡ true) × BreaksAt (stop ≡ Limit) (answered false seat old.replies) old.books turns turns' before now

-- behind the clock the session is open still, or has expired
abbrev pub WakesSo : (time : ℕ) → Seat → Recording → (lives : Bool) → Type 0
WakesSo time seat old lives =
    (station : Station) → Stands station old
    → (place : Place) → place_for seat.peer station.places ≡ Some place → lives ≡ not (expires time place)
