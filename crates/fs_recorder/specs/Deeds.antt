-- What a recorder does: what it tells the tape, and what it asks of the gate.
use Rattle.std.specs.{Prelude.{ℕ, List, [], ◌∷◌, ◌++◌, Bool, true, false, Option, IsSome, ◌≡◌, ◌+◌, length, map, flat_map}, List.{AllByRecursion}}
use Rattle.fs_base.specs.{Config.{peer_of}, Gate.{Turn, said, shut}, Sink.{Grew}, declared.config.Config.{Config}}
use Rattle.fs_tape.specs.{Laws.{IsWritable, item_text}, Tape.{Item, Timed, timed, was_lost}, declared.magic.Version.TheVariants.{Two}}
use Rattle.fs_speaker.specs.declared.{Standing.{Standing, TheVariants.{Ended, Live}}, State.TheVariants.{Established}}
use Rattle.fs_desk.specs.{Desk.{expired_after}}
use Rattle.fs_recorder.specs.{Books.{AgreesBut, Booked}, Door.{AtDoor}, Tapes.{passed}, declared.seats.Seat.{Seat}}

-- An item is told, and written as a record at once; octets are sent through a line; a line is closed.
pub data Deed : Type 0 where
  tells : Item → Deed
  sends : ℕ → List ℕ → Deed
  shuts : ℕ → Deed

-- the items that are told
abbrev pub items_of : List Deed → List Item
items_of [] = []
items_of (tells item ∷ later) = item ∷ items_of later
items_of (sends line octets ∷ later) = items_of later
items_of (shuts line ∷ later) = items_of later

-- what is asked of the gate
abbrev pub asked_in : List Deed → List Turn
asked_in [] = []
asked_in (tells item ∷ later) = asked_in later
asked_in (sends line octets ∷ later) = said line octets ∷ asked_in later
asked_in (shuts line ∷ later) = shut line ∷ asked_in later

-- what is told at a moment
abbrev pub told_at : ℕ → List Item → List Timed
told_at moment items = map (timed moment) items

-- the text of what is told at a moment
abbrev pub text_at : ℕ → List Item → List ℕ
text_at moment items = flat_map (item_text Two) (told_at moment items)

-- These deeds were done, all at the moment of the tape, between two states of tape and desk: the tape grew by the records
-- of what was told, the gate was asked so much and no more, and the desk has played what was told.
pub record Does (expired expired' : ℕ → Bool) (deeds : List Deed) (old new : Booked) (turns turns' : Option (List Turn))
    (before now : Option (List ℕ)) : Type 0 where
  pub writable : AllByRecursion (IsWritable old.desk.config) (items_of deeds)
  pub tape : Grew before now (text_at old.scribe.moment (items_of deeds))
  pub gate : Grew turns turns' (asked_in deeds)
  pub moment_is : new.scribe.moment ≡ old.scribe.moment
  pub written_is : new.scribe.written ≡ old.scribe.written + length (text_at old.scribe.moment (items_of deeds))
  pub limit_is : new.scribe.limit ≡ old.scribe.limit
  pub config_is : new.desk.config ≡ old.desk.config
  pub agrees : (config : Config) (told : List Timed) → AgreesBut expired config told old
      → AgreesBut expired' config (told ++ told_at old.scribe.moment (items_of deeds)) new

-- a configured peer's
abbrev pub IsKnown : Config → Seat → Type 0
IsKnown config seat = IsSome (peer_of seat.peer config.peers)

abbrev pub AreKnown : Config → List Seat → Type 0
AreKnown config seats = AllByRecursion (IsKnown config) seats

-- the line of a seat is closed, and its peer lost
abbrev pub leaves : Seat → List Deed
leaves seat = shuts seat.line ∷ tells (was_lost seat.peer) ∷ []

-- where nothing is said, nothing is sent
abbrev pub says : ℕ → List ℕ → List Deed
says line [] = []
says line (octet ∷ octets) = sends line (octet ∷ octets) ∷ []

-- a session's replies are sent; where it has closed its seat goes
abbrev pub answered : (lives : Bool) → Seat → List ℕ → List Deed
answered true seat replies = says seat.line replies
answered false seat replies = says seat.line replies ++ leaves seat

-- Tape and desk, the seats in the order in which they were taken, which connections wait, and what a session has just
-- replied.
pub record Recording : Type 0 where
  pub books : Booked
  pub seats : List Seat
  pub door : AtDoor
  pub replies : List ℕ

-- the clock on the wall says this moment
abbrev pub passing : ℕ → Recording → Recording
passing moment recording = record recording {
  books = record { desk = recording.books.desk; scribe = passed moment recording.books.scribe };
}

-- each seat is still a configured peer's
abbrev pub StayKnown : Recording → Recording → Type 0
StayKnown old new = AreKnown old.books.desk.config old.seats → AreKnown new.books.desk.config new.seats

-- a session has closed
abbrev pub is_closed : Standing → Bool
is_closed (Ended why) = true
is_closed _ = false

abbrev pub stands_established : Standing → Bool
stands_established (Live Established) = true
stands_established _ = false

-- who is expired behind an answer
abbrev pub behind_answer : (lives : Bool) → ℕ → (ℕ → Bool) → ℕ → Bool
behind_answer true peer expired = expired
behind_answer false peer expired = expired_after (was_lost peer) expired
