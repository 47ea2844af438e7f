-- What a recorder does at each event, by what was told before and by which connections speak for which peers.
use Rattle.std.specs.Prelude.{ℕ, List, [], ◌∷◌, ◌++◌, ◌-◌, ◌==◌, ◌&&◌, Bool, true, false, Option, Some, None, drop, find, filter, length, map, max}
use Rattle.std.specs.Prelude.{not, nat_lt, unwrap_or, is_some, if◌then◌else◌}
use Rattle.fs_base.specs.{Config.{peer_of}, Gate.{Turn, What, came, ended, gave, made, nothing, taken}, declared.config.{Address.{Address}, Config.{Config}}}
use Rattle.fs_tape.specs.Tape.{Item, Timed, came_up, received, was_lost}
use Rattle.fs_speaker.specs.{End.{first_point, ticked}, Handed.{Point, hand}, Side.{notice_text, receiver}, declared.State.{State, TheVariants.{Established}}}
use Rattle.fs_desk.specs.{Desk.{standing_of}, Life.{life}, Limit.{bounded_replies}}
use Rattle.fs_recorder.specs.Deeds.{Deed, asked_in, is_closed, items_of, leaves, says, sends, shuts, tells, told_at}
use Rattle.fs_recorder.specs.Door.{AtDoor, empty_door, guest_of, is_due, late_lines, open_time, said_as, swept_where_due, with_guest, without_guest}
use Rattle.fs_recorder.specs.{Seats.{are_told_apart, first_peer, free_by}, declared.{door.Guest.{Guest}, seats.Seat.{Seat}}}

-- A connection that speaks for a peer, the time in milliseconds when it was taken, and where the session through it stands.
pub record Place : Type 0 where
  pub line : ℕ
  pub peer : ℕ
  pub since : ℕ
  pub point : Point

abbrev pub seat_at : Place → Seat
seat_at place = record { line = place.line; peer = place.peer; since = place.since }

-- What was told so far, and the places in the order in which they were taken.
pub record Station : Type 0 where
  pub told : List Item
  pub places : List Place

-- nothing was told, and no connection speaks
abbrev pub empty_station : Station
empty_station = record { told = []; places = [] }

-- what is done, and how it stands then
pub record Step : Type 0 where
  pub deeds : List Deed
  pub station : Station

-- these deeds, which leave these places
abbrev pub doing : List Deed → List Place → Station → Step
doing deeds places station = record {
  deeds = deeds;
  station = record { told = station.told ++ items_of deeds; places = places };
}

abbrev pub resting : Station → Step
resting station = record { deeds = []; station = station }

-- one step, and then another one from where the first leaves
abbrev pub then_do : Step → (Station → Step) → Step
then_do first later = record {
  deeds = first.deeds ++ (later first.station).deeds;
  station = (later first.station).station;
}

-- the place of this line, and that of this peer
abbrev pub place_of : ℕ → List Place → Option Place
place_of line places = find (λ (place : Place). place.line == line) places

abbrev pub place_for : ℕ → List Place → Option Place
place_for peer places = find (λ (place : Place). place.peer == peer) places

-- the places of other lines
abbrev pub places_without : ℕ → List Place → List Place
places_without line places = filter (λ (place : Place). not (place.line == line)) places

-- the session with this peer stands at another point
abbrev pub moved : ℕ → Point → List Place → List Place
moved peer now places =
    map (λ (place : Place). if place.peer == peer then record place { point = now } else place) places

-- What a session says is sent. Where it has closed its line is closed too, its peer is lost and its place goes; else its
-- place stands at another point.
abbrev pub settles : (closed : Bool) → Place → Point → (replies : List ℕ) → Station → Step
settles false place now replies station =
    doing (says place.line replies) (moved place.peer now station.places) station
settles true place now replies station =
    doing (says place.line replies ++ leaves (seat_at place)) (places_without place.line station.places) station

-- whether the clock closes a session at a time
abbrev pub expires : (time : ℕ) → Place → Bool
expires time place = is_some (ticked time place.point).point.closed

-- The clock at a session: it says nothing, or a KEEPALIVE, or where its hold time has expired the NOTIFICATION of that (RFC
-- 4271, sections 4.4 and 6.5).
abbrev pub wakes : (time : ℕ) → Place → Station → Step
wakes time place station =
    settles (expires time place) place (ticked time place.point).point (ticked time place.point).text station

-- the octets of a peer since it came up
abbrev pub octets_of : ℕ → List Item → List ℕ
octets_of peer told = unwrap_or (life peer told) []

-- what the session with a peer replies to a piece, beyond what it has replied before
abbrev pub replies_to : Config → ℕ → List Item → (piece : List ℕ) → List ℕ
replies_to config peer told piece =
    drop (length (bounded_replies config peer (octets_of peer told)))
    (bounded_replies config peer (octets_of peer told ++ piece))

-- where a session stands that a piece leaves open
abbrev pub handed_point : Config → ℕ → Point → (piece : List ℕ) → Point
handed_point config peer now piece =
    elim (peer_of peer config.peers) [
      | None ↦ now
      | Some whose ↦ (hand (receiver config whose) now.times.greatest now piece).point
    ]

-- the piece of a peer is told, and then settled what its session makes of it
abbrev pub receives : Config → Place → (piece : List ℕ) → Station → Step
receives config place piece station =
    then_do (doing (tells (received place.peer piece) ∷ []) station.places station)
    (settles (is_closed (standing_of config (station.told ++ received place.peer piece ∷ []) place.peer)) place
    (handed_point config place.peer place.point piece) (replies_to config place.peer station.told piece))

-- the same place, behind the clock
abbrev pub woken : (time : ℕ) → Place → Place
woken time place = record place { point = (ticked time place.point).point }

-- The clock first; and where the session is open behind it, the octets.
abbrev pub speaks : Config → (time : ℕ) → Place → (piece : List ℕ) → Station → Step
speaks config time place piece station =
    if expires time place then wakes time place station
    else then_do (wakes time place station) (receives config (woken time place) piece)

-- octets of a connection that speaks for no peer do nothing
abbrev pub hears_octets : Config → (line time : ℕ) → (piece : List ℕ) → Station → Step
hears_octets config line time piece station =
    elim (place_of line station.places) [
      | None ↦ resting station
      | Some place ↦ speaks config time place piece station
    ]

-- a connection that speaks for a peer has ended
abbrev pub ends : (line : ℕ) → Station → Step
ends line station =
    elim (place_of line station.places) [
      | None ↦ resting station
      | Some place ↦ doing (tells (was_lost place.peer) ∷ []) (places_without place.line station.places) station
    ]

-- the connection that speaks for a peer, if one does, is closed
abbrev pub vacates : (peer : ℕ) → Station → Step
vacates peer station =
    elim (place_for peer station.places) [
      | None ↦ resting station
      | Some place ↦ doing (leaves (seat_at place)) (places_without place.line station.places) station
    ]

-- a connection speaks for a peer from a time on
abbrev pub taken_by : Seat → Place
taken_by seat = record { line = seat.line; peer = seat.peer; since = seat.since; point = first_point }

abbrev pub seats_one : Seat → Station → Step
seats_one seat station = doing (tells (came_up seat.peer) ∷ []) (station.places ++ taken_by seat ∷ []) station

-- so in place of one that does
abbrev pub replaces : (line peer time : ℕ) → Station → Step
replaces line peer time station =
    then_do (vacates peer station) (seats_one (record { line = line; peer = peer; since = time }))

-- The peer for which a connection from an address is to speak: of the configured peers of the address for which none speaks
-- the first that has the AS of its OPEN, where one was told, or else the first; where there is none, and no hold time is
-- configured, the first peer of the address.
abbrev pub peer_for : Config → (from : Address) → (told : Option ℕ) → List Seat → Option ℕ
peer_for config from told seats =
    elim (free_by from told seats config.peers) [
      | Some peer ↦ Some peer.number
      | None ↦ if config.hold_time == 0 then elim (first_peer from config.peers) [ None ↦ None | Some peer ↦ Some peer.number ] else None
    ]

-- A connection speaks for that peer from now on, in place of one that does; where it is to speak for none it is closed (RFC
-- 4271, section 6.8).
abbrev pub takes : Config → (line : ℕ) → (from : Address) → (told : Option ℕ) → (since : ℕ) → Station → Step
takes config line from told since station =
    elim (peer_for config from told (map seat_at station.places)) [
      | None ↦ doing (shuts line ∷ []) station.places station
      | Some peer ↦ replaces line peer since station
    ]

-- whether a connection waits for its OPEN: no more do than there are peers
abbrev pub waits : Config → (from : Address) → List Seat → List Guest → Bool
waits config from seats guests = are_told_apart from seats config.peers && nat_lt (length guests) (length config.peers)

-- A connection was taken: it waits, or speaks for a peer at once.
abbrev pub comes : Config → (line : ℕ) → (from : Address) → (time : ℕ) → List Guest → Station → Step
comes config line from time guests station =
    if waits config from (map seat_at station.places) guests then resting station else takes config line from None time station

-- the first octets of one that waits: it waits no more
abbrev pub admits : Config → (line : ℕ) → (piece : List ℕ) → List Guest → Station → Step
admits config line piece guests station =
    elim (guest_of line guests) [
      | None ↦ resting station
      | Some guest ↦ takes config line guest.from (said_as piece) guest.since station
    ]

-- octets of a connection
abbrev pub gives : Config → (line time : ℕ) → (piece : List ℕ) → List Guest → Station → Step
gives config line time piece guests station =
    then_do (admits config line piece guests station) (hears_octets config line time piece)

-- What a recorder does for an event itself.
abbrev pub follows : Config → List Guest → (time : ℕ) → What → Station → Step
follows config guests time (taken line from) station = comes config line from time guests station
follows config guests time (gave line piece) station = gives config line time piece guests station
follows config guests time (ended line) station = ends line station
follows config guests time (made line) station = resting station
follows config guests time nothing station = resting station

-- which connections wait behind it
abbrev pub door_with : Config → (time : ℕ) → What → List Seat → AtDoor → AtDoor
door_with config time (taken line from) seats door =
    if waits config from seats door.guests then with_guest (record { line = line; from = from; since = time }) door else door
door_with config time (gave line piece) seats door = without_guest line door
door_with config time (ended line) seats door = without_guest line door
door_with config time (made line) seats door = door
door_with config time nothing seats door = door

abbrev pub is_established : State → Bool
is_established Established = true
is_established _ = false

-- whether a session has time left to be established
abbrev pub is_early : (time : ℕ) → Place → Bool
is_early time place = nat_lt (time - place.since) open_time

-- a session is given up, with the NOTIFICATION of an expired hold time
abbrev pub hurries : Place → Station → Step
hurries place station =
    doing (sends place.line (notice_text 4 0) ∷ leaves (seat_at place)) (places_without place.line station.places) station

abbrev pub hurries_where_new : Place → Station → Step
hurries_where_new place station = if is_established place.point.phase.state then resting station else hurries place station

abbrev pub hurries_where_late : (time : ℕ) → Place → Station → Step
hurries_where_late time place station = if is_early time place then resting station else hurries_where_new place station

-- The clock at a session; and where it is open behind it, the time that it has to be established.
abbrev pub checks : (time : ℕ) → Place → Station → Step
checks time place station =
    if expires time place then wakes time place station
    else then_do (wakes time place station) (hurries_where_late time (woken time place))

-- so of a peer for which a connection speaks
abbrev pub checks_peer : (time peer : ℕ) → Station → Step
checks_peer time peer station =
    elim (place_for peer station.places) [
      | None ↦ resting station
      | Some place ↦ checks time place station
    ]

-- so of each of these peers, in turn
abbrev pub sweeps : (time : ℕ) → (peers : List ℕ) → Station → Step
sweeps time [] station = resting station
sweeps time (peer ∷ peers) station =
    then_do
    (checks_peer time peer station)
    (sweeps time peers)

abbrev pub peers_at : List Place → List ℕ
peers_at places = map (λ (place : Place). place.peer) places

abbrev pub peers_in : List Seat → List ℕ
peers_in seats = map (λ (seat : Seat). seat.peer) seats

abbrev pub sweeps_all : (time : ℕ) → Station → Step
sweeps_all time station = sweeps time (peers_at station.places) station

-- a connection that has waited for its OPEN too long is closed
abbrev pub turns_away : (time : ℕ) → List Guest → Station → Step
turns_away time guests station = record { deeds = map shuts (late_lines time guests); station = station }

-- The clock of all connections: of those that wait, and then of those that speak for peers.
abbrev pub sweeps_where_due : AtDoor → (time : ℕ) → Station → Step
sweeps_where_due door time station =
    if is_due door.swept time then then_do (turns_away time door.guests station) (sweeps_all time) else resting station

-- All that a recorder does at an event.
abbrev pub hears : Config → AtDoor → (time : ℕ) → What → Station → Step
hears config door time what station =
    then_do (follows config door.guests time what station)
    (sweeps_where_due (door_with config time what (map seat_at station.places) door) time)

-- which connections wait behind all that
abbrev pub door_after : Config → (time : ℕ) → What → List Seat → AtDoor → AtDoor
door_after config time what seats door = swept_where_due time (door_with config time what seats door)

-- What came, at a moment of the clock on the wall and at a time of the steady one.
pub record Happening : Type 0 where
  pub moment : ℕ
  pub time : ℕ
  pub what : What

-- What a recorder stands at between two events: the greatest moment so far, which connections wait, and the station.
pub record Between : Type 0 where
  pub moment : ℕ
  pub door : AtDoor
  pub station : Station

-- before the first event
abbrev pub at_first : Between
at_first = record { moment = 0; door = empty_door; station = empty_station }

-- what is done at an event
abbrev pub step_at : Config → Between → Happening → Step
step_at config now event = hears config now.door event.time event.what now.station

abbrev pub behind : Config → Between → Happening → Between
behind config now event = record {
  moment = max now.moment event.moment;
  door = door_after config event.time event.what (map seat_at now.station.places) now.door;
  station = (step_at config now event).station;
}

-- What is told at these events, each with its moment.
abbrev pub recorded_from : Config → Between → List Happening → List Timed
recorded_from config now [] = []
recorded_from config now (event ∷ later) =
    told_at (max now.moment event.moment) (items_of (step_at config now event).deeds)
    ++ recorded_from config (behind config now event) later

-- The tape of what happened since the recorder began.
abbrev pub recorded : Config → List Happening → List Timed
recorded config events = recorded_from config at_first events

-- the turns of the gate: each event, and what it is asked for it
abbrev pub turns_from : Config → Between → List Happening → List Turn
turns_from config now [] = []
turns_from config now (event ∷ later) =
    (came event.moment event.time event.what ∷ asked_in (step_at config now event).deeds)
    ++ turns_from config (behind config now event) later

-- how a recorder stands behind these events
abbrev pub stands_from : Config → Between → List Happening → Between
stands_from config now [] = now
stands_from config now (event ∷ later) = stands_from config (behind config now event) later
