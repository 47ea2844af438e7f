-- What a step tells is of configured peers.
use Rattle.fs_recorder.proofs.PlaceWords.{Bool, List, None, Option, Some, [], ap, append-nil, append_assoc, false, not, refl, subst, sym, true, ℕ}
use Rattle.fs_recorder.proofs.PlaceWords.{◌++◌, ◌==◌, ◌≤◌, ◌∙◌, ◌∷◌, ◌≡◌, length, AllByRecursion, if◌then◌else◌, map, Address, Config, Point}
use Rattle.fs_recorder.proofs.PlaceWords.{IsNumbered, IsWritable, longest_payload, came_up, received, was_lost, items_of, leaves, says, shuts, tells}
use Rattle.fs_recorder.proofs.PlaceWords.{What, ended, gave, made, nothing, taken, AtDoor, Guest, guest_of, late_lines, said_as, Place, Station, Step}
use Rattle.fs_recorder.proofs.PlaceWords.{admits, checks, checks_peer, comes, doing, ends, expires, follows, handed_point, hears_octets, hurries}
use Rattle.fs_recorder.proofs.PlaceWords.{hurries_where_late, hurries_where_new, is_due, is_early, is_established, peer_for, peers_at, place_for}
use Rattle.fs_recorder.proofs.PlaceWords.{place_of, places_without, receives, replaces, replies_to, resting, seat_at, seats_one, settles, speaks}
use Rattle.fs_recorder.proofs.PlaceWords.{sweeps, sweeps_all, sweeps_where_due, taken_by, takes, then_do, turns_away, vacates, waits, wakes, woken}
use Rattle.fs_recorder.proofs.PlaceWords.{is_closed, standing_of}
use Rattle.fs_recorder.proofs.{Doing.{items_both, says_items, shuts_items}, Places.{at_found, peers_all, peers_left, peers_moved}}
use Rattle.fs_recorder.proofs.Placing.{both_are, front_are, last_is, peers_more}
use Rattle.fs_recorder.specs.Laws.{IsShort}

-- the peers that connections speak for are configured
abbrev pub Known : Config → Station → Type 0
Known config station = AllByRecursion (IsNumbered config) (peers_at station.places)

-- What a step tells from a station is of configured peers, and so are the places that it leaves.
pub record KnownStep (config : Config) (station : Station) (step : Step) : Type 0 where
  pub writable : AllByRecursion (IsWritable config) (items_of step.deeds)
  pub known : Known config step.station
  pub told_is : step.station.told ≡ station.told ++ items_of step.deeds

pub known_rests : (config : Config) (station : Station) → Known config station → KnownStep config station (resting station)
known_rests config station known = record { writable = tt; known = known; told_is = sym (append-nil station.told) }

pub known_then : (config : Config) (station : Station) (first : Step) (later : Station → Step) → KnownStep config station first
    → KnownStep config first.station (later first.station) → KnownStep config station (then_do first later)
known_then config station first later one next = record {
  writable = subst (AllByRecursion (IsWritable config)) (sym (items_both first.deeds (later first.station).deeds))
      (both_are (IsWritable config) (items_of first.deeds) (items_of (later first.station).deeds) one.writable next.writable);
  known = next.known;
  told_is = next.told_is ∙ ap (λ told. told ++ items_of (later first.station).deeds) one.told_is
      ∙ append_assoc station.told (items_of first.deeds) (items_of (later first.station).deeds)
      ∙ ap (λ items. station.told ++ items) (sym (items_both first.deeds (later first.station).deeds));
}

known_left : (config : Config) (line : ℕ) (station : Station) → Known config station
    → AllByRecursion (IsNumbered config) (peers_at (places_without line station.places))
known_left config line station known = peers_left (IsNumbered config) (λ (p : Place). not (p.line == line)) station.places known

pub known_settles : (config : Config) (closed : Bool) (place : Place) (now : Point) (replies : List ℕ) (station : Station)
    → IsNumbered config place.peer → Known config station → KnownStep config station (settles closed place now replies station)
known_settles config false place now replies station numbered known = record {
  writable = subst (AllByRecursion (IsWritable config)) (sym (says_items place.line replies)) tt;
  known = subst (AllByRecursion (IsNumbered config)) (sym (peers_moved place.peer now station.places)) known;
  told_is = refl;
}
known_settles config true place now replies station numbered known = record {
  writable = subst (AllByRecursion (IsWritable config))
      (sym (items_both (says place.line replies) (leaves (seat_at place)) ∙ ap (λ items. items ++ was_lost place.peer ∷ []) (says_items place.line replies)))
      (numbered, tt);
  known = known_left config place.line station known;
  told_is = refl;
}

-- the clock

module _ (config : Config) (time : ℕ) where
  known_new : (place : Place) (station : Station) → IsNumbered config place.peer → Known config station
      → KnownStep config station (hurries_where_new place station)
  known_new place station numbered known = by (is_established place.point.phase.state)
    where
      by : (b : Bool) → KnownStep config station (if b then resting station else hurries place station)
      by true = known_rests config station known
      by false = record { writable = (numbered, tt); known = known_left config place.line station known; told_is = refl }

  known_late : (place : Place) (station : Station) → IsNumbered config place.peer → Known config station
      → KnownStep config station (hurries_where_late time place station)
  known_late place station numbered known = by (is_early time place)
    where
      by : (b : Bool) → KnownStep config station (if b then resting station else hurries_where_new place station)
      by true = known_rests config station known
      by false = known_new place station numbered known

  pub known_wakes : (place : Place) (station : Station) → IsNumbered config place.peer → Known config station
      → KnownStep config station (wakes time place station)
  known_wakes place station numbered known = known_settles config (expires time place) place _ _ station numbered known

  pub known_checks : (place : Place) (station : Station) → IsNumbered config place.peer → Known config station
      → KnownStep config station (checks time place station)
  known_checks place station numbered known = by (expires time place)
    where
      by : (b : Bool) → KnownStep config station (if b then wakes time place station
          else then_do (wakes time place station) (hurries_where_late time (woken time place)))
      by true = known_wakes place station numbered known
      by false = known_then config station (wakes time place station) (hurries_where_late time (woken time place))
          (known_wakes place station numbered known)
          (known_late (woken time place) (wakes time place station).station numbered (known_wakes place station numbered known).known)

  pub known_checks_peer : (peer : ℕ) (station : Station) → Known config station → KnownStep config station (checks_peer time peer station)
  known_checks_peer peer station known = by (place_for peer station.places) refl
    where
      by : (found : Option Place) → place_for peer station.places ≡ found
          → KnownStep config station (elim found [ None ↦ resting station | Some place ↦ checks time place station ])
      by None e = known_rests config station known
      by (Some place) e = known_checks place station
          (at_found (λ (p : Place). IsNumbered config p.peer) (λ (p : Place). p.peer == peer) station.places place
          (peers_all (IsNumbered config) station.places known) e)
          known

  pub known_sweeps : (peers : List ℕ) (station : Station) → Known config station → KnownStep config station (sweeps time peers station)
  known_sweeps [] station known = known_rests config station known
  known_sweeps (peer ∷ peers) station known =
      let first = known_checks_peer peer station known in
      known_then config station (checks_peer time peer station) (sweeps time peers) first
      (known_sweeps peers (checks_peer time peer station).station first.known)

  known_away : (guests : List Guest) (station : Station) → Known config station → KnownStep config station (turns_away time guests station)
  known_away guests station known = record {
    writable = subst (AllByRecursion (IsWritable config)) (sym (shuts_items (late_lines time guests))) tt;
    known = known;
    told_is = sym (ap (λ items. station.told ++ items) (shuts_items (late_lines time guests)) ∙ append-nil station.told);
  }

  pub known_where_due : (door : AtDoor) (station : Station) → Known config station → KnownStep config station (sweeps_where_due door time station)
  known_where_due door station known = by (is_due door.swept time)
    where
      by : (b : Bool) → KnownStep config station (if b then then_do (turns_away time door.guests station) (sweeps_all time) else resting station)
      by true =
          known_then config station (turns_away time door.guests station) (sweeps_all time) (known_away door.guests station known)
          (known_sweeps (peers_at station.places) station known)
      by false = known_rests config station known

-- what came

-- a peer that is to be spoken for is configured
abbrev pub MayTake : Config → (from : Address) → (told : Option ℕ) → Station → Type 0
MayTake config from told station = (peer : ℕ) → peer_for config from told (map seat_at station.places) ≡ Some peer → IsNumbered config peer

abbrev pub NewKnown : Config → List Guest → What → Station → Type 0
NewKnown config guests (taken line from) station = waits config from (map seat_at station.places) guests ≡ false → MayTake config from None station
NewKnown config guests (gave line piece) station = (guest : Guest) → guest_of line guests ≡ Some guest → MayTake config guest.from (said_as piece) station
NewKnown config guests (ended line) station = Unit {0}
NewKnown config guests (made line) station = Unit {0}
NewKnown config guests nothing station = Unit {0}

module _ (config : Config) where
  pub known_vacates : (peer : ℕ) (station : Station) → Known config station → KnownStep config station (vacates peer station)
  known_vacates peer station known = by (place_for peer station.places) refl
    where
      by : (found : Option Place) → place_for peer station.places ≡ found
          → KnownStep config station (elim found
          [ None ↦ resting station | Some place ↦ doing (leaves (seat_at place)) (places_without place.line station.places) station ])
      by None e = known_rests config station known
      by (Some place) e = record {
        writable = (
          at_found (λ (p : Place). IsNumbered config p.peer) (λ (p : Place). p.peer == peer) station.places place
              (peers_all (IsNumbered config) station.places known) e,
          tt,
        );
        known = known_left config place.line station known;
        told_is = refl;
      }

  pub known_replaces : (line peer time : ℕ) (station : Station) → IsNumbered config peer → Known config station
      → KnownStep config station (replaces line peer time station)
  known_replaces line peer time station numbered known =
      let first = known_vacates peer station known in
      known_then config station (vacates peer station) (seats_one (record { line = line; peer = peer; since = time })) first
      (record {
        writable = (numbered, tt);
        known = peers_more (IsNumbered config) (vacates peer station).station.places (taken_by (record { line = line; peer = peer; since = time }))
            first.known numbered;
        told_is = refl;
      })

  known_takes : (line : ℕ) (from : Address) (told : Option ℕ) (since : ℕ) (station : Station) → Known config station → MayTake config from told station
      → KnownStep config station (takes config line from told since station)
  known_takes line from told since station known may = by (peer_for config from told (map seat_at station.places)) refl
    where
      by : (found : Option ℕ) → peer_for config from told (map seat_at station.places) ≡ found
          → KnownStep config station (elim found [ None ↦ doing (shuts line ∷ []) station.places station | Some peer ↦ replaces line peer since station ])
      by None e = record { writable = tt; known = known; told_is = refl }
      by (Some peer) e = known_replaces line peer since station (may peer e) known

  -- what is told where a connection speaks for a peer tells that it is configured
  took_known : (line : ℕ) (from : Address) (told : Option ℕ) (since : ℕ) (station : Station)
      → AllByRecursion (IsWritable config) (items_of (takes config line from told since station).deeds) → MayTake config from told station
  took_known line from told since station writable peer e =
      last_is (IsWritable config) (items_of (vacates peer station).deeds) (came_up peer)
      (subst (AllByRecursion (IsWritable config)) (items_both (vacates peer station).deeds (tells (came_up peer) ∷ []))
      (subst (λ found. AllByRecursion (IsWritable config)
      (items_of (let step : Step =
      (elim found [ None ↦ doing (shuts line ∷ []) station.places station | Some peer ↦ replaces line peer since station ]) in step.deeds)))
      e writable))

  known_comes : (line : ℕ) (from : Address) (time : ℕ) (guests : List Guest) (station : Station) → Known config station
      → NewKnown config guests (taken line from) station → KnownStep config station (comes config line from time guests station)
  known_comes line from time guests station known new = by (waits config from (map seat_at station.places) guests) refl
    where
      by : (b : Bool) → waits config from (map seat_at station.places) guests ≡ b
          → KnownStep config station (if b then resting station else takes config line from None time station)
      by true e = known_rests config station known
      by false e = known_takes line from None time station known (new e)

  pub known_admits : (line : ℕ) (piece : List ℕ) (guests : List Guest) (station : Station) → Known config station
      → NewKnown config guests (gave line piece) station → KnownStep config station (admits config line piece guests station)
  known_admits line piece guests station known new = by (guest_of line guests) refl
    where
      by : (found : Option Guest) → guest_of line guests ≡ found
          → KnownStep config station (elim found [ None ↦ resting station | Some guest ↦ takes config line guest.from (said_as piece) guest.since station ])
      by None e = known_rests config station known
      by (Some guest) e = known_takes line guest.from (said_as piece) guest.since station known (new guest e)

  pub admits_told : (line : ℕ) (piece : List ℕ) (guests : List Guest) (station : Station)
      → AllByRecursion (IsWritable config) (items_of (admits config line piece guests station).deeds) → NewKnown config guests (gave line piece) station
  admits_told line piece guests station writable guest e =
      took_known line guest.from (said_as piece) guest.since station
      (subst (λ found. AllByRecursion (IsWritable config)
      (items_of (let step : Step =
      (elim found [ None ↦ resting station | Some guest ↦ takes config line guest.from (said_as piece) guest.since station ]) in step.deeds)))
      e writable)

  known_receives : (place : Place) (piece : List ℕ) (station : Station) → IsNumbered config place.peer → length piece ≤ longest_payload
      → Known config station → KnownStep config station (receives config place piece station)
  known_receives place piece station numbered short known =
      known_then config station (doing (tells (received place.peer piece) ∷ []) station.places station)
      (settles (is_closed (standing_of config (station.told ++ received place.peer piece ∷ []) place.peer)) place
      (handed_point config place.peer place.point piece) (replies_to config place.peer station.told piece))
      (record { writable = ((numbered, short), tt); known = known; told_is = refl })
      (known_settles config (is_closed (standing_of config (station.told ++ received place.peer piece ∷ []) place.peer)) place
      (handed_point config place.peer place.point piece) (replies_to config place.peer station.told piece)
      (record { told = station.told ++ received place.peer piece ∷ []; places = station.places }) numbered known)

  known_speaks : (time : ℕ) (place : Place) (piece : List ℕ) (station : Station) → IsNumbered config place.peer → length piece ≤ longest_payload
      → Known config station → KnownStep config station (speaks config time place piece station)
  known_speaks time place piece station numbered short known = by (expires time place)
    where
      by : (b : Bool) → KnownStep config station (if b then wakes time place station
          else then_do (wakes time place station) (receives config (woken time place) piece))
      by true = known_wakes config time place station numbered known
      by false = known_then config station (wakes time place station) (receives config (woken time place) piece)
          (known_wakes config time place station numbered known)
          (known_receives (woken time place) piece (wakes time place station).station numbered short
          (known_wakes config time place station numbered known).known)

  pub known_octets : (line time : ℕ) (piece : List ℕ) (station : Station) → length piece ≤ longest_payload → Known config station
      → KnownStep config station (hears_octets config line time piece station)
  known_octets line time piece station short known = by (place_of line station.places) refl
    where
      by : (found : Option Place) → place_of line station.places ≡ found
          → KnownStep config station (elim found [ None ↦ resting station | Some place ↦ speaks config time place piece station ])
      by None e = known_rests config station known
      by (Some place) e = known_speaks time place piece station
          (at_found (λ (p : Place). IsNumbered config p.peer) (λ (p : Place). p.line == line) station.places place
          (peers_all (IsNumbered config) station.places known) e)
          short known

  known_ends : (line : ℕ) (station : Station) → Known config station → KnownStep config station (ends line station)
  known_ends line station known = by (place_of line station.places) refl
    where
      by : (found : Option Place) → place_of line station.places ≡ found
          → KnownStep config station (elim found
          [ None ↦ resting station | Some place ↦ doing (tells (was_lost place.peer) ∷ []) (places_without place.line station.places) station ])
      by None e = known_rests config station known
      by (Some place) e = record {
        writable = (
          at_found (λ (p : Place). IsNumbered config p.peer) (λ (p : Place). p.line == line) station.places place
              (peers_all (IsNumbered config) station.places known) e,
          tt,
        );
        known = known_left config place.line station known;
        told_is = refl;
      }

  -- an event
  pub known_follows : (guests : List Guest) (time : ℕ) (what : What) (station : Station) → Known config station → IsShort what
      → NewKnown config guests what station → KnownStep config station (follows config guests time what station)
  known_follows guests time (taken line from) station known short new = known_comes line from time guests station known new
  known_follows guests time (gave line piece) station known short new =
      let first = known_admits line piece guests station known new in
      known_then config station (admits config line piece guests station) (hears_octets config line time piece) first
      (known_octets line time piece (admits config line piece guests station).station short first.known)
  known_follows guests time (ended line) station known short new = known_ends line station known
  known_follows guests time (made line) station known short new = known_rests config station known
  known_follows guests time nothing station known short new = known_rests config station known

  pub new_told : (guests : List Guest) (time : ℕ) (what : What) (station : Station)
      → AllByRecursion (IsWritable config) (items_of (follows config guests time what station).deeds) → NewKnown config guests what station
  new_told guests time (taken line from) station writable = λ e.
      took_known line from None time station
      (subst (λ (b : Bool). AllByRecursion (IsWritable config)
      (items_of (if b then resting station else takes config line from None time station).deeds)) e writable)
  new_told guests time (gave line piece) station writable =
      let first = admits config line piece guests station in
      let later = hears_octets config line time piece first.station in
      admits_told line piece guests station
      (front_are (IsWritable config) (items_of first.deeds) (items_of later.deeds)
      (subst (AllByRecursion (IsWritable config)) (items_both first.deeds later.deeds) writable))
  new_told guests time (ended line) station writable = tt
  new_told guests time (made line) station writable = tt
  new_told guests time nothing station writable = tt
