-- What is told of the tape of a recorder, whatever happens.
use Rattle.fs_recorder.proofs.PlaceWords.{Bool, List, None, Option, Some, [], ap, append-nil, append_assoc, arith, false, map, refl, subst, sym, true}
use Rattle.fs_recorder.proofs.PlaceWords.{ℕ, ◌++◌, ◌<◌, ◌==◌, ◌≤◌, ◌∙◌, ◌∷◌, ◌≡◌, AllByRecursion, find, if◌then◌else◌, Address, Config, Peer}
use Rattle.fs_recorder.proofs.PlaceWords.{IsNumbered, IsWritable, Item, Played, nobody, items_of, What, ended, gave, made, nothing, taken, Station}
use Rattle.fs_recorder.proofs.PlaceWords.{AtDoor, Guest, door_with, said_as, follows, hears, peer_for, seat_at, sweeps_where_due, Seat}
use Rattle.fs_recorder.proofs.Knowing.{Known, KnownStep, NewKnown, known_follows, known_then, known_where_due}
use Rattle.fs_recorder.proofs.{Placing.{found_is}, Seating.{FoundBy, found_by, found_peer}}
use Rattle.std.specs.Prelude.{◌^◌, max}
use Rattle.fs_input.specs.Parts.{AllFrom}
use Rattle.fs_tape.specs.{Laws.{Fits, ReadsBack, after, tape_text}, Tape.{Timed, stands}, declared.magic.Version.TheVariants.{Two}}
use Rattle.fs_desk.specs.Desk.{Desked, PlayedBut, standing_at_desk}
use Rattle.fs_recorder.specs.Deeds.{told_at}
use Rattle.fs_recorder.specs.Laws.{AreNumbered, IsRecordable, IsShort, ReadsBackRecorded, Replays}
use Rattle.fs_recorder.specs.Seats.{first_peer, free_by}
use Rattle.fs_recorder.specs.Steps.{Between, Happening, at_first, behind, recorded, recorded_from, stands_from, step_at}
use Rattle.fs_recorder.specs.Tapes.{items_in}

-- what is told at a moment fits behind what was told before it
fits_told : (config : Config) (moment : ℕ) (items : List Item) (later : List Timed) → moment < 2 ^ 64 → AllByRecursion (IsWritable config) items
    → ((least : ℕ) → least ≤ moment → AllFrom Fits after (stands config Two least) later)
    → (least : ℕ) → least ≤ moment → AllFrom Fits after (stands config Two least) (told_at moment items ++ later)
fits_told config moment [] later room all rest least below = rest least below
fits_told config moment (item ∷ items) later room all rest least below =
    (record { writable = all.0; room = room; is_timed = below }, fits_told config moment items later room all.1 rest moment (omega arith))

pub items_told : (moment : ℕ) (items : List Item) (later : List Timed) → items_in (told_at moment items ++ later) ≡ items ++ items_in later
items_told moment [] later = refl
items_told moment (item ∷ items) later = ap (λ more. item ∷ more) (items_told moment items later)

-- A peer that is to be spoken for is one of CONFIG.
numbered_peer : (config : Config) (test : Peer → Bool) (peer : Peer) → AreNumbered config → find test config.peers ≡ Some peer
    → IsNumbered config peer.number
numbered_peer config test peer numbered e =
    (found_is (λ (q : Peer). q.number < 65536) test config.peers peer numbered e, found_peer test config.peers peer e)

abbrev number_of : Option Peer → Option ℕ
number_of found = elim found [ None ↦ None | Some peer ↦ Some peer.number ]

of_found : (config : Config) (found : Option Peer) (peer : ℕ) → ((p : Peer) → found ≡ Some p → IsNumbered config p.number)
    → number_of found ≡ Some peer → IsNumbered config peer
of_found config None peer f e = cc
of_found config (Some p) peer f e = subst (IsNumbered config) (let same : p.number ≡ peer = cc in same) (f p refl)

module _ (config : Config) (numbered : AreNumbered config) where
  of_peer : (from : Address) (told : Option ℕ) (seats : List Seat) (peer : ℕ) → peer_for config from told seats ≡ Some peer → IsNumbered config peer
  of_peer from told seats peer e = by (free_by from told seats config.peers) refl e
    where
      held : (b : Bool) → (if b then number_of (first_peer from config.peers) else None) ≡ Some peer → IsNumbered config peer
      held true f = of_found config (first_peer from config.peers) peer (λ p g. numbered_peer config _ p numbered g) f
      held false f = cc

      numbered_by : (p : Peer) → FoundBy config.peers p → IsNumbered config p.number
      numbered_by p one = numbered_peer config one.test p numbered one.found

      by : (found : Option Peer) → free_by from told seats config.peers ≡ found
          → (elim found as (λ _. Option ℕ) [
            | Some p ↦ Some p.number
            | None ↦ if config.hold_time == 0 then number_of (first_peer from config.peers) else None
          ]) ≡ Some peer
          → IsNumbered config peer
      by (Some p) g f = subst (IsNumbered config) (let same : p.number ≡ peer = cc in same) (numbered_by p (found_by from told seats config.peers p g))
      by None g f = held (config.hold_time == 0) f

  pub new_configured : (guests : List Guest) (what : What) (station : Station) → NewKnown config guests what station
  new_configured guests (taken line from) station = λ _ peer e. of_peer from None (map seat_at station.places) peer e
  new_configured guests (gave line piece) station = λ guest _ peer e. of_peer guest.from (said_as piece) (map seat_at station.places) peer e
  new_configured guests (ended line) station = tt
  new_configured guests (made line) station = tt
  new_configured guests nothing station = tt

  known_hears : (door : AtDoor) (time : ℕ) (what : What) (station : Station) → Known config station → IsShort what
      → KnownStep config station (hears config door time what station)
  known_hears door time what station known short =
      let step = follows config door.guests time what station in
      let behind_it = door_with config time what (map seat_at station.places) door in
      let first = known_follows config door.guests time what station known short (new_configured door.guests what station) in
      known_then config station step (sweeps_where_due behind_it time) first (known_where_due config time behind_it step.station first.known)

  recorded_fits : (now : Between) (events : List Happening) → Known config now.station → now.moment < 2 ^ 64 → AllByRecursion IsRecordable events
      → (least : ℕ) → least ≤ now.moment → AllFrom Fits after (stands config Two least) (recorded_from config now events)
  recorded_fits now [] known room all least below = tt
  recorded_fits now (event ∷ later) known room all least below =
      let step = known_hears now.door event.time event.what now.station known all.0.short in
      let roomy : max now.moment event.moment < 2 ^ 64 = omega (arith, room, all.0.room) in
      fits_told config (max now.moment event.moment) (items_of (step_at config now event).deeds)
      (recorded_from config (behind config now event) later) roomy step.writable
      (λ least' below'. recorded_fits (behind config now event) later step.known roomy all.1 least' below') least (omega arith)

  -- What was told is what the tape says.
  told_so : (now : Between) (events : List Happening) → Known config now.station → AllByRecursion IsRecordable events
      → (stands_from config now events).station.told ≡ now.station.told ++ items_in (recorded_from config now events)
  told_so now [] known all = sym (append-nil now.station.told)
  told_so now (event ∷ later) known all =
      let step = known_hears now.door event.time event.what now.station known all.0.short in
      let items = items_of (step_at config now event).deeds in
      let rest = recorded_from config (behind config now event) later in
      told_so (behind config now event) later step.known all.1
      ∙ ap (λ told. told ++ items_in rest) step.told_is
      ∙ append_assoc now.station.told items (items_in rest)
      ∙ ap (λ more. now.station.told ++ more) (sym (items_told (max now.moment event.moment) items rest))

pub reads_back_recorded : ReadsBack → ReadsBackRecorded
reads_back_recorded reads_back config limit events numbered all octets below =
    (reads_back config limit (tape_text Two (recorded config events)) (recorded config events) octets).1 (
      Two,
      record {
        spelled = refl;
        fit = recorded_fits config numbered at_first events tt (omega arith) all 0 (omega arith);
        below = below;
      },
    )

abbrev SameDesks : Type 0
SameDesks =
    (expired : ℕ → Bool) (config : Config) (items : List Item) (desk other : Desked) → PlayedBut expired config items desk
    → PlayedBut expired config items other
    → (desk.held ≡ other.held) × ((number : ℕ) → standing_at_desk desk number ≡ standing_at_desk other number)

pub replays : SameDesks → Replays
replays same config events recording desk numbered all stands config_is played =
    let told : (stands_from config at_first events).station.told ≡ items_in (recorded config events) = told_so config numbered at_first events tt all in
    same nobody config (items_in (recorded config events)) desk recording.books.desk played
    (subst (λ items. Played config items recording.books.desk) told
    (subst (λ c. Played c (stands_from config at_first events).station.told recording.books.desk) config_is stands.played))
