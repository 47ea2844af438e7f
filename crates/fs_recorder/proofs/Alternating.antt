-- Of each peer the items come in turn.
use Rattle.fs_recorder.proofs.PlaceWords.{Bool, List, None, Option, Some, eqb-true, [], ap, false, not, refl, subst, sym, true, ℕ, ◌++◌, ◌==◌, ◌∙◌}
use Rattle.fs_recorder.proofs.PlaceWords.{◌∷◌, ◌≡◌, map-append, AllByRecursion, filter, find, if◌then◌else◌, map, Address, Config, Point, Item}
use Rattle.fs_recorder.proofs.PlaceWords.{received, was_lost, Deed, items_of, leaves, says, shuts, tells, What, ended, gave, made, nothing, taken}
use Rattle.fs_recorder.proofs.PlaceWords.{AtDoor, Guest, door_after, door_with, guest_of, has_time, late_lines, said_as, swept_at, swept_where_due}
use Rattle.fs_recorder.proofs.PlaceWords.{with_guest, without_guest, Place, Station, Step, admits, checks, checks_peer, doing, ends, expires, follows}
use Rattle.fs_recorder.proofs.PlaceWords.{handed_point, hears, hears_octets, hurries, hurries_where_late, is_due, is_early, is_established, moved}
use Rattle.fs_recorder.proofs.PlaceWords.{peer_for, peers_at, place_for, place_of, places_without, receives, replaces, replies_to, resting, seat_at}
use Rattle.fs_recorder.proofs.PlaceWords.{seats_one, settles, speaks, sweeps, sweeps_all, sweeps_where_due, taken_by, takes, then_do, turns_away}
use Rattle.fs_recorder.proofs.PlaceWords.{vacates, waits, wakes, woken, is_closed, standing_of, AreApart}
use Rattle.fs_recorder.proofs.{Doing.{items_both, says_items, shuts_items}, Places.{apart_left, eq_flip, others_left, peers_moved}}
use Rattle.fs_recorder.proofs.Placing.{Apart, IsOther, apart_more, found_is, more_are, others_of_none}
use Rattle.fs_recorder.proofs.Recorded.{items_told}
use Rattle.std.proofs.Common.{inl, inr, ◌⊎◌, ◌||◌}
use Rattle.std.specs.Prelude.{max}
use Rattle.fs_base.proofs.NumberTests.{eq_itself}
use Rattle.fs_speaker.specs.End.{ticked}
use Rattle.fs_input.specs.Parts.{AllFrom}
use Rattle.fs_recorder.specs.Laws.{Alternates, ComesInTurn, IsNew, IsNewLine, is_in, lines_after, lines_with, up_after}
use Rattle.fs_recorder.specs.Steps.{Between, Happening, at_first, behind, recorded_from, step_at}
use Rattle.fs_recorder.specs.Tapes.{items_in}

-- which peers are up behind items
abbrev ups : List ℕ → List Item → List ℕ
ups up [] = up
ups up (item ∷ items) = ups (up_after up item) items

abbrev Turns : List ℕ → List Item → Type 0
Turns up items = AllFrom ComesInTurn up_after up items

turns_both : (up : List ℕ) (first later : List Item) → Turns up first → Turns (ups up first) later → Turns up (first ++ later)
turns_both up [] later a b = b
turns_both up (item ∷ first) later a b = (a.0, turns_both (up_after up item) first later a.1 b)

ups_both : (up : List ℕ) (first later : List Item) → ups up (first ++ later) ≡ ups (ups up first) later
ups_both up [] later = refl
ups_both up (item ∷ first) later = ups_both (up_after up item) first later

abbrev lines_at : List Place → List ℕ
lines_at places = map (λ (p : Place). p.line) places

-- Each place is of a peer and of a line of its own.
record Orderly (places : List Place) : Type 0 where
  apart : Apart places
  lines : AreApart (lines_at places)

-- a place of this line and this peer is among them
abbrev Sits : ℕ → ℕ → List Place → Type 0
Sits line peer [] = ⊥
Sits line peer (place ∷ places) = ((place.line ≡ line) × (place.peer ≡ peer)) ⊎ Sits line peer places

found_sits : (test : Place → Bool) (places : List Place) (place : Place) → find test places ≡ Some place → Sits place.line place.peer places
found_sits test [] place e = cc
found_sits test (first ∷ places) place e = by (test first) (found_sits test places place) e
  where
    by : (b : Bool) → (find test places ≡ Some place → Sits place.line place.peer places) → (if b then Some first else find test places) ≡ Some place
        → Sits place.line place.peer (first ∷ places)
    by true later f = let same : first ≡ place = cc in inl (ap (λ (p : Place). p.line) same, ap (λ (p : Place). p.peer) same)
    by false later f = inr (later f)

moved_sits : (line peer other : ℕ) (now : Point) (places : List Place) → Sits line peer places → Sits line peer (moved other now places)
moved_sits line peer other now [] sits = sits
moved_sits line peer other now (place ∷ places) sits = by (place.peer == other) (λ later. moved_sits line peer other now places later) sits
  where
    by : (b : Bool) → (Sits line peer places → Sits line peer (moved other now places)) → Sits line peer (place ∷ places)
        → Sits line peer ((if b then record place { point = now } else place) ∷ moved other now places)
    by true on (inl e) = inl e
    by true on (inr later) = inr (on later)
    by false on (inl e) = inl e
    by false on (inr later) = inr (on later)

moved_lines : (peer : ℕ) (now : Point) (places : List Place) → lines_at (moved peer now places) ≡ lines_at places
moved_lines peer now [] = refl
moved_lines peer now (place ∷ places) = by (place.peer == peer) (moved_lines peer now places)
  where
    by : (b : Bool) → lines_at (moved peer now places) ≡ lines_at places
        → (let here : Place = (if b then record place { point = now } else place) in here.line) ∷ lines_at (moved peer now places)
        ≡ place.line ∷ lines_at places
    by true later = ap (λ lines. place.line ∷ lines) later
    by false later = ap (λ lines. place.line ∷ lines) later

or_true : (b c : Bool) → c ≡ true → (b || c) ≡ true
or_true true c e = refl
or_true false c e = e

sits_up : (line peer : ℕ) (places : List Place) → Sits line peer places → is_in peer (peers_at places) ≡ true
sits_up line peer [] sits = absurd sits
sits_up line peer (place ∷ places) (inl e) =
    subst (λ (b : Bool). (b || is_in peer (peers_at places)) ≡ true) (sym (subst (λ n. (place.peer == n) ≡ true) e.1 (eq_itself place.peer))) refl
sits_up line peer (place ∷ places) (inr later) = or_true (place.peer == peer) (is_in peer (peers_at places)) (sits_up line peer places later)

not_up : (peer : ℕ) (places : List Place) → AllByRecursion (IsOther peer) places → is_in peer (peers_at places) ≡ false
not_up peer [] all = refl
not_up peer (place ∷ places) all =
    subst (λ (b : Bool). (b || is_in peer (peers_at places)) ≡ false) (sym all.0) (not_up peer places all.1)

-- the numbers that are none of a list's are kept
kept_all : (number : ℕ) (numbers : List ℕ) → AllByRecursion (λ (other : ℕ). (number == other) ≡ false) numbers
    → filter (λ (other : ℕ). not (other == number)) numbers ≡ numbers
kept_all number [] all = refl
kept_all number (first ∷ numbers) all =
    subst (λ (b : Bool). (if not b then first ∷ filter (λ (other : ℕ). not (other == number)) numbers
    else filter (λ (other : ℕ). not (other == number)) numbers) ≡ first ∷ numbers)
    (sym (eq_flip number first all.0)) (ap (λ rest. first ∷ rest) (kept_all number numbers all.1))

kept_places : (line : ℕ) (places : List Place) → AllByRecursion (λ (other : ℕ). (line == other) ≡ false) (lines_at places)
    → places_without line places ≡ places
kept_places line [] all = refl
kept_places line (place ∷ places) all =
    subst (λ (b : Bool). (if not b then place ∷ places_without line places else places_without line places) ≡ place ∷ places)
    (sym (eq_flip line place.line all.0)) (ap (λ rest. place ∷ rest) (kept_places line places all.1))

sits_differs : (peer line number : ℕ) (places : List Place) → Sits line peer places
    → AllByRecursion (λ (other : ℕ). (number == other) ≡ false) (peers_at places) → (number == peer) ≡ false
sits_differs peer line number [] sits all = absurd sits
sits_differs peer line number (place ∷ places) (inl e) all = subst (λ n. (number == n) ≡ false) e.1 all.0
sits_differs peer line number (place ∷ places) (inr later) all = sits_differs peer line number places later all.1

line_differs : (peer line number : ℕ) (places : List Place) → Sits line peer places
    → AllByRecursion (λ (other : ℕ). (number == other) ≡ false) (lines_at places) → (number == line) ≡ false
line_differs peer line number [] sits all = absurd sits
line_differs peer line number (place ∷ places) (inl e) all = subst (λ n. (number == n) ≡ false) e.0 all.0
line_differs peer line number (place ∷ places) (inr later) all = line_differs peer line number places later all.1

-- The place that goes is the one of the peer that is lost.
left_same : (line peer : ℕ) (places : List Place) → Sits line peer places → Apart places → AreApart (lines_at places)
    → filter (λ (other : ℕ). not (other == peer)) (peers_at places) ≡ peers_at (places_without line places)
left_same line peer [] sits apart lines = absurd sits
left_same line peer (place ∷ places) (inl e) apart lines =
    subst (λ (b : Bool). (if not b then place.peer ∷ filter (λ (other : ℕ). not (other == peer)) (peers_at places)
    else filter (λ (other : ℕ). not (other == peer)) (peers_at places))
    ≡ peers_at (places_without line (place ∷ places)))
    (sym (subst (λ n. (place.peer == n) ≡ true) e.1 (eq_itself place.peer)))
    (subst (λ (b : Bool). filter (λ (other : ℕ). not (other == peer)) (peers_at places)
    ≡ peers_at (if not b then place ∷ places_without line places else places_without line places))
    (sym (subst (λ n. (place.line == n) ≡ true) e.0 (eq_itself place.line)))
    (kept_all peer (peers_at places) (subst (λ n. AllByRecursion (λ (other : ℕ). (n == other) ≡ false) (peers_at places)) e.1 apart.0)
    ∙ ap peers_at (sym (kept_places line places (subst (λ n. AllByRecursion (λ (other : ℕ). (n == other) ≡ false) (lines_at places)) e.0 lines.0)))))
left_same line peer (place ∷ places) (inr later) apart lines =
    subst (λ (b : Bool). (if not b then place.peer ∷ filter (λ (other : ℕ). not (other == peer)) (peers_at places)
    else filter (λ (other : ℕ). not (other == peer)) (peers_at places))
    ≡ peers_at (places_without line (place ∷ places)))
    (sym (sits_differs peer line place.peer places later apart.0))
    (subst (λ (b : Bool). place.peer ∷ filter (λ (other : ℕ). not (other == peer)) (peers_at places)
    ≡ peers_at (if not b then place ∷ places_without line places else places_without line places))
    (sym (line_differs peer line place.line places later lines.0))
    (ap (λ peers. place.peer ∷ peers) (left_same line peer places later apart.1 lines.1)))

lines_filtered : (P : ℕ → Type 0) (test : Place → Bool) (places : List Place) → AllByRecursion P (lines_at places)
    → AllByRecursion P (lines_at (filter test places))
lines_filtered P test [] all = tt
lines_filtered P test (place ∷ places) all = by (test place) (lines_filtered P test places all.1)
  where
    by : (b : Bool) → AllByRecursion P (lines_at (filter test places))
        → AllByRecursion P (lines_at (if b then place ∷ filter test places else filter test places))
    by true later = (all.0, later)
    by false later = later

lines_more : (P : ℕ → Type 0) (places : List Place) (place : Place) → AllByRecursion P (lines_at places) → P place.line
    → AllByRecursion P (lines_at (places ++ place ∷ []))
lines_more P [] place all one = (one, tt)
lines_more P (first ∷ places) place all one = (all.0, lines_more P places place all.1 one)

lines_apart : (test : Place → Bool) (places : List Place) → AreApart (lines_at places) → AreApart (lines_at (filter test places))
lines_apart test [] all = tt
lines_apart test (place ∷ places) all =
    by (test place) (lines_filtered (λ (other : ℕ). (place.line == other) ≡ false) test places all.0) (lines_apart test places all.1)
  where
    by : (b : Bool) → AllByRecursion (λ (other : ℕ). (place.line == other) ≡ false) (lines_at (filter test places))
        → AreApart (lines_at (filter test places)) → AreApart (lines_at (if b then place ∷ filter test places else filter test places))
    by true first later = (first, later)
    by false first later = later

lines_apart_more : (places : List Place) (place : Place) → AreApart (lines_at places)
    → AllByRecursion (λ (other : ℕ). (other == place.line) ≡ false) (lines_at places) → AreApart (lines_at (places ++ place ∷ []))
lines_apart_more [] place all others = (tt, tt)
lines_apart_more (first ∷ places) place all others =
    (lines_more (λ (other : ℕ). (first.line == other) ≡ false) places place all.0 others.0, lines_apart_more places place all.1 others.1)

orderly_left : (test : Place → Bool) (places : List Place) → Orderly places → Orderly (filter test places)
orderly_left test places orderly = record { apart = apart_left test places orderly.apart; lines = lines_apart test places orderly.lines }

orderly_moved : (peer : ℕ) (now : Point) (places : List Place) → Orderly places → Orderly (moved peer now places)
orderly_moved peer now places orderly = record {
  apart = subst AreApart (sym (peers_moved peer now places)) orderly.apart;
  lines = subst AreApart (sym (moved_lines peer now places)) orderly.lines;
}

-- What a step tells comes in turn, and those are up for whom connections speak; none speaks through a new line.
record TurnStep (P : ℕ → Type 0) (station : Station) (step : Step) : Type 0 where
  turns : Turns (peers_at station.places) (items_of step.deeds)
  up_is : ups (peers_at station.places) (items_of step.deeds) ≡ peers_at step.station.places
  orderly : Orderly step.station.places
  each : AllByRecursion P (lines_at step.station.places)

-- what is known of a station
record Good (P : ℕ → Type 0) (station : Station) : Type 0 where
  orderly : Orderly station.places
  each : AllByRecursion P (lines_at station.places)

module _ (P : ℕ → Type 0) where
  behind_step : (station : Station) (step : Step) → TurnStep P station step → Good P step.station
  behind_step station step turn = record { orderly = turn.orderly; each = turn.each }

  turn_rests : (station : Station) → Good P station → TurnStep P station (resting station)
  turn_rests station good = record { turns = tt; up_is = refl; orderly = good.orderly; each = good.each }

  turn_then : (station : Station) (first : Step) (later : Station → Step) → TurnStep P station first
      → TurnStep P first.station (later first.station) → TurnStep P station (then_do first later)
  turn_then station first later one next =
      let more = (later first.station).deeds in
      record {
        turns = subst (Turns (peers_at station.places)) (sym (items_both first.deeds more))
            (turns_both (peers_at station.places) (items_of first.deeds) (items_of more) one.turns
            (subst (λ up. Turns up (items_of more)) (sym one.up_is) next.turns));
        up_is = ap (ups (peers_at station.places)) (items_both first.deeds more) ∙ ups_both (peers_at station.places) (items_of first.deeds) (items_of more)
            ∙ ap (λ up. ups up (items_of more)) one.up_is ∙ next.up_is;
        orderly = next.orderly;
        each = next.each;
      }

  -- a peer is lost whose place goes
  turn_lost : (deeds : List Deed) (line peer : ℕ) (station : Station) → items_of deeds ≡ was_lost peer ∷ [] → Sits line peer station.places
      → Good P station → TurnStep P station (doing deeds (places_without line station.places) station)
  turn_lost deeds line peer station e sits good = record {
    turns = subst (Turns (peers_at station.places)) (sym e) (sits_up line peer station.places sits, tt);
    up_is = ap (ups (peers_at station.places)) e ∙ left_same line peer station.places sits good.orderly.apart good.orderly.lines;
    orderly = orderly_left (λ (p : Place). not (p.line == line)) station.places good.orderly;
    each = lines_filtered P (λ (p : Place). not (p.line == line)) station.places good.each;
  }

  turn_settles : (closed : Bool) (place : Place) (now : Point) (replies : List ℕ) (station : Station)
      → Sits place.line place.peer station.places → Good P station → TurnStep P station (settles closed place now replies station)
  turn_settles false place now replies station sits good = record {
    turns = subst (Turns (peers_at station.places)) (sym (says_items place.line replies)) tt;
    up_is = ap (ups (peers_at station.places)) (says_items place.line replies) ∙ sym (peers_moved place.peer now station.places);
    orderly = orderly_moved place.peer now station.places good.orderly;
    each = subst (AllByRecursion P) (sym (moved_lines place.peer now station.places)) good.each;
  }
  turn_settles true place now replies station sits good =
      turn_lost (says place.line replies ++ leaves (seat_at place)) place.line place.peer station
      (items_both (says place.line replies) (leaves (seat_at place)) ∙ ap (λ items. items ++ was_lost place.peer ∷ []) (says_items place.line replies))
      sits good

  -- where the clock closes nothing the place stays
  still_sits : (closed : Bool) (place : Place) (now : Point) (replies : List ℕ) (station : Station) → closed ≡ false
      → Sits place.line place.peer station.places → Sits place.line place.peer (settles closed place now replies station).station.places
  still_sits true place now replies station e sits = cc
  still_sits false place now replies station e sits = moved_sits place.line place.peer place.peer now station.places sits

  module _ (time : ℕ) where
    turn_wakes : (place : Place) (station : Station) → Sits place.line place.peer station.places → Good P station
        → TurnStep P station (wakes time place station)
    turn_wakes place station sits good =
        turn_settles (expires time place) place (ticked time place.point).point (ticked time place.point).text station sits good

    awake_sits : (place : Place) (station : Station) → expires time place ≡ false → Sits place.line place.peer station.places
        → Sits place.line place.peer (wakes time place station).station.places
    awake_sits place station e sits = still_sits (expires time place) place (ticked time place.point).point (ticked time place.point).text station e sits

    turn_late : (place : Place) (station : Station) → Sits place.line place.peer station.places → Good P station
        → TurnStep P station (hurries_where_late time place station)
    turn_late place station sits good = by (is_early time place) (is_established place.point.phase.state)
      where
        by : (b c : Bool) → TurnStep P station (if b then resting station else (if c then resting station else hurries place station))
        by true c = turn_rests station good
        by false true = turn_rests station good
        by false false = turn_lost (hurries place station).deeds place.line place.peer station refl sits good

    turn_checks : (place : Place) (station : Station) → Sits place.line place.peer station.places → Good P station
        → TurnStep P station (checks time place station)
    turn_checks place station sits good = by (expires time place) refl
      where
        by : (b : Bool) → expires time place ≡ b
            → TurnStep P station (if b then wakes time place station else then_do (wakes time place station) (hurries_where_late time (woken time place)))
        by true e = turn_wakes place station sits good
        by false e =
            let first = turn_wakes place station sits good in
            turn_then station (wakes time place station) (hurries_where_late time (woken time place)) first
            (turn_late (woken time place) (wakes time place station).station (awake_sits place station e sits)
            (behind_step station (wakes time place station) first))

    turn_checks_peer : (peer : ℕ) (station : Station) → Good P station → TurnStep P station (checks_peer time peer station)
    turn_checks_peer peer station good = by (place_for peer station.places) refl
      where
        by : (found : Option Place) → place_for peer station.places ≡ found
            → TurnStep P station (elim found [ None ↦ resting station | Some place ↦ checks time place station ])
        by None e = turn_rests station good
        by (Some place) e = turn_checks place station (found_sits (λ (p : Place). p.peer == peer) station.places place e) good

    turn_sweeps : (peers : List ℕ) (station : Station) → Good P station → TurnStep P station (sweeps time peers station)
    turn_sweeps [] station good = turn_rests station good
    turn_sweeps (peer ∷ peers) station good =
        let first = turn_checks_peer peer station good in
        turn_then station (checks_peer time peer station) (sweeps time peers) first
        (turn_sweeps peers (checks_peer time peer station).station (behind_step station (checks_peer time peer station) first))

    turn_away : (guests : List Guest) (station : Station) → Good P station → TurnStep P station (turns_away time guests station)
    turn_away guests station good =
        let none = shuts_items (late_lines time guests) in
        record {
          turns = subst (Turns (peers_at station.places)) (sym none) tt;
          up_is = ap (ups (peers_at station.places)) none;
          orderly = good.orderly;
          each = good.each;
        }

    turn_where_due : (door : AtDoor) (station : Station) → Good P station → TurnStep P station (sweeps_where_due door time station)
    turn_where_due door station good = by (is_due door.swept time)
      where
        by : (b : Bool) → TurnStep P station (if b then then_do (turns_away time door.guests station) (sweeps_all time) else resting station)
        by true =
            turn_then station (turns_away time door.guests station) (sweeps_all time) (turn_away door.guests station good)
            (turn_sweeps (peers_at station.places) station good)
        by false = turn_rests station good

    turn_speaks : (config : Config) (place : Place) (piece : List ℕ) (station : Station) → Sits place.line place.peer station.places → Good P station
        → TurnStep P station (speaks config time place piece station)
    turn_speaks config place piece station sits good = by (expires time place) refl
      where
        told : (at : Place) (here : Station) → Sits at.line at.peer here.places → Good P here → TurnStep P here (receives config at piece here)
        told at here sits good =
            turn_then here (doing (tells (received at.peer piece) ∷ []) here.places here)
            (settles (is_closed (standing_of config (here.told ++ received at.peer piece ∷ []) at.peer)) at
            (handed_point config at.peer at.point piece) (replies_to config at.peer here.told piece))
            (record { turns = (sits_up at.line at.peer here.places sits, tt); up_is = refl; orderly = good.orderly; each = good.each })
            (turn_settles (is_closed (standing_of config (here.told ++ received at.peer piece ∷ []) at.peer)) at
            (handed_point config at.peer at.point piece) (replies_to config at.peer here.told piece)
            (record { told = here.told ++ received at.peer piece ∷ []; places = here.places }) sits
            (record { orderly = good.orderly; each = good.each }))

        by : (b : Bool) → expires time place ≡ b
            → TurnStep P station (if b then wakes time place station else then_do (wakes time place station) (receives config (woken time place) piece))
        by true e = turn_wakes place station sits good
        by false e =
            let first = turn_wakes place station sits good in
            turn_then station (wakes time place station) (receives config (woken time place) piece) first
            (told (woken time place) (wakes time place station).station (awake_sits place station e sits)
            (behind_step station (wakes time place station) first))

  turn_octets : (config : Config) (line time : ℕ) (piece : List ℕ) (station : Station) → Good P station
      → TurnStep P station (hears_octets config line time piece station)
  turn_octets config line time piece station good = by (place_of line station.places) refl
    where
      by : (found : Option Place) → place_of line station.places ≡ found
          → TurnStep P station (elim found [ None ↦ resting station | Some place ↦ speaks config time place piece station ])
      by None e = turn_rests station good
      by (Some place) e = turn_speaks time config place piece station (found_sits (λ (p : Place). p.line == line) station.places place e) good

  turn_ends : (line : ℕ) (station : Station) → Good P station → TurnStep P station (ends line station)
  turn_ends line station good = by (place_of line station.places) refl
    where
      by : (found : Option Place) → place_of line station.places ≡ found
          → TurnStep P station (elim found
          [ None ↦ resting station | Some place ↦ doing (tells (was_lost place.peer) ∷ []) (places_without place.line station.places) station ])
      by None e = turn_rests station good
      by (Some place) e =
          turn_lost (tells (was_lost place.peer) ∷ []) place.line place.peer station refl
          (found_sits (λ (p : Place). p.line == line) station.places place e) good

  turn_vacates : (peer : ℕ) (station : Station) → Good P station → TurnStep P station (vacates peer station)
  turn_vacates peer station good = by (place_for peer station.places) refl
    where
      by : (found : Option Place) → place_for peer station.places ≡ found
          → TurnStep P station (elim found
          [ None ↦ resting station | Some place ↦ doing (leaves (seat_at place)) (places_without place.line station.places) station ])
      by None e = turn_rests station good
      by (Some place) e =
          turn_lost (leaves (seat_at place)) place.line place.peer station refl
          (found_sits (λ (p : Place). p.peer == peer) station.places place e) good

  none_left : (peer : ℕ) (station : Station) → Apart station.places → AllByRecursion (IsOther peer) (vacates peer station).station.places
  none_left peer station apart = by (place_for peer station.places) refl
    where
      by : (found : Option Place) → place_for peer station.places ≡ found
          → AllByRecursion (IsOther peer)
          (let step : Step = (elim found
          [ None ↦ resting station | Some place ↦ doing (leaves (seat_at place)) (places_without place.line station.places) station ]) in
          step.station.places)
      by None e = others_of_none peer station.places e
      by (Some place) e = others_left peer station.places place apart e

abbrev IsAmong : List ℕ → ℕ → Type 0
IsAmong numbers number = is_in number numbers ≡ true

turn_replaces : (P : ℕ → Type 0) (line peer time : ℕ) (station : Station) → Good P station → P line
    → AllByRecursion (λ (other : ℕ). (other == line) ≡ false) (lines_at station.places) → TurnStep P station (replaces line peer time station)
turn_replaces P line peer time station good one others =
    let first = turn_vacates P peer station good in
    let rest = (turn_vacates (λ (other : ℕ). (other == line) ≡ false) peer station (record { orderly = good.orderly; each = others })).each in
    let free = none_left P peer station good.orderly.apart in
    let places = (vacates peer station).station.places in
    let place = taken_by (record { line = line; peer = peer; since = time }) in
    turn_then P station (vacates peer station) (seats_one (record { line = line; peer = peer; since = time })) first
    (record {
      turns = (not_up peer places free, tt);
      up_is = sym (map-append (λ (p : Place). p.peer) places (place ∷ []));
      orderly = record { apart = apart_more places place first.orderly.apart free; lines = lines_apart_more places place first.orderly.lines rest };
      each = lines_more P places place first.each one;
    })

turn_takes : (P : ℕ → Type 0) (config : Config) (line : ℕ) (from : Address) (told : Option ℕ) (since : ℕ) (station : Station) → Good P station → P line
    → AllByRecursion (λ (other : ℕ). (other == line) ≡ false) (lines_at station.places) → TurnStep P station (takes config line from told since station)
turn_takes P config line from told since station good one others = by (peer_for config from told (map seat_at station.places))
  where
    by : (found : Option ℕ)
        → TurnStep P station (elim found [ None ↦ doing (shuts line ∷ []) station.places station | Some peer ↦ replaces line peer since station ])
    by None = record { turns = tt; up_is = refl; orderly = good.orderly; each = good.each }
    by (Some peer) = turn_replaces P line peer since station good one others

-- the line of one that is found
found_line : (line : ℕ) (guests : List Guest) (guest : Guest) → guest_of line guests ≡ Some guest → guest.line ≡ line
found_line line [] guest e = absurd cc
found_line line (first ∷ guests) guest e = by (first.line == line) refl (found_line line guests guest) e
  where
    by : (b : Bool) → (first.line == line) ≡ b → (guest_of line guests ≡ Some guest → guest.line ≡ line)
        → (if b then Some first else guest_of line guests) ≡ Some guest → guest.line ≡ line
    by true is rest f = let same : first ≡ guest = cc in ap (λ (g : Guest). g.line) (sym same) ∙ eqb-true first.line line is
    by false is rest f = rest f

-- A line that was taken before, and waits no more.
record IsPlaced (used : List ℕ) (guests : List Guest) (line : ℕ) : Type 0 where
  among : IsAmong used line
  others : AllByRecursion (λ (guest : Guest). (line == guest.line) ≡ false) guests

-- those that wait were taken before
abbrev Wait : List ℕ → List Guest → Type 0
Wait used guests = AllByRecursion (λ (guest : Guest). IsAmong used guest.line) guests

among_more : (line : ℕ) (used : List ℕ) (other : ℕ) → IsAmong used other → IsAmong (line ∷ used) other
among_more line used other is = or_true (line == other) (is_in other used) is

among_one : (line : ℕ) (used : List ℕ) → IsAmong (line ∷ used) line
among_one line used = subst (λ (b : Bool). (b || is_in line used) ≡ true) (sym (eq_itself line)) refl

all_to : {X : Type 0} (P Q : X → Type 0) (xs : List X) → ((x : X) → P x → Q x) → AllByRecursion P xs → AllByRecursion Q xs
all_to P Q [] f all = tt
all_to P Q (x ∷ xs) f all = (f x all.0, all_to P Q xs f all.1)

all_left : {X : Type 0} (P : X → Type 0) (test : X → Bool) (xs : List X) → AllByRecursion P xs → AllByRecursion P (filter test xs)
all_left P test [] all = tt
all_left {X} P test (x ∷ xs) all = by (test x) (all_left P test xs all.1)
  where
    by : (b : Bool) → AllByRecursion P (filter test xs) → AllByRecursion P (if b then x ∷ filter test xs else filter test xs)
    by true later = (all.0, later)
    by false later = later

-- a line that isn't among those that were taken before is another one
other_line : (line : ℕ) (used : List ℕ) (other : ℕ) → is_in line used ≡ false → IsAmong used other → (line == other) ≡ false
other_line line used other new is = by (line == other) refl
  where
    by : (b : Bool) → (line == other) ≡ b → b ≡ false
    by true e = sym (subst (IsAmong used) (sym (eqb-true line other e)) is) ∙ new
    by false e = refl

placed_more : (line : ℕ) (used : List ℕ) (guests : List Guest) (other : ℕ) → IsPlaced used guests other → IsPlaced (line ∷ used) guests other
placed_more line used guests other is = record { among = among_more line used other is.among; others = is.others }

placed_left : (used : List ℕ) (test : Guest → Bool) (guests : List Guest) (other : ℕ) → IsPlaced used guests other
    → IsPlaced used (filter test guests) other
placed_left used test guests other is = record {
  among = is.among;
  others = all_left (λ (guest : Guest). (other == guest.line) ≡ false) test guests is.others;
}

-- the line that waits no more is another one than those that wait
called : (line : ℕ) (guests : List Guest)
    → AllByRecursion (λ (guest : Guest). (line == guest.line) ≡ false) (filter (λ (guest : Guest). not (guest.line == line)) guests)
called line [] = tt
called line (guest ∷ guests) = by (guest.line == line) refl (called line guests)
  where
    by : (b : Bool) → (guest.line == line) ≡ b
        → AllByRecursion (λ (other : Guest). (line == other.line) ≡ false) (filter (λ (other : Guest). not (other.line == line)) guests)
        → AllByRecursion (λ (other : Guest). (line == other.line) ≡ false)
        (if not b then guest ∷ filter (λ (other : Guest). not (other.line == line)) guests else filter (λ (other : Guest). not (other.line == line)) guests)
    by true e rest = rest
    by false e rest = (eq_flip guest.line line e, rest)

good_to : (P Q : ℕ → Type 0) (station : Station) → ((line : ℕ) → P line → Q line) → Good P station → Good Q station
good_to P Q station f good = record { orderly = good.orderly; each = all_to P Q (lines_at station.places) f good.each }

turn_to : (P Q : ℕ → Type 0) (station : Station) (step : Step) → ((line : ℕ) → P line → Q line) → TurnStep P station step → TurnStep Q station step
turn_to P Q station step f turn = record {
  turns = turn.turns;
  up_is = turn.up_is;
  orderly = turn.orderly;
  each = all_to P Q (lines_at step.station.places) f turn.each;
}

abbrev guest_at : (line : ℕ) → (from : Address) → (time : ℕ) → Guest
guest_at line from time = record { line = line; from = from; since = time }

-- What a step leaves of connections that wait, beside what it tells.
record TurnEvent (used : List ℕ) (door : AtDoor) (station : Station) (step : Step) : Type 0 where
  turn : TurnStep (IsPlaced used door.guests) station step
  wait : Wait used door.guests

module _ (config : Config) (time : ℕ) where
  -- the octets of one that waits
  turn_admits : (used : List ℕ) (line : ℕ) (piece : List ℕ) (door : AtDoor) (station : Station) → Good (IsPlaced used door.guests) station
      → Wait used door.guests → TurnStep (IsPlaced used (without_guest line door).guests) station (admits config line piece door.guests station)
  turn_admits used line piece door station good wait = by (guest_of line door.guests) refl
    where
      less : Good (IsPlaced used (without_guest line door).guests) station
      less = good_to (IsPlaced used door.guests) (IsPlaced used (without_guest line door).guests) station
          (placed_left used (λ (guest : Guest). not (guest.line == line)) door.guests) good

      others : (guest : Guest) → guest_of line door.guests ≡ Some guest → AllByRecursion (λ (other : ℕ). (other == line) ≡ false) (lines_at station.places)
      others guest e =
          all_to (IsPlaced used door.guests) (λ (other : ℕ). (other == line) ≡ false) (lines_at station.places)
          (λ other is. subst (λ n. (other == n) ≡ false) (found_line line door.guests guest e)
          (found_is (λ (one : Guest). (other == one.line) ≡ false) (λ (g : Guest). g.line == line) door.guests guest is.others e)) good.each

      by : (found : Option Guest) → guest_of line door.guests ≡ found
          → TurnStep (IsPlaced used (without_guest line door).guests) station
          (elim found [ None ↦ resting station | Some guest ↦ takes config line guest.from (said_as piece) guest.since station ])
      by None e = turn_rests (IsPlaced used (without_guest line door).guests) station less
      by (Some guest) e =
          turn_takes (IsPlaced used (without_guest line door).guests) config line guest.from (said_as piece) guest.since station less
          (record {
            among = subst (IsAmong used) (found_line line door.guests guest e)
                (found_is (λ (one : Guest). IsAmong used one.line) (λ (g : Guest). g.line == line) door.guests guest wait e);
            others = called line door.guests;
          })
          (others guest e)

  turn_follows : (used : List ℕ) (door : AtDoor) (what : What) (station : Station) → Good (IsPlaced used door.guests) station → Wait used door.guests
      → IsNewLine used what
      → TurnEvent (lines_with used what) (door_with config time what (map seat_at station.places) door) station (follows config door.guests time what station)
  turn_follows used door (taken line from) station good wait new = by (waits config from (map seat_at station.places) door.guests)
    where
      more : Wait (line ∷ used) door.guests
      more = all_to (λ (guest : Guest). IsAmong used guest.line) (λ (guest : Guest). IsAmong (line ∷ used) guest.line) door.guests
          (λ guest is. among_more line used guest.line is) wait

      by : (b : Bool)
          → TurnEvent (line ∷ used) (if b then with_guest (guest_at line from time) door else door) station (if b then resting station
          else takes config line from None time station)
      by true = record {
        turn = turn_rests (IsPlaced (line ∷ used) (with_guest (guest_at line from time) door).guests) station
            (good_to (IsPlaced used door.guests) (IsPlaced (line ∷ used) (with_guest (guest_at line from time) door).guests) station
            (λ other is. record {
              among = among_more line used other is.among;
              others = more_are (λ (guest : Guest). (other == guest.line) ≡ false) door.guests (guest_at line from time) is.others
                  (eq_flip line other (other_line line used other new is.among));
            }) good);
        wait = more_are (λ (guest : Guest). IsAmong (line ∷ used) guest.line) door.guests (guest_at line from time) more (among_one line used);
      }
      by false = record {
        turn = turn_takes (IsPlaced (line ∷ used) door.guests) config line from None time station
            (good_to (IsPlaced used door.guests) (IsPlaced (line ∷ used) door.guests) station (placed_more line used door.guests) good)
            (record {
              among = among_one line used;
              others = all_to (λ (guest : Guest). IsAmong used guest.line) (λ (guest : Guest). (line == guest.line) ≡ false) door.guests
                  (λ guest is. other_line line used guest.line new is) wait;
            })
            (all_to (IsPlaced used door.guests) (λ (other : ℕ). (other == line) ≡ false) (lines_at station.places)
            (λ other is. eq_flip line other (other_line line used other new is.among)) good.each);
        wait = more;
      }
  turn_follows used door (gave line piece) station good wait new =
      let kept = IsPlaced used (without_guest line door).guests in
      let first = turn_admits used line piece door station good wait in
      record {
        turn = turn_then kept station (admits config line piece door.guests station) (hears_octets config line time piece) first
            (turn_octets kept config line time piece (admits config line piece door.guests station).station
            (behind_step kept station (admits config line piece door.guests station) first));
        wait = all_left (λ (guest : Guest). IsAmong used guest.line) (λ (guest : Guest). not (guest.line == line)) door.guests wait;
      }
  turn_follows used door (ended line) station good wait new = record {
    turn = turn_ends (IsPlaced used (without_guest line door).guests) line station
        (good_to (IsPlaced used door.guests) (IsPlaced used (without_guest line door).guests) station
        (placed_left used (λ (guest : Guest). not (guest.line == line)) door.guests) good);
    wait = all_left (λ (guest : Guest). IsAmong used guest.line) (λ (guest : Guest). not (guest.line == line)) door.guests wait;
  }
  turn_follows used door (made line) station good wait new = record { turn = turn_rests (IsPlaced used door.guests) station good; wait = wait }
  turn_follows used door nothing station good wait new = record { turn = turn_rests (IsPlaced used door.guests) station good; wait = wait }

  -- the clock of all, behind an event
  turn_swept : (used : List ℕ) (door : AtDoor) (station : Station) (step : Step) → TurnEvent used door station step
      → TurnEvent used (swept_where_due time door) station (then_do step (sweeps_where_due door time))
  turn_swept used door station step event =
      let all = turn_then (IsPlaced used door.guests) station step (sweeps_where_due door time) event.turn
      (turn_where_due (IsPlaced used door.guests) time door step.station (behind_step (IsPlaced used door.guests) station step event.turn)) in
      by all (is_due door.swept time)
    where
      by : TurnStep (IsPlaced used door.guests) station (then_do step (sweeps_where_due door time)) → (b : Bool)
          → TurnEvent used (if b then swept_at time door else door) station (then_do step (sweeps_where_due door time))
      by all true = record {
        turn = turn_to (IsPlaced used door.guests) (IsPlaced used (swept_at time door).guests) station (then_do step (sweeps_where_due door time))
            (placed_left used (λ (guest : Guest). has_time time guest) door.guests) all;
        wait = all_left (λ (guest : Guest). IsAmong used guest.line) (λ (guest : Guest). has_time time guest) door.guests event.wait;
      }
      by all false = record { turn = all; wait = event.wait }

  turn_hears : (used : List ℕ) (door : AtDoor) (what : What) (station : Station) → Good (IsPlaced used door.guests) station → Wait used door.guests
      → IsNewLine used what
      → TurnEvent (lines_with used what) (door_after config time what (map seat_at station.places) door) station (hears config door time what station)
  turn_hears used door what station good wait new =
      turn_swept (lines_with used what) (door_with config time what (map seat_at station.places) door) station (follows config door.guests time what station)
      (turn_follows used door what station good wait new)

turns_from : (config : Config) (used : List ℕ) (now : Between) (events : List Happening) → Good (IsPlaced used now.door.guests) now.station
    → Wait used now.door.guests → AllFrom IsNew lines_after used events → Turns (peers_at now.station.places) (items_in (recorded_from config now events))
turns_from config used now [] good wait new = tt
turns_from config used now (event ∷ later) good wait new =
    let one = turn_hears config event.time used now.door event.what now.station good wait new.0 in
    let turn = one.turn in
    let items = items_of (step_at config now event).deeds in
    let rest = recorded_from config (behind config now event) later in
    subst (Turns (peers_at now.station.places)) (sym (items_told (max now.moment event.moment) items rest))
    (turns_both (peers_at now.station.places) items (items_in rest) turn.turns
    (subst (λ up. Turns up (items_in rest)) (sym turn.up_is)
    (turns_from config (lines_after used event) (behind config now event) later
    (behind_step (IsPlaced (lines_after used event) (behind config now event).door.guests) now.station (step_at config now event) turn) one.wait new.1)))

nothing_placed : Orderly []
nothing_placed = record { apart = tt; lines = tt }

pub alternates : Alternates
alternates config events new = turns_from config [] at_first events (record { orderly = nothing_placed; each = tt }) tt new
