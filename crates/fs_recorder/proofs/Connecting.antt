-- One step behind another, and what stands behind a seat that was taken or left.
use Rattle.fs_recorder.proofs.PlaceWords.{List, None, Option, Some, [], ap, append-nil, map-append, refl, subst, sym, ℕ, ◌++◌, ◌==◌, ◌∙◌, ◌∷◌, ◌≡◌}
use Rattle.fs_recorder.proofs.PlaceWords.{AllByRecursion, IsSome, Err, Ok, OnOk, Result, option_map, Grew, peer_of, Turn, shut, Address, Config, Peer}
use Rattle.fs_recorder.proofs.PlaceWords.{IsNumbered, IsWritable, came_up, was_lost, begins, fresh, live, AtDoor, Desked, KeepsOthers, Played, nobody}
use Rattle.fs_recorder.proofs.PlaceWords.{session_at, Tells, TellsPart, Does, Recording, leaves, shuts, tells, seat_for, seat_of, Place, Station}
use Rattle.fs_recorder.proofs.PlaceWords.{Step, checks, checks_peer, doing, ends, peer_for, peers_at, place_for, place_of, places_without, replaces}
use Rattle.fs_recorder.proofs.PlaceWords.{resting, seat_at, seats_one, taken_by, takes, vacates, BreaksAt, DoesStep, IsOpenAt, Left, Stands, Seat}
use Rattle.fs_recorder.proofs.PlaceWords.{Ran, RanAt, RanSo, RanQuietly, RanSeat, Stop, Limit, IsErrAnd, IsErrOf, Bool, OnErr, expired_after, broken}
use Rattle.fs_recorder.proofs.{PlaceWords.{done}, Doing.{breaks_more, breaks_tell, breaks_where, does_ask, does_tell, handed}}
use Rattle.fs_recorder.proofs.Places.{FoundAt, found_at, found_none, open_left, others_left, place_found, place_is}
use Rattle.fs_recorder.proofs.{Placing.{apart_more, more_are, none_of_others, others_of_none, peers_more}, Settling.{stands_gone}}
use Rattle.fs_recorder.proofs.{Stepping.{does_rest, ran_then}, Telling.{part_where}}

-- the same station, where nothing is told
pub stands_quiet : (station : Station) (old : Recording) → Stands station old
    → Stands (record { told = station.told ++ []; places = station.places }) old
stands_quiet station old stands =
    subst (λ told. Stands (record { told = told; places = station.places }) old) (sym (append-nil station.told)) stands

-- a session that has just begun is open
fresh_open : (config : Config) (desk : Desked) (seat : Seat) (found : Option Peer) → IsSome found
    → session_at seat.peer desk.sessions ≡ option_map (λ peer. live config peer fresh) found → IsOpenAt desk (taken_by seat)
fresh_open config desk seat None known e = absurd cc
fresh_open config desk seat (Some peer) known e =
    record { session = live config peer fresh; session_is = e; alive = refl; point_is = refl }

-- a peer takes a seat
pub did_seat : (seat : Seat) (old new : Recording) (before now : Option (List ℕ)) → Tells (came_up seat.peer) old.books new.books before now
    → session_at seat.peer new.books.desk.sessions ≡ begins old.books.desk.config seat.peer
    → KeepsOthers seat.peer old.books.desk new.books.desk → IsSome (peer_of seat.peer old.books.desk.config.peers)
    → new.seats ≡ old.seats ++ seat ∷ [] → new.door ≡ old.door → RanSeat done seat old new before now
did_seat seat old new before now told begun others known seats door turns station stands none = record {
  does = does_tell (came_up seat.peer) old.books new.books turns before now told nobody;
  stands = record {
    played = subst (λ config. Played config (station.told ++ came_up seat.peer ∷ []) new.books.desk) (sym told.config_is)
        (told.plays nobody old.books.desk.config station.told stands.played);
    seats_are = seats ∙ ap (λ s. s ++ seat ∷ []) stands.seats_are ∙ sym (map-append seat_at station.places (taken_by seat ∷ []));
    live = more_are (IsOpenAt new.books.desk) station.places (taken_by seat)
        (open_left seat.peer old.books.desk new.books.desk (others nobody old.books.desk.config station.told stands.played) station.places
        (others_of_none seat.peer station.places none) stands.live)
        (fresh_open old.books.desk.config new.books.desk seat (peer_of seat.peer old.books.desk.config.peers) known begun);
    apart = apart_more station.places (taken_by seat) stands.apart (others_of_none seat.peer station.places none);
    known = subst (λ config. AllByRecursion (IsNumbered config) (peers_at (station.places ++ taken_by seat ∷ []))) (sym told.config_is)
        (peers_more (IsNumbered old.books.desk.config) station.places (taken_by seat) stands.known told.writable);
  };
  door_is = door;
}

-- so where it was broken off
pub broke_seat : {T : Type 0} {stop : Stop} → (result : Result T Stop) → IsErrAnd result (λ e. e ≡ stop) → (seat : Seat) (old new : Recording)
    (before now : Option (List ℕ)) → TellsPart (stop ≡ Limit) (came_up seat.peer) old.books before now → RanSeat result seat old new before now
broke_seat (Ok value) same seat old new before now part = absurd same
broke_seat (Err error) same seat old new before now part =
    λ turns station stands. breaks_tell (came_up seat.peer) old.books turns before now (part_where (λ limited. sym same ∙ limited) part)

-- a place that is found by its peer is that of its own peer
own_place : (peer : ℕ) (places : List Place) (place : Place) → place_for peer places ≡ Some place → place_for place.peer places ≡ Some place
own_place peer places place found = subst (λ n. place_for n places ≡ Some place) (sym (place_is peer places place found)) found

-- The seat of a peer is that of its place, and so is that of a line.
module _ (old : Recording) (station : Station) (stands : Stands station old) where
  no_place : (peer : ℕ) → seat_for peer old.seats ≡ None → place_for peer station.places ≡ None
  no_place peer e = found_none (λ (s : Seat). s.peer == peer) station.places (ap (seat_for peer) (sym stands.seats_are) ∙ e)

  place_has : (peer : ℕ) (seat : Seat) → seat_for peer old.seats ≡ Some seat → FoundAt (λ (p : Place). p.peer == peer) station.places seat
  place_has peer seat e = found_at (λ (s : Seat). s.peer == peer) station.places seat (ap (seat_for peer) (sym stands.seats_are) ∙ e)

  no_line : (line : ℕ) → seat_of line old.seats ≡ None → place_of line station.places ≡ None
  no_line line e = found_none (λ (s : Seat). s.line == line) station.places (ap (seat_of line) (sym stands.seats_are) ∙ e)

  line_has : (line : ℕ) (seat : Seat) → seat_of line old.seats ≡ Some seat → FoundAt (λ (p : Place). p.line == line) station.places seat
  line_has line seat e = found_at (λ (s : Seat). s.line == line) station.places seat (ap (seat_of line) (sym stands.seats_are) ∙ e)

-- what a step does where a place was found
abbrev pub at_place : (Place → Station → Step) → Station → Option Place → Step
at_place step station found = elim found [ None ↦ resting station | Some place ↦ step place station ]

abbrev leaving : Place → Station → Step
leaving place station = doing (leaves (seat_at place)) (places_without place.line station.places) station

abbrev losing : Place → Station → Step
losing place station = doing (tells (was_lost place.peer) ∷ []) (places_without place.line station.places) station

-- it was found
ran_found : {T : Type 0} (result : Result T Stop) (step : Place → Station → Step) (station : Station) (found : Option Place) (place : Place)
    (door : AtDoor) (old new : Recording) (t t1 : Option (List Turn)) (w w1 : Option (List ℕ)) → found ≡ Some place
    → Ran result door (step place station) old new t t1 w w1 → Ran result door (at_place step station found) old new t t1 w w1
ran_found result step station found place door old new t t1 w w1 e ran =
    subst (λ f. Ran result door (at_place step station f) old new t t1 w w1) (sym e) ran

-- it wasn't
pub did_not_find : (step : Place → Station → Step) (station : Station) (found : Option Place) (old : Recording) (t : Option (List Turn))
    (w : Option (List ℕ)) → found ≡ None → Stands station old → DoesStep old.door (at_place step station found) old old t t w w
did_not_find step station found old t w e stands =
    subst (λ f. DoesStep old.door (at_place step station f) old old t t w w) (sym e) (does_rest station old t w stands)

-- the connection that speaks for a peer was closed

pub ran_vacate : {T : Type 0} (result : Result T Stop) (peer : ℕ) (seat : Seat) (old new : Recording) (t t1 : Option (List Turn))
    (w w1 : Option (List ℕ)) → seat_for peer old.seats ≡ Some seat
    → OnOk result ((expired : ℕ → Bool) → Does expired (expired_after (was_lost seat.peer) expired) (leaves seat) old.books new.books t t1 w w1)
    → OnOk result (Left seat old new) → OnErr result (BreaksAt (IsErrOf result Limit) (leaves seat) old.books t t1 w w1)
    → RanSo result (vacates peer) old new t t1 w w1
ran_vacate {T = T} (Ok value) peer seat old new t t1 w w1 found does left breaks station stands =
    let has = place_has old station stands peer seat found in
    ran_found {T = T} (Ok value) leaving station (place_for peer station.places) has.place old.door old new t t1 w w1 has.found
    (record {
      does = subst (λ s. Does nobody nobody (leaves s) old.books new.books t t1 w w1) (sym has.seated) (does nobody);
      stands = stands_gone has.place station old new stands (own_place peer station.places has.place has.found)
          (subst (λ s. Left s old new) (sym has.seated) left) (does nobody).config_is;
      door_is = left.door_is;
    })
ran_vacate {T = T} (Err stop) peer seat old new t t1 w w1 found does left breaks station stands =
    let has = place_has old station stands peer seat found in
    ran_found {T = T} (Err stop) leaving station (place_for peer station.places) has.place old.door old new t t1 w w1 has.found
    (subst (λ s. BreaksAt (stop ≡ Limit) (leaves s) old.books t t1 w w1) (sym has.seated) (breaks_where (ap Err) breaks))

pub did_vacate_none : (peer : ℕ) (old : Recording) (t : Option (List Turn)) (w : Option (List ℕ)) → seat_for peer old.seats ≡ None
    → (station : Station) → Stands station old → DoesStep old.door (vacates peer station) old old t t w w
did_vacate_none peer old t w none station stands =
    did_not_find leaving
    station (place_for peer station.places) old t w (no_place old station stands peer none) stands

-- behind it none speaks for the peer
pub vacated : (peer : ℕ) (old : Recording) (station : Station) → Stands station old
    → place_for peer (vacates peer station).station.places ≡ None
vacated peer old station stands = by (place_for peer station.places) refl
  where
    by : (found : Option Place) → place_for peer station.places ≡ found
        → place_for peer (at_place leaving station found).station.places ≡ None
    by None e = e
    by (Some place) e =
        none_of_others peer (places_without place.line station.places) (others_left peer station.places place stands.apart e)

-- a connection has ended

pub ran_end : {T : Type 0} (result : Result T Stop) (line : ℕ) (seat : Seat) (old new : Recording) (w w1 : Option (List ℕ))
    → seat_of line old.seats ≡ Some seat → OnOk result (Tells (was_lost seat.peer) old.books new.books w w1) → OnOk result (Left seat old new)
    → OnErr result (TellsPart (IsErrOf result Limit) (was_lost seat.peer) old.books w w1) → RanQuietly result (ends line) old new w w1
ran_end {T = T} (Ok value) line seat old new w w1 found told left part turns station stands =
    let has = line_has old station stands line seat found in
    ran_found {T = T} (Ok value) losing station (place_of line station.places) has.place old.door old new turns turns w w1 has.found
    (record {
      does = subst (λ (s : Seat). Does nobody nobody (tells (was_lost s.peer) ∷ []) old.books new.books turns turns w w1) (sym has.seated)
          (does_tell (was_lost seat.peer) old.books new.books turns w w1 told nobody);
      stands = stands_gone has.place station old new stands (place_found line station.places has.place stands.apart has.found)
          (subst (λ s. Left s old new) (sym has.seated) left) told.config_is;
      door_is = left.door_is;
    })
ran_end {T = T} (Err stop) line seat old new w w1 found told left part turns station stands =
    let has = line_has old station stands line seat found in
    ran_found {T = T} (Err stop) losing station (place_of line station.places) has.place old.door old new turns turns w w1 has.found
    (subst (λ (s : Seat). BreaksAt (stop ≡ Limit) (tells (was_lost s.peer) ∷ []) old.books turns turns w w1) (sym has.seated)
    (breaks_tell (was_lost seat.peer) old.books turns w w1 (part_where (ap Err) part)))

pub did_end_none : (line : ℕ) (old : Recording) (w : Option (List ℕ)) → seat_of line old.seats ≡ None
    → (turns : Option (List Turn)) (station : Station) → Stands station old → DoesStep old.door (ends line station) old old turns turns w w
did_end_none line old w none turns station stands =
    did_not_find losing
    station (place_of line station.places) old turns w (no_line old station stands line none) stands

-- a peer's connection is replaced

pub ran_replace : {T : Type 0} (result : Result T Stop) (line peer time : ℕ) (old mid new : Recording) (t t1 : Option (List Turn))
    (w w1 w2 : Option (List ℕ)) → RanSo done (vacates peer) old mid t t1 w w1
    → RanSeat result (record { line = line; peer = peer; since = time }) mid new w1 w2 → RanSo result (replaces line peer time) old new t t1 w w2
ran_replace {T = T} result line peer time old mid new t t1 w w1 w2 did later station stands = by result later
  where
    seat : Seat
    seat = record { line = line; peer = peer; since = time }

    one : DoesStep old.door (vacates peer station) old mid t t1 w w1
    one = did station stands

    by : (r : Result T Stop) → RanSeat r seat mid new w1 w2 → Ran r old.door (replaces line peer time station) old new t t1 w w2
    by (Ok value) next =
        ran_then {T = T} (Ok value) (vacates peer station) (seats_one seat) old mid new t t1 t1 w w1 w2 one
        (next t1 (vacates peer station).station one.stands (vacated peer old station stands))
    by (Err stop) next =
        ran_then {T = T} (Err stop) (vacates peer station) (seats_one seat) old mid new t t1 t1 w w1 w2 one (next t1 (vacates peer station).station one.stands)

pub broke_replace : {T : Type 0} {stop : Stop} → (result : Result T Stop) → IsErrAnd result (λ e. e ≡ stop) → (line peer time : ℕ)
    (old new : Recording) (t t1 : Option (List Turn)) (w w1 : Option (List ℕ)) → IsWritable old.books.desk.config (came_up peer)
    → RanSo (broken stop) (vacates peer) old new t t1 w w1 → RanSo result (replaces line peer time) old new t t1 w w1
broke_replace result same line peer time old new t t1 w w1 writable breaks station stands =
    handed result same _ _ _ _ (breaks_more (vacates peer station).deeds (tells (came_up peer) ∷ []) old.books t t1 w w1 (writable, tt) (breaks station stands))

-- a connection was taken
module _ (config : Config) (line : ℕ) (from : Address) (told : Option ℕ) (time : ℕ) (old : Recording) (t t1 : Option (List Turn)) (w w1 : Option (List ℕ)) where
  abbrev takes_for : Station → Option ℕ → Step
  takes_for station found =
      elim found [ None ↦ doing (shuts line ∷ []) station.places station | Some peer ↦ replaces line peer time station ]

  pub ran_take : {T : Type 0} (result : Result T Stop) (peer : ℕ) (new : Recording) → peer_for config from told old.seats ≡ Some peer
      → RanSo result (replaces line peer time) old new t t1 w w1 → RanSo result (takes config line from told time) old new t t1 w w1
  ran_take result peer new e ran station stands =
      subst (λ found. Ran result old.door (takes_for station found) old new t t1 w w1)
      (sym (ap (peer_for config from told) (sym stands.seats_are) ∙ e)) (ran station stands)

  pub did_take_none : peer_for config from told old.seats ≡ None → Grew t t1 (shut line ∷ [])
      → (station : Station) → Stands station old → DoesStep old.door (takes config line from told time station) old old t t1 w w
  did_take_none e closed station stands =
      subst (λ found. DoesStep old.door (takes_for station found) old old t t1 w w)
      (sym (ap (peer_for config from told) (sym stands.seats_are) ∙ e))
      (record {
        does = does_ask nobody (shuts line ∷ []) old.books t t1 w refl closed;
        stands = stands_quiet station old stands;
        door_is = refl;
      })

-- the clock of a peer

pub ran_check_peer : {T : Type 0} (result : Result T Stop) (peer time : ℕ) (seat : Seat) (old new : Recording) (t t1 : Option (List Turn))
    (w w1 : Option (List ℕ)) → seat_for peer old.seats ≡ Some seat → RanAt result seat (checks time) old new t t1 w w1
    → RanSo result (checks_peer time peer) old new t t1 w w1
ran_check_peer result peer time seat old new t t1 w w1 found ran station stands =
    let has = place_has old station stands peer seat found in
    ran_found result (checks time) station (place_for peer station.places) has.place old.door old new t t1 w w1 has.found
    (ran station stands has.place
    (subst (λ (s : Seat). place_for s.peer station.places ≡ Some has.place) has.seated (own_place peer station.places has.place has.found)) has.seated)

pub did_check_none : (peer time : ℕ) (old : Recording) (t : Option (List Turn)) (w : Option (List ℕ)) → seat_for peer old.seats ≡ None
    → (station : Station) → Stands station old → DoesStep old.door (checks_peer time peer station) old old t t w w
did_check_none peer time old t w none station stands =
    did_not_find (checks time) station (place_for peer station.places) old t w (no_place old station stands peer none) stands
