-- The clock of each session in turn, and all that is done at an event.
use Rattle.fs_recorder.proofs.PlaceWords.{Bool, List, Option, [], ap, append_assoc, false, refl, subst, sym, true, ℕ, ◌++◌, ◌∙◌, ◌∷◌, ◌≡◌}
use Rattle.fs_recorder.proofs.PlaceWords.{AllByRecursion, if◌then◌else◌, Grew, Turn, shut, Config, IsWritable, nobody, Recording, items_of, What}
use Rattle.fs_recorder.proofs.PlaceWords.{Station, Step, checks_peer, follows, hears, AtDoor, door_after, door_with, is_due, late_lines, swept_at}
use Rattle.fs_recorder.proofs.PlaceWords.{swept_where_due, peers_at, peers_in, resting, seat_at, shuts, sweeps, sweeps_all, sweeps_where_due, then_do}
use Rattle.fs_recorder.proofs.PlaceWords.{turns_away, BreaksAt, DoesStep, Stands, Ran, RanHear, RanSo, Stop, Limit, IsErrAnd, Ok, Err, Result, broken}
use Rattle.fs_recorder.proofs.PlaceWords.{done}
use Rattle.fs_recorder.proofs.Doing.{breaks_early, breaks_more, breaks_then, does_ask, does_then, shuts_asked, shuts_items, handed}
use Rattle.fs_recorder.proofs.Knowing.{Known, known_checks_peer, known_follows, known_sweeps, known_where_due, new_told}
use Rattle.fs_recorder.proofs.{Stepping.{does_both, does_rest, ran_then}, Waiting.{stands_door}}
use Rattle.fs_recorder.specs.Books.{Booked}
use Rattle.fs_recorder.specs.Deeds.{Does, passing}
use Rattle.fs_recorder.specs.Laws.{IsShort}
use Rattle.fs_recorder.specs.Steps.{Place}
use Rattle.fs_recorder.specs.declared.seats.Seat.{Seat}
use Rattle.fs_base.specs.Gate.{what_from}
use Rattle.fs_base.specs.declared.Came.{Came}
use Rattle.fs_base.specs.declared.Came.TheVariants.{Ended, Made, Nothing, Octets, Taken}
use Rattle.std.proofs.Common.{arith, drop, get_or, length, take, ◌+◌, ◌<◌, ◌≤◌}
use Rattle.std.proofs.lemmas.List.{drop_more, length-drop, length-take, map-append, take-append-drop, take_more}
use Rattle.std.specs.Prelude.{map}

-- some peers, and then others
pub sweeps_both : (time : ℕ) (front later : List ℕ) (station : Station)
    → sweeps time (front ++ later) station ≡ then_do (sweeps time front station) (sweeps time later)
sweeps_both time [] later station = refl
sweeps_both time (peer ∷ front) later station =
    let first = checks_peer time peer station in
    let mid = sweeps time front first.station in
    let last = sweeps time later mid.station in
    ap (λ (step : Step). record { deeds = first.deeds ++ step.deeds; station = step.station }) (sweeps_both time front later first.station)
    ∙ ap (λ deeds. record { deeds = deeds; station = last.station }) (sym (append_assoc first.deeds mid.deeds last.deeds))

module _ (time : ℕ) (front : List ℕ) (peer : ℕ) (a b : Recording) (t t1 t2 : Option (List Turn)) (w w1 w2 : Option (List ℕ)) where
  pub did_more : (c : Recording) → RanSo done (sweeps time front) a b t t1 w w1
      → RanSo done (checks_peer time peer) b c t1 t2 w1 w2 → RanSo done (sweeps time (front ++ peer ∷ [])) a c t t2 w w2
  did_more c did later station stands =
      let one = did station stands in
      let next = later (sweeps time front station).station one.stands in
      let single = does_both (checks_peer time peer (sweeps time front station).station) (sweeps time []) b c c t1 t2 t2 w1 w2 w2 next
      (does_rest (checks_peer time peer (sweeps time front station).station).station c t2 w2 next.stands) in
      subst (λ step. DoesStep a.door step a c t t2 w w2) (sym (sweeps_both time front (peer ∷ []) station))
      (does_both (sweeps time front station) (sweeps time (peer ∷ [])) a b c t t1 t2 w w1 w2 one single)

  -- it was broken off at a peer
  pub broke_more : {T : Type 0} {stop : Stop} → (result : Result T Stop) → IsErrAnd result (λ e. e ≡ stop) → (c : Recording) (later : List ℕ)
      → RanSo done (sweeps time front) a b t t1 w w1 → RanSo (broken stop) (checks_peer time peer) b c t1 t2 w1 w2
      → RanSo result (sweeps time (front ++ peer ∷ later)) a c t t2 w w2
  broke_more {T} {stop} result same c later did breaks station stands =
      let one = did station stands in
      let mid = (sweeps time front station).station in
      let known = known_checks_peer b.books.desk.config time peer mid one.stands.known in
      handed result same _ _ _ _
      (subst (λ (step : Step). BreaksAt (stop ≡ Limit) step.deeds a.books t t2 w w2) (sym (sweeps_both time front (peer ∷ later) station))
      (ran_then (broken stop) (sweeps time front station) (sweeps time (peer ∷ later)) a b c t t1 t2 w w1 w2 one
      (breaks_more (checks_peer time peer mid).deeds (sweeps time later (checks_peer time peer mid).station).deeds b.books t1 t2 w1 w2
      (known_sweeps b.books.desk.config time later (checks_peer time peer mid).station known.known).writable (breaks mid one.stands))))

-- the peers of seats are those of their places
peers_same : (places : List Place) → peers_in (map seat_at places) ≡ peers_at places
peers_same [] = refl
peers_same (place ∷ places) = ap (λ peers. place.peer ∷ peers) (peers_same places)

pub peers_are : (old : Recording) (station : Station) → Stands station old → peers_in old.seats ≡ peers_at station.places
peers_are old station stands = ap peers_in stands.seats_are ∙ peers_same station.places

pub ran_sweep : {T : Type 0} (result : Result T Stop) (time : ℕ) (old new : Recording) (t t1 : Option (List Turn)) (w w1 : Option (List ℕ))
    (seats : List Seat) → seats ≡ old.seats → RanSo result (sweeps time (peers_in seats)) old new t t1 w w1
    → RanSo result (sweeps_all time) old new t t1 w w1
ran_sweep result time old new t t1 w w1 seats same ran station stands =
    subst (λ peers. Ran result old.door (sweeps time peers station) old new t t1 w w1) (ap peers_in same ∙ peers_are old station stands) (ran station stands)

-- it was broken off before it began
pub broke_sweep : {T : Type 0} {stop : Stop} → (result : Result T Stop) → IsErrAnd result (λ e. e ≡ stop) → (stop ≡ Limit → ⊥) → (time : ℕ)
    (old new : Recording) (t : Option (List Turn)) (w : Option (List ℕ)) → RanSo result (sweeps_all time) old new t t w w
broke_sweep result same never time old new t w station stands =
    handed result same _ _ _ _ (breaks_early (sweeps_all time station).deeds old.books t w
    (known_sweeps old.books.desk.config time (peers_at station.places) station stands.known).writable never)

-- An event.
module _ (config : Config) (time : ℕ) (what : What) (old mid : Recording) (t t1 : Option (List Turn)) (w w1 : Option (List ℕ)) where
  abbrev behind_event : AtDoor
  behind_event = door_with config time what old.seats old.door

  abbrev event_step : Station → Step
  event_step = follows config old.door.guests time what

  -- the clock may be due behind it
  abbrev pub hears_by : Bool → Station → Step
  hears_by b station =
      then_do (event_step station) (λ at. if b then then_do (turns_away time mid.door.guests at) (sweeps_all time) else resting at)

  abbrev hears_at : AtDoor → Station → Step
  hears_at door station = then_do (event_step station) (sweeps_where_due door time)

  -- no clock is due
  pub did_early : is_due mid.door.swept time ≡ false → RanHear done behind_event event_step old mid t t1 w w1
      → RanHear done (door_after config time what old.seats old.door) (hears config old.door time what) old mid t t1 w w1
  did_early e did station stands =
      let one = did station stands in
      let all = does_both (event_step station) resting old mid mid t t1 t1 w w1 w1 one
      (does_rest (event_step station).station mid t1 w1 one.stands) in
      subst (λ (seats : List Seat). DoesStep (swept_where_due time behind_event) (hears_at (door_with config time what seats old.door) station) old
      mid t t1 w w1) stands.seats_are
      (subst (λ (door : AtDoor). DoesStep (swept_where_due time door) (hears_at door station) old mid t t1 w w1) one.door_is
      (subst (λ (b : Bool). DoesStep (if b then swept_at time mid.door else mid.door) (hears_by b station) old mid t t1 w w1) (sym e)
      (record { does = all.does; stands = all.stands; door_is = refl })))

  -- the clock is due
  module _ (due : is_due mid.door.swept time ≡ true) (did : RanHear done behind_event event_step old mid t t1 w w1) (t2 t3 : Option (List Turn))
      (w2 : Option (List ℕ))
      (away : Grew t1 t2 (map shut (late_lines time mid.door.guests))) where
    turned_away : Does nobody nobody (map shuts (late_lines time mid.door.guests)) mid.books mid.books t1 t2 w1 w1
    turned_away =
        does_ask nobody (map shuts (late_lines time mid.door.guests)) mid.books t1 t2 w1 (shuts_items (late_lines time mid.door.guests))
        (subst (Grew t1 t2) (sym (shuts_asked (late_lines time mid.door.guests))) away)

    pub ran_due : {T : Type 0} (result : Result T Stop) (new : Recording)
        → RanSo result (sweeps_all time) (record mid { door = swept_at time mid.door }) new t2 t3 w1 w2
        → RanHear result (door_after config time what old.seats old.door) (hears config old.door time what) old new t t3 w w2
    ran_due {T} result new later station stands =
        subst (λ (seats : List Seat). Ran result (swept_where_due time behind_event) (hears_at (door_with config time what seats old.door) station) old
        new t t3 w w2) stands.seats_are
        (subst (λ (door : AtDoor). Ran result (swept_where_due time door) (hears_at door station) old new t t3 w w2) one.door_is
        (subst (λ (b : Bool). Ran result (if b then swept_at time mid.door else mid.door) (hears_by b station) old new t t3 w w2) (sym due)
        (by result (later (event_step station).station (stands_door (event_step station).station mid (swept_at time mid.door) one.stands)))))
      where
        one : DoesStep behind_event (event_step station) old mid t t1 w w1
        one = did station stands

        swept : Step
        swept = sweeps_all time (event_step station).station

        by : (r : Result T Stop) → Ran r (swept_at time mid.door) swept (record mid { door = swept_at time mid.door }) new t2 t3 w1 w2
            → Ran r (swept_at time mid.door) (hears_by true station) old new t t3 w w2
        by (Ok value) next = record {
          does = does_then nobody nobody (event_step station).deeds old.books mid.books t t1 w w1 one.does nobody
              (map shuts (late_lines time mid.door.guests) ++ swept.deeds) new.books t3 w2
              (does_then nobody nobody (map shuts (late_lines time mid.door.guests)) mid.books mid.books t1 t2 w1 w1 turned_away nobody
              swept.deeds new.books t3 w2 next.does);
          stands = next.stands;
          door_is = next.door_is;
        }
        by (Err stop) next =
            breaks_then nobody nobody (event_step station).deeds old.books mid.books t t1 w w1 one.does
            (map shuts (late_lines time mid.door.guests) ++ swept.deeds) t3 w2
            (breaks_then nobody nobody (map shuts (late_lines time mid.door.guests)) mid.books mid.books t1 t2 w1 w1 turned_away swept.deeds t3 w2 next)

-- it was broken off at the event itself
pub broke_follow : {T : Type 0} {stop : Stop} → (result : Result T Stop) → IsErrAnd result (λ e. e ≡ stop) → (config : Config) (time : ℕ) (what : What)
    (door : AtDoor) (old new : Recording) (t t1 : Option (List Turn)) (w w1 : Option (List ℕ)) → config ≡ old.books.desk.config → IsShort what
    → RanSo (broken stop) (follows config old.door.guests time what) old new t t1 w w1
    → RanHear result door (hears config old.door time what) old new t t1 w w1
broke_follow {T} {stop} result same config time what door old new t t1 w w1 is short breaks station stands =
    let first = follows config old.door.guests time what station in
    let door = door_with config time what (map seat_at station.places) old.door in
    let broken : BreaksAt (stop ≡ Limit) first.deeds old.books t t1 w w1 = breaks station stands in
    let known : Known config station = subst (λ c. Known c station) (sym is) stands.known in
    let writable : AllByRecursion (IsWritable config) (items_of first.deeds) =
    subst (λ c. AllByRecursion (IsWritable c) (items_of first.deeds)) (sym is) broken.writable in
    let step = known_follows config old.door.guests time what station known short (new_told config old.door.guests time what station writable) in
    handed result same _ _ _ _ (breaks_more first.deeds (sweeps_where_due door time first.station).deeds old.books t t1 w w1
    (subst (λ c. AllByRecursion (IsWritable c) (items_of (sweeps_where_due door time first.station).deeds)) is
    (known_where_due config time door first.station step.known).writable)
    broken)

-- the peers of the seats up to one, and of those behind it

pub peers_next : (seats : List Seat) (i : ℕ) (d : Seat) → i < length seats
    → peers_in (take (i + 1) seats) ≡ peers_in (take i seats) ++ (get_or seats i d).peer ∷ []
peers_next seats i d lt =
    ap peers_in (take_more seats i d lt) ∙ map-append (λ (s : Seat). s.peer) (take i seats) (get_or seats i d ∷ [])

pub peers_split : (seats : List Seat) (i : ℕ) (d : Seat) → i < length seats
    → peers_in (take i seats) ++ (get_or seats i d).peer ∷ peers_in (drop (i + 1) seats) ≡ peers_in seats
peers_split seats i d lt =
    sym (ap (λ (rest : List Seat). peers_in (take i seats) ++ peers_in rest) (drop_more seats i d lt))
    ∙ sym (map-append (λ (s : Seat). s.peer) (take i seats) (drop i seats)) ∙ ap peers_in (take-append-drop i seats)

-- a record has room for a piece that stands in the buffer
pub short_what : (came : Came) (buffer : List ℕ) → length buffer ≤ 65551 → IsShort (what_from came (drop 15 buffer))
short_what (Taken line from) buffer long = tt
short_what (Octets line count) buffer long = omega (arith, long, length-take count (drop 15 buffer), length-drop 15 buffer)
short_what (Ended line) buffer long = tt
short_what (Made line) buffer long = tt
short_what Nothing buffer long = tt

-- the clock on the wall was heard
pub passed_as : (moment : ℕ) (inside old : Recording) (books : Booked) → books ≡ (passing moment inside).books → inside ≡ old
    → ◌≡◌ {A = Recording} (record inside { books = books }) (passing moment old)
passed_as moment inside old books b e =
    ap (λ (x : Booked). let now : Recording = record inside { books = x } in now) b ∙ ap (passing moment) e
