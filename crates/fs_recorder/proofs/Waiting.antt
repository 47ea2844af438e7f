-- Connections that wait for their OPEN.
use Rattle.fs_recorder.proofs.PlaceWords.{door_with, follows, sym, Option, ap, length, subst, ℕ, List, ◌≡◌, ◌≤◌, ◌∙◌, Turn, Config, longest_payload}
use Rattle.fs_recorder.proofs.PlaceWords.{Recording, AtDoor, without_guest, Station, Step, admits, gives, hears_octets, BreaksAt, Stands, Ran}
use Rattle.fs_recorder.proofs.{PlaceWords.{RanHear, RanSo, Stop, Limit, IsErrAnd, Ok, Err, Result, broken, done}, Doing.{breaks_more, handed}}
use Rattle.fs_recorder.proofs.{Knowing.{admits_told, known_admits, known_octets}, Stepping.{ran_then}}
use Rattle.fs_base.specs.Gate.{what_from}
use Rattle.fs_base.specs.declared.Came.{Came}

-- it stands as it did, whatever waits
pub stands_door : (station : Station) (old : Recording) (door : AtDoor) → Stands station old → Stands station (record old { door = door })
stands_door station old door stands = record {
  played = stands.played;
  seats_are = stands.seats_are;
  live = stands.live;
  apart = stands.apart;
  known = stands.known;
}

-- what waits changes
pub changed_as : (change : AtDoor → AtDoor) (door : AtDoor) (inside old : Recording) → door ≡ change inside.door → inside ≡ old
    → ◌≡◌ {A = Recording} (record inside { door = door }) (record old { door = change old.door })
changed_as change door inside old b e =
    ap (λ (d : AtDoor). let now : Recording = record inside { door = d } in now) b
    ∙ ap (λ (r : Recording). let now : Recording = record r { door = change r.door } in now) e

-- a step was taken behind a change of what waits
pub ran_door : {T : Type 0} (result : Result T Stop) (door : AtDoor) (step : Station → Step) (old new : Recording) (t t1 : Option (List Turn))
    (w w1 : Option (List ℕ)) → RanSo result step (record old { door = door }) new t t1 w w1 → RanHear result door step old new t t1 w w1
ran_door (Ok value) door step old new t t1 w w1 did station stands =
    let one = did station (stands_door station old door stands) in
    record { does = one.does; stands = one.stands; door_is = one.door_is }
ran_door (Err stop) door step old new t t1 w w1 breaks station stands = breaks station (stands_door station old door stands)

-- what came is this
pub ran_came : {T : Type 0} (result : Result T Stop) (config : Config) (time : ℕ) (piece : List ℕ) (came this : Came) (old new : Recording)
    (t t1 : Option (List Turn)) (w w1 : Option (List ℕ)) → came ≡ this
    → RanHear result (door_with config time (what_from this piece) old.seats old.door) (follows config old.door.guests time (what_from this piece)) old new
    t t1 w w1
    → RanHear result (door_with config time (what_from came piece) old.seats old.door) (follows config old.door.guests time (what_from came piece)) old new
    t t1 w w1
ran_came result config time piece came this old new t t1 w w1 is ran =
    subst (λ (c : Came). RanHear result (door_with config time (what_from c piece) old.seats old.door)
    (follows config old.door.guests time (what_from c piece)) old new t t1 w w1) (sym is) ran

-- the first octets of a connection that waits, and then they as octets of one
module _ (line time : ℕ) (piece : List ℕ) (old mid : Recording) (t t1 : Option (List Turn)) (w w1 : Option (List ℕ)) where
  abbrev config : Config
  config = old.books.desk.config

  abbrev first : Station → Step
  first = admits config line piece old.door.guests

  pub ran_give : {T : Type 0} (result : Result T Stop) (new : Recording) (t2 : Option (List Turn)) (w2 : Option (List ℕ))
      → RanHear done (without_guest line old.door) first old mid t t1 w w1
      → RanSo result (hears_octets mid.books.desk.config line time piece) mid new t1 t2 w1 w2
      → RanHear result (without_guest line old.door) (gives config line time piece old.door.guests) old new t t2 w w2
  ran_give result new t2 w2 did later station stands =
      let one = did station stands in
      ran_then result (first station) (hears_octets config line time piece) old mid new t t1 t2 w w1 w2 one
      (subst (λ (c : Config). Ran result mid.door (hears_octets c line time piece (first station).station) mid new t1 t2 w1 w2) one.does.config_is
      (later (first station).station one.stands))

  pub broke_give : {T : Type 0} {stop : Stop} → (result : Result T Stop) → IsErrAnd result (λ e. e ≡ stop) → (door : AtDoor)
      → length piece ≤ longest_payload → RanSo (broken stop) first old mid t t1 w w1
      → RanHear result door (gives config line time piece old.door.guests) old mid t t1 w w1
  broke_give {T} {stop} result same door short breaks station stands =
      let broken : BreaksAt (stop ≡ Limit) (first station).deeds old.books t t1 w w1 = breaks station stands in
      let step = known_admits config line piece old.door.guests station stands.known (admits_told config line piece old.door.guests station broken.writable) in
      handed result same _ _ _ _
      (breaks_more (first station).deeds (hears_octets config line time piece (first station).station).deeds old.books t t1 w w1
      (known_octets config line time piece (first station).station short step.known).writable broken)
