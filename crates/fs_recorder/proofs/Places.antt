-- The connections that speak for peers, and their seats.
use Rattle.fs_recorder.proofs.Words.{ℕ, Bool, true, false, List, [], ◌∷◌, Some, None, ◌==◌, ◌≡◌, if◌then◌else◌, filter, find, map, not, refl, ap, sym}
use Rattle.fs_recorder.proofs.Words.{subst, ◌∙◌, true≢false, eqb-true, AllByRecursion, AreApart, eq_itself, session_at, point_of, Live, Point, Desked}
use Rattle.fs_recorder.proofs.Words.{Seat, without, Place, moved, peers_at, place_for, place_of, places_without, seat_at, IsOpenAt}

pub eq_flip : (a b : ℕ) → (a == b) ≡ false → (b == a) ≡ false
eq_flip a b e = by (b == a) refl
  where
    by : (c : Bool) → (b == a) ≡ c → c ≡ false
    by true f = absurd (true≢false (sym (subst (λ n. (a == n) ≡ true) (sym (eqb-true b a f)) (eq_itself a)) ∙ e))
    by false f = refl

-- the seats of places

pub seats_without : (line : ℕ) (places : List Place) → without line (map seat_at places) ≡ map seat_at (places_without line places)
seats_without line [] = refl
seats_without line (place ∷ places) = by (place.line == line) (seats_without line places)
  where
    by : (b : Bool) → without line (map seat_at places) ≡ map seat_at (places_without line places)
        → (if not b then seat_at place ∷ without line (map seat_at places) else without line (map seat_at places))
        ≡ map seat_at (if not b then place ∷ places_without line places else places_without line places)
    by true e = e
    by false e = ap (λ seats. seat_at place ∷ seats) e

pub seats_moved : (peer : ℕ) (now : Point) (places : List Place) → map seat_at (moved peer now places) ≡ map seat_at places
seats_moved peer now [] = refl
seats_moved peer now (place ∷ places) = by (place.peer == peer) (seats_moved peer now places)
  where
    by : (b : Bool) → map seat_at (moved peer now places) ≡ map seat_at places
        → seat_at (if b then record place { point = now } else place) ∷ map seat_at (moved peer now places) ≡ seat_at place ∷ map seat_at places
    by true e = ap (λ seats. seat_at place ∷ seats) e
    by false e = ap (λ seats. seat_at place ∷ seats) e

pub peers_moved : (peer : ℕ) (now : Point) (places : List Place) → peers_at (moved peer now places) ≡ peers_at places
peers_moved peer now [] = refl
peers_moved peer now (place ∷ places) = by (place.peer == peer) (peers_moved peer now places)
  where
    by : (b : Bool) → peers_at (moved peer now places) ≡ peers_at places
        → (if b then record place { point = now } else place).peer ∷ peers_at (moved peer now places) ≡ place.peer ∷ peers_at places
    by true e = ap (λ peers. place.peer ∷ peers) e
    by false e = ap (λ peers. place.peer ∷ peers) e

-- the place of a seat that is found
pub record FoundAt (test : Place → Bool) (places : List Place) (seat : Seat) : Type 0 where
  pub place : Place
  pub found : find test places ≡ Some place
  pub seated : seat_at place ≡ seat

pub found_at : (test : Seat → Bool) (places : List Place) (seat : Seat) → find test (map seat_at places) ≡ Some seat
    → FoundAt (λ place. test (seat_at place)) places seat
found_at test [] seat e = absurd cc
found_at test (first ∷ places) seat e = by (test (seat_at first)) refl (found_at test places seat) e
  where
    by : (b : Bool) → test (seat_at first) ≡ b → (find test (map seat_at places) ≡ Some seat → FoundAt (λ place. test (seat_at place)) places seat)
        → (if b then Some (seat_at first) else find test (map seat_at places)) ≡ Some seat → FoundAt (λ place. test (seat_at place)) (first ∷ places) seat
    by true is rest f = record {
      place = first;
      found = ap (λ b. if b then Some first else find (λ place. test (seat_at place)) places) is;
      seated = (let same : seat_at first ≡ seat = cc in same);
    }
    by false is rest f =
        let later = rest f in
        record {
          place = later.place;
          found = ap (λ b. if b then Some first else find (λ place. test (seat_at place)) places) is ∙ later.found;
          seated = later.seated;
        }

pub found_none : (test : Seat → Bool) (places : List Place) → find test (map seat_at places) ≡ None → find (λ place. test (seat_at place)) places ≡ None
found_none test [] e = refl
found_none test (first ∷ places) e = by (test (seat_at first)) (found_none test places) e
  where
    by : (b : Bool) → (find test (map seat_at places) ≡ None → find (λ place. test (seat_at place)) places ≡ None)
        → (if b then Some (seat_at first) else find test (map seat_at places)) ≡ None
        → (if b then Some first else find (λ place. test (seat_at place)) places) ≡ None
    by true rest f = absurd cc
    by false rest f = rest f

-- what holds of all places, and of their peers

pub at_found : (P : Place → Type 0) (test : Place → Bool) (places : List Place) (place : Place) → AllByRecursion P places
    → find test places ≡ Some place → P place
at_found P test [] place all e = absurd cc
at_found P test (first ∷ places) place all e = by (test first) (at_found P test places place all.1) e
  where
    by : (b : Bool) → (find test places ≡ Some place → P place) → (if b then Some first else find test places) ≡ Some place → P place
    by true rest f = let same : first ≡ place = cc in subst P same all.0
    by false rest f = rest f

pub peers_all : (P : ℕ → Type 0) (places : List Place) → AllByRecursion P (peers_at places) → AllByRecursion (λ (place : Place). P place.peer) places
peers_all P [] all = tt
peers_all P (place ∷ places) all = (all.0, peers_all P places all.1)

places_left : (P : Place → Type 0) (test : Place → Bool) (places : List Place) → AllByRecursion P places → AllByRecursion P (filter test places)
places_left P test [] all = tt
places_left P test (place ∷ places) all = by (test place) (places_left P test places all.1)
  where
    by : (b : Bool) → AllByRecursion P (filter test places) → AllByRecursion P (if b then place ∷ filter test places else filter test places)
    by true later = (all.0, later)
    by false later = later

pub peers_left : (P : ℕ → Type 0) (test : Place → Bool) (places : List Place) → AllByRecursion P (peers_at places)
    → AllByRecursion P (peers_at (filter test places))
peers_left P test [] all = tt
peers_left P test (place ∷ places) all = by (test place) (peers_left P test places all.1)
  where
    by : (b : Bool) → AllByRecursion P (peers_at (filter test places))
        → AllByRecursion P (peers_at (if b then place ∷ filter test places else filter test places))
    by true later = (all.0, later)
    by false later = later

pub apart_left : (test : Place → Bool) (places : List Place) → AreApart (peers_at places) → AreApart (peers_at (filter test places))
apart_left test [] apart = tt
apart_left test (place ∷ places) apart = by (test place) (apart_left test places apart.1)
  where
    by : (b : Bool) → AreApart (peers_at (filter test places)) → AreApart (peers_at (if b then place ∷ filter test places else filter test places))
    by true later = (peers_left (λ peer. (place.peer == peer) ≡ false) test places apart.0, later)
    by false later = later

-- the place of a line is that of its peer
pub place_found : (line : ℕ) (places : List Place) (place : Place) → AreApart (peers_at places) → place_of line places ≡ Some place
    → place_for place.peer places ≡ Some place
place_found line [] place apart e = absurd cc
place_found line (first ∷ places) place apart e = by (first.line == line) (place_found line places place apart.1) e
  where
    by : (b : Bool) → (place_of line places ≡ Some place → place_for place.peer places ≡ Some place)
        → (if b then Some first else place_of line places) ≡ Some place → place_for place.peer (first ∷ places) ≡ Some place
    by true rest f =
        let same : first ≡ place = cc in
        subst (λ (one : Place). place_for one.peer (first ∷ places) ≡ Some one) same
        (ap (λ b. if b then Some first else place_for first.peer places) (eq_itself first.peer))
    by false rest f =
        ap (λ b. if b then Some first else place_for place.peer places)
        (at_found (λ (other : Place). (first.peer == other.peer) ≡ false) (λ (other : Place). other.line == line) places place
        (peers_all (λ peer. (first.peer == peer) ≡ false) places apart.0) f)
        ∙ rest f

pub place_is : (peer : ℕ) (places : List Place) (place : Place) → place_for peer places ≡ Some place → place.peer ≡ peer
place_is peer [] place e = absurd cc
place_is peer (first ∷ places) place e = by (first.peer == peer) refl (place_is peer places place) e
  where
    by : (b : Bool) → (first.peer == peer) ≡ b → (place_for peer places ≡ Some place → place.peer ≡ peer)
        → (if b then Some first else place_for peer places) ≡ Some place → place.peer ≡ peer
    by true is rest f = let same : first ≡ place = cc in subst (λ (one : Place). one.peer ≡ peer) same (eqb-true first.peer peer is)
    by false is rest f = rest f

-- the places of other lines are of other peers
pub others_left : (peer : ℕ) (places : List Place) (place : Place) → AreApart (peers_at places) → place_for peer places ≡ Some place
    → AllByRecursion (λ (other : Place). (other.peer == peer) ≡ false) (places_without place.line places)
others_left peer [] place apart e = absurd cc
others_left peer (first ∷ places) place apart e = by (first.peer == peer) refl (others_left peer places place apart.1) e
  where
    kept : (b : Bool) → (first.peer == peer) ≡ false → AllByRecursion (λ (other : Place). (other.peer == peer) ≡ false) (places_without place.line places)
        → AllByRecursion (λ (other : Place). (other.peer == peer) ≡ false) (if not b then first ∷ places_without place.line places
        else places_without place.line places)
    kept true is later = later
    kept false is later = (is, later)

    by : (b : Bool) → (first.peer == peer) ≡ b
        → (place_for peer places ≡ Some place → AllByRecursion (λ (other : Place). (other.peer == peer) ≡ false) (places_without place.line places))
        → (if b then Some first else place_for peer places) ≡ Some place
        → AllByRecursion (λ (other : Place). (other.peer == peer) ≡ false) (places_without place.line (first ∷ places))
    by true is rest f =
        let same : first ≡ place = cc in
        let own : first.peer ≡ peer = eqb-true first.peer peer is in
        let apart_now : AllByRecursion (λ other. (peer == other) ≡ false) (peers_at places) =
        subst (λ p. AllByRecursion (λ other. (p == other) ≡ false) (peers_at places)) own apart.0 in
        subst (λ (one : Place). AllByRecursion (λ (other : Place). (other.peer == peer) ≡ false) (places_without one.line (first ∷ places))) same
        (subst (λ b. AllByRecursion (λ (other : Place). (other.peer == peer) ≡ false) (if not b then first ∷ places_without first.line places
        else places_without first.line places)) (sym (eq_itself first.line))
        (places_left (λ (other : Place). (other.peer == peer) ≡ false) (λ (other : Place). not (other.line == first.line)) places
        (flipped places apart_now)))
      where
        flipped : (some : List Place) → AllByRecursion (λ other. (peer == other) ≡ false) (peers_at some)
            → AllByRecursion (λ (other : Place). (other.peer == peer) ≡ false) some
        flipped [] all = tt
        flipped (one ∷ some) all = (eq_flip peer one.peer all.0, flipped some all.1)
    by false is rest f = kept (first.line == place.line) is (rest f)

-- the place that is moved is found where it was
pub place_moved : (peer : ℕ) (now : Point) (places : List Place) (place : Place) → place_for peer places ≡ Some place
    → place_for peer (moved peer now places) ≡ Some (record place { point = now })
place_moved peer now [] place e = absurd cc
place_moved peer now (first ∷ places) place e = by (first.peer == peer) refl (place_moved peer now places place) e
  where
    by : (b : Bool) → (first.peer == peer) ≡ b
        → (place_for peer places ≡ Some place → place_for peer (moved peer now places) ≡ Some (record place { point = now }))
        → (if b then Some first else place_for peer places) ≡ Some place
        → place_for peer ((if b then record first { point = now } else first) ∷ moved peer now places) ≡ Some (record place { point = now })
    by true is rest f =
        let same : first ≡ place = cc in
        ap (λ b. if b then Some (record first { point = now }) else place_for peer (moved peer now places)) is
        ∙ ap (λ (one : Place). Some (record one { point = now })) same
    by false is rest f =
        ap (λ b. if b then Some first else place_for peer (moved peer now places)) is ∙ rest f

-- sessions that stay open

pub opened : (old new : Desked) (place : Place) → session_at place.peer new.sessions ≡ session_at place.peer old.sessions → IsOpenAt old place
    → IsOpenAt new place
opened old new place same is = record { session = is.session; session_is = same ∙ is.session_is; alive = is.alive; point_is = is.point_is }

-- where the sessions of the other peers stay, and that of this one stands at a point
module _ (peer : ℕ) (old new : Desked) (others : (number : ℕ) → (number == peer) ≡ false
    → session_at number new.sessions ≡ session_at number old.sessions) where
  pub open_moved : (now : Point) (session : Live) → session_at peer new.sessions ≡ Some session → session.closed ≡ None → point_of session ≡ now
      → (places : List Place) → AllByRecursion (IsOpenAt old) places → AllByRecursion (IsOpenAt new) (moved peer now places)
  open_moved now session own alive point_is [] all = tt
  open_moved now session own alive point_is (first ∷ places) all = (by (first.peer == peer) refl, open_moved now session own alive point_is places all.1)
    where
      by : (b : Bool) → (first.peer == peer) ≡ b → IsOpenAt new (if b then record first { point = now } else first)
      by true is = record {
        session = session;
        session_is = subst (λ p. session_at p new.sessions ≡ Some session) (sym (eqb-true first.peer peer is)) own;
        alive = alive;
        point_is = point_is;
      }
      by false is = opened old new first (others first.peer is) all.0

  -- so where it is none any more
  pub open_left : (places : List Place) → AllByRecursion (λ (place : Place). (place.peer == peer) ≡ false) places → AllByRecursion (IsOpenAt old) places
      → AllByRecursion (IsOpenAt new) places
  open_left [] apart all = tt
  open_left (first ∷ places) apart all = (opened old new first (others first.peer apart.0) all.0, open_left places apart.1 all.1)

  pub open_without : (places : List Place) (place : Place) → AreApart (peers_at places) → place_for peer places ≡ Some place
      → AllByRecursion (IsOpenAt old) places → AllByRecursion (IsOpenAt new) (places_without place.line places)
  open_without places place apart found all =
      open_left (places_without place.line places) (others_left peer places place apart found)
      (places_left (IsOpenAt old) (λ (other : Place). not (other.line == place.line)) places all)
