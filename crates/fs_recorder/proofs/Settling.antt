-- How it stands behind the steps of one session.
use Rattle.fs_recorder.proofs.Words.{ℕ, Bool, true, false, List, [], ◌∷◌, ◌++◌, Option, Some, ◌==◌, ◌≡◌, ◌≢◌, not, refl, ap, sym, subst, ◌∙◌}
use Rattle.fs_recorder.proofs.Words.{true≢false, append-nil, AllByRecursion, AreApart, Turn, Config, IsNumbered, Item, received, was_lost, HandsPeer}
use Rattle.fs_recorder.proofs.Words.{KeepsOthers, Played, PlayedBut, RepliesBehind, expired_after, expired_with, session_at, standing_at_desk}
use Rattle.fs_recorder.proofs.Words.{standing_of, nobody, Point, Booked, Tells, Does, Recording, answered, is_closed, items_of, leaves, says, tells}
use Rattle.fs_recorder.proofs.Words.{Place, Station, doing, expires, handed_point, moved, peers_at, place_for, places_without, receives, replies_to}
use Rattle.fs_recorder.proofs.Words.{seat_at, settles, then_do, wakes, without, DoesStep, IsOpenAt, Left, Settled, Stands, Answered}
use Rattle.fs_recorder.proofs.Doing.{does_tell, does_then, items_both, says_items}
use Rattle.fs_recorder.proofs.Places.{apart_left, at_found, open_moved, open_without, peers_left, peers_moved, seats_moved, seats_without}
use Rattle.fs_recorder.proofs.Sessions.{Ticked, not_shut, place_open, point_on, replies_are, session_on, ticked_at, ticked_shut, ticked_stays}
use Rattle.fs_recorder.proofs.Waking.{Woke, answered_so, does_woke, expired_none, none_behind}
use Rattle.fs_speaker.specs.End.{ticked}
use Rattle.fs_speaker.specs.State.{standing_by}
use Rattle.fs_desk.proofs.Standing.{desk_stands}

-- where the session of a place goes on
pub stands_moved : (place : Place) (now : Point) (told : List Item) (station : Station) (old mid new : Recording) → Stands station old
    → mid.books.desk.config ≡ old.books.desk.config → mid.seats ≡ old.seats
    → ((number : ℕ) → (number == place.peer) ≡ false → session_at number mid.books.desk.sessions ≡ session_at number old.books.desk.sessions)
    → IsOpenAt mid.books.desk (record place { point = now }) → Played old.books.desk.config told mid.books.desk
    → Settled true (seat_at place) mid new → Stands (record { told = told; places = moved place.peer now station.places }) new
stands_moved place now told station old mid new stands config_is seats_are others is_open played settled =
    let config : old.books.desk.config ≡ new.books.desk.config = sym config_is ∙ ap (λ (b : Booked). b.desk.config) (sym settled.0) in
    record {
      played = subst (λ (b : Booked). Played b.desk.config told b.desk) (sym settled.0) (subst (λ c. Played c told mid.books.desk) (sym config_is) played);
      seats_are = settled.1.0 ∙ seats_are ∙ stands.seats_are ∙ sym (seats_moved place.peer now station.places);
      live = subst (λ (b : Booked). AllByRecursion (IsOpenAt b.desk) (moved place.peer now station.places)) (sym settled.0)
          (open_moved place.peer old.books.desk mid.books.desk others now is_open.session is_open.session_is is_open.alive is_open.point_is station.places
          stands.live);
      apart = subst AreApart (sym (peers_moved place.peer now station.places)) stands.apart;
      known = subst (AllByRecursion (IsNumbered new.books.desk.config)) (sym (peers_moved place.peer now station.places))
          (subst (λ c. AllByRecursion (IsNumbered c) (peers_at station.places)) config stands.known);
    }

-- where it goes
pub stands_left : (place : Place) (told : List Item) (expired : ℕ → Bool) (station : Station) (old mid new : Recording) → Stands station old
    → place_for place.peer station.places ≡ Some place → mid.seats ≡ old.seats
    → ((number : ℕ) → (number == place.peer) ≡ false → session_at number mid.books.desk.sessions ≡ session_at number old.books.desk.sessions)
    → PlayedBut expired old.books.desk.config told mid.books.desk
    → ((number : ℕ) → expired_after (was_lost place.peer) expired number ≡ false)
    → Left (seat_at place) mid new → new.books.desk.config ≡ old.books.desk.config
    → Stands (record { told = told ++ was_lost place.peer ∷ []; places = places_without place.line station.places }) new
stands_left place told expired station old mid new stands found seats_are others played none left config_is =
    let config : old.books.desk.config ≡ new.books.desk.config = sym config_is in
    record {
      played = subst (λ c. Played c (told ++ was_lost place.peer ∷ []) new.books.desk) config
          (expired_none (expired_after (was_lost place.peer) expired) old.books.desk.config (told ++ was_lost place.peer ∷ []) new.books.desk
          (left.plays expired old.books.desk.config told played) none);
      seats_are = left.seats_are ∙ ap (without place.line) (seats_are ∙ stands.seats_are) ∙ seats_without place.line station.places;
      live = open_without place.peer old.books.desk new.books.desk
          (λ number e. left.others expired old.books.desk.config told played number e ∙ others number e) station.places place stands.apart found stands.live;
      apart = apart_left (λ (other : Place). not (other.line == place.line)) station.places stands.apart;
      known = subst (λ c. AllByRecursion (IsNumbered c) (peers_at (places_without place.line station.places))) config
          (peers_left (IsNumbered old.books.desk.config) (λ (other : Place). not (other.line == place.line)) station.places stands.known);
    }

-- so where nothing was done before
pub stands_gone : (place : Place) (station : Station) (old new : Recording) → Stands station old → place_for place.peer station.places ≡ Some place
    → Left (seat_at place) old new → new.books.desk.config ≡ old.books.desk.config
    → Stands (record { told = station.told ++ was_lost place.peer ∷ []; places = places_without place.line station.places }) new
stands_gone place station old new stands found left config_is =
    stands_left place station.told nobody station old old new stands found refl (λ _ _. refl) stands.played (λ _. refl) left config_is

-- what is told where a session says something, and where it closes

pub told_says : (line : ℕ) (text : List ℕ) (told : List Item) → told ++ items_of (says line text) ≡ told
told_says line text told = ap (λ items. told ++ items) (says_items line text) ∙ append-nil told

pub told_leaves : (place : Place) (text : List ℕ) (told : List Item)
    → told ++ items_of (says place.line text ++ leaves (seat_at place)) ≡ told ++ was_lost place.peer ∷ []
told_leaves place text told =
    ap (λ items. told ++ items) (items_both (says place.line text) (leaves (seat_at place))
    ∙ ap (λ items. items ++ was_lost place.peer ∷ []) (says_items place.line text))

pub woke_at : (time : ℕ) (place : Place) (old mid : Recording) (station : Station) → Stands station old → place_for place.peer station.places ≡ Some place
    → Woke time place.peer old mid → Ticked time place old.books.desk mid.books.desk mid.replies
woke_at time place old mid station stands found w =
    ticked_at time place old.books.desk mid.books.desk mid.replies
    (at_found (IsOpenAt old.books.desk) (λ (other : Place). other.peer == place.peer) station.places place stands.live found) w.ticks

module _ (time : ℕ) (place : Place) (old mid new : Recording) (turns turns' : Option (List Turn)) (before now : Option (List ℕ)) (station : Station)
    (stands : Stands station old) (found : place_for place.peer station.places ≡ Some place) (w : Woke time place.peer old mid) where
  abbrev to : Point
  to = (ticked time place.point).point

  abbrev text : List ℕ
  text = (ticked time place.point).text

  abbrev at : Ticked time place old.books.desk mid.books.desk mid.replies
  at = woke_at time place old mid station stands found w

  woke_does : (lives : Bool) → Answered (seat_at place) lives mid new turns turns' before now
      → Does nobody nobody (answered lives (seat_at place) text) old.books new.books turns turns' before now
  woke_does lives a =
      subst (λ said. Does nobody nobody (answered lives (seat_at place) said) old.books new.books turns turns' before now) at.made.text
      (does_woke time (seat_at place) lives old mid new turns turns' before now w a)

  woke_so : (lives : Bool) → expires time place ≡ not lives → Answered (seat_at place) lives mid new turns turns' before now
      → DoesStep old.door (settles (not lives) place to text station) old new turns turns' before now
  woke_so true e a = record {
    does = woke_does true a;
    stands = subst (λ told. Stands (record { told = told; places = moved place.peer to station.places }) new) (sym (told_says place.line text station.told))
        (stands_moved place to station.told station old mid new stands w.config_is w.seats_are at.others
        (record { session = at.session; session_is = at.session_is; alive = at.made.alive e; point_is = at.made.point_is e })
        (w.stays (ticked_stays time place old.books.desk mid.books.desk mid.replies at e) nobody old.books.desk.config station.told stands.played)
        a.settled);
    door_is = a.settled.1.1 ∙ w.door_is;
  }
  woke_so false e a =
      let is_open : IsOpenAt old.books.desk place =
      at_found (IsOpenAt old.books.desk) (λ (other : Place). other.peer == place.peer) station.places place stands.live found in
      let shut : is_closed (standing_at_desk mid.books.desk place.peer) ≡ true = ticked_shut time place old.books.desk mid.books.desk mid.replies at ∙ e in
      let other : standing_at_desk mid.books.desk place.peer ≢ standing_at_desk old.books.desk place.peer =
      λ same. true≢false (sym shut ∙ ap is_closed same ∙ place_open old.books.desk place is_open) in
      record {
        does = woke_does false a;
        stands = subst (λ told. Stands (record { told = told; places = places_without place.line station.places }) new)
            (sym (told_leaves place text station.told))
            (stands_left place station.told (expired_with place.peer nobody) station old mid new stands found w.seats_are at.others
            (w.expired other nobody old.books.desk.config station.told stands.played) (none_behind place.peer) a.settled
            ((a.answers nobody).config_is ∙ w.config_is));
        door_is = a.settled.door_is ∙ w.door_is;
      }

  -- so that it closes, and not otherwise
  pub woke_lives : (lives : Bool) → is_closed (standing_at_desk mid.books.desk place.peer) ≡ not lives → expires time place ≡ not lives
  woke_lives lives closes = sym (ticked_shut time place old.books.desk mid.books.desk mid.replies at) ∙ closes

  pub woke_step : (lives : Bool) → Answered (seat_at place) lives mid new turns turns' before now
      → DoesStep old.door (wakes time place station) old new turns turns' before now
  woke_step lives a =
      let e : expires time place ≡ not lives = woke_lives lives a.closes in
      subst (λ b. DoesStep old.door (settles b place to text station) old new turns turns' before now) (sym e) (woke_so lives e a)

-- A piece was written, and heard by a session.
pub record Received (piece : List ℕ) (peer : ℕ) (old mid : Recording) (before now : Option (List ℕ)) : Type 0 where
  pub told : Tells (received peer piece) old.books mid.books before now
  pub hands : HandsPeer peer old.books.desk mid.books.desk piece [] mid.replies
  pub others : KeepsOthers peer old.books.desk mid.books.desk
  pub replied : RepliesBehind peer old.books.desk piece [] mid.replies
  pub seats_are : mid.seats ≡ old.seats
  pub door_is : mid.door ≡ old.door

module _ (piece : List ℕ) (place : Place) (old mid : Recording) (before now : Option (List ℕ)) (station : Station)
    (stands : Stands station old) (found : place_for place.peer station.places ≡ Some place) (r : Received piece place.peer old mid before now) where
  abbrev config : Config
  config = old.books.desk.config

  abbrev told_now : List Item
  told_now = station.told ++ received place.peer piece ∷ []

  abbrev to_piece : Point
  to_piece = handed_point config place.peer place.point piece

  abbrev shuts_now : Bool
  shuts_now = is_closed (standing_of config told_now place.peer)

  received_open : IsOpenAt old.books.desk place
  received_open = at_found (IsOpenAt old.books.desk) (λ (other : Place). other.peer == place.peer) station.places place stands.live found

  received_played : Played config told_now mid.books.desk
  received_played = r.told.plays nobody config station.told stands.played

  -- how it stands with the peer is by its octets
  pub received_stands : is_closed (standing_at_desk mid.books.desk place.peer) ≡ shuts_now
  received_stands = ap is_closed (desk_stands config told_now mid.books.desk place.peer received_played)

  pub received_says : replies_to config place.peer station.told piece ≡ mid.replies
  received_says = replies_are config station.told old.books.desk place piece mid.replies received_open stands.played r.replied

  abbrev said : List ℕ
  said = replies_to config place.peer station.told piece

  abbrev station_now : Station
  station_now = record { told = told_now; places = station.places }

  module _ (new : Recording) (turns turns' : Option (List Turn)) (later : Option (List ℕ)) where
    received_so : (lives : Bool) → shuts_now ≡ not lives → Answered (seat_at place) lives mid new turns turns' now later
        → Stands (settles (not lives) place to_piece said station_now).station new
    received_so true e a =
        let on = session_on config station.told old.books.desk mid.books.desk place piece received_open stands.played received_played in
        let alive = not_shut on.0 (ap (λ kept. is_closed (standing_by kept)) (sym on.1) ∙ received_stands ∙ e) in
        subst (λ told. Stands (record { told = told; places = moved place.peer to_piece station.places }) new) (sym (told_says place.line said told_now))
        (stands_moved place to_piece told_now station old mid new stands r.told.config_is r.seats_are
        (r.others nobody config station.told stands.played)
        (record {
          session = on.0;
          session_is = on.1;
          alive = alive;
          point_is = point_on config station.told old.books.desk mid.books.desk place piece mid.replies on.0 received_open stands.played r.hands on.1 alive;
        })
        received_played a.settled)
    received_so false e a =
        subst (λ told. Stands (record { told = told; places = places_without place.line station.places }) new) (sym (told_leaves place said told_now))
        (stands_left place told_now nobody station old mid new stands found r.seats_are
        (r.others nobody config station.told stands.played) received_played (λ _. refl) a.settled ((a.answers nobody).config_is ∙ r.told.config_is))

    received_door : (lives : Bool) → Answered (seat_at place) lives mid new turns turns' now later → new.door ≡ old.door
    received_door true a = a.settled.1.1 ∙ r.door_is
    received_door false a = a.settled.door_is ∙ r.door_is

    settled_deeds : (lives : Bool) → (settles (not lives) place to_piece said station_now).deeds ≡ answered lives (seat_at place) said
    settled_deeds true = refl
    settled_deeds false = refl

    received_does : (lives : Bool) → Answered (seat_at place) lives mid new turns turns' now later
        → Does nobody nobody (settles (not lives) place to_piece said station_now).deeds mid.books new.books turns turns' now later
    received_does lives a =
        subst (λ deeds. Does nobody nobody deeds mid.books new.books turns turns' now later)
        (ap (answered lives (seat_at place)) (sym received_says) ∙ sym (settled_deeds lives))
        (answered_so (seat_at place) lives mid new turns turns' now later a)

    pub received_step : (lives : Bool) → Answered (seat_at place) lives mid new turns turns' now later
        → DoesStep old.door (receives config place piece station) old new turns turns' before later
    received_step lives a =
        let e : shuts_now ≡ not lives = sym received_stands ∙ a.closes in
        subst (λ b. DoesStep old.door (then_do (doing (tells (received place.peer piece) ∷ []) station.places station)
        (settles b place to_piece said)) old new turns turns' before later)
        (sym e)
        (record {
          does = does_then nobody nobody (tells (received place.peer piece) ∷ []) old.books mid.books turns turns before now
              (does_tell (received place.peer piece) old.books mid.books turns before now r.told nobody)
              nobody (settles (not lives) place to_piece said station_now).deeds new.books turns' later (received_does lives a);
          stands = received_so lives e a;
          door_is = received_door lives a;
        })
