-- Steps that were taken, and steps that were broken off.
use Rattle.fs_recorder.proofs.Words.{Answered, longest_payload, length, ◌≤◌, ℕ, Bool, true, false, List, [], ◌∷◌, ◌++◌, Option, Some, None, ◌==◌, ◌-◌}
use Rattle.fs_recorder.proofs.Words.{◌≡◌, not, refl, ap, sym, subst, ◌∙◌, ◌+◌, true≢false, if◌then◌else◌, nat_lt, AllByRecursion, IsWritable, Grew}
use Rattle.fs_recorder.proofs.Words.{Grew-refl, GrewPart, Turn, said, Config, IsNumbered, received, was_lost, HandsPeer, KeepsOthers, RepliesBehind}
use Rattle.fs_recorder.proofs.Words.{TicksPeer, StaysPlayed, ExpiresPlayed, ExpiresSo, standing_at_desk, nobody, Point, AtDoor, Booked, Scribed}
use Rattle.fs_recorder.proofs.Words.{Tells, TellsPart, Deed, Does, Recording, answered, is_closed, items_of, leaves, says, sends, tells, text_at}
use Rattle.fs_recorder.proofs.Words.{stands_established, Place, Station, Step, expires, handed_point, hurries, hurries_where_late, hurries_where_new}
use Rattle.fs_recorder.proofs.Words.{is_early, is_established, moved, open_time, place_for, place_of, receives, replies_to, resting, seat_at, settles}
use Rattle.fs_recorder.proofs.Words.{then_do, wakes, woken, Seat, seat_of, BreaksAt, DoesStep, IsOpenAt, Left, Stands, WakesSo, Ran, RanAnswer, RanAt}
use Rattle.fs_recorder.proofs.Words.{RanSo, Stop, Limit, IsErrAnd, IsErrOf, Ok, Err, Result, IfOk, OnOk, OnErr, expired_after, done}
use Rattle.fs_recorder.proofs.Doing.{breaks_early, breaks_more, breaks_tell, breaks_then, breaks_where, does_ask, does_tell, does_then, items_both}
use Rattle.fs_recorder.proofs.Doing.{says_items, handed}
use Rattle.fs_recorder.proofs.Places.{FoundAt, at_found, found_at, found_none, peers_all, place_found, place_is, place_moved}
use Rattle.fs_recorder.proofs.{Sessions.{open_stands}, Waking.{Woke}}
use Rattle.fs_recorder.proofs.Settling.{Received, received_says, received_stands, received_step, stands_gone, woke_at, woke_lives, woke_step}
use Rattle.fs_speaker.specs.declared.Standing.TheVariants.{Live as LiveIn}
use Rattle.fs_speaker.specs.declared.State.{State}
use Rattle.fs_speaker.specs.declared.State.TheVariants.{WaitOpen, WaitKeep, Established, Closed}
use Rattle.fs_speaker.specs.End.{ticked}
use Rattle.fs_speaker.specs.Side.{notice_text}
use Rattle.fs_speaker.specs.State.{standing_by}

-- the place of a seat, where the seat is seen as its own
own_found : (seat : Seat) (places : List Place) (place : Place) → place_for seat.peer places ≡ Some place → place_for place.peer places ≡ Some place
own_found seat places place found = subst (λ p. place_for p places ≡ Some place) (sym (place_is seat.peer places place found)) found

pub flipped : (a b : Bool) → a ≡ not b → b ≡ not a
flipped a true e = sym (ap not e)
flipped a false e = sym (ap not e)

-- the peer of a place is a configured one
place_known : (station : Station) (old : Recording) (stands : Stands station old) (peer : ℕ) (place : Place) → place_for peer station.places ≡ Some place
    → IsNumbered old.books.desk.config place.peer
place_known station old stands peer place found =
    at_found (λ (other : Place). IsNumbered old.books.desk.config other.peer) (λ (other : Place). other.peer == peer) station.places place
    (peers_all (IsNumbered old.books.desk.config) station.places stands.known) found

-- nothing is done
pub does_rest : (station : Station) (old : Recording) (turns : Option (List Turn)) (written : Option (List ℕ)) → Stands station old
    → DoesStep old.door (resting station) old old turns turns written written
does_rest station old turns written stands = record {
  does = does_ask nobody [] old.books turns turns written refl (Grew-refl turns);
  stands = stands;
  door_is = refl;
}

-- one step, and then another one
pub does_both : {door : AtDoor} → (first : Step) (later : Station → Step) (old mid new : Recording) (t t1 t2 : Option (List Turn)) (w w1 w2 : Option (List ℕ))
    → DoesStep door first old mid t t1 w w1 → DoesStep mid.door (later first.station) mid new t1 t2 w1 w2
    → DoesStep door (then_do first later) old new t t2 w w2
does_both first later old mid new t t1 t2 w w1 w2 one next = record {
  does = does_then nobody nobody first.deeds old.books mid.books t t1 w w1 one.does nobody (later first.station).deeds new.books t2 w2 next.does;
  stands = next.stands;
  door_is = next.door_is ∙ one.door_is;
}

pub ran_then : {T : Type 0} {door : AtDoor} (result : Result T Stop) (first : Step) (later : Station → Step) (old mid new : Recording)
    (t t1 t2 : Option (List Turn)) (w w1 w2 : Option (List ℕ)) → DoesStep door first old mid t t1 w w1
    → Ran result mid.door (later first.station) mid new t1 t2 w1 w2 → Ran result door (then_do first later) old new t t2 w w2
ran_then (Ok value) first later old mid new t t1 t2 w w1 w2 one next = does_both first later old mid new t t1 t2 w w1 w2 one next
ran_then (Err stop) first later old mid new t t1 t2 w w1 w2 one next =
    breaks_then nobody nobody first.deeds old.books mid.books t t1 w w1 one.does (later first.station).deeds t2 w2 next

-- what a session says and how it settles can be written
settles_writable : (config : Config) (b : Bool) (place : Place) (to : Point) (text : List ℕ) (station : Station) → IsNumbered config place.peer
    → AllByRecursion (IsWritable config) (items_of (settles b place to text station).deeds)
settles_writable config false place to text station known = subst (AllByRecursion (IsWritable config)) (sym (says_items place.line text)) tt
settles_writable config true place to text station known =
    subst (AllByRecursion (IsWritable config))
    (sym (items_both (says place.line text) (leaves (seat_at place)) ∙ ap (λ items. items ++ was_lost place.peer ∷ []) (says_items place.line text)))
    (known, tt)

-- it was broken off behind what leaves the tape and the configuration
breaks_before : {L : Type 0} → (deeds : List Deed) (old mid : Booked) (t t1 : Option (List Turn)) (w w1 : Option (List ℕ)) → mid.scribe ≡ old.scribe
    → mid.desk.config ≡ old.desk.config → BreaksAt L deeds mid t t1 w w1 → BreaksAt L deeds old t t1 w w1
breaks_before {L} deeds old mid t t1 w w1 scribe config breaks = record {
  writable = subst (λ c. AllByRecursion (IsWritable c) (items_of deeds)) config breaks.writable;
  part = subst (λ (s : Scribed). GrewPart w w1 (text_at s.moment (items_of deeds))) scribe breaks.part;
  full = λ limited. subst (λ (s : Scribed). s.limit ≤ s.written + length (text_at s.moment (items_of deeds))) scribe (breaks.full limited);
  asked = breaks.asked;
  later = breaks.later;
  front = breaks.front;
  gate = breaks.gate;
}

-- the clock at a session

pub woke_as : (time peer : ℕ) (inside old mid : Recording) (cleared : List ℕ) → inside ≡ old → cleared ≡ []
    → TicksPeer peer time inside.books.desk mid.books.desk cleared mid.replies → StaysPlayed peer inside.books.desk mid.books.desk
    → ExpiresPlayed peer inside.books.desk mid.books.desk → ExpiresSo peer inside.books.desk mid.books.desk
    → mid.books.desk.config ≡ inside.books.desk.config → mid.books.scribe ≡ inside.books.scribe → mid.seats ≡ inside.seats → mid.door ≡ inside.door
    → Woke time peer old mid
woke_as time peer inside old mid cleared same none ticks stays expired so config_is scribe_is seats_are door_is =
    subst (λ (r : Recording). Woke time peer r mid) same
    (record {
      ticks = subst (λ before. TicksPeer peer time inside.books.desk mid.books.desk before mid.replies) none ticks;
      stays = stays;
      expired = expired;
      so = so;
      config_is = config_is;
      scribe_is = scribe_is;
      seats_are = seats_are;
      door_is = door_is;
    })

pub wakes_so : (time : ℕ) (seat : Seat) (lives : Bool) (old mid : Recording) → Woke time seat.peer old mid
    → is_closed (standing_at_desk mid.books.desk seat.peer) ≡ not lives
    → WakesSo time seat old lives
wakes_so time seat lives old mid woke closes station stands place found =
    let own : place.peer ≡ seat.peer = place_is seat.peer station.places place found in
    flipped (expires time place) lives
    (woke_lives time place old mid mid None None None None station stands (own_found seat station.places place found)
    (subst (λ p. Woke time p old mid) (sym own) woke) lives
    (subst (λ p. is_closed (standing_at_desk mid.books.desk p) ≡ not lives) (sym own) closes))

pub broke_unwoken : {T : Type 0} {stop : Stop} → (result : Result T Stop) → IsErrAnd result (λ e. e ≡ stop) → (stop ≡ Limit → ⊥)
    → (time : ℕ) (seat : Seat) (old new : Recording) (t : Option (List Turn)) (w : Option (List ℕ)) → RanAt result seat (wakes time) old new t t w w
broke_unwoken result same never time seat old new t w station stands place found seated =
    handed result same _ _ _ _ (breaks_early (wakes time place station).deeds old.books t w
    (settles_writable old.books.desk.config (expires time place) place (ticked time place.point).point (ticked time place.point).text station
    (place_known station old stands seat.peer place found)) never)

pub ran_wake : (result : Result Bool Stop) (time : ℕ) (seat : Seat) (old mid new : Recording) (t t1 : Option (List Turn)) (w w1 : Option (List ℕ))
    → Woke time seat.peer old mid → RanAnswer result seat mid new t t1 w w1 → RanAt result seat (wakes time) old new t t1 w w1
ran_wake (Ok lives) time seat old mid new t t1 w w1 woke answered station stands place found seated =
    woke_step time place old mid new t t1 w w1 station stands (own_found seat station.places place found)
    (subst (λ (s : Seat). Woke time s.peer old mid) (sym seated) woke) lives
    (subst (λ (s : Seat). Answered s lives mid new t t1 w w1) (sym seated) answered)
ran_wake (Err stop) time seat old mid new t t1 w w1 woke (closes, breaks) station stands place found seated =
    let at = own_found seat station.places place found in
    let woke_here = subst (λ (s : Seat). Woke time s.peer old mid) (sym seated) woke in
    let e : expires time place ≡ true =
    woke_lives time place old mid mid None None None None station stands at woke_here false
    (subst (λ (s : Seat). is_closed (standing_at_desk mid.books.desk s.peer) ≡ true) (sym seated) closes) in
    subst (λ b. BreaksAt (stop ≡ Limit) (settles b place (ticked time place.point).point (ticked time place.point).text station).deeds old.books t t1 w w1)
    (sym e)
    (subst (λ text. BreaksAt (stop ≡ Limit) (answered false (seat_at place) text) old.books t t1 w w1)
    (woke_at time place old mid station stands at woke_here).made.text
    (subst (λ s. BreaksAt (stop ≡ Limit) (answered false s mid.replies) old.books t t1 w w1) (sym seated)
    (breaks_before (answered false seat mid.replies) old.books mid.books t t1 w w1 woke.scribe_is woke.config_is breaks)))

-- behind an answer

pub answer_lives : (result : Result Bool Stop) (time : ℕ) (seat : Seat) (old mid new : Recording) (t t1 : Option (List Turn)) (w w1 : Option (List ℕ))
    → Woke time seat.peer old mid → RanAnswer result seat mid new t t1 w w1 → IfOk result (λ lives. WakesSo time seat old lives)
answer_lives (Ok lives) time seat old mid new t t1 w w1 woke answered = wakes_so time seat lives old mid woke answered.closes
answer_lives (Err stop) time seat old mid new t t1 w w1 woke answered = tt

pub answer_config : {config : Config} → (result : Result Bool Stop) (seat : Seat) (old new : Recording) (t t1 : Option (List Turn)) (w w1 : Option (List ℕ))
    → RanAnswer result seat old new t t1 w w1 → old.books.desk.config ≡ config → OnOk result (new.books.desk.config ≡ config)
answer_config (Ok lives) seat old new t t1 w w1 answered is = (answered.answers nobody).config_is ∙ is
answer_config (Err stop) seat old new t t1 w w1 answered is = tt

-- a piece of a session

pub received_as : (piece : List ℕ) (peer : ℕ) (inside old mid : Recording) (cleared : List ℕ) (before now : Option (List ℕ)) → inside ≡ old → cleared ≡ []
    → Tells (received peer piece) inside.books mid.books before now → HandsPeer peer inside.books.desk mid.books.desk piece cleared mid.replies
    → KeepsOthers peer inside.books.desk mid.books.desk → RepliesBehind peer inside.books.desk piece cleared mid.replies
    → mid.seats ≡ inside.seats → mid.door ≡ inside.door → Received piece peer old mid before now
received_as piece peer inside old mid cleared before now same none told hands others replied seats_are door_is =
    subst (λ (r : Recording). Received piece peer r mid before now) same
    (record {
      told = told;
      hands = subst (λ said. HandsPeer peer inside.books.desk mid.books.desk piece said mid.replies) none hands;
      others = others;
      replied = subst (λ said. RepliesBehind peer inside.books.desk piece said mid.replies) none replied;
      seats_are = seats_are;
      door_is = door_is;
    })

pub broke_unreceived : {T : Type 0} {stop : Stop} → (result : Result T Stop) → IsErrAnd result (λ e. e ≡ stop) → (piece : List ℕ) (seat : Seat)
    (old new : Recording) (t : Option (List Turn)) (w w1 : Option (List ℕ)) → TellsPart (stop ≡ Limit) (received seat.peer piece) old.books w w1
    → RanAt result seat (λ place. receives old.books.desk.config place piece) old new t t w w1
broke_unreceived {T} {stop} result same piece seat old new t w w1 part station stands place found seated =
    handed result same _ _ _ _ (breaks_more (tells (received place.peer piece) ∷ []) _ old.books t t w w1
    (settles_writable old.books.desk.config _ place _ _ _ (place_known station old stands seat.peer place found))
    (subst (λ (s : Seat). BreaksAt (stop ≡ Limit) (tells (received s.peer piece) ∷ []) old.books t t w w1) (sym seated)
    (breaks_tell (received seat.peer piece) old.books t w w1 part)))

pub did_receive : (piece : List ℕ) (seat : Seat) (lives : Bool) (old mid new : Recording) (t t1 : Option (List Turn)) (w w1 w2 : Option (List ℕ))
    → Received piece seat.peer old mid w w1 → Answered seat lives mid new t t1 w1 w2
    → RanAt done seat (λ place. receives old.books.desk.config place piece) old new t t1 w w2
did_receive piece seat lives old mid new t t1 w w1 w2 heard answered station stands place found seated =
    received_step piece place old mid w w1 station stands (own_found seat station.places place found)
    (subst (λ (s : Seat). Received piece s.peer old mid w w1) (sym seated) heard) new t t1 w2 lives
    (subst (λ (s : Seat). Answered s lives mid new t t1 w1 w2) (sym seated) answered)

pub broke_received : {T : Type 0} {stop : Stop} → (result : Result T Stop) → IsErrAnd result (λ e. e ≡ stop) → (piece : List ℕ) (seat : Seat)
    (old mid new : Recording) (t t1 : Option (List Turn)) (w w1 w2 : Option (List ℕ)) → Received piece seat.peer old mid w w1
    → RanAnswer (Err stop) seat mid new t t1 w1 w2 → RanAt result seat (λ place. receives old.books.desk.config place piece) old new t t1 w w2
broke_received {T} {stop} result same piece seat old mid new t t1 w w1 w2 heard (closes, breaks) station stands place found seated =
    let at = own_found seat station.places place found in
    let heard_here = subst (λ (s : Seat). Received piece s.peer old mid w w1) (sym seated) heard in
    let e = sym (received_stands piece place old mid w w1 station stands at heard_here)
    ∙ subst (λ (s : Seat). is_closed (standing_at_desk mid.books.desk s.peer) ≡ true) (sym seated) closes in
    handed result same _ _ _ _ (subst (λ b. BreaksAt (stop ≡ Limit) ((tells (received place.peer piece) ∷ [])
    ++ (settles b place (handed_point old.books.desk.config place.peer place.point piece)
    (replies_to old.books.desk.config place.peer station.told piece)
    (record { told = station.told ++ received place.peer piece ∷ []; places = station.places })).deeds) old.books t t1 w w2) (sym e)
    (breaks_then nobody nobody (tells (received place.peer piece) ∷ []) old.books mid.books t t w w1
    (does_tell (received place.peer piece) old.books mid.books t w w1 heard_here.told nobody)
    _ t1 w2
    (subst (λ text. BreaksAt (stop ≡ Limit) (answered false (seat_at place) text) mid.books t t1 w1 w2)
    (sym (received_says piece place old mid w w1 station stands at heard_here))
    (subst (λ s. BreaksAt (stop ≡ Limit) (answered false s mid.replies) mid.books t t1 w1 w2) (sym seated) breaks))))

pub receives_writable : (piece : List ℕ) (config : Config) (place : Place) (station : Station) → IsNumbered config place.peer
    → IsWritable config (received place.peer piece)
    → AllByRecursion (IsWritable config) (items_of (receives config place piece station).deeds)
receives_writable piece config place station known writable = (writable, settles_writable config _ place _ _ _ known)

-- the clock first, and where the session is open behind it what follows
abbrev pub wakes_then : (time : ℕ) → (later : Place → Station → Step) → Place → Station → Step
wakes_then time later place station =
    if expires time place then wakes time place station else then_do (wakes time place station) (later (woken time place))

module _ (time : ℕ) (seat : Seat) (later : Place → Station → Step) where
  at_woken : (b : Bool) (e : b ≡ false) (station : Station) (place : Place) → place_for seat.peer station.places ≡ Some place
      → place_for seat.peer (settles b place (ticked time place.point).point (ticked time place.point).text station).station.places ≡ Some (woken time place)
  at_woken true e station place found = absurd (true≢false e)
  at_woken false e station place found =
      subst (λ p. place_for seat.peer (moved p (ticked time place.point).point station.places) ≡ Some (woken time place))
      (sym (place_is seat.peer station.places place found))
      (place_moved seat.peer (ticked time place.point).point station.places place found)

  pub woken_shut : (old new : Recording) (t t1 : Option (List Turn)) (w w1 : Option (List ℕ)) → WakesSo time seat old false
      → RanAt {T = Bool} (Ok false) seat (wakes time) old new t t1 w w1 → RanAt done seat (wakes_then time later) old new t t1 w w1
  woken_shut old new t t1 w w1 so did station stands place found seated =
      subst (λ b. DoesStep old.door (if b then wakes time place station else then_do (wakes time place station) (later (woken time place))) old new t t1 w w1)
      (sym (flipped false (expires time place) (so station stands place found)))
      (did station stands place found seated)

  pub woken_then : {T : Type 0} (result : Result T Stop) (old mid new : Recording) (t t1 t2 : Option (List Turn)) (w w1 w2 : Option (List ℕ))
      → WakesSo time seat old true → RanAt {T = Bool} (Ok true) seat (wakes time) old mid t t1 w w1 → RanAt result seat later mid new t1 t2 w1 w2
      → RanAt result seat (wakes_then time later) old new t t2 w w2
  woken_then result old mid new t t1 t2 w w1 w2 so did next station stands place found seated =
      let e : expires time place ≡ false = flipped true (expires time place) (so station stands place found) in
      let one = did station stands place found seated in
      subst (λ b. Ran result old.door (if b then wakes time place station else then_do (wakes time place station) (later (woken time place))) old new
      t t2 w w2) (sym e)
      (ran_then result (wakes time place station) (later (woken time place)) old mid new t t1 t2 w w1 w2 one
      (next (wakes time place station).station one.stands (woken time place) (at_woken (expires time place) e station place found) seated))

  -- the clock broke it off
  pub woken_broke : {T : Type 0} {stop : Stop} → (result : Result T Stop) → IsErrAnd result (λ e. e ≡ stop) → (old new : Recording)
      (t t1 : Option (List Turn)) (w w1 : Option (List ℕ)) → RanAt {T = Bool} (Err stop) seat (wakes time) old new t t1 w w1
      → ((station : Station) → Stands station old → (place : Place) → place_for seat.peer station.places ≡ Some place → seat_at place ≡ seat
      → (there : Station) → AllByRecursion (IsWritable old.books.desk.config) (items_of (later (woken time place) there).deeds))
      → RanAt result seat (wakes_then time later) old new t t1 w w1
  woken_broke {T} {stop} result same old new t t1 w w1 broke writable station stands place found seated =
      handed result same _ _ _ _ (by (expires time place))
    where
      by : (b : Bool) → BreaksAt (stop ≡ Limit)
          (if b then wakes time place station else then_do (wakes time place station) (later (woken time place))).deeds old.books t t1 w w1
      by true = broke station stands place found seated
      by false =
          breaks_more (wakes time place station).deeds (later (woken time place) (wakes time place station).station).deeds old.books t t1 w w1
          (writable station stands place found seated (wakes time place station).station) (broke station stands place found seated)

-- what can be written of a piece
pub piece_writable : (piece : List ℕ) (time : ℕ) (seat : Seat) (old : Recording) → length piece ≤ longest_payload
    → (station : Station) → Stands station old → (place : Place) → place_for seat.peer station.places ≡ Some place → seat_at place ≡ seat
    → (there : Station) → AllByRecursion (IsWritable old.books.desk.config) (items_of (receives old.books.desk.config (woken time place) piece there).deeds)
piece_writable piece time seat old short station stands place found seated there =
    let known = place_known station old stands seat.peer place found in
    receives_writable piece old.books.desk.config (woken time place) there known (known, short)

-- a session that is given up

pub stands_est : (state : State) → stands_established (LiveIn state) ≡ is_established state
stands_est WaitOpen = refl
stands_est WaitKeep = refl
stands_est Established = refl
stands_est Closed = refl

-- whether it is established
pub place_est : (station : Station) (old : Recording) → Stands station old → (peer : ℕ) (place : Place) → place_for peer station.places ≡ Some place
    → is_established place.point.phase.state ≡ stands_established (standing_at_desk old.books.desk peer)
place_est station old stands peer place found =
    let is_open : IsOpenAt old.books.desk place =
    at_found (IsOpenAt old.books.desk) (λ (other : Place). other.peer == peer) station.places place stands.live found in
    sym (ap (λ p. stands_established (standing_at_desk old.books.desk p)) (sym (place_is peer station.places place found))
    ∙ ap (λ kept. stands_established (standing_by kept)) is_open.session_is ∙ ap stands_established (open_stands is_open.session is_open.alive)
    ∙ stands_est is_open.session.phase.state ∙ ap (λ (p : Point). is_established p.phase.state) is_open.point_is)

pub did_not_hurry : (seat : Seat) (old : Recording) (t : Option (List Turn)) (w : Option (List ℕ))
    → stands_established (standing_at_desk old.books.desk seat.peer) ≡ true → RanAt done seat hurries_where_new old old t t w w
did_not_hurry seat old t w is station stands place found seated =
    subst (λ b. DoesStep old.door (if b then resting station else hurries place station) old old t t w w)
    (sym (place_est station old stands seat.peer place found ∙ is)) (does_rest station old t w stands)

abbrev pub gives_up : Seat → List Deed
gives_up seat = sends seat.line (notice_text 4 0) ∷ leaves seat

pub ran_hurry : {T : Type 0} (result : Result T Stop) (seat : Seat) (old new : Recording) (t t1 t2 : Option (List Turn)) (w w1 : Option (List ℕ))
    → stands_established (standing_at_desk old.books.desk seat.peer) ≡ false → Grew t t1 (said seat.line (notice_text 4 0) ∷ [])
    → OnOk result ((expired : ℕ → Bool) → Does expired (expired_after (was_lost seat.peer) expired) (leaves seat) old.books new.books t1 t2 w w1)
    → OnOk result (Left seat old new) → OnErr result (BreaksAt (IsErrOf result Limit) (leaves seat) old.books t1 t2 w w1)
    → RanAt result seat hurries_where_new old new t t2 w w1
ran_hurry {T} result seat old new t t1 t2 w w1 is grew does left breaks station stands place found seated =
    subst (λ b. Ran result old.door (if b then resting station else hurries place station) old new t t2 w w1)
    (sym (place_est station old stands seat.peer place found ∙ is)) (by result does left breaks)
  where
    sent : Does nobody nobody (sends seat.line (notice_text 4 0) ∷ []) old.books old.books t t1 w w
    sent = does_ask nobody (sends seat.line (notice_text 4 0) ∷ []) old.books t t1 w refl grew

    by : (r : Result T Stop)
        → OnOk r ((expired : ℕ → Bool) → Does expired (expired_after (was_lost seat.peer) expired) (leaves seat) old.books new.books t1 t2 w w1)
        → OnOk r (Left seat old new) → OnErr r (BreaksAt (IsErrOf r Limit) (leaves seat) old.books t1 t2 w w1)
        → Ran r old.door (hurries place station) old new t t2 w w1
    by (Ok value) does left breaks = record {
      does = subst (λ s. Does nobody nobody (gives_up s) old.books new.books t t2 w w1) (sym seated)
          (does_then nobody nobody (sends seat.line (notice_text 4 0) ∷ []) old.books old.books t t1 w w sent nobody (leaves seat) new.books t2 w1
          (does nobody));
      stands = stands_gone place station old new stands (own_found seat station.places place found)
          (subst (λ s. Left s old new) (sym seated) left) (does nobody).config_is;
      door_is = left.door_is;
    }
    by (Err stop) does left breaks =
        subst (λ s. BreaksAt (stop ≡ Limit) (gives_up s) old.books t t2 w w1) (sym seated)
        (breaks_then nobody nobody (sends seat.line (notice_text 4 0) ∷ []) old.books old.books t t1 w w sent (leaves seat) t2 w1
        (breaks_where (ap Err) breaks))

-- the time that a session has

place_early : (time : ℕ) (seat : Seat) (place : Place) → seat_at place ≡ seat → is_early time place ≡ nat_lt (time - seat.since) open_time
place_early time seat place seated = ap (λ (s : Seat). nat_lt (time - s.since) open_time) seated

pub did_early : (time : ℕ) (seat : Seat) (old : Recording) (t : Option (List Turn)) (w : Option (List ℕ)) → nat_lt (time - seat.since) open_time ≡ true
    → RanAt done seat (hurries_where_late time) old old t t w w
did_early time seat old t w early station stands place found seated =
    subst (λ b. DoesStep old.door (if b then resting station else hurries_where_new place station) old old t t w w)
    (sym (place_early time seat place seated ∙ early)) (does_rest station old t w stands)

pub ran_late : {T : Type 0} (result : Result T Stop) (time : ℕ) (seat : Seat) (old new : Recording) (t t1 : Option (List Turn)) (w w1 : Option (List ℕ))
    → nat_lt (time - seat.since) open_time ≡ false → RanAt result seat hurries_where_new old new t t1 w w1
    → RanAt result seat (hurries_where_late time) old new t t1 w w1
ran_late result time seat old new t t1 w w1 late ran station stands place found seated =
    subst (λ b. Ran result old.door (if b then resting station else hurries_where_new place station) old new t t1 w w1)
    (sym (place_early time seat place seated ∙ late)) (ran station stands place found seated)

pub late_writable : (time : ℕ) (seat : Seat) (old : Recording) (station : Station) → Stands station old → (place : Place)
    → place_for seat.peer station.places ≡ Some place
    → seat_at place ≡ seat → (there : Station)
    → AllByRecursion (IsWritable old.books.desk.config) (items_of (hurries_where_late time (woken time place) there).deeds)
late_writable time seat old station stands place found seated there =
    by (is_early time (woken time place)) (is_established (woken time place).point.phase.state)
  where
    by : (early new : Bool)
        → AllByRecursion (IsWritable old.books.desk.config)
        (items_of (if early then resting there else if new then resting there else hurries (woken time place) there).deeds)
    by true new = tt
    by false true = tt
    by false false = (place_known station old stands seat.peer place found, tt)

-- the seat of a line is a place's

pub ran_line : {T : Type 0} (result : Result T Stop) (line : ℕ) (seat : Seat) (step : Place → Station → Step) (old new : Recording)
    (t t1 : Option (List Turn)) (w w1 : Option (List ℕ)) → seat_of line old.seats ≡ Some seat → RanAt result seat step old new t t1 w w1
    → RanSo result (λ station. elim (place_of line station.places) [ None ↦ resting station | Some place ↦ step place station ]) old new t t1 w w1
ran_line result line seat step old new t t1 w w1 is ran station stands =
    let at : FoundAt (λ (place : Place). place.line == line) station.places seat =
    found_at (λ (other : Seat). other.line == line) station.places seat (ap (seat_of line) (sym stands.seats_are) ∙ is) in
    let own : place_for seat.peer station.places ≡ Some at.place =
    subst (λ (s : Seat). place_for s.peer station.places ≡ Some at.place) at.seated (place_found line station.places at.place stands.apart at.found) in
    subst (λ (found : Option Place). Ran result old.door (elim found [ None ↦ resting station | Some place ↦ step place station ]) old new t t1 w w1)
    (sym at.found)
    (ran station stands at.place own at.seated)

pub did_no_line : (line : ℕ) (step : Place → Station → Step) (old : Recording) (t : Option (List Turn)) (w : Option (List ℕ)) → seat_of line old.seats ≡ None
    → (station : Station) → Stands station old
    → DoesStep old.door (elim (place_of line station.places) [ None ↦ resting station | Some place ↦ step place station ]) old old t t w w
did_no_line line step old t w is station stands =
    subst (λ (found : Option Place). DoesStep old.door (elim found [ None ↦ resting station | Some place ↦ step place station ]) old old t t w w)
    (sym (found_none (λ (other : Seat). other.line == line) station.places (ap (seat_of line) (sym stands.seats_are) ∙ is)))
    (does_rest station old t w stands)
