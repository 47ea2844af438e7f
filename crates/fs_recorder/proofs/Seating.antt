-- Seats of configured peers.
use Rattle.fs_base.specs.declared.config.Address.{Address}
use Rattle.fs_recorder.specs.Seats.{free_by, free_peer, free_peer_of}
use Rattle.fs_recorder.proofs.Words.{ℕ, Bool, true, false, List, [], ◌∷◌, ◌++◌, Some, None, ◌∙◌, ◌==◌, ◌≡◌, if◌then◌else◌, filter, find, not, refl}
use Rattle.fs_recorder.proofs.Words.{Option, sym, subst, AllByRecursion, Config, Peer, IsSome, eq_itself, peer_of, Seat, AreKnown, IsKnown, Recording}
use Rattle.fs_recorder.proofs.Words.{without, ap}

filtered : (P : Seat → Type 0) (test : Seat → Bool) (seats : List Seat) → AllByRecursion P seats → AllByRecursion P (filter test seats)
filtered P test [] all = tt
filtered P test (seat ∷ seats) all = by (test seat) (filtered P test seats all.1)
  where
    by : (b : Bool) → AllByRecursion P (filter test seats) → AllByRecursion P (if b then seat ∷ filter test seats else filter test seats)
    by true later = (all.0, later)
    by false later = later

-- those that are left are
pub known_without : (config : Config) (line : ℕ) (seats : List Seat) → AreKnown config seats → AreKnown config (without line seats)
known_without config line seats all = filtered (IsKnown config) (λ (seat : Seat). not (seat.line == line)) seats all

-- and one more
pub known_more : (config : Config) (seat : Seat) (seats : List Seat) → IsKnown config seat → AreKnown config seats → AreKnown config (seats ++ seat ∷ [])
known_more config seat [] known all = (known, tt)
known_more config seat (first ∷ seats) known all = (all.0, known_more config seat seats known all.1)

found_in : (P : Seat → Type 0) (test : Seat → Bool) (seats : List Seat) (seat : Seat) → AllByRecursion P seats → find test seats ≡ Some seat → P seat
found_in P test [] seat all e = cc
found_in P test (first ∷ seats) seat all e = by (test first) (found_in P test seats seat all.1) e
  where
    by : (b : Bool) → (find test seats ≡ Some seat → P seat) → (if b then Some first else find test seats) ≡ Some seat → P seat
    by true later f = let same : first ≡ seat = cc in subst P same all.0
    by false later f = later f

-- one that is found is
pub known_found : (config : Config) (test : Seat → Bool) (seats : List Seat) (seat : Seat) → AreKnown config seats → find test seats ≡ Some seat
    → IsKnown config seat
known_found config test seats seat all e = found_in (IsKnown config) test seats seat all e

-- so of those that are left, and of one more

pub known_left : (old : Recording) (config : Config) (line : ℕ) (seats : List Seat) → config ≡ old.books.desk.config → seats ≡ without line old.seats
    → AreKnown old.books.desk.config old.seats → AreKnown config seats
known_left old config line seats same left known =
    subst (λ c. AreKnown c seats) (sym same)
    (subst (AreKnown old.books.desk.config) (sym left) (known_without old.books.desk.config line old.seats known))

pub known_added : (old : Recording) (config : Config) (seat : Seat) (seats : List Seat) → config ≡ old.books.desk.config → seats ≡ old.seats ++ seat ∷ []
    → IsKnown old.books.desk.config seat → AreKnown old.books.desk.config old.seats → AreKnown config seats
known_added old config seat seats same more one known =
    subst (λ c. AreKnown c seats) (sym same)
    (subst (AreKnown old.books.desk.config) (sym more) (known_more old.books.desk.config seat old.seats one known))

-- a configured peer is found by its number
pub found_peer : (test : Peer → Bool) (peers : List Peer) (peer : Peer) → find test peers ≡ Some peer → IsSome (peer_of peer.number peers)
found_peer test [] peer e = cc
found_peer test (first ∷ peers) peer e = by (test first) (found_peer test peers peer) e
  where
    behind : (b : Bool) → IsSome (peer_of peer.number peers) → IsSome (if b then Some first else peer_of peer.number peers)
    behind true later = refl
    behind false later = later

    by : (b : Bool) → (find test peers ≡ Some peer → IsSome (peer_of peer.number peers)) → (if b then Some first else find test peers) ≡ Some peer
        → IsSome (peer_of peer.number (first ∷ peers))
    by true later f =
        let same : first ≡ peer = cc in
        subst (λ (one : Peer). IsSome (if one.number == peer.number then Some one else peer_of peer.number peers)) (sym same)
        (subst (λ (b : Bool). IsSome (if b then Some peer else peer_of peer.number peers)) (sym (eq_itself peer.number)) refl)
    by false later f = behind (first.number == peer.number) (later f)

-- so is one of those that have no seat
pub record FoundBy (peers : List Peer) (peer : Peer) : Type 0 where
  pub test : Peer → Bool
  pub found : find test peers ≡ Some peer

pub found_by : (from : Address) (told : Option ℕ) (seats : List Seat) (peers : List Peer) (peer : Peer) → free_by from told seats peers ≡ Some peer
    → FoundBy peers peer
found_by from None seats peers peer e = record { test = _; found = e }
found_by from (Some number) seats peers peer e = by (free_peer_of from number seats peers) refl e
  where
    by : (found : Option Peer) → free_peer_of from number seats peers ≡ found
        → (elim found as (λ _. Option Peer) [ None ↦ free_peer from seats peers | Some one ↦ Some one ]) ≡ Some peer → FoundBy peers peer
    by None g f = record { test = _; found = f }
    by (Some one) g f = record { test = _; found = g ∙ f }

-- what is found among the seats is found of those within
pub seen_in : {X : Type 0} (look : List Seat → X) (inside old : Recording) (seats : List Seat) (found answer : X) → inside ≡ old
    → seats ≡ inside.seats → found ≡ look seats → found ≡ answer → look old.seats ≡ answer
seen_in look inside old seats found answer same seats_are is answered =
    ap (λ (r : Recording). look r.seats) (sym same) ∙ ap look (sym seats_are) ∙ sym is ∙ answered
