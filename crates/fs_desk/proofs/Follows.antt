-- A session that is fed octet by octet and the session of all octets that the peer sent.
use Rattle.fs_desk.proofs.Words.{◌≡◌, ℕ, List, [], ◌∷◌, ◌++◌, length, drop, Option, Some, None, true, refl, ap, sym, ◌∙◌, append_assoc, append-nil}
use Rattle.fs_desk.proofs.Words.{subst, arith, drop_all, Config, Peer, pending, Update, Closed, Phase, Step, waits, takes, stops, fresh, at_start}
use Rattle.fs_desk.proofs.Words.{Last, still, closed, with_update, session_from, Live, live, step_of, Does, step_with, bounded, bounded_from}
use Rattle.fs_desk.proofs.Words.{first_over, is_over, routes_left, too_many, with_updates, Follows, IsOver, AreWithin, completed, session_takes}
use Rattle.fs_desk.proofs.Words.{session_stops, session_waits}
use Rattle.fs_desk.proofs.Bounding.{next_passes, over_stays, bounded_within, bounded_over}

-- an update that a call answered, as a list
abbrev pub as_list : Option Update → List Update
as_list None = []
as_list (Some update) = update ∷ []

-- a session that has not begun
pub follows_none : (config : Config) (peer : Peer) → Follows config peer [] [] (live config peer fresh) []
follows_none config peer = record { alive = refl; config_is = refl; peer_is = refl; waiting = refl; goes = λ more. refl }

-- which gave no update
pub within_none : (peer : Peer) → AreWithin peer []
within_none peer = record { small = refl; prefixes = tt }

-- all octets that are sent next are the rest
pub follows_piece : (config : Config) (peer : Peer) (octets piece : List ℕ) (session : Live) (updates : List Update)
    → Follows config peer octets [] session updates → Follows config peer (octets ++ piece) piece session updates
follows_piece config peer octets piece session updates f = record {
  alive = f.alive;
  config_is = f.config_is;
  peer_is = f.peer_is;
  waiting = f.waiting;
  goes = λ more. ap (λ (z : List ℕ). session_from config peer at_start z) (append_assoc octets piece more) ∙ f.goes (piece ++ more);
}

-- the octets in hand come to nothing more
pub nothing_waits : (config : Config) (peer : Peer) (now : Phase) → step_of config peer now [] ≡ waits
nothing_waits config peer now = refl

-- of the whole list nothing is left
pub all_gone : (octets : List ℕ) (count : ℕ) → count ≡ length octets → drop count octets ≡ []
all_gone octets count h = drop_all count octets (omega (arith, h))

as_updates : (update : Option Update) (rest : List Update × Last) → with_update update rest ≡ with_updates (as_list update) rest
as_updates None rest = refl
as_updates (Some update) rest = refl

updates_twice : (first second : List Update) (rest : List Update × Last) → with_updates first (with_updates second rest) ≡ with_updates (first ++ second) rest
updates_twice first second rest = ap (λ (u : List Update). (u, rest.1)) (sym (append_assoc first second rest.0))

module _ (config : Config) (peer : Peer) (rest : List ℕ) (old new : Live) (count : ℕ) (update : Option Update) where
  -- what one step makes of all octets to come
  fed_goes : (step : Step) → step_of config peer old.phase (pending old.framing ++ rest) ≡ step → Does step old new rest count update
      → (more : List ℕ)
      → session_from config peer old.phase (pending old.framing ++ (rest ++ more))
      ≡ with_updates (as_list update) (session_from config peer new.phase (pending new.framing ++ (drop count rest ++ more)))
  fed_goes waits h did more =
      ap (session_from config peer old.phase) (sym (append_assoc (pending old.framing) rest more))
      ∙ ap (λ (z : List ℕ). session_from config peer old.phase (z ++ more)) (sym did.1)
      ∙ ap (λ (s : Phase). session_from config peer s (pending new.framing ++ more)) (sym did.2)
      ∙ ap (λ (z : List ℕ). session_from config peer new.phase (pending new.framing ++ (z ++ more))) (sym (all_gone rest count did.0))
      ∙ ap (λ (o : Option Update). with_updates (as_list o) (session_from config peer new.phase (pending new.framing ++ (drop count rest ++ more)))) (sym did.3)
  fed_goes (takes next taken behind) h did more =
      ap (session_from config peer old.phase) (sym (append_assoc (pending old.framing) rest more))
      ∙ session_takes config peer old.phase next taken (pending old.framing ++ rest) behind more h
      ∙ as_updates taken (session_from config peer next (behind ++ more))
      ∙ ap (λ (o : Option Update). with_updates (as_list o) (session_from config peer next (behind ++ more))) (sym did.4)
      ∙ ap (λ (s : Phase). with_updates (as_list update) (session_from config peer s (behind ++ more))) (sym did.3)
      ∙ ap (λ (z : List ℕ). with_updates (as_list update) (session_from config peer new.phase (z ++ more))) did.1
      ∙ ap (λ (z : List ℕ). with_updates (as_list update) (session_from config peer new.phase (z ++ (drop count rest ++ more)))) (sym did.2)
  fed_goes (stops why) h did more = absurd did

-- the updates that an open session is to take of a piece are the one that a call took, and those of the rest
pub completed_fed : (old new : Live) (piece : List ℕ) (count : ℕ) (update : Option Update) → new.config ≡ old.config → new.peer ≡ old.peer
    → Does (step_with old piece) old new piece count update → completed old piece ≡ as_list update ++ completed new (drop count piece)
completed_fed old new piece count update c p did =
    ap (λ (z : List ℕ). (session_from old.config old.peer old.phase (pending old.framing ++ z)).0) (sym (append-nil piece))
    ∙ ap (λ (r : List Update × Last). r.0) (fed_goes old.config old.peer piece old new count update (step_with old piece) refl did [])
    ∙ ap (λ (z : List ℕ). as_list update ++ (session_from old.config old.peer new.phase (pending new.framing ++ z)).0) (append-nil (drop count piece))
    ∙ ap (λ (o : Config). as_list update ++ (session_from o old.peer new.phase (pending new.framing ++ drop count piece)).0) (sym c)
    ∙ ap (λ (q : Peer). as_list update ++ (session_from new.config q new.phase (pending new.framing ++ drop count piece)).0) (sym p)

module _ (config : Config) (peer : Peer) (octets rest : List ℕ) (old new : Live) (updates : List Update) (count : ℕ) (update : Option Update) where
  -- in the octets in hand no message stands whole
  still_waits : (step : Step) → step_of config peer old.phase (pending old.framing ++ rest) ≡ step → Does step old new rest count update
      → step_of config peer new.phase (pending new.framing) ≡ waits
  still_waits waits h did =
      ap (λ (z : List ℕ). step_of config peer new.phase z) did.1
      ∙ ap (λ (s : Phase). step_of config peer s (pending old.framing ++ rest)) did.2
      ∙ h
  still_waits (takes next taken behind) h did = ap (λ (z : List ℕ). step_of config peer new.phase z) did.2
  still_waits (stops why) h did = absurd did

  -- what one step makes of the record
  by_step : Follows config peer octets rest old updates → new.closed ≡ None → new.config ≡ config → new.peer ≡ peer
      → (step : Step) → step_of config peer old.phase (pending old.framing ++ rest) ≡ step → Does step old new rest count update
      → Follows config peer octets (drop count rest) new (updates ++ as_list update)
  by_step f alive c p step h did = record {
    alive = alive;
    config_is = c;
    peer_is = p;
    waiting = still_waits step h did;
    goes = λ more.
        f.goes more
        ∙ ap (with_updates updates) (fed_goes config peer rest old new count update step h did more)
        ∙ updates_twice updates (as_list update) (session_from config peer new.phase (pending new.framing ++ (drop count rest ++ more)));
  }

  -- what a call took is gone from the rest
  pub follows_fed : Follows config peer octets rest old updates → new.closed ≡ None → new.config ≡ old.config → new.peer ≡ old.peer
      → Does (step_with old rest) old new rest count update
      → Follows config peer octets (drop count rest) new (updates ++ as_list update)
  follows_fed f alive c p did =
      let with_config : Does (step_of config old.peer old.phase (pending old.framing ++ rest)) old new rest count update =
      subst (λ (d : Config). Does (step_of d old.peer old.phase (pending old.framing ++ rest)) old new rest count update) f.config_is did in
      let with_peer : Does (step_of config peer old.phase (pending old.framing ++ rest)) old new rest count update =
      subst (λ (q : Peer). Does (step_of config q old.phase (pending old.framing ++ rest)) old new rest count update) f.peer_is with_config in
      by_step f alive (c ∙ f.config_is) (p ∙ f.peer_is) (step_of config peer old.phase (pending old.framing ++ rest)) refl with_peer

pub over_more : (config : Config) (peer : Peer) (octets piece : List ℕ) (why : Closed) → IsOver config peer octets why
    → IsOver config peer (octets ++ piece) why
over_more config peer octets piece why o = record {
  updates = o.updates;
  stays = λ more. ap (λ (z : List ℕ). bounded_from config peer z) (append_assoc octets piece more) ∙ o.stays (piece ++ more);
}

-- a call that closed the session
pub follows_closed : (config : Config) (peer : Peer) (octets rest : List ℕ) (old : Live) (updates : List Update) (why : Closed)
    → Follows config peer octets rest old updates → AreWithin peer updates → step_with old rest ≡ stops why → IsOver config peer octets why
follows_closed config peer octets rest old updates why f w h =
    let at : step_of config peer old.phase (pending old.framing ++ rest) ≡ stops why =
    ap (λ (d : Config). step_of d peer old.phase (pending old.framing ++ rest)) (sym f.config_is)
    ∙ ap (λ (q : Peer). step_of old.config q old.phase (pending old.framing ++ rest)) (sym f.peer_is)
    ∙ h in
    let small : first_over peer.max_routes (updates ++ []) ≡ None = ap (first_over peer.max_routes) (append-nil updates) ∙ w.small in
    record {
      updates = updates ++ [];
      stays = λ more.
          ap (bounded peer.max_routes)
          (f.goes more
          ∙ ap (λ (z : List ℕ). with_updates updates (session_from config peer old.phase z)) (sym (append_assoc (pending old.framing) rest more))
          ∙ ap (λ (r : List Update × Last). with_updates updates r) (session_stops config peer old.phase why (pending old.framing ++ rest) more at))
          ∙ bounded_within peer.max_routes (updates ++ []) (closed why) small;
    }

-- the limit was passed at the last update
pub follows_over : (config : Config) (peer : Peer) (octets rest : List ℕ) (session : Live) (updates : List Update) (update : Update)
    → Follows config peer octets rest session (updates ++ update ∷ []) → AreWithin peer updates
    → is_over peer.max_routes (routes_left (updates ++ update ∷ [])) ≡ true
    → (more : List ℕ) → first_over peer.max_routes (session_from config peer at_start (octets ++ more)).0 ≡ Some (updates ++ update ∷ [])
follows_over config peer octets rest session updates update f w h more =
    ap (λ (r : List Update × Last). first_over peer.max_routes r.0) (f.goes more)
    ∙ over_stays peer.max_routes (updates ++ update ∷ []) _ (updates ++ update ∷ []) (next_passes peer.max_routes updates update w.small h)

-- where the session closes
pub follows_ceased : (config : Config) (peer : Peer) (octets rest : List ℕ) (session : Live) (updates : List Update) (update : Update)
    → Follows config peer octets rest session (updates ++ update ∷ []) → AreWithin peer updates
    → is_over peer.max_routes (routes_left (updates ++ update ∷ [])) ≡ true
    → IsOver config peer octets too_many
follows_ceased config peer octets rest session updates update f w h = record {
  updates = updates ++ update ∷ [];
  stays = λ more.
      bounded_over peer.max_routes (session_from config peer at_start (octets ++ more)).0 (updates ++ update ∷ [])
      (session_from config peer at_start (octets ++ more)).1
      (follows_over config peer octets rest session updates update f w h more);
}

-- what the session of all the octets is, where nothing is left to take
follows_whole : (config : Config) (peer : Peer) (octets : List ℕ) (session : Live) (updates : List Update)
    → Follows config peer octets [] session updates → session_from config peer at_start octets ≡ (updates, still session.phase)
follows_whole config peer octets session updates f =
    ap (λ (z : List ℕ). session_from config peer at_start z) (sym (append-nil octets))
    ∙ f.goes []
    ∙ ap (λ (z : List ℕ). with_updates updates (session_from config peer session.phase z)) (append-nil (pending session.framing))
    ∙ ap (λ (r : List Update × Last). with_updates updates r) (session_waits config peer session.phase (pending session.framing) f.waiting)
    ∙ ap (λ (u : List Update). (u, still session.phase)) (append-nil updates)

pub follows_session : (config : Config) (peer : Peer) (octets : List ℕ) (session : Live) (updates : List Update)
    → Follows config peer octets [] session updates → AreWithin peer updates → bounded_from config peer octets ≡ (updates, still session.phase)
follows_session config peer octets session updates f w =
    ap (bounded peer.max_routes) (follows_whole config peer octets session updates f) ∙ bounded_within peer.max_routes updates (still session.phase) w.small

-- and no update of it passes the limit
pub follows_small : (config : Config) (peer : Peer) (octets : List ℕ) (session : Live) (updates : List Update)
    → Follows config peer octets [] session updates → AreWithin peer updates → first_over peer.max_routes (session_from config peer at_start octets).0 ≡ None
follows_small config peer octets session updates f w =
    ap (λ (r : List Update × Last). first_over peer.max_routes r.0) (follows_whole config peer octets session updates f) ∙ w.small

-- likewise of one that a message closes
pub closed_small : (config : Config) (peer : Peer) (octets rest : List ℕ) (old : Live) (updates : List Update) (why : Closed)
    → Follows config peer octets rest old updates → AreWithin peer updates → step_of config peer old.phase (pending old.framing ++ rest) ≡ stops why
    → (more : List ℕ) → first_over peer.max_routes (session_from config peer at_start (octets ++ more)).0 ≡ None
closed_small config peer octets rest old updates why f w at more =
    ap (λ (r : List Update × Last). first_over peer.max_routes r.0)
    (f.goes more
    ∙ ap (λ (z : List ℕ). with_updates updates (session_from config peer old.phase z)) (sym (append_assoc (pending old.framing) rest more))
    ∙ ap (λ (r : List Update × Last). with_updates updates r) (session_stops config peer old.phase why (pending old.framing ++ rest) more at))
    ∙ ap (first_over peer.max_routes) (append-nil updates)
    ∙ w.small

pub over_session : (config : Config) (peer : Peer) (octets : List ℕ) (why : Closed) (o : IsOver config peer octets why)
    → bounded_from config peer octets ≡ (o.updates, closed why)
over_session config peer octets why o = ap (λ (z : List ℕ). bounded_from config peer z) (sym (append-nil octets)) ∙ o.stays []
