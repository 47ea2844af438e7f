-- What a piece makes of the session that a desk keeps of a peer.
use Rattle.fs_desk.proofs.Words.{◌≡◌, ℕ, Bool, true, false, List, [], ◌∷◌, ◌++◌, Option, Some, None, ap, sym, ◌∙◌, subst, append-nil}
use Rattle.fs_desk.proofs.Words.{peer_of, Config, Peer, pending, Closed, Fault, Times, Handed}
use Rattle.fs_desk.proofs.Words.{Point, handed, hand, runs_by, waits, Live, step_of, receiver, at_moment, runs_waits, Item, received, Desked}
use Rattle.fs_desk.proofs.Words.{HandsPeer, IsHanded, PeerIs, PlayedBut, StandsAs, session_at, life, Comes, IsFed, PieceComes}
use Rattle.fs_desk.proofs.Words.{comes_to, point_of}
use Rattle.fs_desk.proofs.{Coming.{at_greatest}, Played.{Feeds, goes_own, plays_octets}}

-- in the octets that wait of an open session no message stands whole
abbrev Waits : Live → Type 0
Waits session = step_of session.config session.peer session.phase (pending session.framing) ≡ waits

open_waits : {expired : ℕ → Bool} (config : Config) (items : List Item) (n : ℕ) (session : Live) (desk : Desked)
    → session_at n desk.sessions ≡ Some session → session.closed ≡ None → PlayedBut expired config items desk → Waits session
open_waits {expired} config items n session desk there alive p =
    by_expired (expired n) (subst (λ (x : Option Live). StandsAs (expired n) config (peer_of n config.peers) (life n items) x n desk.held) there (p.each n))
  where
    by : (q : Option Peer) (l : Option (List ℕ)) → PeerIs config q l (Some session) n desk.held → Waits session
    by None None k = absurd k
    by (Some peer) None k = absurd k
    by None (Some octets) k = absurd k
    by (Some peer) (Some octets) k =
        let fed = subst (λ (c : Option Closed). IsFed config peer octets session c k.updates) alive k.fed in
        ap (λ (c : Config). step_of c session.peer session.phase (pending session.framing)) fed.0.config_is
        ∙ ap (λ (q : Peer). step_of config q session.phase (pending session.framing)) fed.0.peer_is
        ∙ fed.0.waiting

    never : Some (Fault 4 0) ≡ None → ⊥
    never e = cc

    by_expired : (b : Bool) → StandsAs b config (peer_of n config.peers) (life n items) (Some session) n desk.held → Waits session
    by_expired true k = absurd (never (sym k.0 ∙ alive))
    by_expired false k = by (peer_of n config.peers) (life n items) k

-- an open session with no octets that follow stands there
stands_there : (session : Live) → session.closed ≡ None → Waits session → comes_to session [] ≡ handed (point_of session) [] []
stands_there session alive waiting =
    ap (runs_by (receiver session.config session.peer) session.phase session.times) (append-nil (pending session.framing))
    ∙ runs_waits (receiver session.config session.peer) session.phase session.times (pending session.framing) waiting
    ∙ ap (λ (c : Option Closed). let p : Point =
    record { waiting = pending session.framing; phase = session.phase; times = session.times; closed = c } in handed p [] []) (sym alive)

-- what is handed to it at the greatest of its moments
handed_there : (session : Live) (piece : List ℕ) → session.closed ≡ None
    → hand (receiver session.config session.peer) session.times.greatest (point_of session) piece ≡ comes_to session piece
handed_there session piece alive =
    ap (λ (c : Option Closed). elim c [
      | Some why ↦ handed (point_of session) [] []
      | None ↦ runs_by (receiver session.config session.peer) session.phase (at_moment session.times.greatest session.times) (pending session.framing ++ piece)
    ]) alive
    ∙ ap (λ (t : Times). runs_by (receiver session.config session.peer) session.phase t (pending session.framing ++ piece)) (at_greatest session.times)

is_handed : (old new : Live) (piece replies replies' : List ℕ) → old.closed ≡ None → Comes old piece new [] replies replies' → new.closed ≡ None
    → Waits new → IsHanded old new piece replies replies'
is_handed old new piece replies replies' before comes after waiting =
    let there : comes_to new [] ≡ handed (point_of new) [] [] = stands_there new after waiting in
    let made = handed_there old piece before in
    record {
      alive = before;
      point_is = sym (ap (λ (m : Handed). m.point) made ∙ comes.point_is ∙ ap (λ (m : Handed). m.point) there);
      grows = comes.grows
          ∙ ap (λ (z : List ℕ). replies ++ z) (sym (append-nil comes.more) ∙ ap (λ (m : Handed). comes.more ++ m.text) (sym there) ∙ sym comes.text
          ∙ sym (ap (λ (m : Handed). m.text) made));
    }

one_session : (found session : Live) (o : Option Live) → o ≡ Some found → o ≡ Some session → found ≡ session
one_session found session o e f = ap (λ (x : Option Live). elim x [ None ↦ found | Some l ↦ l ]) (sym e ∙ f)

pub desk_handed : {n : ℕ} {piece replies replies' : List ℕ} {session session' : Live} {old new : Desked}
    → Feeds n piece replies replies' session session' old new → PieceComes session session' piece replies replies'
    → HandsPeer n old new piece replies replies'
desk_handed {n} {piece} {replies} {replies'} {session} {session'} {old} {new} f comes expired config items found found' p here here' alive =
    let first : found ≡ session = one_session found session (session_at n old.sessions) here f.on.there in
    let last : found' ≡ session' = one_session found' session' (session_at n new.sessions) here' (goes_own f.on) in
    let after : session'.closed ≡ None = ap (λ (l : Live). l.closed) (sym last) ∙ alive in
    let both = comes after in
    subst (λ (l : Live). IsHanded l found' piece replies replies') (sym first)
    (subst (λ (l : Live). IsHanded session l piece replies replies') (sym last)
    (is_handed session session' piece replies replies' both.0 both.1 after
    (open_waits config (items ++ received n piece ∷ []) n session' new (goes_own f.on) after (plays_octets f expired config items p))))
