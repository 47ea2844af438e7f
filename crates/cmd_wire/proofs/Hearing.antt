-- How what `listen` answers follows from its stages.
use Rattle.cmd_wire.proofs.Words.{AtLimit, ClosesIn, Desked, Done, EndCloses, Ended, Ending, ExpiresAt, Found, Last, Names, Peer, Phase, Pieces}
use Rattle.cmd_wire.proofs.Words.{Played, Stage, Told, WireEnds, and_then, at_start, bounded_from, bounded_session, closed, config_stage}
use Rattle.cmd_wire.proofs.Words.{is_established, octets_in, or_stop, peer_of, sender_of, still, tape_of, ◌≡◌, ◌⊎◌, inl, inr, ◌∙◌, ℕ, List, [], ◌∷◌}
use Rattle.cmd_wire.proofs.Words.{◌++◌, length, nat_le, Bool, true, false, if◌then◌else◌, Option, Some, None, append-nil, refl, ap, sym, subst}
use Rattle.cmd_wire.proofs.Words.{same_Some, Config, le_false, le_true, Update, Closed, played_leaves, told_as, EndsSo, Listens, ListensOver}
use Rattle.cmd_wire.proofs.Words.{ListensSo, Rejected, Conversation, Begins, HasExpired, Heard, Hears, IsHeard, ListensThrough, ending_by, ending_of}
use Rattle.cmd_wire.proofs.Words.{hearing_stage, listening, with_peer, ListsDesk, sender_told}
use Rattle.cmd_wire.proofs.FromStages.{told_through}
use Rattle.fs_peering.{specs.{declared.tell.Ending.TheVariants.{Closed as HasClosed}, Hearer.{HasClosed as ClosesOnce}}, proofs.Courses.{octets_more}}

pub closes_behind : (config : Config) (peer : Peer) (heard earlier : Pieces) (moment : ℕ) (piece said more : List ℕ) (why : Closed)
    → heard ≡ earlier ++ (moment, piece) ∷ [] → ClosesIn config peer.number peer earlier moment piece said why
    → (bounded_from config peer (octets_in heard ++ more)).1 ≡ closed why
closes_behind config peer heard earlier moment piece said more why split c =
    ap (λ (z : List ℕ). (bounded_from config peer (z ++ more)).1) (ap octets_in split ∙ octets_more earlier moment piece)
    ∙ ap (λ (p : List Update × Last). p.1) (c.over.stays more)

pub expired_so : (config : Config) (peer : Peer) (heard : Pieces) (said : List ℕ) (why : Closed) (t : ClosesOnce config peer.number peer heard said why)
    → ExpiresAt config peer t.earlier t.moment said why → HasExpired config peer heard
expired_so config peer heard said why t x = record {
  earlier = t.earlier;
  moment = t.moment;
  piece = t.piece;
  split = t.split;
  lived = t.lived;
  due = x.due;
}

-- the session is that of the peer of the number
pub session_is : (config : Config) (number : ℕ) (peer : Peer) (octets : List ℕ) → peer_of number config.peers ≡ Some peer
    → (bounded_session config number octets).1 ≡ (bounded_from config peer octets).1
session_is config number peer octets e =
    ap (λ (o : Option Peer). let s : List Update × Last = elim o [ None ↦ ([], still at_start) | Some p ↦ bounded_from config p octets ] in s.1) e

-- the end that is due

due_still : (config : Config) (peer : Peer) (limit : ℕ) (octets : List ℕ) (phase : Phase) (met up : Bool)
    → (bounded_from config peer octets).1 ≡ still phase → nat_le limit (length octets) ≡ met → is_established phase.state ≡ up
    → (if met then AtLimit else if up then Done else Ended) ≡ ending_of config peer limit octets
due_still config peer limit octets phase met up found m u = sym (
    ap (ending_by limit (length octets)) found
    ∙ ap (λ (b : Bool). if b then AtLimit else if is_established phase.state then Done else Ended) m
    ∙ ap (λ (b : Bool). if met then AtLimit else if b then Done else Ended) u)

module _ (desk : Desked) (peer : Peer) (limit : ℕ) (heard : Pieces) (said left : List ℕ) (is_of : peer_of peer.number desk.config.peers ≡ Some peer) where
  found_from : (phase : Phase) → (bounded_session desk.config peer.number (octets_in heard)).1 ≡ still phase
      → (bounded_from desk.config peer (octets_in heard)).1 ≡ still phase
  found_from phase e = sym (session_is desk.config peer.number peer (octets_in heard) is_of) ∙ e

  due_closed : (why : Closed) → ClosesOnce desk.config peer.number peer heard said why → IsHeard (HasClosed why) desk.config peer limit heard
  due_closed why t = by t.closes
    where
      by : ExpiresAt desk.config peer t.earlier t.moment said why ⊎ ClosesIn desk.config peer.number peer t.earlier t.moment t.piece said why
          → IsHeard (HasClosed why) desk.config peer limit heard
      by (inl x) = inr (ap HasClosed x.why_is, expired_so desk.config peer heard said why t x)
      by (inr c) = inl (sym (ap (ending_by limit (length (octets_in heard)))
          (ap (λ (z : List ℕ). (bounded_from desk.config peer z).1) (sym (append-nil (octets_in heard)))
          ∙ closes_behind desk.config peer heard t.earlier t.moment t.piece said [] why t.split c)))

  due_of : (ending : Ending) → ListensSo ending desk peer.number peer limit heard said left → IsHeard ending desk.config peer limit heard
  due_of Done t = inl (due_still desk.config peer limit (octets_in heard) t.receives.phase false true (found_from t.receives.phase t.receives.found)
      (le_false limit (length (octets_in heard)) t.within) t.settled)
  due_of (HasClosed why) t = due_closed why t
  due_of Ended t = inl (due_still desk.config peer limit (octets_in heard) t.receives.phase false false (found_from t.receives.phase t.receives.found)
      (le_false limit (length (octets_in heard)) t.within) t.settled)
  due_of AtLimit t = inl (due_still desk.config peer limit (octets_in heard) t.receives.phase true (is_established t.receives.phase.state)
      (found_from t.receives.phase t.receives.found) (le_true limit (length (octets_in heard)) t.met) refl)

-- what was told of a connection that was taken, heard, and closed

abbrev listened : WireEnds → WireEnds → Type 0
listened before now = now ≡ listening before

pub through : (ending : Ending) (config : Config) (desk : Desked) (number limit : ℕ) (t1 t2 : Option WireEnds) (talk : Conversation)
    → Told listened talk.ends t1 → ListensOver ending config desk number limit t1 t2 talk.answers talk.answers_now → Told EndCloses t2 talk.ends_now
    → ListensThrough ending config desk number limit talk
through ending config desk number limit t1 t2 talk opens l closes = record {
  given = l.given;
  grew = l.grew;
  told = told_through listened (Listens ending config desk number limit l.given)
      (λ before now. Listens ending config desk number limit l.given (listening before) now)
      (λ a b c d h. subst (λ (e : WireEnds). Listens ending config desk number limit l.given e c) d h) talk.ends t1 t2 talk.ends_now opens l.told closes;
}

-- of the peer that the session is with
pub ends_of : (ending : Ending) (config : Config) (peer : Peer) (text : List ℕ) (limit : ℕ) (given : List ℕ) (before now : WireEnds)
    → (s : Hears ending config peer text limit given before now) → ListensSo ending s.desk peer.number peer limit s.listens.heard s.listens.said now.first.left
ends_of ending config peer text limit given before now s =
    subst (λ (p : Peer). ListensSo ending s.desk peer.number p limit s.listens.heard s.listens.said now.first.left) s.whose_is s.listens.ends

-- as the peer with the lowest number

module _ (ending : Ending) (config : Config) (desk : Desked) (peer : Peer) (text : List ℕ) (limit : ℕ)
    (peer_is : sender_of config.peers ≡ Some peer)
    (text_is : ListsDesk ending desk text) where
  is_of : peer_of peer.number config.peers ≡ Some peer
  is_of = sender_told config.peers peer peer_is

  hears_of : (given : List ℕ) (before now : WireEnds) → Listens ending config desk peer.number limit given (listening before) now
      → Hears ending config peer text limit given before now
  hears_of given before now l =
      let whose_is : l.whose ≡ peer = same_Some l.whose peer (sym l.whose_is ∙ is_of) in
      let there : peer_of peer.number desk.config.peers ≡ Some peer = subst (λ (c : Config). peer_of peer.number c.peers ≡ Some peer) (sym l.config_is) is_of in
      let ends : ListensSo ending desk peer.number peer limit l.heard l.said now.first.left =
      subst (λ (p : Peer). ListensSo ending desk peer.number p limit l.heard l.said now.first.left) whose_is l.ends in
      record {
        desk = desk;
        listens = l;
        whose_is = whose_is;
        due = subst (λ (c : Config). IsHeard ending c peer limit l.heard) l.config_is (due_of desk peer limit l.heard l.said now.first.left there ending ends);
        lists = λ done.
            let met : EndsSo true desk peer.number peer limit l.heard l.said now.first.left =
            subst (λ (e : Ending). ListensSo e desk peer.number peer limit l.heard l.said now.first.left) done ends in
            let played : Played config (tape_of peer.number (octets_in l.heard)) desk =
            subst (λ (c : Config). Played c (tape_of peer.number (octets_in l.heard)) desk) l.config_is met.receives.played in
            record {
              held = desk.held;
              leaves = played_leaves config (tape_of peer.number (octets_in l.heard)) desk played;
              text_is = text_is done config (tape_of peer.number (octets_in l.heard)) played;
            };
      }

  heard_of : (talk : Conversation) → ListensThrough ending config desk peer.number limit talk → Heard limit talk (config, peer) ending text
  heard_of talk l = record {
    given = l.given;
    grew = l.grew;
    told = told_as (λ before now. Listens ending config desk peer.number limit l.given (listening before) now) (Hears ending config peer text limit l.given)
        (hears_of l.given) talk.ends talk.ends_now l.told;
  }

-- as the one with which the session began
pub heard_as : {accepted : Config} {desk : Desked} {number count : ℕ} (b : Begins accepted desk number count) (ending : Ending) (desk' : Desked)
    (limit : ℕ) (talk : Conversation)
    → ListensThrough ending desk.config desk' number limit talk → (text : List ℕ) → ListsDesk ending desk' text
    → Heard limit talk (accepted, b.peer) ending text
heard_as {accepted} {desk} {number} b ending desk' limit talk l text lists =
    heard_of ending accepted desk' b.peer text limit b.peer_is lists talk
    (subst (λ (n : ℕ). ListensThrough ending accepted desk' n limit talk) b.number_is
    (subst (λ (c : Config). ListensThrough ending c desk' number limit talk) b.config_is l))

-- the configuration is accepted, and has peers
pub hearing_found : (limit : ℕ) (holds : Names) (config : List ℕ) (accepted : Config) (peer : Peer) → config_stage limit holds config ≡ Found accepted
    → sender_of accepted.peers ≡ Some peer → hearing_stage limit holds config ≡ Found (accepted, peer)
hearing_found limit holds config accepted peer e p =
    ap (λ (s : Stage Config). and_then s with_peer) e
    ∙ ap (λ (o : Option Peer). and_then {B = Config × Peer} (or_stop Rejected o) (λ peer. Found (accepted, peer))) p
