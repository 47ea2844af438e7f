-- What the clauses of a run of `listen` say follows from what it does.
use Rattle.cmd_wire.proofs.Words.{AtLimit, ClosesIn, Done, Ended, Ending, ExpiresAt, Found, Grew, Happened, Names, Peer, Phase, Pieces, Refusal}
use Rattle.cmd_wire.proofs.Words.{Stage, Stopped, WireEnds, and_then, bounded_from, bounded_session, config_stage, is_established, moments_in}
use Rattle.cmd_wire.proofs.Words.{octets_in, or_stop, peer_of, sender_of, still, ◌≡◌, ◌⊎◌, inl, inr, ◌<◌, ◌≤◌, ◌∙◌, ℕ, ◌+◌, List, ◌++◌, length, true}
use Rattle.cmd_wire.proofs.Words.{false, Option, Some, None, append-nil, arith, refl, ap, sym, subst, length-append, true≢false, Config, EndsSo}
use Rattle.cmd_wire.proofs.Words.{MeetsLimit, closed_still, same_still, Rejected, Conversation, HasExpired, Heard, Hears, ListensTo, hearing_stage}
use Rattle.cmd_wire.proofs.Words.{with_peer, sender_told, IsReached, ListenPromises}
use Rattle.cmd_wire.proofs.{Concluding.{IsOfFiles, promises, told_at}, Hearing.{closes_behind, ends_of, expired_so, session_is}}
use Rattle.cmd_wire.proofs.{Promising.{config_stops, or_stops, then_stops}, Statuses.{same_found}}
use Rattle.fs_peering.specs.{declared.tell.Ending.TheVariants.{Closed as HasClosed}, Hearer.{HasClosed as ClosesOnce}}

-- the configuration alone ends a run before the wire is opened

never_found : (accepted : Config) (peer : Peer) (refusal : Refusal) → ◌≡◌ {A = Stage (Config × Peer)} (Found (accepted, peer)) (Stopped refusal)
    → IsOfFiles refusal
never_found accepted peer refusal e = absurd cc

abbrev found_with : Config → Peer → Stage (Config × Peer)
found_with accepted peer = Found (accepted, peer)

hearing_stops : (limit : ℕ) (holds : Names) (config : List ℕ) (refusal : Refusal) → hearing_stage limit holds config ≡ Stopped refusal → IsOfFiles refusal
hearing_stops limit holds config refusal e =
    then_stops (config_stage limit holds config) with_peer refusal e (config_stops limit holds config)
    (λ accepted h. then_stops (or_stop Rejected (sender_of accepted.peers)) (found_with accepted) refusal h
    (λ other k. inr (inr (or_stops Rejected (sender_of accepted.peers) other k)))
    (λ peer found. never_found accepted peer refusal found))

-- another end that leaves the session established

too_many : (limit size all left : ℕ) → limit ≤ size → all ≡ size + left → all < limit → ⊥
too_many limit size all left m e l = omega (arith, m, e, l)

module _ (config : Config) (peer : Peer) (text : List ℕ) (limit : ℕ) (given : List ℕ) (before now : WireEnds) (phase : Phase)
    (is_of : peer_of peer.number config.peers ≡ Some peer)
    (stays : (bounded_from config peer before.first.to_receive).1 ≡ still phase)
    (up : is_established phase.state ≡ true) (within : length before.first.to_receive < limit)
    (timely : (heard : Pieces) (left : List ℕ) → before.first.to_receive ≡ octets_in heard ++ left → moments_in heard ≡ given
    → HasExpired config peer heard → ⊥) where
  only_done_so : (ending : Ending) → Hears ending config peer text limit given before now → ending ≡ Done
  only_done_so Done s = refl
  only_done_so (HasClosed why) s = absurd (at closed_there.closes)
    where
      closed_there : ClosesOnce config peer.number peer s.listens.heard s.listens.said why
      closed_there = subst (λ (c : Config). ClosesOnce c peer.number peer s.listens.heard s.listens.said why) s.listens.config_is
          (ends_of (HasClosed why) config peer text limit given before now s)

      at : ExpiresAt config peer closed_there.earlier closed_there.moment s.listens.said why
          ⊎ ClosesIn config peer.number peer closed_there.earlier closed_there.moment closed_there.piece s.listens.said why → ⊥
      at (inl x) = timely s.listens.heard now.first.left s.listens.read s.listens.asked
          (expired_so config peer s.listens.heard s.listens.said why closed_there x)
      at (inr c) = closed_still why phase
          (sym (closes_behind config peer s.listens.heard closed_there.earlier closed_there.moment closed_there.piece s.listens.said now.first.left
          why closed_there.split c)
          ∙ ap (λ (z : List ℕ). (bounded_from config peer z).1) (sym s.listens.read) ∙ stays)
  only_done_so Ended s = absurd (at (ends_of Ended config peer text limit given before now s))
    where
      at : EndsSo false s.desk peer.number peer limit s.listens.heard s.listens.said now.first.left → ⊥
      at e =
          let all : before.first.to_receive ≡ octets_in s.listens.heard = s.listens.read ∙ ap (λ (z : List ℕ). octets_in s.listens.heard ++ z) e.none
          ∙ append-nil (octets_in s.listens.heard) in
          let found : (bounded_from config peer (octets_in s.listens.heard)).1 ≡ still e.receives.phase =
          sym (session_is config peer.number peer (octets_in s.listens.heard) is_of)
          ∙ ap (λ (c : Config). (bounded_session c peer.number (octets_in s.listens.heard)).1) (sym s.listens.config_is) ∙ e.receives.found in
          let same : phase ≡ e.receives.phase =
          same_still phase e.receives.phase (sym stays ∙ ap (λ (z : List ℕ). (bounded_from config peer z).1) all ∙ found) in
          true≢false (sym (subst (λ (p : Phase). is_established p.state ≡ true) same up) ∙ e.settled)
  only_done_so AtLimit s = absurd (at (ends_of AtLimit config peer text limit given before now s))
    where
      at : MeetsLimit s.desk peer.number peer limit s.listens.heard s.listens.said → ⊥
      at m = too_many limit (length (octets_in s.listens.heard)) (length before.first.to_receive) (length now.first.left) m.met
          (ap (λ (z : List ℕ). length z) s.listens.read ∙ length-append (octets_in s.listens.heard) now.first.left) within

-- the peer of a stage that is passed
peer_found : (stage : Stage Config) (accepted : Config) (peer : Peer) → and_then stage with_peer ≡ Found (accepted, peer) → sender_of accepted.peers ≡ Some peer
peer_found (Found config) accepted peer e = by (sender_of config.peers) refl e
  where
    by : (o : Option Peer) → sender_of config.peers ≡ o
        → and_then {B = Config × Peer} (or_stop Rejected o) (λ p. Found (config, p)) ≡ Found (accepted, peer) → sender_of accepted.peers ≡ Some peer
    by None s f = absurd cc
    by (Some p) s f =
        let same : ◌≡◌ {A = Config × Peer} (config, p) (accepted, peer) = same_found f in
        ap (λ (c : Config). sender_of c.peers) (sym (ap (λ (q : Config × Peer). q.0) same)) ∙ s ∙ ap (λ (q : Config × Peer). Some q.1) same
peer_found (Stopped refusal) accepted peer e = absurd cc

pub listen_promises : (limit : ℕ) (holds : Names) (config : List ℕ) (call : Happened) (talk : Conversation) (answer : ℕ)
    → ListensTo limit holds config call talk answer → ListenPromises limit holds config call talk answer
listen_promises limit holds config call talk answer =
    promises (hearing_stage limit holds config) (Heard limit talk) call answer talk (IsReached limit holds config talk)
    (hearing_stops limit holds config) (λ s. s.set_up) only
  where
    only : (s : IsReached limit holds config talk) (ending : Ending) (text : List ℕ) → Heard limit talk s.set_up.accepted ending text → ending ≡ Done
    only s ending text hears =
        let accepted : Config = s.set_up.accepted.0 in
        let peer : Peer = s.set_up.accepted.1 in
        let sends : sender_of accepted.peers ≡ Some peer = peer_found (config_stage limit holds config) accepted peer s.set_up.found in
        only_done_so accepted peer text limit hears.given s.set_up.ends s.set_up.ends_now s.phase (sender_told accepted.peers peer sends) s.stays s.up s.within
        (λ heard left read asked. s.timely heard left read (subst (λ (moments : List ℕ). Grew talk.answers talk.answers_now moments) (sym asked) hears.grew))
        ending (told_at (Hears ending accepted peer text limit hears.given) s.set_up hears.told)
