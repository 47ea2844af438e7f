-- What a session replies when it is fed octet by octet, and all that is replied to the octets that the peer sent.
use Rattle.fs_desk.proofs.Words.{◌≡◌, ℕ, List, [], ◌∷◌, ◌++◌, true, drop, Option, Some, None, ap, sym, ◌∙◌, append_assoc, append-nil, subst, Config}
use Rattle.fs_desk.proofs.Words.{Peer, pending, Update, Established, Closed, Phase, Step, waits, takes, stops, fresh, reply_to, reply_at, at_start}
use Rattle.fs_desk.proofs.Words.{Last, session_from, Live, live, step_of, Does, reply_of, step_with, session_waits, first_over, is_over, routes_left}
use Rattle.fs_desk.proofs.Words.{too_many, bounded_replies_from, replies_to_limit, Follows, AreWithin, IsFed, said_in, IsReplying, HasReplied}
use Rattle.fs_desk.proofs.Follows.{nothing_waits, all_gone, closed_small, follows_over, follows_small}
use Rattle.fs_desk.proofs.Saying.{takes_says, takes_update}
use Rattle.fs_speaker.{specs.Replies.{replies_from}, proofs.ReplySteps.{replies_takes, replies_stops, replies_waits}}

-- a session that doesn't pass its limit is replied to as without it, and one that passes it up to that update
pub replies_within : (config : Config) (peer : Peer) (octets : List ℕ) → first_over peer.max_routes (session_from config peer at_start octets).0 ≡ None
    → bounded_replies_from config peer octets ≡ replies_from config peer at_start octets
replies_within config peer octets h =
    ap (λ (o : Option (List Update)). elim o as (λ _. List ℕ) [ None ↦ replies_from config peer at_start octets | Some front ↦ replies_to_limit config ]) h

pub replies_over : (config : Config) (peer : Peer) (octets : List ℕ) (front : List Update)
    → first_over peer.max_routes (session_from config peer at_start octets).0 ≡ Some front
    → bounded_replies_from config peer octets ≡ replies_to_limit config
replies_over config peer octets front h =
    ap (λ (o : Option (List Update)). elim o as (λ _. List ℕ) [ None ↦ replies_from config peer at_start octets | Some front ↦ replies_to_limit config ]) h

-- a session that has not begun has said nothing
said_none : (config : Config) (peer : Peer) → bounded_replies_from config peer [] ≡ []
said_none config peer =
    replies_within config peer [] (ap (λ (r : List Update × Last). first_over peer.max_routes r.0)
    (session_waits config peer at_start [] (nothing_waits config peer at_start)))
    ∙ replies_waits config peer at_start [] (nothing_waits config peer at_start)

pub replied_none : (config : Config) (peer : Peer)
    → HasReplied config peer [] (live config peer fresh) None (bounded_replies_from config peer [])
replied_none config peer = record {
  said_is = said_none config peer;
  goes = λ more. ap (λ (z : List ℕ). z ++ replies_from config peer at_start more) (sym (said_none config peer));
}

-- all octets that are sent next are the rest
pub replying_piece : (config : Config) (peer : Peer) (octets piece : List ℕ) (session : Live) (said : List ℕ)
    → IsReplying config peer octets [] session said → IsReplying config peer (octets ++ piece) piece session said
replying_piece config peer octets piece session said s = record {
  said_is = s.said_is;
  goes = λ more. ap (λ (z : List ℕ). replies_from config peer at_start z) (append_assoc octets piece more) ∙ s.goes (piece ++ more);
}

module _ (config : Config) (peer : Peer) (octets rest : List ℕ) (old : Live) (said : List ℕ) where
  -- the octets in hand and the rest stand together
  joined : IsReplying config peer octets rest old said → (more : List ℕ)
      → replies_from config peer at_start (octets ++ more)
      ≡ said ++ replies_from config peer old.phase ((pending old.framing ++ rest) ++ more)
  joined s more = s.goes more ∙ ap (λ (z : List ℕ). said ++ replies_from config peer old.phase z) (sym (append_assoc (pending old.framing) rest more))

  -- the step of a session that follows, by the terms that it follows
  step_is : {updates : List Update} → Follows config peer octets rest old updates → (step : Step) → step_with old rest ≡ step
      → step_of config peer old.phase (pending old.framing ++ rest) ≡ step
  step_is f step h =
      ap (λ (d : Config). step_of d peer old.phase (pending old.framing ++ rest)) (sym f.config_is)
      ∙ ap (λ (q : Peer). step_of old.config q old.phase (pending old.framing ++ rest)) (sym f.peer_is)
      ∙ h

  -- what one step replies
  pub replying_fed : {updates : List Update} (new : Live) (count : ℕ) (update : Option Update) → Follows config peer octets rest old updates
      → IsReplying config peer octets rest old said → (step : Step) → step_with old rest ≡ step → Does step old new rest count update
      → IsReplying config peer octets (drop count rest) new (said ++ reply_of old step)
  replying_fed new count update f s waits h did = record {
    said_is = append-nil said ∙ s.said_is ∙ ap (λ (t : Phase). said_in config t.state) (sym did.2);
    goes = λ more.
        joined s more
        ∙ ap (λ (z : List ℕ). said ++ replies_from config peer old.phase (z ++ more)) (sym did.1)
        ∙ ap (λ (t : Phase). said ++ replies_from config peer t (pending new.framing ++ more)) (sym did.2)
        ∙ ap (λ (z : List ℕ). said ++ replies_from config peer new.phase (pending new.framing ++ (z ++ more))) (sym (all_gone rest count did.0))
        ∙ ap (λ (z : List ℕ). z ++ replies_from config peer new.phase (pending new.framing ++ (drop count rest ++ more))) (sym (append-nil said));
  }
  replying_fed new count update f s (takes next taken behind) h did = record {
    said_is =
        ap (λ (z : List ℕ). z ++ reply_to old.config old.phase.state) s.said_is
        ∙ ap (λ (c : Config). said_in config old.phase.state ++ reply_to c old.phase.state) f.config_is
        ∙ sym (takes_says config peer old.phase next taken (pending old.framing ++ rest) behind (step_is f (takes next taken behind) h))
        ∙ ap (λ (t : Phase). said_in config t.state) (sym did.3);
    goes = λ more.
        joined s more
        ∙ ap (λ (z : List ℕ). said ++ z)
        (replies_takes config peer old.phase next taken (pending old.framing ++ rest) behind more (step_is f (takes next taken behind) h))
        ∙ sym (append_assoc said (reply_to config old.phase.state) (replies_from config peer next (behind ++ more)))
        ∙ ap (λ (c : Config). (said ++ reply_to c old.phase.state) ++ replies_from config peer next (behind ++ more)) (sym f.config_is)
        ∙ ap (λ (t : Phase). (said ++ reply_to old.config old.phase.state) ++ replies_from config peer t (behind ++ more)) (sym did.3)
        ∙ ap (λ (z : List ℕ). (said ++ reply_to old.config old.phase.state) ++ replies_from config peer new.phase (z ++ more)) did.1
        ∙ ap (λ (z : List ℕ). (said ++ reply_to old.config old.phase.state) ++ replies_from config peer new.phase (z ++ (drop count rest ++ more))) (sym did.2);
  }
  replying_fed new count update f s (stops why) h did = absurd did

  -- a session that has taken an update is established
  pub fed_established : {updates : List Update} (new : Live) (count : ℕ) (update : Update) → Follows config peer octets rest old updates
      → (step : Step) → step_with old rest ≡ step → Does step old new rest count (Some update) → new.phase.state ≡ Established
  fed_established new count update f waits h did = absurd (let none : Some update ≡ None = did.3 in cc)
  fed_established new count update f (takes next taken behind) h did =
      ap (λ (t : Phase). t.state) did.3
      ∙ takes_update config peer old.phase next update (pending old.framing ++ rest) behind (step_is f (takes next taken behind) h
      ∙ ap (λ (o : Option Update). takes next o behind) (sym did.4))
  fed_established new count update f (stops why) h did = absurd did

  -- what closes is answered, and nothing more is
  pub replying_closed : {updates : List Update} (why : Closed) → Follows config peer octets rest old updates → AreWithin peer updates
      → IsReplying config peer octets rest old said → step_with old rest ≡ stops why
      → (more : List ℕ) → bounded_replies_from config peer (octets ++ more) ≡ said ++ reply_at why
  replying_closed {updates} why f w s h more =
      replies_within config peer (octets ++ more) (closed_small config peer octets rest old updates why f w (step_is f (stops why) h) more)
      ∙ joined s more
      ∙ ap (λ (z : List ℕ). said ++ z) (replies_stops config peer old.phase why (pending old.framing ++ rest) more (step_is f (stops why) h))

-- an update that passes the limit is answered, and nothing more is
pub replying_ceased : (config : Config) (peer : Peer) (octets rest : List ℕ) (session : Live) (updates : List Update) (update : Update) (said : List ℕ)
    → Follows config peer octets rest session (updates ++ update ∷ []) → AreWithin peer updates
    → is_over peer.max_routes (routes_left (updates ++ update ∷ [])) ≡ true
    → said ≡ said_in config session.phase.state → session.phase.state ≡ Established
    → (more : List ℕ) → bounded_replies_from config peer (octets ++ more) ≡ said ++ reply_at too_many
replying_ceased config peer octets rest session updates update said f w h s e more =
    replies_over config peer (octets ++ more) (updates ++ update ∷ []) (follows_over config peer octets rest session updates update f w h more)
    ∙ ap (λ (z : List ℕ). z ++ reply_at too_many) (sym (s ∙ ap (said_in config) e))

-- what a session has said is all that is replied to its octets
pub replied_all : (config : Config) (peer : Peer) (octets : List ℕ) (session : Live) (o : Option Closed) (updates : List Update) (said : List ℕ)
    → IsFed config peer octets session o updates → HasReplied config peer octets session o said → bounded_replies_from config peer octets ≡ said
replied_all config peer octets session None updates said f s =
    replies_within config peer octets (follows_small config peer octets session updates f.0 f.1)
    ∙ ap (λ (z : List ℕ). replies_from config peer at_start z) (sym (append-nil octets))
    ∙ s.goes []
    ∙ ap (λ (z : List ℕ). said ++ replies_from config peer session.phase z) (append-nil (pending session.framing))
    ∙ ap (λ (z : List ℕ). said ++ z) (replies_waits config peer session.phase (pending session.framing) f.0.waiting)
    ∙ append-nil said
replied_all config peer octets session (Some why) updates said f s =
    ap (λ (z : List ℕ). bounded_replies_from config peer z) (sym (append-nil octets)) ∙ s []

-- what is said of a session as it stands
pub replied_exactly : (config : Config) (peer : Peer) (octets : List ℕ) (session : Live) (o : Option Closed) (updates : List Update) (said : List ℕ)
    → IsFed config peer octets session o updates → HasReplied config peer octets session o said
    → HasReplied config peer octets session o (bounded_replies_from config peer octets)
replied_exactly config peer octets session o updates said f s =
    subst (λ (z : List ℕ). HasReplied config peer octets session o z) (sym (replied_all config peer octets session o updates said f s)) s

-- a closed session replies nothing more
pub replied_over : (config : Config) (peer : Peer) (octets piece : List ℕ) (session : Live) (why : Closed) (said : List ℕ)
    → HasReplied config peer octets session (Some why) said → HasReplied config peer (octets ++ piece) session (Some why) said
replied_over config peer octets piece session why said s = λ more.
    ap (λ (z : List ℕ). bounded_replies_from config peer z) (append_assoc octets piece more) ∙ s (piece ++ more)
