-- What the clock and a piece make of the session through a place.
use Rattle.fs_recorder.proofs.Words.{ℕ, Bool, true, false, List, [], ◌∷◌, ◌++◌, Option, Some, None, ◌==◌, ◌≡◌, ◌||◌, if◌then◌else◌, length, drop}
use Rattle.fs_recorder.proofs.Words.{unwrap_or, drop-append_seam, refl, ap, sym, subst, ◌∙◌, true≢false, eq_itself, peer_of, Config, Peer, Item}
use Rattle.fs_recorder.proofs.Words.{received, Desked, HandsPeer, PeerIs, Played, Replied, RepliesBehind, TicksPeer, session_at, standing_at_desk}
use Rattle.fs_recorder.proofs.Words.{life, point_of, Live, Point, Place, IsOpenAt, expires, handed_point, is_closed, is_some, replies_to}
use Rattle.std.specs.List.{list_any}
use Rattle.fs_message.specs.{Write.{message_text}, Deframer.{pending}}
use Rattle.fs_attrs.specs.declared.update.Update.{Update}
use Rattle.fs_rules.specs.Table.{Held}
use Rattle.fs_speaker.specs.declared.{Closed.{Closed, TheVariants.{Fault}}, Standing.{TheVariants.{Ended, Live as LiveIn}}}
use Rattle.fs_speaker.specs.{End.{ticked, ticks}, Handed.{Handed, handed, hand, point}, Side.{receiver}, State.{standing_by}}
use Rattle.fs_speaker.specs.Times.{at_moment, tick_at, written_now}
use Rattle.fs_session.specs.declared.times.{Tick.{Tick, TheVariants.{Quiet, Keeps, Expires}}, Times.{Times}}
use Rattle.fs_desk.specs.{HoldTimer.{TickMakes, TicksIn, with_times}, Life.{begins_life, bounds_life, sent_by}, Limit.{bounded_replies}, Receive.{IsFed}}

-- how it stands with an open session, and with a closed one
pub open_stands : (session : Live) → session.closed ≡ None → standing_by (Some session) ≡ LiveIn session.phase.state
open_stands session alive = ap (λ (c : Option Closed). elim c [ Some w ↦ Ended w | None ↦ LiveIn session.phase.state ]) alive

pub open_is : (session : Live) → session.closed ≡ None → is_closed (standing_by (Some session)) ≡ false
open_is session alive = ap is_closed (open_stands session alive)

shut_is : (session : Live) (why : Closed) → session.closed ≡ Some why → is_closed (standing_by (Some session)) ≡ true
shut_is session why shut = ap (λ (c : Option Closed). is_closed (elim c [ Some w ↦ Ended w | None ↦ LiveIn session.phase.state ])) shut

pub not_shut : (session : Live) → is_closed (standing_by (Some session)) ≡ false → session.closed ≡ None
not_shut session is = by session.closed refl
  where
    by : (c : Option Closed) → session.closed ≡ c → c ≡ None
    by None e = refl
    by (Some why) e = absurd (true≢false (sym (shut_is session why e) ∙ is))

-- of a place's session
pub place_open : (desk : Desked) (place : Place) → IsOpenAt desk place → is_closed (standing_at_desk desk place.peer) ≡ false
place_open desk place is = ap (λ kept. is_closed (standing_by kept)) is.session_is ∙ open_is is.session is.alive

-- what an end comes to is what is kept behind it
pub record Made (to : Handed) (old new : Live) (replies : List ℕ) : Type 0 where
  pub text : replies ≡ to.text
  pub shut : is_closed (standing_by (Some new)) ≡ is_some to.point.closed
  pub alive : is_some to.point.closed ≡ false → new.closed ≡ None
  pub point_is : is_some to.point.closed ≡ false → point_of new ≡ to.point
  pub stays : is_some to.point.closed ≡ false → standing_by (Some new) ≡ standing_by (Some old)

made_open : (times : Times) (text : List ℕ) (old new : Live) (replies : List ℕ) → old.closed ≡ None → new ≡ with_times times old → replies ≡ text
    → Made (handed (point (pending old.framing) old.phase times None) [] text) old new replies
made_open times text old new replies alive same said =
    let is_open : new.closed ≡ None = ap (λ (s : Live). s.closed) same ∙ alive in
    record {
      text = said;
      shut = open_is new is_open;
      alive = λ _. is_open;
      point_is = λ _. ap point_of same ∙ ap (point (pending old.framing) old.phase times) alive;
      stays = λ _. ap (λ (s : Live). standing_by (Some s)) same;
    }

made : (peer : ℕ) (tick : Tick) (times : Times) (old new : Live) (held held' : Held) (replies : List ℕ) → old.closed ≡ None
    → TickMakes tick peer times old new held held' [] replies → Made (ticks tick (pending old.framing) old.phase times) old new replies
made peer Quiet times old new held held' replies alive m = made_open times [] old new replies alive m.0 m.1.1
made peer Keeps times old new held held' replies alive m = made_open (written_now times) (message_text 4 []) old new replies alive m.0 m.1.1
made peer Expires times old new held held' replies alive m = record {
  text = m.1.1;
  shut = shut_is new (Fault 4 0) m.0;
  alive = λ e. absurd (true≢false e);
  point_is = λ e. absurd (true≢false e);
  stays = λ e. absurd (true≢false e);
}

-- The session through a place behind the clock, and the others.
pub record Ticked (time : ℕ) (place : Place) (old new : Desked) (replies : List ℕ) : Type 0 where
  pub before : Live
  pub was : session_at place.peer old.sessions ≡ Some before
  pub session : Live
  pub session_is : session_at place.peer new.sessions ≡ Some session
  pub made : Made (ticked time place.point) before session replies
  pub others : (number : ℕ) → (number == place.peer) ≡ false → session_at number new.sessions ≡ session_at number old.sessions

pub ticked_at : (time : ℕ) (place : Place) (old new : Desked) (replies : List ℕ) → IsOpenAt old place → TicksPeer place.peer time old new [] replies
    → Ticked time place old new replies
ticked_at time place old new replies is_open t = by (session_at place.peer old.sessions) is_open.session_is t
  where
    by : (found : Option Live) → found ≡ Some is_open.session
        → (elim found as (λ _. Type 0) [
          | None ↦ (new ≡ old) × (replies ≡ [])
          | Some session ↦
              (session' : Live)
              × (TicksIn session.closed place.peer time session session' old.held new.held [] replies
              × ((number : ℕ)
              → session_at number new.sessions ≡ (if number == place.peer then Some session' else session_at number old.sessions)))
        ])
        → Ticked time place old new replies
    by None e t = absurd cc
    by (Some kept) e t =
        let same : kept ≡ is_open.session = cc in
        let alive : kept.closed ≡ None = ap (λ (s : Live). s.closed) same ∙ is_open.alive in
        let stood : point_of kept ≡ place.point = ap point_of same ∙ is_open.point_is in
        let times = at_moment time kept.times in
        let makes = subst (λ (c : Option Closed). TicksIn c place.peer time kept t.0 old.held new.held [] replies) alive t.1.0 in
        let to : ticked time (point_of kept) ≡ ticks (tick_at kept.phase.hold times) (pending kept.framing) kept.phase times =
        ap (λ (c : Option Closed). elim c
        [ Some why ↦ handed (point_of kept) [] [] | None ↦ ticks (tick_at kept.phase.hold times) (pending kept.framing) kept.phase times ]) alive in
        record {
          before = kept;
          was = is_open.session_is ∙ ap Some (sym same);
          session = t.0;
          session_is = t.1.1 place.peer ∙ ap (λ (b : Bool). if b then Some t.0 else session_at place.peer old.sessions) (eq_itself place.peer);
          made = subst (λ (p : Point). Made (ticked time p) kept t.0 replies) stood
              (subst (λ (h : Handed). Made h kept t.0 replies) (sym to)
              (made place.peer (tick_at kept.phase.hold times) times kept t.0 old.held new.held replies alive makes));
          others = λ number e. t.1.1 number ∙ ap (λ (b : Bool). if b then Some t.0 else session_at number old.sessions) e;
        }

-- whether the clock has closed it
pub ticked_shut : (time : ℕ) (place : Place) (old new : Desked) (replies : List ℕ) → Ticked time place old new replies
    → is_closed (standing_at_desk new place.peer) ≡ expires time place
ticked_shut time place old new replies t = ap (λ kept. is_closed (standing_by kept)) t.session_is ∙ t.made.shut

pub ticked_stays : (time : ℕ) (place : Place) (old new : Desked) (replies : List ℕ) → Ticked time place old new replies → expires time place ≡ false
    → standing_at_desk new place.peer ≡ standing_at_desk old place.peer
ticked_stays time place old new replies t e = ap standing_by t.session_is ∙ t.made.stays e ∙ sym (ap standing_by t.was)

-- what is kept of a peer with an open session
pub record Lives (config : Config) (peer : Option Peer) (octets : Option (List ℕ)) (session : Live) : Type 0 where
  pub whose : Peer
  pub peer_is : peer ≡ Some whose
  pub sent : List ℕ
  pub life_is : octets ≡ Some sent
  pub own_config : session.config ≡ config
  pub own_peer : session.peer ≡ whose

fed_own : (config : Config) (whose : Peer) (octets : List ℕ) (session : Live) (how : Option Closed) (updates : List Update)
    → IsFed config whose octets session how updates → how ≡ None → (session.config ≡ config) × (session.peer ≡ whose)
fed_own config whose octets session None updates fed e = (fed.0.config_is, fed.0.peer_is)
fed_own config whose octets session (Some why) updates fed e = absurd cc

lives : (config : Config) (peer : Option Peer) (octets : Option (List ℕ)) (kept : Option Live) (number : ℕ) (held : Held) (session : Live)
    → PeerIs config peer octets kept number held → kept ≡ Some session → session.closed ≡ None → Lives config peer octets session
lives config (Some whose) (Some octets) (Some kept) number held session is e alive =
    let same : kept ≡ session = cc in
    let own = fed_own config whose octets kept kept.closed is.updates is.fed (ap (λ (s : Live). s.closed) same ∙ alive) in
    record {
      whose = whose;
      peer_is = refl;
      sent = octets;
      life_is = refl;
      own_config = sym (ap (λ (s : Live). s.config) same) ∙ own.0;
      own_peer = sym (ap (λ (s : Live). s.peer) same) ∙ own.1;
    }
lives config peer None None number held session is e alive = absurd cc
lives config (Some whose) None (Some kept) number held session is e alive = absurd is
lives config None None (Some kept) number held session is e alive = absurd is
lives config (Some whose) (Some octets) None number held session is e alive = absurd is
lives config None (Some octets) None number held session is e alive = absurd is
lives config None (Some octets) (Some kept) number held session is e alive = absurd is

pub lives_at : (config : Config) (items : List Item) (desk : Desked) (place : Place) (is_open : IsOpenAt desk place) → Played config items desk
    → Lives config (peer_of place.peer config.peers) (life place.peer items) is_open.session
lives_at config items desk place is_open played =
    lives config (peer_of place.peer config.peers) (life place.peer items) (session_at place.peer desk.sessions) place.peer desk.held is_open.session
    (played.each place.peer) is_open.session_is is_open.alive

-- a piece leaves a life

any_on : (peer other : ℕ) (piece : List ℕ) (items : List Item)
    → list_any (bounds_life peer) (items ++ received other piece ∷ []) ≡ list_any (bounds_life peer) items
any_on peer other piece [] = refl
any_on peer other piece (item ∷ items) = ap (λ b. bounds_life peer item || b) (any_on peer other piece items)

life_on : (peer : ℕ) (piece : List ℕ) (items : List Item) (octets : List ℕ) → life peer items ≡ Some octets
    → (later : List ℕ) × (life peer (items ++ received peer piece ∷ []) ≡ Some later)
life_on peer piece [] octets e = absurd cc
life_on peer piece (item ∷ items) octets e =
    subst (λ b. (later : List ℕ) × ((if b then life peer (items ++ received peer piece ∷ []) else if begins_life peer item
    then Some (sent_by peer (items ++ received peer piece ∷ [])) else None) ≡ Some later))
    (sym (any_on peer peer piece items)) (at (list_any (bounds_life peer) items) (begins_life peer item) (life_on peer piece items octets) e)
  where
    at : (b u : Bool) → (life peer items ≡ Some octets → (later : List ℕ) × (life peer (items ++ received peer piece ∷ []) ≡ Some later))
        → (if b then life peer items else if u then Some (sent_by peer items) else None) ≡ Some octets
        → (later : List ℕ) × ((if b then life peer (items ++ received peer piece ∷ []) else if u
        then Some (sent_by peer (items ++ received peer piece ∷ [])) else None) ≡ Some later)
    at true u rest e = rest e
    at false true rest e = (sent_by peer (items ++ received peer piece ∷ []), refl)
    at false false rest e = absurd cc

kept_on : (config : Config) (peer : Option Peer) (octets : Option (List ℕ)) (kept : Option Live) (number : ℕ) (held : Held) (later : List ℕ)
    → PeerIs config peer octets kept number held → octets ≡ Some later → (session : Live) × (kept ≡ Some session)
kept_on config (Some whose) (Some octets) (Some kept) number held later is e = (kept, refl)
kept_on config peer None None number held later is e = absurd cc
kept_on config (Some whose) None (Some kept) number held later is e = absurd is
kept_on config None None (Some kept) number held later is e = absurd is
kept_on config (Some whose) (Some octets) None number held later is e = absurd is
kept_on config None (Some octets) None number held later is e = absurd is
kept_on config None (Some octets) (Some kept) number held later is e = absurd is

-- the session behind a piece
pub session_on : (config : Config) (items : List Item) (old new : Desked) (place : Place) (piece : List ℕ) → IsOpenAt old place → Played config items old
    → Played config (items ++ received place.peer piece ∷ []) new → (session : Live) × (session_at place.peer new.sessions ≡ Some session)
session_on config items old new place piece is_open was now =
    let lives = lives_at config items old place is_open was in
    let later = life_on place.peer piece items lives.sent lives.life_is in
    kept_on config (peer_of place.peer config.peers) (life place.peer (items ++ received place.peer piece ∷ []))
    (session_at place.peer new.sessions) place.peer new.held later.0
    (now.each place.peer) later.1

-- what is replied to a piece
replied_on : (config : Config) (peer : ℕ) (octets : Option (List ℕ)) (piece replies sent : List ℕ) → Replied config peer octets piece [] replies
    → octets ≡ Some sent
    → drop (length (bounded_replies config peer (unwrap_or octets []))) (bounded_replies config peer (unwrap_or octets [] ++ piece)) ≡ replies
replied_on config peer None piece replies sent r e = absurd cc
replied_on config peer (Some octets) piece replies sent r e =
    ap (drop (length (bounded_replies config peer octets))) r.2 ∙ drop-append_seam (bounded_replies config peer octets) r.0 ∙ sym r.1

pub replies_are : (config : Config) (items : List Item) (desk : Desked) (place : Place) (piece replies : List ℕ) → IsOpenAt desk place
    → Played config items desk
    → RepliesBehind place.peer desk piece [] replies → replies_to config place.peer items piece ≡ replies
replies_are config items desk place piece replies is_open played r =
    let lives = lives_at config items desk place is_open played in
    replied_on config place.peer (life place.peer items) piece replies lives.sent (r (λ _. false) config items played) lives.life_is

-- where a piece leaves it open
pub point_on : (config : Config) (items : List Item) (old new : Desked) (place : Place) (piece replies : List ℕ) (session : Live) → IsOpenAt old place
    → Played config items old → HandsPeer place.peer old new piece [] replies → session_at place.peer new.sessions ≡ Some session → session.closed ≡ None
    → point_of session ≡ handed_point config place.peer place.point piece
point_on config items old new place piece replies session is_open played hands own alive =
    let lives = lives_at config items old place is_open played in
    let is = hands (λ _. false) config items is_open.session session played is_open.session_is own alive in
    is.point_is
    ∙ ap (λ (c : Config). (hand (receiver c is_open.session.peer) is_open.session.times.greatest (point_of is_open.session) piece).point) lives.own_config
    ∙ ap (λ (p : Peer). (hand (receiver config p) is_open.session.times.greatest (point_of is_open.session) piece).point) lives.own_peer
    ∙ ap (λ (at : Point). (hand (receiver config lives.whose) at.times.greatest at piece).point) is_open.point_is
    ∙ sym (ap (λ (p : Option Peer).
    elim p [ None ↦ place.point | Some whose ↦ (hand (receiver config whose) place.point.times.greatest place.point piece).point ]) lives.peer_is)
