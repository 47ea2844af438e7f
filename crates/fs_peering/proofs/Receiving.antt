-- A receiving end that hears a piece at a moment.
use Rattle.fs_peering.proofs.Words.{Closed, Config, Desked, Down, Ended, Expires, Fault, Handed, HandsPeer, Keeps, Machine, Peer, PeerIs, Played}
use Rattle.fs_peering.proofs.Words.{Plays, Point, Quiet, Replied, RepliesBehind, StaysPlayed, Tick, TicksPeer, Times, at_moment, begins, fresh, hand}
use Rattle.fs_peering.proofs.Words.{handed, live, notice_text, peer_of, pending, point, receiver, runs_by, session_at, standing_at_desk, tick_at}
use Rattle.fs_peering.proofs.Words.{ticked, ticks, times, written_now, ◌≡◌, ◌==◌, ◌⊎◌, inl, inr, ℕ, ◌+◌, max, List, [], ◌∷◌, ◌++◌, length, Bool, true}
use Rattle.fs_peering.proofs.Words.{false, if◌then◌else◌, Option, Some, None, Result, Ok, Err, OnOk, refl, ap, sym, ◌∙◌, subst, arith, append_assoc}
use Rattle.fs_peering.proofs.Words.{append-nil, length-append, IsSome, option_map, moment_stays, nobody, ticked_by, standing_by, Standing, Hears}
use Rattle.fs_peering.proofs.Words.{Pieces, octets_in, HasClosed, IsHearing, Receives, StandsBy, is_ended, tape_of, course_of, after, hears}
use Rattle.fs_peering.proofs.Courses.{course_more, octets_more}
use Rattle.std.proofs.lemmas.Bool.{true≢false as never}
use Rattle.fs_base.proofs.NumberTests.{eq_itself}
use Rattle.fs_speaker.specs.{Session.{Live}, declared.Standing.TheVariants.{Live as LiveIn}}
use Rattle.fs_tape.specs.Tape.{Item, came_up, received}
use Rattle.fs_desk.specs.{HoldTimer.{TickMakes, TicksIn, TicksSession, with_times}, Life.{life}, Receive.{IsFed, IsUp, point_of}}

pub counted_more : (heard : Pieces) (moment count count' : ℕ) (piece : List ℕ) → count ≡ length (octets_in heard) → count' ≡ count + length piece
    → count' ≡ length (octets_in (heard ++ (moment, piece) ∷ []))
counted_more heard moment count count' piece h k =
    k ∙ ap (λ (n : ℕ). n + length piece) h ∙ sym (length-append (octets_in heard) piece) ∙ sym (ap length (octets_more heard moment piece))

-- a tape of one peer
pub life_tape : (peer : ℕ) (octets : List ℕ) → life peer (tape_of peer octets) ≡ Some octets
life_tape peer octets = by (peer == peer) (eq_itself peer)
  where
    by : (b : Bool) → b ≡ true → (if b then Some ((if b then octets else []) ++ []) else None) ≡ Some octets
    by true e = ap Some (append-nil octets)
    by false e = absurd cc

-- the same life at each number: the same desk
same_lives : (config : Config) (items others : List Item) (desk : Desked) → ((number : ℕ) → life number items ≡ life number others)
    → Played config items desk → Played config others desk
same_lives config items others desk same p = record {
  config_is = p.config_is;
  held_is = p.held_is;
  listed = p.listed;
  sessions = p.sessions;
  each = λ number. subst (λ (l : Option (List ℕ)). PeerIs config (peer_of number config.peers) l (session_at number desk.sessions) number desk.held)
      (same number) (p.each number);
}

one_tape : (peer : ℕ) (octets piece : List ℕ) (number : ℕ)
    → life number (tape_of peer octets ++ received peer piece ∷ []) ≡ life number (tape_of peer (octets ++ piece))
one_tape peer octets piece number = by (peer == number)
  where
    by : (b : Bool)
        → (if b then Some ((if b then octets else []) ++ ((if b then piece else []) ++ [])) else None)
        ≡ (if b then Some ((if b then octets ++ piece else []) ++ []) else None)
    by true = ap Some (sym (append_assoc octets piece []))
    by false = refl

pub no_octets_yet : (peer number : ℕ) → life number (came_up peer ∷ []) ≡ life number (tape_of peer [])
no_octets_yet peer number = by _
  where
    nothing : List ℕ
    nothing = []

    by : (b : Bool) → (if b then Some nothing else None) ≡ (if b then Some ((if b then nothing else nothing) ++ nothing) else None)
    by true = refl
    by false = refl

retaped : (config : Config) (peer : ℕ) (octets piece : List ℕ) (desk : Desked) → Played config (tape_of peer octets ++ received peer piece ∷ []) desk
    → Played config (tape_of peer (octets ++ piece)) desk
retaped config peer octets piece desk p =
    same_lives _ _ _ _ (one_tape peer octets piece) p

-- the session of a peer that has come up
pub record Upright (config : Config) (peer : ℕ) (whose : Peer) (octets : List ℕ) (desk : Desked) : Type 0 where
  pub session : Live
  pub session_is : session_at peer desk.sessions ≡ Some session
  pub up : IsUp config whose peer octets session desk.held

pub upright : (config : Config) (peer : ℕ) (whose : Peer) (octets : List ℕ) (desk : Desked) → peer_of peer config.peers ≡ Some whose
    → Played config (tape_of peer octets) desk
    → Upright config peer whose octets desk
upright config peer whose octets desk q p =
    by _ refl (subst (λ (o : Option Peer). PeerIs config o (Some octets) (session_at peer desk.sessions) peer desk.held) q
    (subst (λ (l : Option (List ℕ)). PeerIs config (peer_of peer config.peers) l (session_at peer desk.sessions) peer desk.held)
    (life_tape _ _) (p.each peer)))
  where
    by : (o : Option Live) → session_at peer desk.sessions ≡ o → PeerIs config (Some whose) (Some octets) o peer desk.held
        → Upright config peer whose octets desk
    by None e k = absurd k
    by (Some session) e k = record { session = session; session_is = e; up = k }

-- how it stands with it
pub stands_open : (desk : Desked) (peer : ℕ) (session : Live) → session_at peer desk.sessions ≡ Some session → session.closed ≡ None
    → standing_at_desk desk peer ≡ LiveIn session.phase.state
stands_open desk peer session there alive =
    ap standing_by there ∙ ap (λ (c : Option Closed). elim c [ Some why ↦ Ended why | None ↦ LiveIn session.phase.state ]) alive

stands_ended : (desk : Desked) (peer : ℕ) (session : Live) (why : Closed) → session_at peer desk.sessions ≡ Some session → session.closed ≡ Some why
    → standing_at_desk desk peer ≡ Ended why
stands_ended desk peer session why there shut =
    ap standing_by there ∙ ap (λ (c : Option Closed). elim c [ Some w ↦ Ended w | None ↦ LiveIn session.phase.state ]) shut

-- what stands of an open session, and of an ended one
pub hearing_of : (desk : Desked) (peer : ℕ) (whose : Peer) (heard : Pieces) (said : List ℕ) → is_ended (standing_at_desk desk peer) ≡ false
    → StandsBy (standing_at_desk desk peer) desk peer whose heard said → IsHearing desk peer whose heard said
hearing_of desk peer whose heard said e s = by _ e s
  where
    by : (at : Standing) → is_ended at ≡ false → StandsBy at desk peer whose heard said → IsHearing desk peer whose heard said
    by Down h k = k
    by (LiveIn state) h k = k
    by (Ended why) h k = absurd (never h)

pub closed_of : (desk : Desked) (peer : ℕ) (whose : Peer) (heard : Pieces) (said : List ℕ) (why : Closed) → standing_at_desk desk peer ≡ Ended why
    → StandsBy (standing_at_desk desk peer) desk peer whose heard said → HasClosed desk.config peer whose heard said why
closed_of desk peer whose heard said why e s = subst (λ (at : Standing). StandsBy at desk peer whose heard said) e s

pub ended_there : (at : Standing) → is_ended at ≡ true → (why : Closed) × (at ≡ Ended why)
ended_there Down e = absurd cc
ended_there (LiveIn state) e = absurd cc
ended_there (Ended why) e = (why, refl)

-- the moments of a session that heard the clock
wrote_stays : (moment : ℕ) (now : Times) → at_moment moment (written_now (at_moment moment now)) ≡ written_now (at_moment moment now)
wrote_stays moment now =
    let same : max (max now.greatest moment) moment ≡ max now.greatest moment = omega arith in
    ap (λ (g : ℕ). times g now.taken (max now.greatest moment)) same

greatest_stays : (now : Times) → at_moment now.greatest now ≡ now
greatest_stays now =
    let same : max now.greatest now.greatest ≡ now.greatest = omega arith in
    ap (λ (g : ℕ). times g now.taken now.written) same

-- The clock was heard, and the session is open: it stands where the clock leaves it, the moment is none new to it, and
-- this was said.
pub record Woke (old new : Desked) (peer moment : ℕ) (whose : Peer) (heard : Pieces) (out out' : List ℕ) : Type 0 where
  pub session : Live
  pub session_is : session_at peer new.sessions ≡ Some session
  pub alive : session.closed ≡ None
  pub played : Played old.config (tape_of peer (octets_in heard)) new
  pub point_is : point_of session ≡ (ticked moment (course_of old.config whose heard).point).point
  pub moved_is : at_moment moment session.times ≡ session.times
  pub said_is : out' ≡ out ++ (ticked moment (course_of old.config whose heard).point).text

-- or the hold time has expired
pub record Slept (old new : Desked) (peer moment : ℕ) (whose : Peer) (heard : Pieces) (out out' : List ℕ) : Type 0 where
  pub due : tick_at (course_of old.config whose heard).point.phase.hold (at_moment moment (course_of old.config whose heard).point.times) ≡ Expires
  pub ended : standing_at_desk new peer ≡ Ended (Fault 4 0)
  pub said_is : out' ≡ out ++ notice_text 4 0

module _ (old new : Desked) (peer moment : ℕ) (whose : Peer) (heard : Pieces) (said out out' : List ℕ) (h : IsHearing old peer whose heard said) where
  abbrev here : Point
  here = (course_of old.config whose heard).point

  open_here : here.closed ≡ None
  open_here = ap (λ (p : Point). p.closed) (sym h.point_is) ∙ h.alive

  -- what the clock does at the point where the session stands
  ticked_here : (tick : Tick) → tick_at h.session.phase.hold (at_moment moment h.session.times) ≡ tick
      → ticked moment here ≡ ticks tick (pending h.session.framing) h.session.phase (at_moment moment h.session.times)
  ticked_here tick e =
      ap (ticked moment) (sym h.point_is)
      ∙ ap (ticked_by moment (point_of h.session)) h.alive
      ∙ ap (λ (t : Tick). ticks t (pending h.session.framing) h.session.phase (at_moment moment h.session.times)) e

  due_here : tick_at h.session.phase.hold (at_moment moment h.session.times) ≡ Expires → tick_at here.phase.hold (at_moment moment here.times) ≡ Expires
  due_here e = ap (λ (p : Point). tick_at p.phase.hold (at_moment moment p.times)) (sym h.point_is) ∙ e

  module _ (now : Live) (there : session_at peer new.sessions ≡ Some now) (stays : StaysPlayed peer old new) where
    still_played : standing_at_desk new peer ≡ LiveIn h.session.phase.state → Played old.config (tape_of peer (octets_in heard)) new
    still_played e =
        stays (e ∙ sym (stands_open old peer _ h.session_is h.alive)) nobody old.config (tape_of peer (octets_in heard)) h.played

    woke : (later : Times) (tick : Tick) → now ≡ with_times later h.session → at_moment moment later ≡ later
        → tick_at h.session.phase.hold (at_moment moment h.session.times) ≡ tick
        → point (pending h.session.framing) h.session.phase later None
        ≡ (ticks tick (pending h.session.framing) h.session.phase (at_moment moment h.session.times)).point
        → out' ≡ out ++ (ticks tick (pending h.session.framing) h.session.phase (at_moment moment h.session.times)).text
        → Woke old new peer moment whose heard out out'
    woke later tick e m t p s =
        let alive : now.closed ≡ None = ap (λ (l : Live). l.closed) e ∙ h.alive in
        record {
          session = now;
          session_is = there;
          alive = alive;
          played = still_played (stands_open new peer _ there alive ∙ ap (λ (l : Live). LiveIn l.phase.state) e);
          point_is = ap point_of e ∙ ap (λ (c : Option Closed). point (pending h.session.framing) h.session.phase later c) h.alive ∙ p
              ∙ sym (ap (λ (made : Handed). made.point) (ticked_here _ t));
          moved_is = ap (λ (l : Live). at_moment moment l.times) e ∙ m ∙ ap (λ (l : Live). l.times) (sym e);
          said_is = s ∙ ap (λ (made : Handed). out ++ made.text) (sym (ticked_here _ t));
        }

    made : (tick : Tick) → tick_at h.session.phase.hold (at_moment moment h.session.times) ≡ tick
        → TickMakes tick peer (at_moment moment h.session.times) h.session now old.held new.held out out'
        → Woke old new peer moment whose heard out out' ⊎ Slept old new peer moment whose heard out out'
    made Quiet t k = inl (woke _ _ k.0 (moment_stays moment h.session.times) t refl (k.1.1 ∙ sym (append-nil out)))
    made Keeps t k = inl (woke _ _ k.0 (wrote_stays _ h.session.times) t refl k.1.1)
    made Expires t k = inr (record { due = due_here t; ended = stands_ended new peer _ _ there k.0; said_is = k.1.1 })

  abbrev TicksOf : Option Live → Type 0
  TicksOf found = elim found [
    | None ↦ (new ≡ old) × (out' ≡ out)
    | Some session ↦
        (session' : Live)
        × (TicksSession peer moment session session' old.held new.held out out'
        × ((number : ℕ) → session_at number new.sessions ≡ (if number == peer then Some session' else session_at number old.sessions)))
  ]

  -- the clock
  pub wakes : TicksPeer peer moment old new out out' → StaysPlayed peer old new
      → Woke old new peer moment whose heard out out' ⊎ Slept old new peer moment whose heard out out'
  wakes ticked stays =
      let t = subst TicksOf h.session_is ticked in
      let there : session_at peer new.sessions ≡ Some t.0 = t.1.1 peer
      ∙ ap (λ (b : Bool). if b then Some t.0 else session_at peer old.sessions) (eq_itself peer) in
      made _ there stays _ refl
      (subst (λ (c : Option Closed). TicksIn c peer moment h.session t.0 old.held new.held out out') h.alive t.1.0)

-- the hold time has expired: nothing more is heard
pub hears_slept : (old new : Desked) (peer moment : ℕ) (whose : Peer) (heard : Pieces) (said piece out out' : List ℕ)
    (config_is : new.config ≡ old.config) (count' : ℕ)
    → IsHearing old peer whose heard said → peer_of peer old.config.peers ≡ Some whose → count' ≡ length (octets_in (heard ++ (moment, piece) ∷ []))
    → Slept old new peer moment whose heard out out'
    → (more : List ℕ) × ((out' ≡ out ++ more) × Receives new peer count' (heard ++ (moment, piece) ∷ []) (said ++ more))
hears_slept old new peer moment whose heard said piece out out' config_is count' h q k s = (
  notice_text 4 0,
  (
    s.said_is,
    record {
      whose = whose;
      whose_is = ap (λ (c : Config). peer_of peer c.peers) config_is ∙ q;
      stands = subst (λ (at : Standing). StandsBy at new peer whose (heard ++ (moment, piece) ∷ []) (said ++ notice_text 4 0)) (sym s.ended)
          (subst (λ (c : Config). HasClosed c peer whose (heard ++ (moment, piece) ∷ []) (said ++ notice_text 4 0) (Fault 4 0)) (sym config_is) (record {
            earlier = heard;
            moment = moment;
            piece = piece;
            split = refl;
            lived = open_here _ new _ moment _ _ _ out out' h;
            closes = inl (record { due = s.due; why_is = refl; said_is = ap (λ (z : List ℕ). z ++ notice_text 4 0) h.said_is });
          }));
      counted = k;
    },
  ),
)

-- The octets of the piece.
module _ (old mid new : Desked) (peer moment : ℕ) (whose : Peer) (heard : Pieces) (said piece a b c : List ℕ) (count' : ℕ)
    (config_mid : mid.config ≡ old.config) (config_new : new.config ≡ mid.config) (h : IsHearing old peer whose heard said)
    (q : peer_of peer old.config.peers ≡ Some whose)
    (k : count' ≡ length (octets_in (heard ++ (moment, piece) ∷ []))) (w : Woke old mid peer moment whose heard a b)
    (plays : Plays (received peer piece) mid new) (replies : RepliesBehind peer mid piece b c) (hands : HandsPeer peer mid new piece b c) where
  abbrev config : Config
  config = old.config

  abbrev machine : Machine
  machine = receiver config whose

  abbrev all : Pieces
  all = heard ++ (moment, piece) ∷ []

  abbrev woken : Handed
  woken = ticked moment (course_of config whose heard).point

  played_all : Played config (tape_of peer (octets_in heard ++ piece)) new
  played_all = retaped _ _ _ _ _ (plays nobody config (tape_of peer (octets_in heard)) w.played)

  config_is : new.config ≡ config
  config_is = config_new ∙ config_mid

  played_now : Played new.config (tape_of peer (octets_in all)) new
  played_now =
      subst (λ (d : Config). Played d (tape_of peer (octets_in all)) new) (sym config_is)
      (subst (λ (z : List ℕ). Played config (tape_of peer z) new) (sym (octets_more heard moment piece)) played_all)

  now_is : Upright config peer whose (octets_in heard ++ piece) new
  now_is = upright _ _ _ _ _ q played_all

  before_is : Upright config peer whose (octets_in heard) mid
  before_is = upright _ _ _ _ _ q w.played

  same_session : before_is.session ≡ w.session
  same_session = ap (λ (x : Option Live). elim x [ None ↦ before_is.session | Some l ↦ l ]) (sym before_is.session_is ∙ w.session_is)

  fed_before : IsFed config whose (octets_in heard) w.session None
      (subst (λ (l : Live). IsUp config whose peer (octets_in heard) l mid.held) same_session before_is.up).updates
  fed_before =
      let up = subst (λ (l : Live). IsUp config whose peer (octets_in heard) l mid.held) same_session before_is.up in
      subst (λ (x : Option Closed). IsFed config whose (octets_in heard) w.session x up.updates) w.alive up.fed

  -- what is handed to it at the moment
  handed_then : hand (receiver w.session.config w.session.peer) w.session.times.greatest (point_of w.session) piece ≡ hand machine moment woken.point piece
  handed_then =
      ap (λ (d : Config). hand (receiver d w.session.peer) w.session.times.greatest (point_of w.session) piece) fed_before.0.config_is
      ∙ ap (λ (p : Peer). hand (receiver config p) w.session.times.greatest (point_of w.session) piece) fed_before.0.peer_is
      ∙ at w.session.times.greatest (greatest_stays _)
      ∙ sym (at moment w.moved_is)
      ∙ ap (λ (p : Point). hand machine moment p piece) w.point_is
    where
      at : (m : ℕ) → at_moment m w.session.times ≡ w.session.times
          → hand machine m (point_of w.session) piece ≡ (elim w.session.closed [
            | Some why ↦ handed (point_of w.session) [] []
            | None ↦ runs_by machine w.session.phase w.session.times (pending w.session.framing ++ piece)
          ])
      at m e = ap (λ (t : Times). elim w.session.closed [
        | Some why ↦ handed (point_of w.session) [] []
        | None ↦ runs_by machine w.session.phase t (pending w.session.framing ++ piece)
      ]) e

  abbrev Answer : Type 0
  Answer = (more : List ℕ) × ((c ≡ a ++ more) × Receives new peer count' all (said ++ more))

  answer : (more : List ℕ) → c ≡ a ++ more → StandsBy (standing_at_desk new peer) new peer whose all (said ++ more) → Answer
  answer more e s = (more, (e, record { whose = whose; whose_is = ap (λ (d : Config). peer_of peer d.peers) config_is ∙ q; stands = s; counted = k }))

  -- the session stays open
  stays_open : now_is.session.closed ≡ None → Answer
  stays_open alive =
      let made = hands nobody config (tape_of peer (octets_in heard)) w.session now_is.session w.played w.session_is now_is.session_is alive in
      let later : Handed = hand machine moment woken.point piece in
      let text : c ≡ b ++ later.text = made.grows ∙ ap (λ (m : Handed). b ++ m.text) handed_then in
      let step : course_of config whose all
      ≡ after (course_of config whose heard) (hears machine (moment, piece) (course_of config whose heard).point) =
      course_more machine heard (moment, piece) in
      answer _ (text ∙ ap (λ (z : List ℕ). z ++ later.text) w.said_is ∙ append_assoc a woken.text later.text)
      (subst (λ (at : Standing). StandsBy at new peer whose all (said ++ (woken.text ++ later.text)))
      (sym (stands_open new peer _ now_is.session_is alive)) (record {
        session = now_is.session;
        session_is = now_is.session_is;
        alive = alive;
        played = played_now;
        point_is = made.point_is ∙ ap (λ (m : Handed). m.point) handed_then ∙ sym (ap (λ (m : Handed). m.point) step)
            ∙ ap (λ (d : Config). (course_of d whose all).point) (sym config_is);
        said_is = ap (λ (z : List ℕ). z ++ (woken.text ++ later.text)) h.said_is ∙ sym (ap (λ (m : Handed). m.text) step)
            ∙ ap (λ (d : Config). (course_of d whose all).text) (sym config_is);
      }))

  -- or its octets close it
  closes_there : (why : Closed) → now_is.session.closed ≡ Some why → Answer
  closes_there why shut =
      let fed = subst (λ (x : Option Closed). IsFed config whose (octets_in heard ++ piece) now_is.session x now_is.up.updates) shut now_is.up.fed in
      let replied = subst (λ (l : Option (List ℕ)). Replied config peer l piece b c) (life_tape _ _)
      (replies nobody config (tape_of peer (octets_in heard)) w.played) in
      answer _ (replied.1 ∙ ap (λ (z : List ℕ). z ++ replied.0) w.said_is ∙ append_assoc a woken.text replied.0)
      (subst (λ (at : Standing). StandsBy at new peer whose all (said ++ (woken.text ++ replied.0)))
      (sym (stands_ended new peer _ _ now_is.session_is shut))
      (subst (λ (d : Config). HasClosed d peer whose all (said ++ (woken.text ++ replied.0)) why) (sym config_is) (record {
        earlier = heard;
        moment = moment;
        piece = piece;
        split = refl;
        lived = open_here _ mid _ moment _ _ _ a b h;
        closes = inr (record {
          lives = ap (λ (p : Point). p.closed) (sym w.point_is) ∙ w.alive;
          over = fed.0;
          more = replied.0;
          replied = replied.2;
          said_is = ap (λ (z : List ℕ). z ++ (woken.text ++ replied.0)) h.said_is;
        });
      })))

  pub hears_woke : (more : List ℕ) × ((c ≡ a ++ more) × Receives new peer count' all (said ++ more))
  hears_woke = by _ refl
    where
      by : (x : Option Closed) → now_is.session.closed ≡ x → Answer
      by None e = stays_open e
      by (Some why) e = closes_there _ e

-- the clock at a moment, and a piece
module _ (old mid : Desked) (peer count count' moment : ℕ) (piece a b : List ℕ) (config_mid : mid.config ≡ old.config)
    (alive : is_ended (standing_at_desk old peer) ≡ false)
    (k : count' ≡ count + length piece) (ticked : TicksPeer peer moment old mid a b) (stays : StaysPlayed peer old mid) where
  module _ (heard : Pieces) (said : List ℕ) (r : Receives old peer count heard said) where
    abbrev Woken : Type 0
    Woken = Woke old mid peer moment r.whose heard a b ⊎ Slept old mid peer moment r.whose heard a b

    h : IsHearing old peer r.whose heard said
    h = hearing_of _ _ _ _ _ alive r.stands

    either_way : Woken
    either_way = wakes _ _ _ _ _ _ _ _ _ h ticked stays

    counted : count' ≡ length (octets_in (heard ++ (moment, piece) ∷ []))
    counted = counted_more heard moment _ _ _ r.counted k

  -- the clock closes the session
  pub hears_clock : is_ended (standing_at_desk mid peer) ≡ true → Hears (Receives old peer count) (Receives mid peer count') moment piece a b
  hears_clock shut heard said r = by (either_way _ _ r)
    where
      by : Woken heard said r → (more : List ℕ) × ((b ≡ a ++ more) × Receives mid peer count' (heard ++ (moment, piece) ∷ []) (said ++ more))
      by (inl w) = absurd (never (sym shut ∙ ap is_ended (stands_open mid _ _ w.session_is w.alive)))
      by (inr s) = hears_slept _ _ _ _ _ _ _ _ _ _ config_mid _ (h _ _ r) r.whose_is (counted _ _ r) s

  -- it goes on
  pub hears_piece : (new : Desked) (c : List ℕ) → new.config ≡ mid.config → is_ended (standing_at_desk mid peer) ≡ false
      → Plays (received peer piece) mid new → RepliesBehind peer mid piece b c
      → HandsPeer peer mid new piece b c → Hears (Receives old peer count) (Receives new peer count') moment piece a c
  hears_piece new c config_new open_ plays replies hands heard said r = by (either_way _ _ r)
    where
      by : Woken heard said r → (more : List ℕ) × ((c ≡ a ++ more) × Receives new peer count' (heard ++ (moment, piece) ∷ []) (said ++ more))
      by (inl w) =
          hears_woke _ _ _ _ _ _ _ _ _ _ _ _ _ config_mid config_new (h _ _ r) r.whose_is (counted _ _ r) w plays replies hands
      by (inr s) = absurd (never (sym (ap is_ended s.ended) ∙ open_))

-- before the first octet
pub receives_none : (own_config : Config) (peer : ℕ) (desk : Desked) (number : ℕ) (count : ℕ) → IsSome (peer_of peer own_config.peers)
    → desk.config ≡ own_config → Played own_config (came_up peer ∷ []) desk
    → session_at peer desk.sessions ≡ begins own_config peer → number ≡ peer → count ≡ 0 → Receives desk number count [] []
receives_none own_config peer desk number count some same_config played begun same none =
    subst (λ (n : ℕ). Receives desk n count [] []) (sym same)
    (subst (λ (n : ℕ). Receives desk peer n [] []) (sym none) (by (peer_of peer own_config.peers) refl some))
  where
    by : (o : Option Peer) → peer_of peer own_config.peers ≡ o → IsSome o → Receives desk peer 0 [] []
    by None e h = absurd (never (sym h))
    by (Some whose) e h =
        let fresh_there : session_at peer desk.sessions ≡ Some (live own_config whose fresh) = begun
        ∙ ap (option_map (λ (p : Peer). live own_config p fresh)) e in
        record {
          whose = whose;
          whose_is = ap (λ (c : Config). peer_of peer c.peers) same_config ∙ e;
          stands = subst (λ (at : Standing). StandsBy at desk peer whose [] []) (sym (ap standing_by fresh_there)) (record {
            session = live own_config whose fresh;
            session_is = fresh_there;
            alive = refl;
            played = subst (λ (c : Config). Played c (tape_of peer []) desk) (sym same_config)
                (same_lives own_config (came_up peer ∷ []) (tape_of peer []) desk (no_octets_yet peer) played);
            point_is = refl;
            said_is = refl;
          });
          counted = refl;
        }

pub on_octets : {T E A B C D : Type 0} (result : Result T E) → OnOk result A → OnOk result B → OnOk result C → (A → B → C → D) → OnOk result D
on_octets (Ok t) a b c f = f a b c
on_octets (Err e) a b c f = tt

-- and it is open
pub open_new : (own_config : Config) (peer : ℕ) (desk : Desked) → IsSome (peer_of peer own_config.peers)
    → session_at peer desk.sessions ≡ begins own_config peer
    → is_ended (standing_at_desk desk peer) ≡ false
open_new own_config peer desk some begun = by _ refl some
  where
    by : (o : Option Peer) → peer_of peer own_config.peers ≡ o → IsSome o → is_ended (standing_at_desk desk peer) ≡ false
    by None e h = absurd (never (sym h))
    by (Some whose) e h =
        ap (λ (o : Option Live). is_ended (standing_by o)) (begun ∙ ap (option_map (λ (p : Peer). live own_config p fresh)) e)
