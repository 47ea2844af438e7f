-- How what both ends come to over a wire follows from how they stand.
use Rattle.fs_peering.proofs.Words.{Announcing, CanArrive, Closed, Config, Desked, Ended, Established, Fault, IsAt, Last, Machine, Peer, Phase}
use Rattle.fs_peering.proofs.Words.{Sending, Sent, State, Update, WaitKeep, WaitOpen, WireEnds, announcer, at_start, bounded, bounded_from}
use Rattle.fs_peering.proofs.Words.{bounded_session, closed, first_message, first_over, is_established, machine_in, needs_of, open_sent, peer_of}
use Rattle.fs_peering.proofs.Words.{phase, receiver, reply_to, session_from, standing_at_desk, still, text_sent, too_many, update_sent, ◌≡◌, ◌⊎◌, inl}
use Rattle.fs_peering.proofs.Words.{inr, ◌≤◌, ℕ, ◌+◌, ◌-◌, List, [], ◌∷◌, ◌++◌, length, take, map, Bool, true, false, if◌then◌else◌, Option, Some}
use Rattle.fs_peering.proofs.Words.{None, refl, ap, sym, ◌∙◌, subst, arith, append-nil, length-append, ◌<◌, is_some, none-some, ahead_of, before_all}
use Rattle.fs_peering.proofs.Words.{is_settled, opening_of, MetLimit, begins_with, Ending, Done, AtLimit, AreJoined, Exchanges, ExchangedOut, Heard}
use Rattle.fs_peering.proofs.Words.{SaidAll, StopsSo, moments_of, of_first, of_second, Pieces, Stance, octets_in, Talk, FirstOver, SecondOver, Broken}
use Rattle.fs_peering.proofs.Words.{HasClosed, Receives, bare, is_ended, course_of, IsReceiving, Arrives, ComesUp, EndsEarly, IsUnhindered, Pairs}
use Rattle.fs_peering.proofs.Words.{PairsOver, PairsSo, RunsLate, SaysFront, told_by, EndsTalk, Began, SaysUpTo, Speaks, TookOpen, rules_in, text_in}
use Rattle.fs_peering.proofs.Words.{without_rules, woven, course, take_all, some_there, none_there}
use Rattle.fs_peering.proofs.{Courses.{keepalives}, WrittenInParts.{told_as}, Apart.{late_first, late_second}}
use Rattle.fs_peering.proofs.{Counting.{Opens, ends_by, met_by, opens_so}, Hearing.{unsettled}, Listened.{receiving}}
use Rattle.fs_peering.proofs.BothEnds.{all_arrive, answers, meets, open_first, own_message}
use Rattle.fs_peering.proofs.{Receiving.{closed_of, ended_there, hearing_of}, Sending.{Past, past_of}, Replying.{replies}}
use Rattle.fs_peering.proofs.{StaysOpen.{teller_stays, teller_up}, Timely.{timely_one}, Unhindered.{Fronts, never_first, unread}}
use Rattle.fs_peering.proofs.{Settled.{open_settled}, Phases.{unawaited}}
use Rattle.fs_peering.specs.Teller.{is_over}
use Rattle.fs_peering.specs.declared.tell.Ending.TheVariants.{Closed as WasClosed, Ended as EndedEarly}
use Rattle.fs_peering.specs.declared.joined.Talk.TheVariants.{AtLimit as MetIt, Done as AllSaid}
use Rattle.fs_peering.specs.Joined.{Ended as EndedSo}
use Rattle.std.proofs.lemmas.Bool.{true≢false as never}
use Rattle.fs_speaker.specs.declared.State.TheVariants.{Closed as IsClosed}

-- how both ends stand
abbrev stood : Desked → ℕ → Bool → Announcing → Bool → ℕ → EndedSo
stood desk peer on b started heard_up = record {
  over_first = is_ended (standing_at_desk desk peer);
  over_second = is_over on b.line;
  ready = is_settled b.line;
  begun = started;
  count = heard_up;
  ahead = ahead_of b started;
}

-- what both ends come to of which the announcing one hears on
module _ (first last : Desked) (peer peer' first_count count limit : ℕ) (on on' : Bool) (a b : Announcing) (begun started : Bool) (heard_before heard_up : ℕ)
    (t0 t1 : Option WireEnds) (moments moments' : Option (List ℕ)) (talk : Talk) where
  abbrev TalkedSo : Bool → Bool → Type 0
  TalkedSo o o' =
      Exchanges talk (Receives first peer first_count) (Receives last peer' count) (SaysUpTo o a begun heard_before) (SaysUpTo o' b started heard_up)
      (stood last peer' o' b started heard_up) limit t0 t1 moments moments'

  pub pairs_on : on ≡ true → on' ≡ true → TalkedSo on on' → TalkedSo true true
  pairs_on e e' x = subst (λ (o : Bool). TalkedSo true o) e' (subst (λ (o : Bool). TalkedSo o on') e x)

-- a session that the limit doesn't close is the one without
bounded_still : (most : Option ℕ) (session : List Update × Last) (found : Phase) → (bounded most session).1 ≡ still found → bounded most session ≡ session
bounded_still most session found e = by (first_over most session.0) refl
  where
    chosen : Option (List Update) → List Update × Last
    chosen o = elim o [ None ↦ session | Some front ↦ (front, closed too_many) ]

    by : (o : Option (List Update)) → first_over most session.0 ≡ o → bounded most session ≡ session
    by None f = ap chosen f
    by (Some front) f = absurd (no (sym (ap (λ (x : Option (List Update)). (chosen x).1) f) ∙ e))
      where
        no : closed too_many ≡ still found → ⊥
        no h = cc

abbrev unsaid : Bool → ℕ
unsaid started = if started then 0 else 1

sub_none : (a b c : ℕ) → a + (b - c) ≡ 0 → (a ≡ 0) × (b ≤ c)
sub_none a b c z = (omega (arith, z), omega (arith, z))

-- an end that heard as many octets as the limit heard a front of what the other said
reaches_never : (heard left said : List ℕ) (limit : ℕ) → said ≡ heard ++ left → length said < limit → limit ≤ length heard → ⊥
reaches_never heard left said limit e l m =
    let all : length said ≡ length heard + length left = ap length e ∙ length-append heard left in
    omega (arith, all, l, m)

module _ (first last : Desked) (peer peer' first_count count limit : ℕ) (same : peer' ≡ peer) (own : bare last ≡ bare first)
    (start : Receives first peer first_count [] [])
    (a b : Announcing) (begun started : Bool) (heard_before heard_up : ℕ) (keeps : before_all b ≡ before_all a)
    (config : Config) (whose : Peer) (sending : Sending) (config_first : first.config ≡ config) (whose_is : peer_of peer config.peers ≡ Some whose)
    (begins : SaysUpTo true a begun heard_before [] []) (a_is : a ≡ begins_with config whose sending)
    (t0 t1 : Option WireEnds) (moments moments' : Option (List ℕ)) where
  abbrev s0 : Stance
  s0 = λ heard said. Receives first peer first_count heard said

  abbrev s1 : Stance
  s1 = λ heard said. Receives last peer' count heard said

  abbrev a0 : Stance
  a0 = λ heard said. SaysUpTo true a begun heard_before heard said

  abbrev a1 : Stance
  a1 = λ heard said. SaysUpTo true b started heard_up heard said

  config_is : last.config ≡ config
  config_is = ap (λ (d : Desked). d.config) own ∙ config_first

  b_config : b.config ≡ config
  b_config = ap (λ (n : Announcing). n.config) keeps ∙ ap (λ (n : Announcing). n.config) a_is

  b_peer : b.peer ≡ whose
  b_peer = ap (λ (n : Announcing). n.peer) keeps ∙ ap (λ (n : Announcing). n.peer) a_is

  b_sending : b.sending ≡ sending
  b_sending = ap (λ (n : Announcing). n.sending) keeps ∙ ap (λ (n : Announcing). n.sending) a_is

  machine_is : machine_in b ≡ announcer config (needs_of sending.rules)
  machine_is = ap (λ (c : Config). announcer c (needs_of b.sending.rules)) b_config ∙ ap (λ (s : Sending). announcer config (needs_of s.rules)) b_sending

  text_of : (four : Bool) (parts : List (Option Sent)) → woven (text_in b four) parts ≡ woven (text_sent config whose four sending) parts
  text_of four parts =
      ap (λ (c : Config). woven (text_sent c b.peer four b.sending) parts) b_config
      ∙ ap (λ (p : Peer). woven (text_sent config p four b.sending) parts) b_peer
      ∙ ap (λ (x : Sending). woven (text_sent config whose four x) parts) b_sending

  opening_is : opening_of b ≡ (if b.started then open_sent config whose sending else [])
  opening_is =
      ap (λ (c : Config). if b.started then open_sent c b.peer b.sending else []) b_config
      ∙ ap (λ (p : Peer). if b.started then open_sent config p b.sending else []) b_peer
      ∙ ap (λ (x : Sending). if b.started then open_sent config whose x else []) b_sending

  open_is : b.started ≡ true → opening_of b ≡ open_sent config whose sending
  open_is go = opening_is ∙ ap (λ (g : Bool). if g then open_sent config whose sending else []) go

  front_of : (heard : Pieces) (announced : List ℕ) → Speaks b started heard announced → SaysFront config whose sending heard announced
  front_of heard announced s = record {
    started = b.started;
    four = s.four;
    parts = s.parts;
    appended = b.appended;
    rules_are = s.rules_are ∙ ap (λ (x : Sending). take b.appended x.rules) b_sending;
    ending = s.ending;
    said_is = s.said_is ∙ ap (λ (z : List ℕ). opening_of b ++ (z ++ s.ending)) (text_of _ _)
        ∙ ap (λ (z : List ℕ). z ++ (woven (text_sent config whose s.four sending) s.parts ++ s.ending)) opening_is;
    kept = s.kept ∙ ap (λ (m : Machine). (course m heard).text) machine_is;
  }

  -- both ends as they are where no more is heard
  abbrev end : EndedSo
  end = stood last peer' true b started heard_up

  at_peer : is_ended (standing_at_desk last peer) ≡ is_ended (standing_at_desk last peer')
  at_peer = ap (λ (n : ℕ). is_ended (standing_at_desk last n)) (sym same)

  -- what is known then
  record Known (events : List Heard) (announced replied : List ℕ) (now : WireEnds) : Type 0 where
    hears : Receives last peer count (of_first events) replied
    speaks : SaysUpTo true b started heard_up (of_second events) announced
    read_first : announced ≡ octets_in (of_first events) ++ now.first.left
    read_second : replied ≡ octets_in (of_second events) ++ now.second.left

  -- how it ended, and that all arrived where nothing hindered it
  abbrev EndsSo : Ending → List Heard → (announced replied : List ℕ) → WireEnds → Type 0
  EndsSo ending events announced replied now =
      PairsSo ending config whose sending last peer limit events announced replied now
      × (IsUnhindered config whose sending limit (moments_of events) announced replied → ending ≡ Done)

  -- its hold time expired
  late_so : (events : List Heard) (announced replied : List ℕ) (now : WireEnds) (given : List ℕ) → moments_of events ≡ given
      → PairsSo (WasClosed (Fault 4 0)) config whose sending last peer limit events announced replied now
      → RunsLate (receiver config whose) (of_first events) given ⊎ RunsLate (announcer config (needs_of sending.rules)) (of_second events) given
  late_so events announced replied now given asked (inl c) =
      inl (subst (RunsLate (receiver config whose) (of_first events)) asked (late_first _ _ _ _ _ c))
  late_so events announced replied now given asked (inr c) =
      inr (subst (RunsLate (announcer config (needs_of sending.rules)) (of_second events)) asked (late_second config sending _ c))

  pairs_so : (ending : Ending) (talk : Talk) → (x : Exchanges talk s0 s1 a0 a1 end limit t0 t1 moments moments')
      → ((events : List Heard) (announced replied : List ℕ) (now : WireEnds) → Known events announced replied now
      → StopsSo talk end (length (octets_in (of_first events))) limit now → EndsSo ending events announced replied now)
      → PairsOver ending config whose sending last peer limit t0 t1 moments moments'
  pairs_so ending talk x ends = record {
    given = x.given;
    grew = x.grew;
    told = told_as
        (λ b n. AreJoined b → ExchangedOut talk s0 s1 a0 a1 end limit x.given b n)
        (λ b n. AreJoined b → Pairs ending config whose sending last peer limit x.given b n)
        (λ before now f j. one before now (f j)) t0 t1 x.told;
  }
    where
      one : (before now : WireEnds) → ExchangedOut talk s0 s1 a0 a1 end limit x.given before now
          → Pairs ending config whose sending last peer limit x.given before now
      one before now o =
          let e = o.exchanged in
          let made : EndsSo ending o.events e.announced e.replied now = ends o.events e.announced e.replied now (record {
            hears = subst (λ (n : ℕ). Receives last n count (of_first o.events) e.replied) same (e.one.stands [] [] start);
            speaks = e.other.stands [] [] begins;
            read_first = e.one.read;
            read_second = e.other.read;
          }) o.stops in
          record {
            config_is = config_is;
            events = o.events;
            announced = e.announced;
            replied = e.replied;
            heard_first = e.one.read;
            heard_second = e.other.read;
            within_first = o.within_first;
            within_second = o.within_second;
            wrote_first = e.one.wrote;
            wrote_second = e.other.wrote;
            asked = o.asked;
            front = front_of (of_second o.events) e.announced (e.other.stands [] [] begins).0;
            lived = λ earlier last split.
                subst (λ (m : Machine). (course m earlier).point.closed ≡ None) machine_is ((e.other.stands [] [] begins).0.lived earlier last split);
            late = λ h. late_so o.events e.announced e.replied now x.given o.asked
                (subst (λ (n : Ending). PairsSo n config whose sending last peer limit o.events e.announced e.replied now) h made.0);
            arrives = λ u. made.1 (subst (λ (ms : List ℕ). IsUnhindered config whose sending limit ms e.announced e.replied) (sym o.asked) u);
            ends = made.0;
          }

  module _ (events : List Heard) (announced replied : List ℕ) (now : WireEnds) (k : Known events announced replied now) where
    abbrev r : Receives last peer count (of_first events) replied
    r = k.hears

    abbrev s : Speaks b started (of_second events) announced
    s = k.speaks.0

    whose_same : r.whose ≡ whose
    whose_same =
        ap (λ (o : Option Peer). elim o [ None ↦ whose | Some p ↦ p ])
        (sym r.whose_is ∙ ap (λ (c : Config). peer_of peer c.peers) config_is ∙ whose_is)

    closes_first : (why : Closed) → standing_at_desk last peer ≡ Ended why → HasClosed config peer whose (of_first events) replied why
    closes_first why e =
        subst (λ (p : Peer). HasClosed config peer p (of_first events) replied why) whose_same
        (subst (λ (c : Config). HasClosed c peer r.whose (of_first events) replied why) config_is
        (closed_of _ _ _ _ _ _ e r.stands))

    closes_second : (why : Closed) → b.line.closed ≡ Some why → (told_by config sending (of_second events)).point.closed ≡ Some why
    closes_second why e = sym (ap (λ (m : Machine). (course m (of_second events)).point.closed) machine_is) ∙ sym s.at.closed_is ∙ e

    receives_so : is_ended (standing_at_desk last peer) ≡ false → IsReceiving last peer whose (of_first events) replied
    receives_so alive =
        subst (λ (p : Peer). IsReceiving last peer p (of_first events) replied) whose_same
        (receiving _ _ _ _ _ (hearing_of _ _ _ _ _ alive r.stands))

    -- an open announcing end, by all that it heard
    module _ (open_b : b.line.closed ≡ None) where
      alive_second : (told_by config sending (of_second events)).point.closed ≡ None
      alive_second = sym (ap (λ (m : Machine). (course m (of_second events)).point.closed) machine_is) ∙ sym s.at.closed_is ∙ open_b

      at_second : IsAt (machine_in b) b.line (course (machine_in b) (of_second events)).point
      at_second = s.at.open_is (sym s.at.closed_is ∙ open_b)

      opens_b : Opens true (machine_in b) b.line heard_up (octets_in (of_second events))
      opens_b = opens_so _ _ _ _ _ _ open_b (λ down. at_second) k.speaks.1

      opens : Opens true (announcer config (needs_of sending.rules)) b.line heard_up (octets_in (of_second events))
      opens = subst (λ (m : Machine). Opens true m b.line heard_up (octets_in (of_second events))) machine_is opens_b

      comes_up : is_settled b.line ≡ true → heard_up < limit → ComesUp config sending limit (of_second events)
      comes_up up l =
          let c = opens.counted in
          record {
            alive = alive_second;
            phase = opens.phase;
            behind = opens.behind;
            found = opens.found;
            up = opens.up ∙ sym (open_settled b.line open_b) ∙ up;
            within = omega (arith, l, c);
          }

    down_second : is_settled b.line ≡ false → is_established (told_by config sending (of_second events)).point.phase.state ≡ false
    down_second e =
        let open_b : b.line.closed ≡ None = (unsettled b.line e).0 in
        sym (ap (λ (m : Machine). is_established (course m (of_second events)).point.phase.state) machine_is)
        ∙ sym (ap (λ (p : Phase). is_established p.state) (at_second open_b).phase_is)
        ∙ sym (open_settled b.line open_b) ∙ e

    ends_early : is_ended (standing_at_desk last peer) ≡ false → is_settled b.line ≡ false → length (octets_in (of_first events)) < limit
        → heard_up < limit → now.first.left ≡ [] → now.second.left ≡ []
        → EndsEarly config whose sending last peer limit (of_first events) (of_second events) replied now
    ends_early alive e few few_up none other =
        let open_b : b.line.closed ≡ None = (unsettled b.line e).0 in
        record {
          receives = receives_so alive;
          within = few;
          none_first = none;
          alive = alive_second open_b;
          down = down_second e;
          before = ends_by (opens open_b) _ _ (sym (open_settled b.line open_b) ∙ e) few_up other;
        }

    all_heard : now.first.left ≡ [] → announced ≡ octets_in (of_first events)
    all_heard none = k.read_first ∙ ap (λ (z : List ℕ). octets_in (of_first events) ++ z) none ∙ append-nil (octets_in (of_first events))

    -- what the announcing end said past its OPEN
    said_past : b.line.closed ≡ None → b.started ≡ true → (p : Past b s.four (of_second events) s.parts)
        → announced ≡ open_sent config whose sending ++ woven (text_sent config whose s.four sending) (None ∷ p.0.0)
    said_past open_b go p =
        s.said_is
        ∙ ap (λ (z : List ℕ). opening_of b ++ (woven (text_in b s.four) s.parts ++ z)) (s.unended open_b)
        ∙ ap (λ (z : List ℕ). opening_of b ++ z) (append-nil (woven (text_in b s.four) s.parts) ∙ text_of _ _)
        ∙ ap (λ (z : List ℕ). z ++ woven (text_sent config whose s.four sending) s.parts) (open_is go)
        ∙ ap (λ (z : List (Option Sent)). open_sent config whose sending ++ woven (text_sent config whose s.four sending) z) p.0.1

    rules_past : (p : Past b s.four (of_second events) s.parts) → rules_in p.0.0 ≡ take b.appended sending.rules
    rules_past p = sym (ap rules_in p.0.1) ∙ s.rules_are ∙ ap (λ (x : Sending). take b.appended x.rules) b_sending

    -- while it is open it said a front of all
    fronts : b.line.closed ≡ None → Fronts config whose sending announced (octets_in (of_second events))
    fronts open_b = by _ (s.began open_b)
      where
        opening : List ℕ
        opening = open_sent config whose sending

        answer : List ℕ
        answer = woven (text_sent config whose s.four sending) (None ∷ [])

        only : s.parts ≡ [] → announced ≡ opening_of b
        only none =
            s.said_is
            ∙ ap (λ (z : List ℕ). opening_of b ++ (woven (text_in b s.four) s.parts ++ z)) (s.unended open_b)
            ∙ ap (λ (z : List (Option Sent)). opening_of b ++ (woven (text_in b s.four) z ++ [])) none
            ∙ append-nil (opening_of b)

        begun_so : (behind : List ℕ) → announced ++ behind ≡ opening ++ answer → Fronts config whose sending announced (octets_in (of_second events))
        begun_so behind e = record { behind = behind; four = s.four; parts = []; appended = 0; rules_are = refl; whole = e; took = inl refl }

        unanswered : s.parts ≡ [] → (g : Bool) → b.started ≡ g → Fronts config whose sending announced (octets_in (of_second events))
        unanswered none true g = begun_so _ (ap (λ (z : List ℕ). z ++ answer) (only none ∙ open_is g))
        unanswered none false g =
            begun_so _ (ap (λ (z : List ℕ). z ++ (opening ++ answer)) (only none ∙ opening_is
            ∙ ap (λ (x : Bool). if x then opening else []) g))

        no_parts : (more : List (Option Sent)) → None ∷ more ≡ [] → ⊥
        no_parts more e = cc

        went : (p : Past b s.four (of_second events) s.parts) → (g : Bool) → b.started ≡ g
            → Fronts config whose sending announced (octets_in (of_second events))
        went p true g = record {
          behind = [];
          four = s.four;
          parts = p.0.0;
          appended = b.appended;
          rules_are = rules_past p;
          whole = append-nil announced ∙ said_past open_b g p;
          took = inr (subst (λ (c : Config). TookOpen c s.four (octets_in (of_second events))) b_config p.1.1);
        }
        went p false g = absurd (no_parts _ (sym p.0.1 ∙ (s.unstarted (sym s.started_is ∙ g)).0))

        by : (state : State) → Began state b s.four (of_second events) s.parts → Fronts config whose sending announced (octets_in (of_second events))
        by WaitOpen p = unanswered p.0 _ refl
        by WaitKeep p = went p _ refl
        by Established p = went p _ refl
        by IsClosed p = went p _ refl

    -- what nothing hinders
    module _ (u : IsUnhindered config whose sending limit (moments_of events) announced replied) where
      limit_never : (limit ≤ length (octets_in (of_first events)))
          ⊎ MetLimit (announcer config (needs_of sending.rules)) limit (octets_in (of_second events)) → ⊥
      limit_never (inl l) = reaches_never _ _ _ _ k.read_first u.announced_within l
      limit_never (inr l) = let m = l.met in
          reaches_never (octets_in (of_second events)) now.second.left replied limit k.read_second u.replied_within (omega (arith, m))

      first_never : b.line.closed ≡ None → (why : Closed) → standing_at_desk last peer ≡ Ended why → ⊥
      first_never open_b why e =
          never_first config whose sending u.can peer whose_is (of_first events) replied why (closes_first why e) now.first.left announced
          (octets_in (of_second events)) k.read_first
          (fronts open_b) (timely_one config true events u.timely) now.second.left k.read_second u.may_hold

    -- the receiving end is open
    module _ (alive : is_ended (standing_at_desk last peer) ≡ false) where
      got : IsReceiving last peer whose (of_first events) replied
      got = receives_so alive

      open_course : (course_of config whose (of_first events)).point.closed ≡ None
      open_course =
          let h = hearing_of last peer r.whose (of_first events) replied alive r.stands in
          sym (ap (λ (p : Peer). (course_of config p (of_first events)).point.closed) whose_same)
          ∙ sym (ap (λ (c : Config). (course_of c r.whose (of_first events)).point.closed) config_is)
          ∙ sym (ap (λ p. p.closed) h.point_is) ∙ h.alive

      reply_is : replied ≡ (course_of config whose (of_first events)).text
      reply_is = got.said_is ∙ ap (λ (c : Config). (course_of c whose (of_first events)).text) config_is

      replies_form : (replied ≡ []) ⊎ ((n : ℕ) × (replied ≡ reply_to config WaitOpen ++ keepalives n))
      replies_form =
          subst (λ (z : List ℕ). (z ≡ []) ⊎ ((n : ℕ) × (z ≡ reply_to config WaitOpen ++ keepalives n))) (sym reply_is)
          (replies config whose (of_first events) open_course)

      second_never : IsUnhindered config whose sending limit (moments_of events) announced replied → (why : Closed) → b.line.closed ≡ Some why → ⊥
      second_never u why e =
          none-some why (sym (teller_stays _ _ _ _ now.second.left _ u.can (sym k.read_second) replies_form
          (timely_one config false _ u.timely)) ∙ closes_second _ e)

      -- the announcing end has said its OPEN, and nothing is in flight
      unsettled_never : IsUnhindered config whose sending limit (moments_of events) announced replied → is_settled b.line ≡ false → started ≡ true
          → now.first.left ≡ [] → now.second.left ≡ [] → ⊥
      unsettled_never u down go none_first none_second =
          by replies_form (down_second down)
        where
          heard_all : replied ≡ octets_in (of_second events)
          heard_all = k.read_second ∙ ap (λ (z : List ℕ). octets_in (of_second events) ++ z) none_second ∙ append-nil (octets_in (of_second events))

          rest : List ℕ
          rest = woven (text_in b s.four) s.parts ++ s.ending

          announced_is : octets_in (of_first events) ≡ open_sent config whose sending ++ rest
          announced_is = sym (all_heard none_first) ∙ s.said_is ∙ ap (λ (z : List ℕ). z ++ rest) (open_is (s.started_is ∙ go))

          has_replied : replied ≡ [] → ⊥
          has_replied none =
              none-some (own_message config whose sending, rest)
              (sym (unread config whose sending u.can (of_first events) [] rest open_course (sym reply_is
              ∙ none) (append-nil (octets_in (of_first events)) ∙ announced_is)).0
              ∙ ap first_message announced_is ∙ open_first config whose sending rest)

          by : (replied ≡ []) ⊎ ((n : ℕ) × (replied ≡ reply_to config WaitOpen ++ keepalives n))
              → is_established (told_by config sending (of_second events)).point.phase.state ≡ false → ⊥
          by (inl silent) is_down = has_replied silent
          by (inr m) is_down =
              never
              (sym (teller_up config whose sending (of_second events) m.0 u.can (sym heard_all ∙ m.1)
              (teller_stays config whose sending (of_second events) now.second.left replied u.can (sym k.read_second) replies_form
              (timely_one config false events u.timely))) ∙ is_down)

      module _ (open_b : b.line.closed ≡ None) (up : is_settled b.line ≡ true) (none : now.first.left ≡ []) (all : ahead_of b started ≡ 0) where
        left : unsaid started + (length b.sending.rules - b.appended) ≡ 0
        left = sym (ap (λ (c : Option Closed). if is_some c then 0 else unsaid started + (length b.sending.rules - b.appended)) open_b) ∙ all

        none_left : (unsaid started ≡ 0) × (length b.sending.rules ≤ b.appended)
        none_left = sub_none _ _ _ left

        has_begun : b.started ≡ true
        has_begun = s.started_is ∙ by started none_left.0
          where
            by : (g : Bool) → unsaid g ≡ 0 → g ≡ true
            by true h = refl
            by false h = absurd cc

        past : Past b s.four (of_second events) s.parts
        past = past_of _ _ _ _ _ (unawaited _ (sym (open_settled b.line open_b) ∙ up)) (s.began open_b)

        said_so : announced ≡ open_sent config whose sending ++ woven (text_sent config whose s.four sending) (None ∷ past.0.0)
        said_so = said_past open_b has_begun past

        rules_so : rules_in past.0.0 ≡ sending.rules
        rules_so = rules_past past ∙ take_all b.appended sending.rules (subst (λ (x : Sending). length x.rules ≤ b.appended) b_sending none_left.1)

        four_so : CanArrive config whose sending → s.four ≡ true
        four_so can =
            meets _ _ _ _ _ _ _ can (subst (λ (c : Config). TookOpen c s.four (octets_in (of_second events))) b_config past.1.1)
            k.read_second (subst (λ (z : List ℕ). (z ≡ []) ⊎ ((more : List ℕ) × (z ≡ reply_to config WaitOpen ++ more)))
            (sym reply_is) (answers config whose (of_first events) open_course))

        updates_so : CanArrive config whose sending
            → bounded_session config peer announced ≡ (map (update_sent config whose sending) sending.rules, still (phase Established true config.hold_time))
        updates_so can =
            let whole : bounded_session config peer announced ≡ bounded_from config whose announced =
            ap (λ (o : Option Peer). elim o as (λ _. List Update × Last) [ None ↦ ([], still at_start) | Some p ↦ bounded_from config p announced ]) whose_is in
            let found : (bounded_from config whose announced).1 ≡ still got.phase =
            sym (ap (λ (x : List Update × Last). x.1) whole) ∙ ap (λ (z : List ℕ). (bounded_session config peer z).1) (all_heard none)
            ∙ sym (ap (λ (c : Config). (bounded_session c peer (octets_in (of_first events))).1) config_is) ∙ got.found in
            whole
            ∙ bounded_still _ _ _ found
            ∙ ap (session_from config whose at_start) (said_so
            ∙ ap (λ (f : Bool). open_sent config whose sending ++ woven (text_sent config whose f sending) (None ∷ past.0.0)) (four_so can))
            ∙ all_arrive _ _ _ _ can rules_so

        arrives : length (octets_in (of_first events)) < limit → heard_up < limit
            → Arrives config whose sending last peer limit (of_first events) (of_second events) announced replied
        arrives few few_up = record {
          receives = got;
          within = few;
          comes_up = comes_up open_b up few_up;
          all_is = all_heard none;
          four = s.four;
          parts = past.0.0;
          rules_are = rules_so;
          said_is = said_so;
          kept =
              sym (ap without_rules past.0.1) ∙ sym (append-nil (without_rules s.parts))
              ∙ ap (λ (z : List ℕ). without_rules s.parts ++ z) (sym (s.unended open_b)) ∙ s.kept
              ∙ ap (λ (m : Machine). (course m (of_second events)).text) machine_is;
          four_is = four_so;
          updates = updates_so;
        }

  -- each way in which it ends
  done_so : (ending : Ending) → Exchanges AllSaid s0 s1 a0 a1 end limit t0 t1 moments moments' → ending ≡ (if is_settled b.line then Done else EndedEarly)
      → PairsOver ending config whose sending last peer limit t0 t1 moments moments'
  done_so ending x e = pairs_so ending AllSaid x (λ events announced replied now k st. by events announced replied now k st (is_settled b.line) refl)
    where
      by : (events : List Heard) (announced replied : List ℕ) (now : WireEnds) (k : Known events announced replied now)
          → SaidAll end (length (octets_in (of_first events))) limit now
          → (up : Bool) → is_settled b.line ≡ up → EndsSo ending events announced replied now
      by events announced replied now k st true up =
          let is : ending ≡ Done = e ∙ ap (λ (z : Bool). if z then Done else EndedEarly) up in (
            subst (λ (x : Ending). PairsSo x config whose sending last peer limit events announced replied now) (sym is)
                (arrives events announced replied now k (at_peer ∙ st.open_first) (none_there b.line.closed st.open_second) up st.heard_first
                (st.all up) st.within_first st.within_second),
            λ u. is,
          )
      by events announced replied now k st false down = (
        subst (λ (x : Ending). PairsSo x config whose sending last peer limit events announced replied now)
            (sym (e ∙ ap (λ (z : Bool). if z then Done else EndedEarly) down))
            (ends_early events announced replied now k (at_peer ∙ st.open_first) down st.within_first st.within_second st.heard_first (st.heard_second down)),
        λ u. absurd (unsettled_never events announced replied now k (at_peer ∙ st.open_first) u down st.begun st.heard_first (st.heard_second down)),
      )

  first_so : (ending : Ending) → Exchanges FirstOver s0 s1 a0 a1 end limit t0 t1 moments moments'
      → ((why : Closed) → standing_at_desk last peer ≡ Ended why → ending ≡ WasClosed why)
      → PairsOver ending config whose sending last peer limit t0 t1 moments moments'
  first_so ending x is =
      pairs_so ending FirstOver x
      (λ events announced replied now k st.
      let found = ended_there (standing_at_desk last peer) (at_peer ∙ st.0) in (
        subst (λ (x : Ending). PairsSo x config whose sending last peer limit events announced replied now) (sym (is found.0 found.1))
            (inl (closes_first events announced replied now k found.0 found.1)),
        λ u. absurd (first_never events announced replied now k u (none_there b.line.closed st.1) found.0 found.1),
      ))

  second_so : (ending : Ending) → Exchanges SecondOver s0 s1 a0 a1 end limit t0 t1 moments moments'
      → ((why : Closed) → b.line.closed ≡ Some why → ending ≡ WasClosed why) → PairsOver ending config whose sending last peer limit t0 t1 moments moments'
  second_so ending x is =
      pairs_so ending SecondOver x
      (λ events announced replied now k st.
      let found = some_there b.line.closed st.1 in (
        subst (λ (x : Ending). PairsSo x config whose sending last peer limit events announced replied now) (sym (is found.0 found.1))
            (inr (closes_second events announced replied now k found.0 found.1)),
        λ u. absurd (second_never events announced replied now k (at_peer ∙ st.0) u found.0 found.1),
      ))

  limit_so : Exchanges MetIt s0 s1 a0 a1 end limit t0 t1 moments moments' → PairsOver AtLimit config whose sending last peer limit t0 t1 moments moments'
  limit_so x = pairs_so AtLimit MetIt x (λ events announced replied now k st.
      let open_b : b.line.closed ≡ None = none_there b.line.closed st.1.0 in
      let met = by events announced replied now k open_b st.1.1 in (
        record {
          receives = receives_so events announced replied now k (at_peer ∙ st.0);
          alive = alive_second events announced replied now k open_b;
          met = met;
        },
        λ u. absurd (limit_never events announced replied now k u met),
      ))
    where
      by : (events : List Heard) (announced replied : List ℕ) (now : WireEnds) → Known events announced replied now → b.line.closed ≡ None
          → (limit ≤ length (octets_in (of_first events))) ⊎ (limit ≤ heard_up)
          → (limit ≤ length (octets_in (of_first events))) ⊎ MetLimit (announcer config (needs_of sending.rules)) limit (octets_in (of_second events))
      by events announced replied now k open_b (inl l) = inl l
      by events announced replied now k open_b (inr l) = inr (met_by (opens events announced replied now k open_b) limit l)

  pub pairs_as : (talk : Talk) (ending : Ending) → Exchanges talk s0 s1 a0 a1 end limit t0 t1 moments moments'
      → EndsTalk talk (standing_at_desk last peer) b.line ending
      → PairsOver ending config whose sending last peer limit t0 t1 moments moments'
  pairs_as AllSaid ending x e = done_so ending x e
  pairs_as FirstOver ending x is = first_so ending x is
  pairs_as SecondOver ending x is = second_so ending x is
  pairs_as MetIt ending x e = subst (λ (n : Ending). PairsOver n config whose sending last peer limit t0 t1 moments moments') (sym e) (limit_so x)
  pairs_as Broken ending x e = pairs_so ending Broken x (λ events announced replied now k st. absurd st)
