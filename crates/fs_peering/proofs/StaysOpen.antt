-- Where an end that hears pieces stays open: where the session of their octets does, and no hold time has passed.
use Rattle.fs_peering.proofs.Words.{CanArrive, Closed, Config, Established, Expires, Handed, Last, Machine, Message, MessageFault, Needs, NoFamily}
use Rattle.fs_peering.proofs.Words.{Open, Peer, Phase, Point, Sending, Times, Update, WaitKeep, WaitOpen, announcer, at_moment, at_start, closed}
use Rattle.fs_peering.proofs.Words.{first_message, is_established, message_text, needs_of, open_body, open_sent, opened, phase}
use Rattle.fs_peering.proofs.Words.{plays, reply_to, rest_closes, runs, runs_by, session_by, session_from, still, taken, taken_in, tick_at}
use Rattle.fs_peering.proofs.Words.{transition_by, ◌≡◌, ◌≢◌, ◌⊎◌, inl, inr, ℕ, zero, suc, ◌+◌, ◌*◌, ◌<◌, ◌≤◌, min, List, [], ◌∷◌, ◌++◌}
use Rattle.fs_peering.proofs.Words.{length, Bool, true, false, ◌&&◌, ◌||◌, if◌then◌else◌, Option, Some, None, Result, Ok, Err, refl, ap, sym, ◌∙◌}
use Rattle.fs_peering.proofs.Words.{subst, append_assoc, append-nil, arith, AllByRecursion, map-append, open_read, message_stable, text_first, ran}
use Rattle.fs_peering.proofs.Words.{runs_none, runs_step, going, machine_takes, machine_waits, plays_none, plays_step, session_rest, step_found}
use Rattle.fs_peering.proofs.Words.{Spans, most, Pieces, moments_in, octets_in, course_of, IsTimely, told_by, course, goes_by, goes_on, last_by}
use Rattle.fs_peering.proofs.Words.{last_update, one_message, open_fits}
use Rattle.fs_peering.proofs.Courses.{keepalives, octets_more, Steps, by_pieces, lived, steps, course_more}
use Rattle.fs_peering.proofs.Phases.{Unheld, awaits_open, closed_still, hold_is, runs_unheld, same_still, session_on}
use Rattle.fs_peering.proofs.{Moments.{expires_late, positive}, BothEnds.{least, peer_opens}, Replying.{keepalives_front}}

abbrev Made : Type 0
Made = Result (Phase × Option Update) Closed

-- they lie so close behind a first one
abbrev pub AreClose : (first least : ℕ) → List ℕ → Type 0
AreClose first least moments = AllByRecursion (λ moment. (first ≤ moment) × (moment < first + least)) moments

-- no moments between which a hold time of so many seconds could have passed
abbrev pub AreEarly : ℕ → List ℕ → Type 0
AreEarly hold moments = (hold ≡ 0) ⊎ ((first : ℕ) × AreClose first (1000 * hold) moments)

all_front : (first least : ℕ) (xs ys : List ℕ) → AreClose first least (xs ++ ys) → AreClose first least xs
all_front first least [] ys all = tt
all_front first least (x ∷ xs) ys all = (all.0, all_front first least xs ys all.1)

all_behind : (first least : ℕ) (xs ys : List ℕ) → AreClose first least (xs ++ ys) → AreClose first least ys
all_behind first least [] ys all = all
all_behind first least (x ∷ xs) ys all = all_behind first least xs ys all.1

pub early_front : (hold : ℕ) (xs ys : List ℕ) → AreEarly hold (xs ++ ys) → AreEarly hold xs
early_front hold xs ys (inl z) = inl z
early_front hold xs ys (inr all) = inr (all.0, all_front _ _ _ _ all.1)

most_below : (first least : ℕ) (moments : List ℕ) → 0 < least → AreClose first least moments → most moments < first + least
most_below first least [] some all = omega (arith, some)
most_below first least (moment ∷ moments) some all =
    let later : most moments < first + least = most_below first least moments some all.1 in
    let here : moment < first + least = all.0.1 in
    omega (arith, later, here)

most_above : (first least : ℕ) (moments : List ℕ) → 0 < length moments → AreClose first least moments → first ≤ most moments
most_above first least [] some all = absurd (omega (arith, some))
most_above first least (moment ∷ moments) some all =
    let here : first ≤ moment = all.0.0 in
    omega (arith, here)

never_spans : (first least : ℕ) (moments : List ℕ) → 0 < least → AreClose first least moments → Spans least moments → ⊥
never_spans first least moments some all s =
    let both : AreClose first least (s.earlier ++ s.later) = subst (AreClose first least) s.split all in
    let above : first ≤ most s.earlier = most_above first least s.earlier s.some (all_front first least s.earlier s.later both) in
    let below : most s.later < first + least = most_below first least s.later some (all_behind first least s.earlier s.later both) in
    omega (arith, above, below, s.apart)

-- At such moments no hold time expires.
pub none_expires : (machine : Machine) (hold : ℕ) (heard : Pieces) (moment : ℕ) → (course machine heard).point.closed ≡ None
    → ((course machine heard).point.phase.hold ≡ 0) ⊎ ((course machine heard).point.phase.hold ≡ hold) → AreEarly hold (moments_in heard ++ moment ∷ [])
    → tick_at (course machine heard).point.phase.hold (at_moment moment (course machine heard).point.times) ≡ Expires → ⊥
none_expires machine hold heard moment alive agreed early due = by agreed early
  where
    now : ℕ
    now = (course machine heard).point.phase.hold

    late : (now ≢ 0) × Spans (1000 * now) (moments_in heard ++ moment ∷ [])
    late = expires_late _ _ _ alive due

    by : (now ≡ 0) ⊎ (now ≡ hold) → AreEarly hold (moments_in heard ++ moment ∷ []) → ⊥
    by (inl z) e = late.0 z
    by (inr h) (inl z) = late.0 (h ∙ z)
    by (inr h) (inr all) =
        never_spans _ _ _ (positive _ (λ z. late.0 (h ∙ z))) all.1
        (subst (λ (n : ℕ). Spans (1000 * n) (moments_in heard ++ moment ∷ [])) h late.1)

module _ (machine : Machine) where
  abbrev stands_at : Handed → Last
  stands_at made = elim made.point.closed [ Some why ↦ closed why | None ↦ still made.point.phase ]

  stands_runs : (messages : List Message) (now : Phase) (times : Times) (waiting : List ℕ) (wrong : Option MessageFault)
      → (plays machine now messages wrong).1 ≡ stands_at (runs machine now times messages waiting wrong)
  stands_runs [] now times waiting None =
      ap (λ (z : List Update × Last). z.1) (plays_none machine now None) ∙ sym (ap stands_at (runs_none machine now times waiting None))
  stands_runs [] now times waiting (Some fault) =
      ap (λ (z : List Update × Last). z.1) (plays_none machine now (Some fault)) ∙ sym (ap stands_at (runs_none machine now times waiting (Some fault)))
  stands_runs (message ∷ messages) now times waiting wrong =
      ap (λ (z : List Update × Last). z.1) (plays_step machine now message messages wrong)
      ∙ by (λ next. stands_runs _ _ _ _ _) (transition_by machine now message)
      ∙ sym (ap stands_at (runs_step machine now times message messages waiting wrong))
    where
      by : ((next : Phase) → (plays machine next messages wrong).1 ≡ stands_at (runs machine next (taken_in now.state times) messages waiting wrong))
          → (made : Made)
          → (going made (λ next. plays machine next messages wrong)).1
          ≡ stands_at (ran machine now times made (λ next. runs machine next (taken_in now.state times) messages waiting wrong))
      by goes (Ok next) = last_update next.1 (plays machine next.0 messages wrong) ∙ goes next.0
      by goes (Err why) = refl

  stands_by : (now : Phase) (times : Times) (octets : List ℕ) → last_by machine now octets ≡ stands_at (runs_by machine now times octets)
  stands_by now times octets = stands_runs _ _ _ _ _

  abbrev at : Pieces → Point
  at heard = (course machine heard).point

  -- An open end stands where the session of its octets does: what is to come of more is what is to come of those in hand
  -- and of these.
  pub record Stands (heard : Pieces) : Type 0 where
    pub follows : (more : List ℕ) → last_by machine at_start (octets_in heard ++ more) ≡ last_by machine (at heard).phase ((at heard).waiting ++ more)
    pub found : last_by machine at_start (octets_in heard) ≡ still (at heard).phase
    pub unheld : Unheld machine (at heard).phase

  moments_more : (heard : Pieces) (event : ℕ × List ℕ) → moments_in (heard ++ event ∷ []) ≡ moments_in heard ++ event.0 ∷ []
  moments_more heard event = map-append (λ (e : ℕ × List ℕ). e.0) heard (event ∷ [])

  module _ (heard : Pieces) (event : ℕ × List ℕ) (st : Stands heard) (s : Steps machine event (at heard)) where
    abbrev later : Handed
    later = runs_by machine (at heard).phase s.times ((at heard).waiting ++ event.1)

    abbrev all : Pieces
    all = heard ++ event ∷ []

    point_is : at all ≡ later.point
    point_is = ap (λ (m : Handed). m.point) (course_more machine heard event) ∙ s.point_is

    -- what is to come, by what the piece made of the end
    comes : (more : List ℕ) → last_by machine at_start (octets_in all ++ more) ≡ goes_on machine more later
    comes more =
        ap (λ (z : List ℕ). last_by machine at_start (z ++ more)) (octets_more heard event.0 event.1)
        ∙ ap (last_by machine at_start) (append_assoc (octets_in heard) event.1 more)
        ∙ st.follows (event.1 ++ more)
        ∙ ap (last_by machine (at heard).phase) (sym (append_assoc (at heard).waiting event.1 more))
        ∙ goes_by machine more (at heard).phase s.times ((at heard).waiting ++ event.1)

    stands_more : (at all).closed ≡ None → Stands all
    stands_more e = record {
      follows = λ more. comes _
          ∙ ap (λ (c : Option Closed). elim c [ Some why ↦ closed why | None ↦ last_by machine later.point.phase (later.point.waiting ++ more) ]) alive
          ∙ ap (λ (p : Point). last_by machine p.phase (p.waiting ++ more)) (sym point_is);
      found =
          ap (last_by machine at_start) (octets_more heard event.0 event.1)
          ∙ st.follows event.1
          ∙ stands_by _ _ _
          ∙ ap (λ (c : Option Closed). elim c [ Some why ↦ closed why | None ↦ still later.point.phase ]) alive
          ∙ ap (λ (p : Point). still p.phase) (sym point_is);
      unheld =
          subst (λ (p : Point). Unheld machine p.phase) (sym point_is) (runs_unheld _ _ _ _ _ _ st.unheld);
    }
      where
        alive : later.point.closed ≡ None
        alive = sym (ap (λ (p : Point). p.closed) point_is) ∙ e

    open_more : (more : List ℕ) (last : Phase) → last_by machine at_start (octets_in all ++ more) ≡ still last → (at all).closed ≡ None
    open_more more last h = ap (λ (p : Point). p.closed) point_is ∙ by later.point.closed refl
      where
        by : (c : Option Closed) → later.point.closed ≡ c → later.point.closed ≡ None
        by None e = e
        by (Some why) e =
            absurd (closed_still _ _ (sym
            (ap (λ (c : Option Closed). elim c [ Some why ↦ closed why | None ↦ last_by machine later.point.phase (later.point.waiting ++ more) ])
            e)
            ∙ sym (comes _) ∙ h))

  abbrev StandsOpen : Pieces → Type 0
  StandsOpen heard = (at heard).closed ≡ None → Stands heard

  more_stands : (heard : Pieces) (event : ℕ × List ℕ) → StandsOpen heard → StandsOpen (heard ++ event ∷ [])
  more_stands heard event a e =
      let before = lived _ _ _ (sym (ap (λ (m : Handed). m.point.closed) (course_more machine heard event)) ∙ e) in
      stands_more _ _ (a before.0) before.1 e

  pub stands : (heard : Pieces) → (course machine heard).point.closed ≡ None → Stands heard
  stands heard =
      by_pieces _ more_stands
      (λ e. record { follows = λ more. refl; found = ap (λ (z : List Update × Last). z.1) (machine_waits machine at_start [] refl); unheld = λ w. refl }) _

  -- its hold time is none, or the one of the session that comes of more octets
  pub agreed : (heard : Pieces) (more : List ℕ) (last : Phase) → (course machine heard).point.closed ≡ None
      → (session_by machine at_start (octets_in heard ++ more)).1 ≡ still last
      → ((course machine heard).point.phase.hold ≡ 0) ⊎ ((course machine heard).point.phase.hold ≡ last.hold)
  agreed heard more last alive h =
      let st : Stands heard = stands _ alive in
      hold_is _ _ _ _ st.unheld (sym (st.follows more) ∙ h)

  abbrev StaysOpen : Pieces → Type 0
  StaysOpen heard =
      (more : List ℕ) (last : Phase) → last_by machine at_start (octets_in heard ++ more) ≡ still last → AreEarly last.hold (moments_in heard)
      → (at heard).closed ≡ None

  more_stays : (heard : Pieces) (event : ℕ × List ℕ) → StaysOpen heard → StaysOpen (heard ++ event ∷ [])
  more_stays heard event a more last h early = by (steps _ _ _ alive)
    where
      here : last_by machine at_start (octets_in heard ++ (event.1 ++ more)) ≡ still last
      here =
          ap (last_by machine at_start) (sym (append_assoc (octets_in heard) event.1 more))
          ∙ ap (λ (z : List ℕ). last_by machine at_start (z ++ more)) (sym (octets_more heard _ _)) ∙ h

      moments_early : AreEarly last.hold (moments_in heard ++ event.0 ∷ [])
      moments_early = subst (AreEarly last.hold) (moments_more _ _) early

      alive : (at heard).closed ≡ None
      alive = a (event.1 ++ more) last here (early_front _ _ _ moments_early)

      by : Steps machine event (at heard) ⊎ (tick_at (at heard).phase.hold (at_moment event.0 (at heard).times) ≡ Expires)
          → (at (heard ++ event ∷ [])).closed ≡ None
      by (inl s) = open_more heard _ (stands _ alive) s _ _ h
      by (inr due) = absurd (none_expires _ _ _ _ alive (agreed heard _ _ alive here) moments_early due)

  -- An end that heard a front of octets whose session is open is open, where no hold time has passed.
  pub stays : (heard : Pieces) (more : List ℕ) (last : Phase) → (session_by machine at_start (octets_in heard ++ more)).1 ≡ still last
      → AreEarly last.hold (moments_in heard) → (course machine heard).point.closed ≡ None
  stays heard = by_pieces _ more_stays (λ more last h early. refl) _

  -- of a front of octets that begin with an OPEN that is taken, the session has agreed on no hold time, or on the OPEN's
  pub front_hold : (body octets left more : List ℕ) (next last : Phase) → length body ≡ 42 → awaits_open next.state ≡ false
      → transition_by machine at_start (record { kind = 1; body = body }) ≡ Ok (next, None) → octets ++ left ≡ message_text 1 body ++ more
      → (session_by machine at_start octets).1 ≡ still last → (last.hold ≡ 0) ⊎ (last.hold ≡ next.hold)
  front_hold body octets left more next last long past opens split h = by (first_message octets) refl
    where
      rest : (wrong : Option MessageFault) → rest_closes at_start wrong ≡ still last → last.hold ≡ 0
      rest None e = sym (ap (λ (p : Phase). p.hold) (same_still _ _ e))
      rest (Some fault) e = absurd (closed_still _ _ e)

      by : (x : Option (Message × List ℕ)) → first_message octets ≡ x → (last.hold ≡ 0) ⊎ (last.hold ≡ next.hold)
      by None f = inl (rest _ (sym (ap (λ (z : List Update × Last). z.1) (session_rest machine at_start octets f)) ∙ h))
      by (Some found) f =
          let own : Message = record { kind = 1; body = body } in
          let fits = open_fits (length body) long in
          let whole : first_message (octets ++ left) ≡ Some (found.0, found.1 ++ left) = message_stable octets left found f in
          let first : first_message (message_text 1 body ++ more) ≡ Some (own, more) = text_first 1 body more (omega arith) (omega arith) fits.0 fits.1 in
          let same : found.0 ≡ own = ap (λ (o : Option (Message × List ℕ)). elim o [ None ↦ own | Some g ↦ g.0 ]) (sym whole ∙ ap first_message split
          ∙ first) in
          let goes = step_found machine at_start octets found (Ok (next, None)) f (ap (transition_by machine at_start) same ∙ opens) in
          let taken_so : session_by machine at_start octets ≡ session_by machine next (found.1 ++ []) =
          ap (session_by machine at_start) (sym (append-nil octets)) ∙ machine_takes machine at_start next None octets found.1 [] goes in
          inr (session_on _ _ _ _ past (sym (ap (λ (z : List Update × Last). z.1) taken_so) ∙ h)).hold_is

module _ (config : Config) (peer : Peer) (sending : Sending) where
  abbrev teller : Machine
  teller = announcer config (needs_of sending.rules)

  abbrev up : Phase
  up = phase Established true config.hold_time

  -- an OPEN that names both families of rules lacks none
  none_lacks : (a b : Bool) → ((a && false) || (b && false)) ≡ false
  none_lacks true true = refl
  none_lacks true false = refl
  none_lacks false true = refl
  none_lacks false false = refl

  -- the announcing end takes our OPEN
  teller_opens : CanArrive config peer sending
      → transition_by teller at_start (record { kind = 1; body = open_body config.local_as config.hold_time config.local_id })
      ≡ Ok (phase WaitKeep true config.hold_time, None)
  teller_opens can =
      let needs : Needs = needs_of sending.rules in
      ap (λ (r : Result Open MessageFault). opened teller r)
      (open_read config.local_as config.hold_time config.local_id can.own.asn.small can.own.hold_time.small can.own.id.small can.own.asn.some
      can.own.hold_time.not_one can.own.hold_time.not_two can.own.id.some)
      ∙ ap (λ (b : Bool). if b then Err NoFamily else taken (phase WaitKeep true (min config.hold_time config.hold_time)) None) (none_lacks _ _)
      ∙ ap (λ (n : ℕ). Ok (phase WaitKeep true n, None)) (least config peer sending config.hold_time)

  keepalives_taken : (n : ℕ) → session_by teller up (keepalives n) ≡ ([], still up)
  keepalives_taken zero = machine_waits teller up [] refl
  keepalives_taken (suc n) =
      ap (session_by teller up) (keepalives_front n)
      ∙ one_message teller up up None 4 [] (keepalives n) (omega arith) (omega arith) refl (omega arith) refl
      ∙ keepalives_taken n

  -- of the answer to its OPEN and KEEPALIVEs it is established
  pub teller_last : (n : ℕ) → CanArrive config peer sending → session_by teller at_start (reply_to config WaitOpen ++ keepalives n) ≡ ([], still up)
  teller_last n can =
      let body : List ℕ = open_body config.local_as config.hold_time config.local_id in
      let fits = open_fits (length body) refl in
      ap (session_by teller at_start) (append_assoc (message_text 1 body) (message_text 4 []) (keepalives n))
      ∙ one_message teller at_start (phase WaitKeep true config.hold_time) None 1 body (message_text 4 [] ++ keepalives n) (omega arith)
      (omega arith) fits.0 fits.1 (teller_opens can)
      ∙ one_message teller (phase WaitKeep true config.hold_time) up None 4 [] (keepalives n) (omega arith) (omega arith) refl (omega arith) refl
      ∙ keepalives_taken n

  -- what the receiving end has said while it is open
  abbrev pub AreReplies : List ℕ → Type 0
  AreReplies text = (text ≡ []) ⊎ ((n : ℕ) × (text ≡ reply_to config WaitOpen ++ keepalives n))

  -- what the session of it comes to: before the OPEN, or established
  text_last : (text : List ℕ) → CanArrive config peer sending → AreReplies text
      → (last : Phase) × ((last_by teller at_start text ≡ still last) × ((last.hold ≡ 0) ⊎ (last.hold ≡ config.hold_time)))
  text_last text can (inl none) = (
    at_start,
    (ap (last_by teller at_start) none ∙ ap (λ (z : List Update × Last). z.1) (machine_waits teller at_start [] refl), inl refl),
  )
  text_last text can (inr m) = (up, (ap (last_by teller at_start) m.1 ∙ ap (λ (z : List Update × Last). z.1) (teller_last m.0 can), inr refl))

  early_so : (hold : ℕ) (moments : List ℕ) → (hold ≡ 0) ⊎ (hold ≡ config.hold_time) → IsTimely config moments → AreEarly hold moments
  early_so hold moments (inl z) timely = inl z
  early_so hold moments (inr e) timely = subst (λ (n : ℕ). AreEarly n moments) (sym e) timely

  -- It is open where no hold time has passed,
  pub teller_stays : (heard : Pieces) (left text : List ℕ) → CanArrive config peer sending → octets_in heard ++ left ≡ text → AreReplies text
      → IsTimely config (moments_in heard) → (told_by config sending heard).point.closed ≡ None
  teller_stays heard left text can split form timely =
      let found = text_last _ can form in
      stays _ _ _ _ (ap (last_by teller at_start) split ∙ found.1.0) (early_so _ _ found.1.1 timely)

  -- and established once it heard all of it.
  pub teller_up : (heard : Pieces) (n : ℕ) → CanArrive config peer sending → octets_in heard ≡ reply_to config WaitOpen ++ keepalives n
      → (told_by config sending heard).point.closed ≡ None → is_established (told_by config sending heard).point.phase.state ≡ true
  teller_up heard n can all alive =
      let here : Phase = (told_by config sending heard).point.phase in
      let same : here ≡ up =
      same_still _ _ (sym (stands _ heard alive).found ∙ ap (last_by teller at_start) all
      ∙ ap (λ (z : List Update × Last). z.1) (teller_last n can)) in
      ap (λ (p : Phase). is_established p.state) same

  -- The session of a front of what the announcing end says has agreed on no hold time, or on ours,
  pub session_hold : (octets left more : List ℕ) (last : Phase) → CanArrive config peer sending → octets ++ left ≡ open_sent config peer sending ++ more
      → (session_from config peer at_start octets).1 ≡ still last → (last.hold ≡ 0) ⊎ (last.hold ≡ config.hold_time)
  session_hold octets left more last can split h =
      front_hold _ (open_body peer.asn config.hold_time sending.id) _ _ more _ _ refl refl (peer_opens _ _ _ can) split h

  -- and so has the receiving end, while it is open and heard it.
  pub hearer_hold : (heard : Pieces) (left more : List ℕ) → CanArrive config peer sending → octets_in heard ++ left ≡ open_sent config peer sending ++ more
      → (course_of config peer heard).point.closed ≡ None
      → ((course_of config peer heard).point.phase.hold ≡ 0) ⊎ ((course_of config peer heard).point.phase.hold ≡ config.hold_time)
  hearer_hold heard left more can split alive =
      session_hold _ left _ _ can split (stands _ heard alive).found

  -- At such moments neither end's hold time expires.
  pub never_due : (machine : Machine) (heard : Pieces) (moment : ℕ) → (course machine heard).point.closed ≡ None
      → ((course machine heard).point.phase.hold ≡ 0) ⊎ ((course machine heard).point.phase.hold ≡ config.hold_time)
      → IsTimely config (moments_in heard ++ moment ∷ [])
      → tick_at (course machine heard).point.phase.hold (at_moment moment (course machine heard).point.times) ≡ Expires → ⊥
  never_due machine heard moment alive hold timely due = none_expires _ _ _ _ alive hold timely due
