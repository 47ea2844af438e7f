-- What an announcing end says to the pieces that it hears.
use Rattle.fs_peering.proofs.Words.{Announcing, CanSend, Closed, Config, Expires, Fault, Framing, Handed, HandsOver, IsAt, Keeps, Lined, Machine}
use Rattle.fs_peering.proofs.Words.{Peer, Phase, Point, SaysText, Sending, Sent, StandsAt, StartsWith, Tick, TicksOver, announcing, at_moment}
use Rattle.fs_peering.proofs.Words.{at_start, first_text, fresh, hand, is_established, machine_in, needs_of, next_text, one_sent, open_sent, pending}
use Rattle.fs_peering.proofs.Words.{runs_by, state_in, text_sent, tick_at, ticked, ticks, with_line, ◌≡◌, ◌||◌, inl, inr, ℕ, suc, ◌+◌, ◌*◌, List, []}
use Rattle.fs_peering.proofs.Words.{◌∷◌, ◌++◌, drop, take, Bool, true, false, if◌then◌else◌, Option, Some, None, refl, ap, sym, ◌∙◌, subst, arith}
use Rattle.fs_peering.proofs.Words.{append_assoc, append-nil, IfSome, flat_map, is_some, flat_map-append, none-some, same_Some, none_there, Comes}
use Rattle.fs_peering.proofs.Words.{Going, GoesFrom, closed_hand, open_hand, Spans, Hears, Pieces, Says, Stance, moments_in, octets_in, course}
use Rattle.fs_peering.proofs.Words.{opened_by, CountsBy, CountsOn, CountsTo, KeepsHand, KeepsSettled, SaysUpTo, ClosesSo, HasExpired, HasHeard}
use Rattle.fs_peering.proofs.Words.{IsInTime, IsListening, SaysTo, ShutsBy, is_settled, opening_of, rules_of, stops_at}
use Rattle.fs_peering.proofs.Ahead.{next_of}
use Rattle.fs_peering.proofs.Courses.{but_last, course_more, last_one, moments_more, octets_more, woke_is}
use Rattle.fs_peering.proofs.{Moments.{expires_late}, OpenSteps.{opened_waits}, Phases.{Quiet, quiet_by, unawaited}}
use Rattle.fs_peering.proofs.Settled.{state_open, state_shut, stops_up}
use Rattle.fs_peering.specs.Teller.{is_over}
use Rattle.fs_session.specs.declared.times.Tick.TheVariants.{Quiet as IsQuiet}

both : {b : Bool} → b ≡ true → b ≡ false → ⊥
both q r = cc

-- an end that isn't settled is open, and not established
pub unsettled : (line : Lined) → is_settled line ≡ false → (line.closed ≡ None) × (is_established (state_in line) ≡ false)
unsettled line e = by (is_some line.closed) (is_established (state_in line)) refl refl e
  where
    by : (a b : Bool) → is_some line.closed ≡ a → is_established (state_in line) ≡ b → (a || b) ≡ false
        → (line.closed ≡ None) × (is_established (state_in line) ≡ false)
    by true b p q h = absurd cc
    by false true p q h = absurd cc
    by false false p q h = (none_there line.closed p, q)

-- a new end isn't settled
pub starts_open : (on : Bool) (config : Config) (o : Option Peer) (sending : Sending) (teller : Announcing) → CanSend config o sending
    → IfSome o (λ (peer : Peer). teller ≡ announcing config peer sending fresh false 0) → is_over on teller.line ≡ false
starts_open on config None sending teller can made = absurd can
starts_open true config (Some peer) sending teller can made = ap (λ (n : Announcing). is_some n.line.closed) made
starts_open false config (Some peer) sending teller can made = ap (λ (n : Announcing). is_settled n.line) made

-- all of the piece was taken, or what closes the end
pub says_handed : (on : Bool) (machine : Machine) (moment : ℕ) (old new : Lined) (piece out out' : List ℕ)
    → HandsOver machine moment old new piece [] [] out out'
    → SaysTo on machine moment old new piece out out'
says_handed on machine moment old new piece out out' hands now stands =
    let h = hands now stands in
    (h.1.1, λ early. h.0)

-- it is established, and behind that nothing is said
pub says_up : (on : Bool) (a : Announcing) (moment : ℕ) (old new : Lined) (piece rest out out' : List ℕ)
    → Going (machine_in a) moment old new piece rest [] [] out out'
    → stops_at on new ≡ true → SaysTo on (machine_in a) moment old new piece out out'
says_up on a moment old new piece rest out out' going stop now stands = (by _ refl (going now stands), λ early. absurd (both stop early))
  where
    up : is_established (state_in new) ≡ true
    up = stops_up _ new stop

    machine : Machine
    machine = machine_in a

    by : (c : Option Closed) → now.closed ≡ c → GoesFrom machine moment old new piece rest [] [] out out' now c
        → out' ≡ out ++ (hand machine moment now piece).text
    by None e g =
        let c : Comes machine moment (runs_by machine now.phase (at_moment moment now.times) (now.waiting ++ piece)) [] [] out out' new rest = g.1 in
        let on : is_established new.phase.state ≡ true = sym (state_open new g.0) ∙ up in
        let quiet : Quiet a.config (needs_of a.sending.rules) new.phase _ =
        quiet_by a.config (needs_of a.sending.rules) _ _ _ (unawaited _ on) in
        c.said ∙ ap (λ (z : List ℕ). out ++ z)
        (sym (ap (λ (h : Handed). h.text) (open_hand machine moment now piece e) ∙ ap (λ (h : Handed). h.text) c.goes
        ∙ ap (λ (z : List ℕ). c.text ++ z) quiet.text_is ∙ append-nil c.text))
    by (Some why) e g =
        g.2 ∙ sym (append-nil out) ∙ ap (λ (z : List ℕ). out ++ z) (sym (ap (λ (h : Handed). h.text) (closed_hand machine moment now piece why e)))

-- no rule was said
pub no_rules : (end : Announcing) → end.appended ≡ 0 → rules_of end ≡ []
no_rules end none = ap (λ (n : ℕ). flat_map (text_sent end.config end.peer end.line.phase.four end.sending) (take n end.sending.rules)) none

-- nothing is said
pub says_same : (stands : Stance) (out : List ℕ) → Says stands stands out out
says_same stands out heard said s = ([], (sym (append-nil out), subst (stands heard) (sym (append-nil said)) s))

-- the OPEN is said
pub begins_early : (old new : Announcing) (started : Bool) (out out' : List ℕ) → started ≡ false → StartsWith old.started old new out out'
    → Says (HasHeard old started) (HasHeard new true) out out'
begins_early old new started out out' e starts heard said h =
    let off : old.started ≡ false = h.started_is ∙ e in
    let s : StartsWith false old new out out' = subst (λ (b : Bool). StartsWith b old new out out') off starts in
    let start : List ℕ = open_sent old.config old.peer old.sending in
    let before = h.unstarted off in
    let tail : (course (machine_in old) heard).text ++ rules_of old ≡ [] =
    ap (λ (z : Pieces). (course (machine_in old) z).text ++ rules_of old) before.0 ∙ no_rules old before.1 in
    let none : said ≡ [] = h.said_is ∙ ap (λ (b : Bool). (if b then start else []) ++ ((course (machine_in old) heard).text ++ rules_of old)) off ∙ tail in (
      start,
      (
        s.1,
        subst (λ (n : Announcing). HasHeard n true heard (said ++ start)) (sym s.0) (record {
          started_is = refl;
          at = h.at;
          said_is = ap (λ (z : List ℕ). z ++ start) none ∙ sym (append-nil start) ∙ ap (λ (z : List ℕ). start ++ z) (sym tail);
          listened = h.listened;
          alive = h.alive;
          shut = h.shut;
          none = h.none;
          unstarted = λ not. absurd (both refl not);
        }),
      ),
    )

-- the next rule
pub next_early : (old new : Announcing) (started had : Bool) (out out' : List ℕ) → old.line.closed ≡ None → started ≡ true
    → SaysText (next_text old) had old new out out'
    → Says (HasHeard old started) (HasHeard new started) out out'
next_early old new started had out out' alive go says heard said h = by _ refl
  where
    texts : Option (List ℕ)
    texts = first_text (text_sent old.config old.peer old.line.phase.four old.sending) (drop old.appended old.sending.rules)

    next_is : (b : Bool) → is_established old.line.phase.state ≡ b → next_text old ≡ (if b then texts else None)
    next_is b e = ap (λ (x : Bool). if x then texts else None) (state_open old.line alive ∙ e)

    Answer : Type 0
    Answer = (more : List ℕ) × ((out' ≡ out ++ more) × HasHeard new started heard (said ++ more))

    same : (new ≡ old) → out' ≡ out → Answer
    same e f = (
      [],
      (
        f ∙ sym (append-nil out),
        subst (HasHeard new started heard) (sym (append-nil said)) (subst (λ (n : Announcing). HasHeard n started heard said) (sym e) h),
      ),
    )

    sent : (text : List ℕ) → is_established old.line.phase.state ≡ true → texts ≡ Some text → new ≡ one_sent old → out' ≡ out ++ text → Answer
    sent text up t e f = (
      text,
      (
        f,
        subst (λ (n : Announcing). HasHeard n started heard (said ++ text)) (sym e) (record {
          started_is = h.started_is;
          at = h.at;
          said_is = ap (λ (z : List ℕ). z ++ text) h.said_is ∙ append_assoc (opening_of old) ((course (machine_in old) heard).text ++ rules_of old) text
              ∙ ap (λ (z : List ℕ). opening_of old ++ z) (append_assoc (course (machine_in old) heard).text (rules_of old) text
              ∙ ap (λ (z : List ℕ). (course (machine_in old) heard).text ++ z) (sym more));
          listened = h.listened;
          alive = h.alive;
          shut = h.shut;
          none = λ not. absurd (both (state_open old.line alive ∙ up) not);
          unstarted = λ not. absurd (both (h.started_is ∙ go) not);
        }),
      ),
    )
      where
        text_of : Sent → List ℕ
        text_of = text_sent old.config old.peer old.line.phase.four old.sending

        more : rules_of (one_sent old) ≡ rules_of old ++ text
        more =
            let one : old.appended + 1 ≡ suc old.appended = omega arith in
            let next = next_of _ _ _ _ t in
            ap (λ (n : ℕ). flat_map text_of (take n old.sending.rules)) one ∙ ap (flat_map text_of) next.1.1
            ∙ flat_map-append text_of (take old.appended old.sending.rules) (next.0 ∷ [])
            ∙ ap (λ (z : List ℕ). rules_of old ++ z) (append-nil (text_of next.0) ∙ sym next.1.0)

    by_text : (o : Option (List ℕ)) → is_established old.line.phase.state ≡ true → texts ≡ o → SaysText o had old new out out' → Answer
    by_text None up t s = same s.1 s.2
    by_text (Some text) up t s = sent _ up t s.1 s.2

    by : (b : Bool) → is_established old.line.phase.state ≡ b → Answer
    by false e = let s = subst (λ (o : Option (List ℕ)). SaysText o had old new out out') (next_is _ e) says in same s.1 s.2
    by true e = by_text _ e refl (subst (λ (o : Option (List ℕ)). SaysText o had old new out out') (next_is _ e) says)

-- the clock closes an end where its hold time has expired
ticked_shut : (machine : Machine) (event : ℕ × List ℕ) (now : Point) (why : Closed) → now.closed ≡ None → (ticked event.0 now).point.closed ≡ Some why
    → (tick_at now.phase.hold (at_moment event.0 now.times) ≡ Expires) × (why ≡ Fault 4 0)
ticked_shut machine event now why alive shut = by _ refl
  where
    closed_by : (tick : Tick) → tick_at now.phase.hold (at_moment event.0 now.times) ≡ tick
        → (ticks tick now.waiting now.phase (at_moment event.0 now.times)).point.closed ≡ Some why
    closed_by tick e = sym (ap (λ (m : Handed). m.point.closed) (woke_is machine event _ _ alive e)) ∙ shut

    by : (tick : Tick) → tick_at now.phase.hold (at_moment event.0 now.times) ≡ tick
        → (tick_at now.phase.hold (at_moment event.0 now.times) ≡ Expires) × (why ≡ Fault 4 0)
    by IsQuiet e = absurd (none-some why (closed_by _ e))
    by Keeps e = absurd (none-some why (closed_by _ e))
    by Expires e = (e, sym (same_Some (Fault 4 0) why (closed_by _ e)))

-- What an end hears at a moment: the clock, and then a piece.
pub record HeardSo (on : Bool) (b w c : Announcing) (moment needed : ℕ) (piece o1 o2 o3 : List ℕ) : Type 0 where
  pub ticks : TicksOver (machine_in b) moment b.line w.line o1 o2
  pub woke : KeepsSettled b w
  pub hand : KeepsHand b.line w.line
  pub says : SaysTo on (machine_in w) moment w.line c.line piece o2 o3
  pub took : KeepsSettled w c
  pub counts : CountsOn on (machine_in w) w.line c.line piece [] needed
  pub shuts : on ≡ false → ShutsBy (machine_in w) w.line c.line piece

-- an end that hears no more once it is established
module _ (b w c : Announcing) (count count' moment needed : ℕ) (piece o1 o2 o3 : List ℕ) (call : HeardSo false b w c moment needed piece o1 o2 o3)
    (unsettled_b : is_settled b.line ≡ false) where
  machine_w : machine_in w ≡ machine_in b
  machine_w = ap machine_in call.woke.0

  c_is : c ≡ with_line b c.line
  c_is = call.took.0 ∙ ap (λ (n : Announcing). with_line n c.line) call.woke.0

  alive : b.line.closed ≡ None
  alive = (unsettled b.line unsettled_b).0

  early : is_established (state_in b.line) ≡ false
  early = (unsettled b.line unsettled_b).1

  down : is_established b.line.phase.state ≡ false
  down = sym (state_open b.line alive) ∙ early

  module _ (heard : Pieces) (said : List ℕ) (h : HasHeard b true heard said) (k : CountsTo false (machine_in b) b.line count (octets_in heard)) where
    abbrev machine : Machine
    machine = machine_in b

    abbrev here : Point
    here = (course machine heard).point

    abbrev woke : Handed
    woke = ticked moment here

    abbrev made : Handed
    made = hand machine moment woke.point piece

    abbrev pieces : Pieces
    pieces = heard ++ (moment, piece) ∷ []

    abbrev more : List ℕ
    more = woke.text ++ made.text

    woken : StandsAt machine w.line woke.point × (o2 ≡ o1 ++ woke.text)
    woken = call.ticks here (h.at early)

    spoken : (o3 ≡ o2 ++ made.text) × (is_established (state_in c.line) ≡ false → StandsAt machine c.line made.point)
    spoken = (subst (λ (m : Machine). SaysTo false m moment w.line c.line piece o2 o3) machine_w call.says) woke.point woken.0

    open_here : here.closed ≡ None
    open_here = sym (h.at early).closed_is ∙ alive

    at_here : IsAt machine b.line here
    at_here = (h.at early).open_is open_here

    listens : IsListening here
    listens = (open_here, ap (λ (p : Phase). is_established p.state) (sym at_here.phase_is) ∙ down)

    text_is : (course machine pieces).text ≡ (course machine heard).text ++ more
    text_is = ap (λ (m : Handed). m.text) (course_more machine heard (moment, piece))

    said_is : said ++ more ≡ opening_of b ++ ((course machine pieces).text ++ rules_of (with_line b c.line))
    said_is =
        ap (λ (z : List ℕ). z ++ more)
        (h.said_is ∙ ap (λ (z : List ℕ). opening_of b ++ z) (ap (λ (z : List ℕ). (course machine heard).text ++ z) (no_rules b (h.none early))
        ∙ append-nil (course machine heard).text))
        ∙ append_assoc (opening_of b) (course machine heard).text more
        ∙ ap (λ (z : List ℕ). opening_of b ++ z) (sym text_is ∙ sym (append-nil (course machine pieces).text)
        ∙ ap (λ (z : List ℕ). (course machine pieces).text ++ z) (sym (no_rules (with_line b c.line) (h.none early))))

    -- what is to come of all octets
    goes : (later : List ℕ) → opened_by machine at_start (octets_in heard ++ later) ≡ opened_by machine b.line.phase (pending b.line.framing ++ later)
    goes = (subst (λ (x : Bool). CountsBy false x machine at_start [] (octets_in heard) b.line [] count) down (k alive)).0

    -- its hold time expired
    late : tick_at here.phase.hold (at_moment moment here.times) ≡ Expires → HasExpired machine (moments_in pieces) (octets_in pieces)
    late due =
        let x = expires_late _ _ _ open_here due in
        record {
          taken = octets_in heard;
          untaken = piece;
          split = octets_more heard moment piece;
          phase = here.phase;
          found = ap (opened_by machine at_start) (sym (append-nil (octets_in heard))) ∙ goes _
              ∙ ap (opened_by machine b.line.phase) (append-nil (pending b.line.framing) ∙ at_here.waiting_is)
              ∙ ap (λ (p : Phase). opened_by machine p here.waiting) at_here.phase_is
              ∙ opened_waits _ _ _ at_here.waits_is;
          timed = x.0;
          spans = subst (Spans (1000 * here.phase.hold)) (sym (moments_more _ _ _)) x.1;
        }

    shut : (why : Closed) → c.line.closed ≡ Some why → ClosesSo machine (moments_in pieces) (octets_in pieces) why
    shut why e = by _ refl
      where
        by : (how : Option Closed) → w.line.closed ≡ how → ClosesSo machine (moments_in pieces) (octets_in pieces) why
        by None open_w =
            let kept = (call.hand open_w).1 in
            inl (λ later. ap (λ (z : List ℕ). opened_by machine at_start (z ++ later)) (octets_more heard _ _)
            ∙ ap (opened_by machine at_start) (append_assoc (octets_in heard) piece later) ∙ goes _
            ∙ ap (λ (p : Phase). opened_by machine p (pending b.line.framing ++ (piece ++ later))) (sym kept.0)
            ∙ ap (λ (f : Framing). opened_by machine w.line.phase (pending f ++ (piece ++ later))) (sym kept.1)
            ∙ (subst (λ (m : Machine). ShutsBy m w.line c.line piece) machine_w (call.shuts refl)) why e open_w
            (ap (λ (p : Phase). is_established p.state) kept.0 ∙ down) later)
        by (Some what) shut_w =
            let woke_so : woke.point.closed ≡ Some what = sym woken.0.closed_is ∙ shut_w in
            let due = ticked_shut machine (moment, piece) here _ open_here woke_so in
            let stays : made.point.closed ≡ Some what = ap (λ (m : Handed). m.point.closed) (closed_hand machine moment woke.point piece what woke_so)
            ∙ woke_so in
            let same : why ≡ what = same_Some why what (sym e ∙ (spoken.1 (state_shut c.line _ e)).closed_is ∙ stays) in
            inr (same ∙ due.1, late due.0)

    -- it is open, so the clock left it open
    in_time : c.line.closed ≡ None → IsInTime machine pieces
    in_time open_c earlier last e =
        subst (λ (z : Pieces). (ticked last.0 (course machine z).point).point.closed ≡ None) (but_last _ _ _ _ e)
        (subst (λ (z : ℕ × List ℕ). (ticked z.0 here).point.closed ≡ None) (last_one _ _ _ _ e)
        (sym woken.0.closed_is ∙ (call.counts open_c).0))

    has_heard : HasHeard (with_line b c.line) true pieces (said ++ more)
    has_heard = record {
      started_is = h.started_is;
      at = λ e. subst (λ (m : Handed). StandsAt machine c.line m.point) (sym (course_more machine heard (moment, piece))) (spoken.1 e);
      said_is = said_is;
      listened = λ earlier last e. subst (λ (z : Pieces). IsListening (course machine z).point) (but_last _ _ _ _ e) listens;
      alive = in_time;
      shut = shut;
      none = λ e. h.none early;
      unstarted = λ not. absurd (both h.started_is not);
    }

  pub hears_early : ((octets : List ℕ) → CountsTo false (machine_in b) b.line count octets → CountsTo false (machine_in c) c.line count' (octets ++ piece))
      → Hears (SaysUpTo false b true count) (SaysUpTo false c true count') moment piece o1 o3
  hears_early counts heard said s = (
    more heard said s.0 s.1,
    (
      (spoken _ _ s.0 s.1).0 ∙ ap (λ (z : List ℕ). z ++ (made heard said s.0 s.1).text) (woken _ _ s.0 s.1).1
          ∙ append_assoc o1 (woke heard said s.0 s.1).text (made heard said s.0 s.1).text,
      (
        subst (λ (n : Announcing). HasHeard n true (heard ++ (moment, piece) ∷ []) (said ++ more heard said s.0 s.1)) (sym c_is) (has_heard _ _ s.0 s.1),
        subst (CountsTo false (machine_in c) c.line count') (sym (octets_more heard moment piece)) (counts (octets_in heard) s.1),
      ),
    ),
  )
