-- How both ends close, whatever happens between them.
use Rattle.fs_speaker.proofs.Words.{◌≡◌, inl, inr, ℕ, ◌==◌, Bool, true, false, if◌then◌else◌, List, [], ◌∷◌, ◌++◌, take, Option, Some, None, refl, ap}
use Rattle.fs_speaker.proofs.Words.{sym, ◌∙◌, subst, append_assoc, append-nil, Config, Peer, Point, Handed, hand, Last, at_start, closed, session_by}
use Rattle.fs_speaker.proofs.Words.{at_moment, tick_at, Machine, Sending, Closed, Fault, Notified, NoFamily, Memory, Tick, Quiet, Keeps, Expires}
use Rattle.fs_speaker.proofs.Words.{Event, Send, Deliver, Cut, ticks, ticked, CanArrive, ClosesSo, IsDue, handed_over, point_of, taken_in, World}
use Rattle.fs_speaker.proofs.Words.{sent, taker_of, teller_of, taker_comes, teller_comes, happens, at_first, runs_on, run}
use Rattle.fs_speaker.proofs.Events.{each_event, told_over}
use Rattle.fs_speaker.proofs.Fronting.{Holds, Lines, holds_first, holds_on, lines_cut, lines_delivered, lines_same, lines_spoken}
use Rattle.fs_speaker.proofs.SessionInPieces.{Follows, closes_by, follows_first, follows_none, follows_piece, follows_tick}
use Rattle.fs_speaker.proofs.{Reading.{IsCalm}, Running.{run_more}, ReceiverReplies.{Says, says_first, says_piece, says_tick}}
use Rattle.fs_speaker.proofs.Waking.{hand_opens, hand_stays, tick_each, tick_opens, tick_stays, ticked_by}
use Rattle.fs_speaker.specs.declared.event.Event.TheVariants.{Tick as TickEvent}

module _ (config : Config) (peer : Peer) (sending : Sending) where
  abbrev taker : Machine
  taker = taker_of config peer sending

  abbrev teller : Machine
  teller = teller_of config peer sending

  -- AN END WITH A TICK THAT WAS DUE
  -- what closed an end stays, whatever happens then
  happened_stays : (first : Bool) (event : Event) (w : World) (why : Closed) → (point_of first w).closed ≡ Some why
      → (point_of first (happens config peer sending event w)).closed ≡ Some why
  happened_stays true event w why e =
      each_event config peer sending w (λ _ _ _ next. next.taker.closed ≡ Some why) e (λ _ _. e)
      (λ to count moment. hand_stays taker moment w.taker (take count w.to_taker) why e)
      (λ _ _ _. e) (λ end moment _. tick_stays moment w.taker why e) (λ _ _ _. e) e event
  happened_stays false event w why e =
      each_event config peer sending w (λ _ _ _ next. next.teller.closed ≡ Some why) e (λ _ _. e) (λ _ _ _. e)
      (λ to count moment. hand_stays teller moment w.teller (take count w.to_teller) why e) (λ _ _ _. e)
      (λ end moment _. tick_stays moment w.teller why e) e event

  all_stay : (first : Bool) (events : List Event) (w : World) (why : Closed) → (point_of first w).closed ≡ Some why
      → (point_of first (runs_on config peer sending w events)).closed ≡ Some why
  all_stay first [] w why e = e
  all_stay first (event ∷ events) w why e = all_stay first events (happens config peer sending event w) why (happened_stays first event w why e)

  runs_joined : (w : World) (earlier later : List Event)
      → runs_on config peer sending w (earlier ++ later) ≡ runs_on config peer sending (runs_on config peer sending w earlier) later
  runs_joined w [] later = refl
  runs_joined w (event ∷ earlier) later = runs_joined (happens config peer sending event w) earlier later

  due_closes : (moment : ℕ) (now : Point) → now.closed ≡ None → tick_at now.phase.hold (at_moment moment now.times) ≡ Expires
      → (ticked moment now).point.closed ≡ Some (Fault 4 0)
  due_closes moment now o d =
      ap (λ (how : Option Closed). (ticked_by moment now how).point.closed) o
      ∙ ap (λ (t : Tick). (ticks t now.waiting now.phase (at_moment moment now.times)).point.closed) d

  pub closes_where_due : (events : List Event) (first : Bool) → IsDue config peer sending first events
      → (point_of first (run config peer sending events)).closed ≡ Some (Fault 4 0)
  closes_where_due events first d =
      ap (λ (z : List Event). (point_of first (run config peer sending z)).closed) d.split
      ∙ ap (λ (w : World). (point_of first w).closed) (runs_joined (at_first config peer sending) d.earlier (TickEvent d.end d.moment ∷ d.later))
      ∙ all_stay first d.later (happens config peer sending (TickEvent d.end d.moment) w) (Fault 4 0) (by first (d.end == 0) d.whose d.opened d.due)
    where
      w : World
      w = run config peer sending d.earlier

      by : (first zeroth : Bool) → zeroth ≡ first → (point_of first w).closed ≡ None
          → tick_at (point_of first w).phase.hold (at_moment d.moment (point_of first w).times) ≡ Expires
          → (point_of first (if zeroth then taker_comes (ticked d.moment w.taker) w.to_taker w
          else teller_comes (ticked d.moment w.teller) w.to_teller w)).closed ≡ Some (Fault 4 0)
      by true true e o u = due_closes d.moment w.taker o u
      by true false e o u = absurd cc
      by false true e o u = absurd cc
      by false false e o u = due_closes d.moment w.teller o u

  -- HOW AN END CLOSES
  abbrev pub So : Bool → List Event → Option Closed → Type 0
  So first events how = ClosesSo config peer sending first events how

  pub so_later : (first : Bool) (events : List Event) (event : Event) (how : Option Closed) → So first events how → So first (events ++ event ∷ []) how
  so_later first events event how (inl o) = inl o
  so_later first events event how (inr (inl d)) = inr (inl (
    d.0,
    record {
      earlier = d.1.earlier;
      end = d.1.end;
      moment = d.1.moment;
      later = d.1.later ++ event ∷ [];
      split = ap (λ (z : List Event). z ++ event ∷ []) d.1.split ∙ append_assoc d.1.earlier (TickEvent d.1.end d.1.moment ∷ d.1.later) (event ∷ []);
      whose = d.1.whose;
      opened = d.1.opened;
      due = d.1.due;
    },
  ))
  so_later first events event how (inr (inr n)) = inr (inr n)

  -- of a piece: what closes it closes the session of all that the other said
  so_piece : (first : Bool) (events : List Event) (event : Event) (machine : Machine) (octets behind all : List ℕ) (now : Point) (moment : ℕ) (piece : List ℕ)
      → So first events now.closed → Follows machine octets now → (octets ++ taken_in now.closed piece) ++ behind ≡ all
      → IsCalm (session_by machine at_start all).1
      → So first (events ++ event ∷ []) (hand machine moment now piece).point.closed
  so_piece first events event machine octets behind all now moment piece so f front calm =
      closes_by machine (So first (events ++ event ∷ [])) octets piece behind all now moment (so_later first events event now.closed so) (inl refl)
      (λ why e. calm_closes why (subst (λ (l : Last). IsCalm l) e calm)) f front
    where
      calm_closes : (why : Closed) → IsCalm (closed why) → So first (events ++ event ∷ []) (Some why)
      calm_closes (Notified code subcode) c = inr (inr (code, subcode, refl))
      calm_closes (Fault code subcode) c = absurd c
      calm_closes NoFamily c = absurd c
      calm_closes Memory c = absurd c

  -- of the clock
  pub so_tick : (first : Bool) (events : List Event) (end moment : ℕ) → (end == 0) ≡ first → (now : Point)
      → now ≡ point_of first (run config peer sending events)
      → So first events now.closed → So first (events ++ TickEvent end moment ∷ []) (ticked moment now).point.closed
  so_tick first events end moment whose now is so =
      tick_each moment now (λ made. So first (events ++ TickEvent end moment ∷ []) made.point.closed)
      (λ o. due o (tick_at now.phase.hold (at_moment moment now.times)) refl)
      (λ why e. so_later first events (TickEvent end moment) now.closed so)
    where
      due : now.closed ≡ None → (tick : Tick) → tick_at now.phase.hold (at_moment moment now.times) ≡ tick
          → So first (events ++ TickEvent end moment ∷ []) (ticks tick now.waiting now.phase (at_moment moment now.times)).point.closed
      due o Quiet d = inl refl
      due o Keeps d = inl refl
      due o Expires d = inr (inl (
        refl,
        record {
          earlier = events;
          end = end;
          moment = moment;
          later = [];
          split = refl;
          whose = whose;
          opened = subst (λ (p : Point). p.closed ≡ None) is o;
          due = subst (λ (p : Point). tick_at p.phase.hold (at_moment moment p.times) ≡ Expires) is d;
        },
      ))

  -- BOTH ENDS
  -- the receiving end follows what was delivered
  pub takes_on : (octets : List ℕ) (w : World) (event : Event) → Follows (taker_of config peer sending) octets w.taker
      → Follows (taker_of config peer sending) (octets ++ handed_over event w) (happens config peer sending event w).taker
  takes_on octets w event f =
      each_event config peer sending w (λ _ over _ next. Follows taker (octets ++ over) next.taker) same (λ _ _. same)
      (λ to count moment. follows_piece taker octets (take count w.to_taker) w.taker moment w.taker.closed refl f) (λ _ _ _. same)
      (λ end moment _. follows_tick taker octets w.taker moment f) (λ _ _ _. same) same event
    where
      same : Follows taker (octets ++ []) w.taker
      same = follows_none taker octets w.taker f

  module _ (can : CanArrive config peer sending) where
    -- what the announcing end was handed, of all that the receiving end said
    record Told (heard all : List ℕ) (w : World) : Type 0 where
      lines : Lines heard all w.to_teller w.cut w.teller.closed
      says : Says config peer sending can all w.taker
      first : Follows (teller_of config peer sending) heard w.teller

    record Knows (octets heard all : List ℕ) (w : World) : Type 0 where
      holds : Holds config peer sending can octets w
      told : Told heard all w
      takes : Follows (taker_of config peer sending) octets w.taker

    abbrev KnowsAll : List ℕ → List ℕ → World → Type 0
    KnowsAll octets heard w = (all : List ℕ) × Knows octets heard all w

    abbrev ToldAll : List ℕ → World → Type 0
    ToldAll heard w = (all : List ℕ) × Told heard all w

    told_on : (heard all : List ℕ) (w : World) (event : Event) → Told heard all w → ToldAll (heard ++ told_over event w) (happens config peer sending event w)
    told_on heard all w event t =
        each_event config peer sending w (λ _ _ told next. ToldAll (heard ++ told) next) (all, record { lines = same; says = t.says; first = none })
        (λ text e. (all, record { lines = same; says = t.says; first = none }))
        (λ to count moment.
        let made : Handed = hand taker moment w.taker (take count w.to_taker) in (
          all ++ made.text,
          record {
            lines = spoken made.text;
            says =
                says_piece config peer sending can all w.taker moment (take count w.to_taker) t.says;
            first = none;
          },
        ))
        (λ to count moment.
        let piece : List ℕ = take count w.to_teller in
        let lines = lines_delivered heard all w.to_teller w.cut w.teller.closed (hand teller moment w.teller piece).point.closed count
        (hand_opens teller moment w.teller piece) t.lines in
        (all, record { lines = lines; says = t.says; first = follows_piece teller heard piece w.teller moment w.teller.closed refl t.first }))
        (λ end moment e.
        let made : Handed = ticked moment w.taker in
        (all ++ made.text, record { lines = spoken made.text; says = says_tick config peer sending can all w.taker moment t.says; first = none }))
        (λ end moment e.
        let lines = lines_same heard all w.to_teller w.cut w.teller.closed (ticked moment w.teller).point.closed (tick_opens moment w.teller) t.lines in
        (all, record { lines = lines; says = t.says; first = follows_tick teller heard w.teller moment t.first }))
        (all, record { lines = lines_cut heard all w.to_teller w.cut w.teller.closed t.lines; says = t.says; first = none }) event
      where
        same : Lines (heard ++ []) all w.to_teller w.cut w.teller.closed
        same = lines_same heard all w.to_teller w.cut w.teller.closed w.teller.closed (λ o. o) t.lines

        none : Follows teller (heard ++ []) w.teller
        none = follows_none teller heard w.teller t.first

        spoken : (text : List ℕ) → Lines (heard ++ []) (all ++ text) (sent w.cut w.to_teller text) w.cut w.teller.closed
        spoken text = lines_spoken heard all w.to_teller w.cut w.teller.closed text t.lines

    knows_on : (octets heard all : List ℕ) (w : World) (event : Event) → Knows octets heard all w
        → KnowsAll (octets ++ handed_over event w) (heard ++ told_over event w) (happens config peer sending event w)
    knows_on octets heard all w event k =
        let next = told_on heard all w event k.told in
        (next.0, record { holds = holds_on config peer sending can octets w event k.holds; told = next.1; takes = takes_on octets w event k.takes })

    -- how both ends have closed
    abbrev Both : List Event → World → Type 0
    Both events w = So true events w.taker.closed × So false events w.teller.closed

    both_on : (events : List Event) (octets heard all all' : List ℕ) (w : World) (event : Event) → w ≡ run config peer sending events → Knows octets heard all w
        → Knows (octets ++ handed_over event w) (heard ++ told_over event w) all' (happens config peer sending event w)
        → Both events w → Both (events ++ event ∷ []) (happens config peer sending event w)
    both_on events octets heard all all' w event is k next b =
        each_event config peer sending w (λ event over told next. Knows (octets ++ over) (heard ++ told) all' next → Both (events ++ event ∷ []) next)
        (λ n. (first Send, second Send)) (λ text e n. (first Send, second Send))
        (λ to count moment n. (
          so_piece true events (Deliver to count moment) taker octets n.holds.lines.behind n.holds.all w.taker moment
              (take count w.to_taker) b.0 k.takes n.holds.lines.front n.holds.tells.gives.1,
          second (Deliver to count moment),
        ))
        (λ to count moment n. (
          first (Deliver to count moment),
          so_piece false events (Deliver to count moment) teller heard n.told.lines.behind all' w.teller moment
              (take count w.to_teller) b.1 k.told.first n.told.lines.front n.told.says.calm.1,
        ))
        (λ end moment e n. (so_tick true events end moment e w.taker (ap (λ (v : World). v.taker) is) b.0, second (TickEvent end moment)))
        (λ end moment e n. (first (TickEvent end moment), so_tick false events end moment e w.teller (ap (λ (v : World). v.teller) is) b.1))
        (λ n. (first Cut, second Cut)) event next
      where
        first : (event : Event) → So true (events ++ event ∷ []) w.taker.closed
        first event = so_later true events event w.taker.closed b.0

        second : (event : Event) → So false (events ++ event ∷ []) w.teller.closed
        second event = so_later false events event w.teller.closed b.1

    all_close : (events before : List Event) (octets heard all : List ℕ) (w : World) → w ≡ run config peer sending before → Knows octets heard all w
        → Both before w
        → Both (before ++ events) (runs_on config peer sending w events)
    all_close [] before octets heard all w is k b = rw (append-nil before) b
    all_close (event ∷ events) before octets heard all w is k b =
        let made : World = happens config peer sending event w in
        let next = knows_on octets heard all w event k in
        let run_is : made ≡ run config peer sending (before ++ event ∷ []) =
        ap (happens config peer sending event) is ∙ sym (run_more config peer sending (at_first config peer sending) before event) in
        rw (← append_assoc before (event ∷ []) events)
        (all_close events (before ++ event ∷ []) (octets ++ handed_over event w) (heard ++ told_over event w) next.0 made run_is next.1
        (both_on before octets heard all next.0 w event is k next.1 b))

    knows_first : Knows [] [] [] (at_first config peer sending)
    knows_first = record {
      holds = holds_first config peer sending can;
      told = record {
        lines = record { behind = []; front = refl; flows = λ o c. refl; gone = λ c. refl };
        says = says_first config peer sending can (at_first config peer sending).taker refl;
        first = follows_first teller (at_first config peer sending).teller refl refl;
      };
      takes = follows_first taker (at_first config peer sending).taker refl refl;
    }

    pub closes_only_so : (events : List Event) (first : Bool)
        → ClosesSo config peer sending first events (point_of first (run config peer sending events)).closed
    closes_only_so events first = by first (all_close events [] [] [] [] (at_first config peer sending) refl knows_first (inl refl, inl refl))
      where
        by : (first : Bool) → Both events (run config peer sending events)
            → ClosesSo config peer sending first events (point_of first (run config peer sending events)).closed
        by true b = b.0
        by false b = b.1
