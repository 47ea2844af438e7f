-- An announcing end whose identifier is 0.0.0.0: its OPEN is refused, and nothing of what it says is taken.
use Rattle.fs_speaker.proofs.Words.{◌≡◌, ◌⊎◌, inl, inr, ℕ, ◌==◌, ◌^◌, ◌<◌, true, List, [], ◌∷◌, ◌++◌, length, take, Option, Some, Result, Err, refl}
use Rattle.fs_speaker.proofs.Words.{ap, sym, ◌∙◌, subst, append_assoc, append-nil, arith, Config, Peer, Update, message_text, open_body, MessageFault}
use Rattle.fs_speaker.proofs.Words.{Open, open_unnamed, text_first, open_sent, Point, hand, step_by, Last, at_start, closed, session_by, Machine}
use Rattle.fs_speaker.proofs.Words.{opened, Sending, Closed, Fault, front_first, machine_stops, step_found, Event, Send, Deliver, Cut, ticked}
use Rattle.fs_speaker.proofs.Words.{ClosesSo, IsUnnamed, delivered, delivered_on, handed_over, taken_in, World, sent, taker_of, teller_of, happens}
use Rattle.fs_speaker.proofs.Words.{at_first, runs_on, run, open_fits}
use Rattle.fs_speaker.proofs.{Closing.{so_later, so_tick, takes_on}, Events.{each_event}}
use Rattle.fs_speaker.proofs.Fronting.{Lines, lines_cut, lines_delivered, lines_same, lines_spoken}
use Rattle.fs_speaker.proofs.{SessionInPieces.{Follows, closes_by, follows_first}, Running.{run_more}, Taking.{takes_delivered}}
use Rattle.fs_speaker.proofs.Waking.{hand_opens, tick_opens, tick_stays}
use Rattle.fs_speaker.specs.declared.event.Event.TheVariants.{Tick as TickEvent}

zero_small : (n : ℕ) → n ≡ 0 → n < 2 ^ 32
zero_small n e = rw e (omega arith)

none_front : (xs rest : List Update) → xs ++ rest ≡ [] → xs ≡ []
none_front [] rest e = refl
none_front (x ∷ xs) rest e = absurd cc

pub same_why : (a b : Closed) → closed a ≡ closed b → a ≡ b
same_why a b e = cc

module _ (config : Config) (peer : Peer) (sending : Sending) where
  abbrev taker : Machine
  taker = taker_of config peer sending

  abbrev teller : Machine
  teller = teller_of config peer sending

  -- All that was said begins with the OPEN.
  record Begun (octets : List ℕ) (w : World) : Type 0 where
    more : List ℕ
    lines : Lines octets (open_sent config peer sending ++ more) w.to_taker w.cut w.taker.closed

  begun_on : (octets : List ℕ) (w : World) (event : Event) → Begun octets w → Begun (octets ++ handed_over event w) (happens config peer sending event w)
  begun_on octets w event b =
      each_event config peer sending w (λ _ over _ next. Begun (octets ++ over) next)
      (record { more = b.more; lines = lines_same octets all w.to_taker w.cut w.taker.closed w.taker.closed (λ o. o) b.lines })
      (λ text e. record { more = b.more ++ text; lines = spoken text })
      (λ to count moment.
      let piece : List ℕ = take count w.to_taker in
      let lines = lines_delivered octets all w.to_taker w.cut w.taker.closed (hand taker moment w.taker piece).point.closed count
      (hand_opens taker moment w.taker piece) b.lines in
      record { more = b.more; lines = lines })
      (λ to count moment.
      let text : List ℕ = (hand teller moment w.teller (take count w.to_teller)).text in
      record { more = b.more ++ text; lines = spoken text })
      (λ end moment e.
      let lines = lines_same octets all w.to_taker w.cut w.taker.closed (ticked moment w.taker).point.closed (tick_opens moment w.taker) b.lines in
      record { more = b.more; lines = lines })
      (λ end moment e. record { more = b.more ++ (ticked moment w.teller).text; lines = spoken (ticked moment w.teller).text })
      (record { more = b.more; lines = lines_cut octets all w.to_taker w.cut w.taker.closed b.lines }) event
    where
      all : List ℕ
      all = open_sent config peer sending ++ b.more

      spoken : (text : List ℕ) → Lines (octets ++ []) (open_sent config peer sending ++ (b.more ++ text)) (sent w.cut w.to_taker text) w.cut w.taker.closed
      spoken text =
          subst (λ (z : List ℕ). Lines (octets ++ []) z (sent w.cut w.to_taker text) w.cut w.taker.closed)
          (append_assoc (open_sent config peer sending) b.more text)
          (lines_spoken octets all w.to_taker w.cut w.taker.closed text b.lines)

  module _ (un : IsUnnamed config peer sending) where
    -- the OPEN closes the session, whatever follows
    pub refused : (more : List ℕ) → session_by taker at_start (open_sent config peer sending ++ more) ≡ ([], closed (Fault 2 3))
    refused more =
        let body : List ℕ = open_body peer.asn config.hold_time sending.id in
        let text : List ℕ = message_text 1 body in
        let fits = open_fits (length body) refl in
        machine_stops taker at_start (Fault 2 3) text more
        (ap (λ (z : List ℕ). step_by taker at_start z) (sym (append-nil text))
        ∙ step_found taker at_start (text ++ []) (record { kind = 1; body = body }, []) (Err (Fault 2 3))
        (text_first 1 body [] (omega arith) (omega arith) fits.0 fits.1)
        (ap (λ (r : Result Open MessageFault). opened taker r)
        (open_unnamed peer.asn config.hold_time sending.id un.asn.small un.hold_time.small
        (zero_small sending.id un.unnamed) un.asn.some un.hold_time.not_one un.hold_time.not_two un.unnamed)))

    none_taken : (octets : List ℕ) (w : World) → Begun octets w → (session_by taker at_start octets).0 ≡ []
    none_taken octets w b =
        let first = front_first taker at_start octets b.lines.behind in
        none_front (session_by taker at_start octets).0 first.0
        (sym first.1 ∙ ap (λ (s : List Update × Last). s.0) (ap (λ (z : List ℕ). session_by taker at_start z) b.lines.front ∙ refused b.more))

    abbrev So : List Event → Option Closed → Type 0
    So events how = ClosesSo config peer sending true events how ⊎ (how ≡ Some (Fault 2 3))

    later : (events : List Event) (event : Event) (how : Option Closed) → So events how → So (events ++ event ∷ []) how
    later events event how (inl s) = inl (so_later config peer sending true events event how s)
    later events event how (inr e) = inr e

    piece_so : (events : List Event) (event : Event) (octets behind more : List ℕ) (now : Point) (moment : ℕ) (piece : List ℕ) → So events now.closed
        → Follows taker octets now → (octets ++ taken_in now.closed piece) ++ behind ≡ open_sent config peer sending ++ more
        → So (events ++ event ∷ []) (hand taker moment now piece).point.closed
    piece_so events event octets behind more now moment piece so f front =
        closes_by taker (So (events ++ event ∷ [])) octets piece behind (open_sent config peer sending ++ more) now moment
        (later events event now.closed so) (inl (inl refl))
        (λ why e. inr (ap (λ (c : Closed). Some c) (same_why why (Fault 2 3) (sym e ∙ ap (λ (s : List Update × Last). s.1) (refused more))))) f front

    tick_so : (events : List Event) (end moment : ℕ) → (end == 0) ≡ true → (now : Point) → now ≡ (run config peer sending events).taker → So events now.closed
        → So (events ++ TickEvent end moment ∷ []) (ticked moment now).point.closed
    tick_so events end moment whose now is (inl s) = inl (so_tick config peer sending true events end moment whose now is s)
    tick_so events end moment whose now is (inr e) =
        inr (tick_stays moment now (Fault 2 3) e)

    so_on : (events : List Event) (octets : List ℕ) (w : World) (event : Event) → w ≡ run config peer sending events → Follows taker octets w.taker
        → Begun (octets ++ handed_over event w) (happens config peer sending event w) → So events w.taker.closed
        → So (events ++ event ∷ []) (happens config peer sending event w).taker.closed
    so_on events octets w event is f b so =
        each_event config peer sending w (λ event over _ next. Begun (octets ++ over) next → So (events ++ event ∷ []) next.taker.closed)
        (λ n. same Send) (λ text e n. same Send)
        (λ to count moment n. piece_so events (Deliver to count moment) octets n.lines.behind n.more w.taker moment (take count w.to_taker) so f n.lines.front)
        (λ to count moment n. same (Deliver to count moment)) (λ end moment e n. tick_so events end moment e w.taker (ap (λ (v : World). v.taker) is) so)
        (λ end moment e n. same (TickEvent end moment)) (λ n. same Cut) event b
      where
        same : (event : Event) → So (events ++ event ∷ []) w.taker.closed
        same event = later events event w.taker.closed so

    all_so : (events before : List Event) (octets : List ℕ) (w : World) → w ≡ run config peer sending before → Follows taker octets w.taker → Begun octets w
        → So before w.taker.closed
        → So (before ++ events) (runs_on config peer sending w events).taker.closed
        × Begun (octets ++ delivered_on config peer sending w events) (runs_on config peer sending w events)
    all_so [] before octets w is f b so = (rw (append-nil before) so, rw (append-nil octets) b)
    all_so (event ∷ events) before octets w is f b so =
        let made : World = happens config peer sending event w in
        let next = begun_on octets w event b in
        let run_is : made ≡ run config peer sending (before ++ event ∷ []) =
        ap (happens config peer sending event) is ∙ sym (run_more config peer sending (at_first config peer sending) before event) in
        rw (← append_assoc before (event ∷ []) events, ← append_assoc octets (handed_over event w) (delivered_on config peer sending made events))
        (all_so events (before ++ event ∷ []) (octets ++ handed_over event w) made run_is (takes_on config peer sending octets w event f) next
        (so_on before octets w event is f next so))

    begun_first : Begun [] (at_first config peer sending)
    begun_first =
        let all : open_sent config peer sending ≡ open_sent config peer sending ++ [] = sym (append-nil (open_sent config peer sending)) in
        record { more = []; lines = record { behind = open_sent config peer sending; front = all; flows = λ o c. all; gone = λ c. absurd cc } }

    pub takes_none : (events : List Event)
        → ((run config peer sending events).taken ≡ [])
        × (ClosesSo config peer sending true events (run config peer sending events).taker.closed
        ⊎ ((run config peer sending events).taker.closed ≡ Some (Fault 2 3)))
    takes_none events =
        let done = all_so events [] [] (at_first config peer sending) refl (follows_first taker (at_first config peer sending).taker refl refl)
        begun_first (inl (inl refl)) in
        (takes_delivered config peer sending events ∙ none_taken (delivered config peer sending events) (run config peer sending events) done.1, done.0)
