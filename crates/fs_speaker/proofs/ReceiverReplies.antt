-- What a receiving end says that hears an announcing end, and what the announcing end comes to that hears all of it.
use Rattle.fs_speaker.proofs.Words.{◌≡◌, ◌⊎◌, inl, inr, ◌&&◌, ◌||◌, not, ℕ, List, [], ◌++◌, length, Bool, true, false, if◌then◌else◌, min, Option}
use Rattle.fs_speaker.proofs.Words.{Some, None, Result, Ok, Err, refl, ap, sym, ◌∙◌, subst, arith, append_assoc, append-nil, parts_of, Config, Peer}
use Rattle.fs_speaker.proofs.Words.{first_message, wrong_at, message_text, open_body, MessageFault, Open, open_read, Update, Handed, Point, hand}
use Rattle.fs_speaker.proofs.Words.{rests, runs_by, shuts, needs_of, at_start, session_by, announcer, at_fault, notice_text, receiver, reply_to}
use Rattle.fs_speaker.proofs.Words.{at_moment, tick_at, Machine, faulted, opened, phase, taken, transition_by, Sending, Closed, Fault, Notified}
use Rattle.fs_speaker.proofs.Words.{NoFamily, Memory, State, WaitOpen, WaitKeep, Established, Tick, Quiet, Keeps, Expires, Times, Phase, hand_each}
use Rattle.fs_speaker.proofs.Words.{runs_begun, runs_each, ticked, ticks, CanArrive, one_message, open_fits}
use Rattle.fs_speaker.proofs.Opening.{awaits, Past, past}
use Rattle.fs_speaker.proofs.Reading.{Calmly, Hears, calmly_none, hears_calmly, hears_more, hears_none, hears_notice, least, met, up}
use Rattle.fs_speaker.proofs.Waking.{open_not, tick_each}
use Rattle.fs_session.specs.{Times.{taken_in}, declared.state.State.TheVariants.{Closed as IsClosed}}

abbrev Made : Type 0
Made = Result (Phase × Option Update) Closed

never : true ≡ false → ⊥
never e = cc

same_closed : (a b : Closed) → Some a ≡ Some b → a ≡ b
same_closed a b e = cc

-- What an end past the OPEN says that is handed octets: nothing, and where it closes the NOTIFICATION of its fault.
abbrev pub Tail : List ℕ → Point → Type 0
Tail text now =
    (now.closed ≡ None → (text ≡ []) × (awaits now.phase.state ≡ false)) × ((why : Closed) → now.closed ≡ Some why → text ≡ at_fault notice_text why)

module _ (config : Config) (peer : Peer) where
  abbrev taker : Machine
  taker = receiver config peer

  no_reply : (state : State) → awaits state ≡ false → reply_to config state ≡ []
  no_reply WaitOpen e = absurd (never e)
  no_reply WaitKeep e = refl
  no_reply Established e = refl
  no_reply IsClosed e = refl

  abbrev Tails : Handed → Type 0
  Tails made = Tail made.text made.point

  tail_shuts : (now : Phase) (times : Times) (why : Closed) → Tails (shuts taker now times why)
  tail_shuts now times why = (λ o. absurd (open_not why o), λ w h. ap (at_fault notice_text) (same_closed why w h))

  tail_by : (now : Phase) (times : Times) (octets : List ℕ) → awaits now.state ≡ false → Tails (runs_by taker now times octets)
  tail_by now times octets =
      runs_each taker (parts_of first_message octets).1 wrong (λ now _ made. awaits now.state ≡ false → Tails made) (none wrong)
      (λ now times message messages why t e. tail_shuts now times why)
      (λ now next update message messages later t rest e.
      let k : Past now (Ok (next, update)) = subst (Past now) t (past taker now message) in
      subst (λ (z : List ℕ). Tail (z ++ later.text) later.point) (sym (no_reply now.state e)) (rest k.0))
      (parts_of first_message octets).0 now times
    where
      wrong : Option MessageFault
      wrong = wrong_at (parts_of first_message octets).1

      none : (wrong : Option MessageFault) (now : Phase) (times : Times) → awaits now.state ≡ false
          → Tails (rests taker now times (parts_of first_message octets).1 wrong)
      none None now times e = (λ o. (refl, e), λ why h. absurd (open_not why (sym h)))
      none (Some fault) now times e = tail_shuts now times (faulted fault)

  -- A receiving end that waits for the OPEN waits on, closes, or answers it.
  abbrev Waits : Handed → Type 0
  Waits made = (made.text ≡ []) × (made.point.phase ≡ at_start)

  abbrev Shuts : Handed → Type 0
  Shuts made = (why : Closed) × ((made.point.closed ≡ Some why) × (made.text ≡ at_fault notice_text why))

  abbrev Opens : Handed → Type 0
  Opens made = (rest : List ℕ) × ((made.text ≡ reply_to config WaitOpen ++ rest) × Tail rest made.point)

  abbrev Comes : Handed → Type 0
  Comes made = Waits made ⊎ (Shuts made ⊎ Opens made)

  comes_by : (times : Times) (octets : List ℕ) → Comes (runs_by taker at_start times octets)
  comes_by times octets =
      runs_begun taker at_start times octets Comes (inl (refl, refl)) (λ why. inr (inl (why, (refl, refl))))
      (λ message behind next update f t.
      let k : Past at_start (Ok (next, update)) = subst (Past at_start) t (past taker at_start message) in
      inr (inr ((runs_by taker next (taken_in WaitOpen times) behind).text, (refl, tail_by next (taken_in WaitOpen times) behind k.0))))

no_lack : (a b : Bool) → ((a && not true) || (b && not true)) ≡ false
no_lack true true = refl
no_lack true false = refl
no_lack false true = refl
no_lack false false = refl

module _ (config : Config) (peer : Peer) (sending : Sending) (can : CanArrive config peer sending) where
  abbrev teller : Machine
  teller = announcer config (needs_of sending.rules)

  -- an announcing end that hears all of this takes no update, and goes on in this phase
  abbrev Leaves : List ℕ → Phase → Type 0
  Leaves all now = Hears teller all [] now

  abbrev pub Calm : List ℕ → Type 0
  Calm all = Calmly teller all []

  -- a KEEPALIVE
  leaves_alive : (all : List ℕ) → Leaves all (up config peer sending) → Leaves (all ++ message_text 4 []) (up config peer sending)
  leaves_alive all l =
      hears_more teller all (message_text 4 []) [] (up config peer sending) (up config peer sending) l
      (λ more. one_message teller (up config peer sending) (up config peer sending) None 4 [] more (omega arith) (omega arith) refl (omega arith) refl)

  abbrev with_lack : Bool → Made
  with_lack b = if b then Err NoFamily else taken (phase WaitKeep true (min config.hold_time config.hold_time)) None

  opening : transition_by teller at_start (record { kind = 1; body = open_body config.local_as config.hold_time config.local_id })
      ≡ Ok (met config peer sending, None)
  opening =
      ap (λ (r : Result Open MessageFault). opened teller r)
      (open_read config.local_as config.hold_time config.local_id can.own.asn.small can.own.hold_time.small can.own.id.small can.own.asn.some
      can.own.hold_time.not_one can.own.hold_time.not_two can.own.id.some)
      ∙ ap with_lack (no_lack (needs_of sending.rules).v4 (needs_of sending.rules).v6)
      ∙ ap (λ (n : ℕ). Ok (phase WaitKeep true n, None)) (least config.hold_time)

  -- the answer to an OPEN
  leaves_reply : (all : List ℕ) → Leaves all at_start → Leaves (all ++ reply_to config WaitOpen) (up config peer sending)
  leaves_reply all l =
      hears_more teller all (reply_to config WaitOpen) [] at_start (up config peer sending) l
      (λ more.
      let body : List ℕ = open_body config.local_as config.hold_time config.local_id in
      let fits = open_fits (length body) refl in
      ap (session_by teller at_start) (append_assoc (message_text 1 body) (message_text 4 []) more)
      ∙ one_message teller at_start (met config peer sending) None 1 body (message_text 4 [] ++ more) (omega arith) (omega arith) fits.0 fits.1 opening
      ∙ one_message teller (met config peer sending) (up config peer sending) None 4 [] more (omega arith) (omega arith) refl (omega arith) refl)

  -- a NOTIFICATION
  calm_fault : (all : List ℕ) (now : Phase) (why : Closed) → Leaves all now → Calm (all ++ at_fault notice_text why)
  calm_fault all now (Fault code subcode) l = hears_notice teller all [] now code subcode l
  calm_fault all now (Notified code subcode) l = hears_calmly teller (all ++ []) [] now (hears_none teller all [] now l)
  calm_fault all now NoFamily l = hears_calmly teller (all ++ []) [] now (hears_none teller all [] now l)
  calm_fault all now Memory l = hears_calmly teller (all ++ []) [] now (hears_none teller all [] now l)

  -- All that a receiving end has said leaves the announcing end open, or closed by a NOTIFICATION.
  pub record Says (all : List ℕ) (now : Point) : Type 0 where
    pub calm : Calm all
    pub stands : now.closed ≡ None
        → ((now.phase ≡ at_start) × Leaves all at_start) ⊎ ((awaits now.phase.state ≡ false) × Leaves all (up config peer sending))

  says_tail : (all rest : List ℕ) (now : Point) → Leaves all (up config peer sending) → Tail rest now → Says (all ++ rest) now
  says_tail all rest now l t = by now.closed refl
    where
      by : (how : Option Closed) → now.closed ≡ how → Says (all ++ rest) now
      by None e =
          let is : Leaves (all ++ rest) (up config peer sending) =
          subst (λ (z : List ℕ). Leaves (all ++ z) (up config peer sending)) (sym (t.0 e).0) (hears_none teller all [] (up config peer sending) l) in
          record { calm = hears_calmly teller (all ++ rest) [] (up config peer sending) is; stands = λ o. inr ((t.0 e).1, is) }
      by (Some why) e = record {
        calm = subst (λ (z : List ℕ). Calm (all ++ z)) (sym (t.1 why e)) (calm_fault all (up config peer sending) why l);
        stands = λ o. absurd (open_not why (sym e ∙ o));
      }

  says_same : (all : List ℕ) (now : Point) → Says all now → Says (all ++ []) now
  says_same all now s = rw (append-nil all) s

  -- a piece
  pub says_piece : (all : List ℕ) (now : Point) (moment : ℕ) (piece : List ℕ) → Says all now
      → Says (all ++ (hand (receiver config peer) moment now piece).text) (hand (receiver config peer) moment now piece).point
  says_piece all now moment piece s =
      hand_each (receiver config peer) moment now piece (λ made. Says (all ++ made.text) made.point) (λ e. opened_by (s.stands e))
      (λ why e. says_same all now s)
    where
      began : (made : Handed) → Leaves all at_start → Comes config peer made → Says (all ++ made.text) made.point
      began made l (inl w) =
          let is : Leaves (all ++ made.text) at_start = subst (λ (z : List ℕ). Leaves (all ++ z) at_start) (sym w.0) (hears_none teller all [] at_start l) in
          record { calm = hears_calmly teller (all ++ made.text) [] at_start is; stands = λ o. inl (w.1, is) }
      began made l (inr (inl c)) = record {
        calm = subst (λ (z : List ℕ). Calm (all ++ z)) (sym c.1.1) (calm_fault all at_start c.0 l);
        stands = λ o. absurd (open_not c.0 (sym c.1.0 ∙ o));
      }
      began made l (inr (inr m)) =
          subst (λ (z : List ℕ). Says z made.point) (append_assoc all (reply_to config WaitOpen) m.0 ∙ ap (λ (z : List ℕ). all ++ z) (sym m.1.0))
          (says_tail (all ++ reply_to config WaitOpen) m.0 made.point (leaves_reply all l) m.1.1)

      opened_by : ((now.phase ≡ at_start) × Leaves all at_start) ⊎ ((awaits now.phase.state ≡ false) × Leaves all (up config peer sending))
          → Says (all ++ (runs_by (receiver config peer) now.phase (at_moment moment now.times) (now.waiting ++ piece)).text)
          (runs_by (receiver config peer) now.phase (at_moment moment now.times) (now.waiting ++ piece)).point
      opened_by (inl a) =
          began (runs_by (receiver config peer) now.phase (at_moment moment now.times) (now.waiting ++ piece)) a.1
          (subst (λ (p : Phase). Comes config peer (runs_by (receiver config peer) p (at_moment moment now.times) (now.waiting ++ piece))) (sym a.0)
          (comes_by config peer (at_moment moment now.times) (now.waiting ++ piece)))
      opened_by (inr b) =
          let made : Handed = runs_by (receiver config peer) now.phase (at_moment moment now.times) (now.waiting ++ piece) in
          says_tail all made.text made.point b.1 (tail_by config peer now.phase (at_moment moment now.times) (now.waiting ++ piece) b.0)

  -- the clock
  pub says_tick : (all : List ℕ) (now : Point) (moment : ℕ) → Says all now → Says (all ++ (ticked moment now).text) (ticked moment now).point
  says_tick all now moment s =
      tick_each moment now (λ made. Says (all ++ made.text) made.point) (λ e. opened_by (s.stands e)) (λ why e. says_same all now s)
    where
      times : Times
      times = at_moment moment now.times

      waits_on : (p : Phase) → p ≡ at_start → Leaves all at_start
          → Says (all ++ (ticks (tick_at p.hold times) now.waiting p times).text) (ticks (tick_at p.hold times) now.waiting p times).point
      waits_on p e l =
          subst (λ (p : Phase). Says (all ++ (ticks (tick_at p.hold times) now.waiting p times).text)
          (ticks (tick_at p.hold times) now.waiting p times).point) (sym e)
          (record { calm = calmly_none teller all [] s.calm; stands = λ o. inl (refl, hears_none teller all [] at_start l) })

      beyond : (tick : Tick) → awaits now.phase.state ≡ false → Leaves all (up config peer sending)
          → Says (all ++ (ticks tick now.waiting now.phase times).text) (ticks tick now.waiting now.phase times).point
      beyond Quiet a l = record { calm = calmly_none teller all [] s.calm; stands = λ o. inr (a, hears_none teller all [] (up config peer sending) l) }
      beyond Keeps a l =
          let more = leaves_alive all l in
          record { calm = hears_calmly teller (all ++ message_text 4 []) [] (up config peer sending) more; stands = λ o. inr (a, more) }
      beyond Expires a l = record {
        calm = hears_notice teller all [] (up config peer sending) 4 0 l;
        stands = λ o. absurd (open_not (Fault 4 0) o);
      }

      opened_by : ((now.phase ≡ at_start) × Leaves all at_start) ⊎ ((awaits now.phase.state ≡ false) × Leaves all (up config peer sending))
          → Says (all ++ (ticks (tick_at now.phase.hold times) now.waiting now.phase times).text)
          (ticks (tick_at now.phase.hold times) now.waiting now.phase times).point
      opened_by (inl a) = waits_on now.phase a.0 a.1
      opened_by (inr b) = beyond (tick_at now.phase.hold times) b.0 b.1

  pub says_first : (now : Point) → now.phase ≡ at_start → Says [] now
  says_first now e =
      let l : Leaves [] at_start = record { goes = λ more. refl } in
      record { calm = hears_calmly teller [] [] at_start l; stands = λ o. inl (e, l) }
