-- Whatever happens between two joined ends, what was delivered is a front of what the announcing end said, and what it
-- said is its OPEN, KEEPALIVEs and the UPDATEs of its rules, in their order.
use Rattle.fs_speaker.proofs.Words.{◌≡◌, ◌⊎◌, inl, inr, ℕ, zero, suc, ◌+◌, Bool, true, false, if◌then◌else◌, List, [], ◌∷◌, ◌++◌, length, take, drop}
use Rattle.fs_speaker.proofs.Words.{map, Option, Some, None, refl, ap, sym, ◌∙◌, subst, append_assoc, append-nil, take-append-drop, Config, Peer}
use Rattle.fs_speaker.proofs.Words.{Update, message_text, Closed, Fault, Tick, Quiet, Keeps, Expires, Times, Sending, Sent, Phase, first_text}
use Rattle.fs_speaker.proofs.Words.{is_established, open_sent, Point, Handed, hand, runs_by, needs_of, text_sent, update_sent, at_start, session_by}
use Rattle.fs_speaker.proofs.Words.{at_moment, tick_at, Machine, hand_each, front_first, Event, Cut, ticks, ticked, CanArrive, taken_in, handed_over}
use Rattle.fs_speaker.proofs.Words.{delivered, World, sent, taker_of, teller_of, teller_comes, says, next_said, happens, at_first, run}
use Rattle.fs_speaker.proofs.Events.{each_event, each_run}
use Rattle.fs_speaker.proofs.Opening.{Begins, Comes, Heads, IsSafe, IsSilent, Quietly, awaits, heads_more, heads_safe, none_safe, quiet_by}
use Rattle.fs_speaker.proofs.Opening.{safe_front, taker_begins, teller_begins}
use Rattle.fs_speaker.proofs.Reading.{Gives, Reads, calmly_none, front_of, hears_calmly, hears_none, hears_notice, met, reads_alive}
use Rattle.fs_speaker.proofs.Reading.{reads_first_alive, reads_open, reads_rule, up}
use Rattle.fs_speaker.proofs.{Taking.{takes_delivered}, Waking.{hand_opens, open_not, tick_each, tick_opens}}
use Rattle.fs_base.proofs.Octets.{take_of_none}

-- What was delivered is a front of all that was said; and while the receiving end is open and the wire isn't cut, the
-- rest of it is in flight.
pub record Lines (octets all flying : List ℕ) (cut : Bool) (how : Option Closed) : Type 0 where
  pub behind : List ℕ
  pub front : octets ++ behind ≡ all
  pub flows : how ≡ None → cut ≡ false → octets ++ flying ≡ all
  pub gone : cut ≡ true → flying ≡ []

pub lines_said : (octets all flying : List ℕ) (cut : Bool) (how : Option Closed) (text : List ℕ) → Lines octets all flying cut how
    → Lines octets (all ++ text) (sent cut flying text) cut how
lines_said octets all flying true how text l = record {
  behind = l.behind ++ text;
  front = sym (append_assoc octets l.behind text) ∙ ap (λ (z : List ℕ). z ++ text) l.front;
  flows = λ o c. absurd cc;
  gone = l.gone;
}
lines_said octets all flying false how text l = record {
  behind = l.behind ++ text;
  front = sym (append_assoc octets l.behind text) ∙ ap (λ (z : List ℕ). z ++ text) l.front;
  flows = λ o c. sym (append_assoc octets flying text) ∙ ap (λ (z : List ℕ). z ++ text) (l.flows o c);
  gone = λ c. absurd cc;
}

nothing_left : (n : ℕ) (flying : List ℕ) → flying ≡ [] → drop n flying ≡ []
nothing_left zero flying e = e
nothing_left (suc n) [] e = refl
nothing_left (suc n) (octet ∷ flying) e = absurd cc

pub lines_delivered : (octets all flying : List ℕ) (cut : Bool) (how how' : Option Closed) (n : ℕ) → (how' ≡ None → how ≡ None)
    → Lines octets all flying cut how
    → Lines (octets ++ taken_in how (take n flying)) all (drop n flying) cut how'
lines_delivered octets all flying cut None how' n kept l = by cut refl
  where
    split : (octets ++ take n flying) ++ drop n flying ≡ octets ++ flying
    split = append_assoc octets (take n flying) (drop n flying) ∙ ap (λ (z : List ℕ). octets ++ z) (take-append-drop n flying)

    by : (c : Bool) → cut ≡ c → Lines (octets ++ take n flying) all (drop n flying) cut how'
    by true c = record {
      behind = l.behind;
      front = ap (λ (z : List ℕ). z ++ l.behind) (ap (λ (z : List ℕ). octets ++ z) (take_of_none n flying (l.gone c)) ∙ append-nil octets) ∙ l.front;
      flows = λ o f. absurd cc;
      gone = λ g. nothing_left n flying (l.gone g);
    }
    by false c = record {
      behind = drop n flying;
      front = split ∙ l.flows refl c;
      flows = λ o f. split ∙ l.flows refl f;
      gone = λ g. nothing_left n flying (l.gone g);
    }
lines_delivered octets all flying cut (Some why) how' n kept l = record {
  behind = l.behind;
  front = ap (λ (z : List ℕ). z ++ l.behind) (append-nil octets) ∙ l.front;
  flows = λ o f. absurd (open_not why (kept o));
  gone = λ g. nothing_left n flying (l.gone g);
}

-- nothing is delivered
pub lines_same : (octets all flying : List ℕ) (cut : Bool) (how how' : Option Closed) → (how' ≡ None → how ≡ None) → Lines octets all flying cut how
    → Lines (octets ++ []) all flying cut how'
lines_same octets all flying cut how how' kept l = record {
  behind = l.behind;
  front = ap (λ (z : List ℕ). z ++ l.behind) (append-nil octets) ∙ l.front;
  flows = λ o f. ap (λ (z : List ℕ). z ++ flying) (append-nil octets) ∙ l.flows (kept o) f;
  gone = l.gone;
}

-- nothing is delivered, and more is said
pub lines_spoken : (octets all flying : List ℕ) (cut : Bool) (how : Option Closed) (text : List ℕ) → Lines octets all flying cut how
    → Lines (octets ++ []) (all ++ text) (sent cut flying text) cut how
lines_spoken octets all flying cut how text l =
    lines_same octets (all ++ text) (sent cut flying text) cut how how (λ o. o) (lines_said octets all flying cut how text l)

pub lines_cut : (octets all flying : List ℕ) (cut : Bool) (how : Option Closed) → Lines octets all flying cut how → Lines (octets ++ []) all [] true how
lines_cut octets all flying cut how l = record {
  behind = l.behind;
  front = ap (λ (z : List ℕ). z ++ l.behind) (append-nil octets) ∙ l.front;
  flows = λ o f. absurd cc;
  gone = λ g. refl;
}

module _ (config : Config) (peer : Peer) (sending : Sending) (can : CanArrive config peer sending) where
  abbrev taker : Machine
  taker = taker_of config peer sending

  abbrev teller : Machine
  teller = teller_of config peer sending

  -- What is to come to an announcing end that waits for the OPEN is safe; where the wire isn't cut it is nothing, with a
  -- receiving end that waits as well, or begins with a whole message that is.
  pub record Coming (octets : List ℕ) (other : Point) (cut : Bool) : Type 0 where
    pub safe : IsSafe config (needs_of sending.rules) octets
    pub whole : cut ≡ false → ((octets ≡ []) × IsSilent config peer sending can other) ⊎ Heads config (needs_of sending.rules) octets

  -- an announcing end that is open
  abbrev pub Awaiting : (all : List ℕ) (appended : ℕ) (now : Point) (flying : List ℕ) (other : Point) (cut : Bool) → Type 0
  Awaiting all appended now flying other cut =
      (now.phase ≡ at_start) × ((Reads config peer sending all appended (met config peer sending)) × Coming (now.waiting ++ flying) other cut)

  abbrev pub Beyond : (all : List ℕ) (appended : ℕ) (now : Point) → Type 0
  Beyond all appended now =
      (awaits now.phase.state ≡ false) × ((now.phase.four ≡ true) × Reads config peer sending all appended (up config peer sending))

  pub record Tells (all : List ℕ) (appended : ℕ) (now : Point) (flying : List ℕ) (other : Point) (cut : Bool) : Type 0 where
    pub gives : Gives config peer sending all appended
    pub stands : now.closed ≡ None → Awaiting all appended now flying other cut ⊎ Beyond all appended now

  pub record Holds (octets : List ℕ) (w : World) : Type 0 where
    pub all : List ℕ
    pub lines : Lines octets all w.to_taker w.cut w.taker.closed
    pub tells : Tells all w.appended w.teller w.to_teller w.taker w.cut

  -- THE RECEIVING END SPEAKS
  abbrev Speaks : Point → Handed → Type 0
  Speaks other made = IsSilent config peer sending can other → Begins config peer sending can made

  coming_said : (waiting flying : List ℕ) (other : Point) (cut : Bool) (made : Handed) → Speaks other made → Coming (waiting ++ flying) other cut
      → Coming (waiting ++ sent cut flying made.text) made.point cut
  coming_said waiting flying other true made s c = record { safe = c.safe; whole = λ e. absurd cc }
  coming_said waiting flying other false made s c = by (c.whole refl)
    where
      octets : List ℕ
      octets = waiting ++ flying

      joined : waiting ++ (flying ++ made.text) ≡ octets ++ made.text
      joined = sym (append_assoc waiting flying made.text)

      from_heads : Heads config (needs_of sending.rules) (octets ++ made.text) → Coming (waiting ++ (flying ++ made.text)) made.point false
      from_heads h =
          subst (λ (z : List ℕ). Coming z made.point false) (sym joined)
          (record { safe = heads_safe config (needs_of sending.rules) (octets ++ made.text) h; whole = λ e. inr h })

      began : octets ≡ [] → Begins config peer sending can made → Coming (waiting ++ (flying ++ made.text)) made.point false
      began none (inl q) =
          let nil : waiting ++ (flying ++ made.text) ≡ [] = joined ∙ ap (λ (z : List ℕ). z ++ made.text) none ∙ q.0 in
          record { safe = none_safe config (needs_of sending.rules) (waiting ++ (flying ++ made.text)) nil; whole = λ e. inl (nil, q.1) }
      began none (inr h) =
          from_heads (subst (λ (z : List ℕ). Heads config (needs_of sending.rules) z) (sym (ap (λ (z : List ℕ). z ++ made.text) none)) h)

      by : ((octets ≡ []) × IsSilent config peer sending can other) ⊎ Heads config (needs_of sending.rules) octets
          → Coming (waiting ++ (flying ++ made.text)) made.point false
      by (inl q) = began q.0 (s q.1)
      by (inr h) = from_heads (heads_more config (needs_of sending.rules) octets made.text h)

  tells_heard : (all : List ℕ) (appended : ℕ) (now : Point) (flying : List ℕ) (other : Point) (cut : Bool) (made : Handed) → Speaks other made
      → Tells all appended now flying other cut → Tells all appended now (sent cut flying made.text) made.point cut
  tells_heard all appended now flying other cut made s t = record { gives = t.gives; stands = λ o. by (t.stands o) }
    where
      by : Awaiting all appended now flying other cut ⊎ Beyond all appended now
          → Awaiting all appended now (sent cut flying made.text) made.point cut ⊎ Beyond all appended now
      by (inl a) = inl (a.0, (a.1.0, coming_said now.waiting flying other cut made s a.1.1))
      by (inr b) = inr b

  -- it is handed a piece
  taker_speaks : (moment : ℕ) (now : Point) (piece : List ℕ) → Speaks now (hand taker moment now piece)
  taker_speaks moment now piece silent =
      hand_each taker moment now piece (Begins config peer sending can)
      (λ e. subst (λ (p : Phase). Begins config peer sending can (runs_by taker p (at_moment moment now.times) (now.waiting ++ piece))) (sym (silent e))
      (taker_begins config peer sending can (at_moment moment now.times) (now.waiting ++ piece)))
      (λ why e. inl (refl, silent))

  -- the clock
  taker_wakes : (moment : ℕ) (now : Point) → Speaks now (ticked moment now)
  taker_wakes moment now silent =
      tick_each moment now (Begins config peer sending can)
      (λ e. subst (λ (p : Phase). Begins config peer sending can
      (ticks (tick_at p.hold (at_moment moment now.times)) now.waiting p (at_moment moment now.times)))
      (sym (silent e)) (inl (refl, λ o. refl)))
      (λ why e. inl (refl, silent))

  -- THE ANNOUNCING END SPEAKS
  -- it says nothing, or what it says is read
  tells_piece : (all : List ℕ) (appended : ℕ) (now : Point) (flying : List ℕ) (other : Point) (cut : Bool) (moment n : ℕ)
      → Tells all appended now flying other cut
      → Tells (all ++ (hand teller moment now (take n flying)).text) appended (hand teller moment now (take n flying)).point (drop n flying) other cut
  tells_piece all appended now flying other cut moment n t =
      hand_each teller moment now (take n flying) (λ made. Tells (all ++ made.text) appended made.point (drop n flying) other cut) (λ e. opened_by (t.stands e))
      (λ why e. record { gives = calmly_none taker all _ t.gives; stands = λ o. absurd (open_not why (sym e ∙ o)) })
    where
      piece : List ℕ
      piece = take n flying

      rest : List ℕ
      rest = drop n flying

      was_made : Handed
      was_made = runs_by teller now.phase (at_moment moment now.times) (now.waiting ++ piece)

      split : (now.waiting ++ piece) ++ rest ≡ now.waiting ++ flying
      split = append_assoc now.waiting piece rest ∙ ap (λ (z : List ℕ). now.waiting ++ z) (take-append-drop n flying)

      silent_now : (made : Handed) → made.text ≡ [] → Gives config peer sending (all ++ made.text) appended
      silent_now made e = subst (λ (z : List ℕ). Gives config peer sending (all ++ z) appended) (sym e) (calmly_none taker all _ t.gives)

      began : (made : Handed) → Reads config peer sending all appended (met config peer sending) → Coming (now.waiting ++ flying) other cut
          → Comes config (needs_of sending.rules) (now.waiting ++ piece) made → Tells (all ++ made.text) appended made.point rest other cut
      began made r c (inl waits) = record {
        gives = silent_now made waits.0;
        stands = λ o. inl (
          waits.1.1.0,
          (
            subst (λ (z : List ℕ). Reads config peer sending (all ++ z) appended (met config peer sending)) (sym waits.0)
                (hears_none taker all _ (met config peer sending) r),
            subst (λ (z : List ℕ). Coming z other cut) (sym (ap (λ (z : List ℕ). z ++ rest) waits.1.1.1 ∙ split)) c,
          ),
        );
      }
      began made r c (inr (inl shuts)) = record { gives = silent_now made shuts.0; stands = λ o. absurd (shuts.1 o) }
      began made r c (inr (inr opens)) =
          let reads : Reads config peer sending (all ++ made.text) appended (up config peer sending) =
          subst (λ (z : List ℕ). Reads config peer sending (all ++ z) appended (up config peer sending)) (sym opens.0)
          (reads_first_alive config peer sending all appended r) in
          record {
            gives = hears_calmly taker (all ++ made.text) _ (up config peer sending) reads;
            stands = λ o. inr ((opens.1 o).0, ((opens.1 o).1, reads));
          }

      went_on : (made : Handed) → now.phase.four ≡ true → Reads config peer sending all appended (up config peer sending)
          → Quietly config (needs_of sending.rules) now.phase made → Tells (all ++ made.text) appended made.point rest other cut
      went_on made four r q = record {
        gives = silent_now made q.0;
        stands = λ o. inr (
          (q.1 o).0,
          (
            (q.1 o).1 ∙ four,
            subst (λ (z : List ℕ). Reads config peer sending (all ++ z) appended (up config peer sending)) (sym q.0)
                (hears_none taker all _ (up config peer sending) r),
          ),
        );
      }

      opened_by : Awaiting all appended now flying other cut ⊎ Beyond all appended now → Tells (all ++ was_made.text) appended was_made.point rest other cut
      opened_by (inl a) =
          began was_made a.1.0 a.1.1
          (subst (λ (p : Phase). Comes config (needs_of sending.rules) (now.waiting ++ piece)
          (runs_by teller p (at_moment moment now.times) (now.waiting ++ piece)))
          (sym a.0)
          (teller_begins config (needs_of sending.rules) (at_moment moment now.times) (now.waiting ++ piece)
          (safe_front config (needs_of sending.rules) (now.waiting ++ piece) rest (subst (IsSafe config (needs_of sending.rules)) (sym split) a.1.1.safe))))
      opened_by (inr b) =
          went_on was_made b.1.0 b.1.1 (quiet_by config (needs_of sending.rules) now.phase (at_moment moment now.times) (now.waiting ++ piece) b.0)

  tells_tick : (all : List ℕ) (appended : ℕ) (now : Point) (flying : List ℕ) (other : Point) (cut : Bool) (moment : ℕ)
      → Tells all appended now flying other cut
      → Tells (all ++ (ticked moment now).text) appended (ticked moment now).point flying other cut
  tells_tick all appended now flying other cut moment t =
      tick_each moment now (λ made. Tells (all ++ made.text) appended made.point flying other cut) (λ e. opened_by (t.stands e))
      (λ why e. record { gives = calmly_none taker all _ t.gives; stands = λ o. absurd (open_not why (sym e ∙ o)) })
    where
      times : Times
      times = at_moment moment now.times

      beyond : (tick : Tick) → (awaits now.phase.state ≡ false) → now.phase.four ≡ true → Reads config peer sending all appended (up config peer sending)
          → Tells (all ++ (ticks tick now.waiting now.phase times).text) appended (ticks tick now.waiting now.phase times).point flying other cut
      beyond Quiet a f r = record {
        gives = calmly_none taker all _ t.gives;
        stands = λ o. inr (a, (f, hears_none taker all _ (up config peer sending) r));
      }
      beyond Keeps a f r =
          let more = reads_alive config peer sending all appended r in
          record {
            gives = hears_calmly taker (all ++ message_text 4 []) _ (up config peer sending) more;
            stands = λ o. inr (a, (f, more));
          }
      beyond Expires a f r = record {
        gives = hears_notice taker all _ (up config peer sending) 4 0 r;
        stands = λ o. absurd (open_not (Fault 4 0) o);
      }

      waits_on : (p : Phase) → p ≡ at_start → Reads config peer sending all appended (met config peer sending) → Coming (now.waiting ++ flying) other cut
          → Tells (all ++ (ticks (tick_at p.hold times) now.waiting p times).text) appended (ticks (tick_at p.hold times) now.waiting p times).point
          flying other cut
      waits_on p e r c =
          subst (λ (p : Phase). Tells (all ++ (ticks (tick_at p.hold times) now.waiting p times).text) appended
          (ticks (tick_at p.hold times) now.waiting p times).point flying other cut)
          (sym e)
          (record {
            gives = calmly_none taker all _ t.gives;
            stands = λ o. inl (refl, (hears_none taker all _ (met config peer sending) r, c));
          })

      opened_by : Awaiting all appended now flying other cut ⊎ Beyond all appended now
          → Tells (all ++ (ticks (tick_at now.phase.hold times) now.waiting now.phase times).text) appended
          (ticks (tick_at now.phase.hold times) now.waiting now.phase times).point flying other cut
      opened_by (inl a) = waits_on now.phase a.0 a.1.0 a.1.1
      opened_by (inr b) = beyond (tick_at now.phase.hold times) b.0 b.1.0 b.1.1

  -- A RULE IS SAID
  abbrev text_of : Point → Sent → List ℕ
  text_of now sent = text_sent config peer now.phase.four sending sent

  holds_said : (octets : List ℕ) (w : World) (text : List ℕ) → next_said config peer sending w.teller w.appended ≡ Some text → Holds octets w
      → Holds (octets ++ []) (says (Some text) w)
  holds_said octets w text e h = by w.teller.closed refl
    where
      says_by : Option Closed → Option (List ℕ)
      says_by how = elim how [
        | Some why ↦ None
        | None ↦ if is_established w.teller.phase.state then first_text (text_of w.teller) (drop w.appended sending.rules) else None
      ]

      none_some : (text : List ℕ) → None ≡ Some text → ⊥
      none_some text e = cc

      same_text : (a b : List ℕ) → Some a ≡ Some b → a ≡ b
      same_text a b e = cc

      said : (left : List Sent) → drop w.appended sending.rules ≡ left → first_text (text_of w.teller) left ≡ Some text → Beyond h.all w.appended w.teller
          → Reads config peer sending (h.all ++ text) (w.appended + 1) (up config peer sending)
      said [] d f b = absurd (none_some text f)
      said (sent ∷ left) d f b =
          let is : text_sent config peer true sending sent ≡ text =
          ap (λ (four : Bool). text_sent config peer four sending sent) (sym b.1.0) ∙ same_text (text_of w.teller sent) text f in
          subst (λ (z : List ℕ). Reads config peer sending (h.all ++ z) (w.appended + 1) (up config peer sending)) is
          (reads_rule config peer sending can h.all w.appended sent left d b.1.1)

      established : (b : Bool) → is_established w.teller.phase.state ≡ b
          → (if b then first_text (text_of w.teller) (drop w.appended sending.rules) else None) ≡ Some text
          → (is_established w.teller.phase.state ≡ true) × (first_text (text_of w.teller) (drop w.appended sending.rules) ≡ Some text)
      established true s f = (s, f)
      established false s f = absurd (none_some text f)

      not_start : (p : Phase) → p ≡ at_start → is_established p.state ≡ true → ⊥
      not_start p e s = absurd (never_up (sym (ap (λ (q : Phase). is_established q.state) e) ∙ s))
        where
          never_up : false ≡ true → ⊥
          never_up e = cc

      made : (now : Awaiting h.all w.appended w.teller w.to_teller w.taker w.cut ⊎ Beyond h.all w.appended w.teller)
          → (is_established w.teller.phase.state ≡ true) × (first_text (text_of w.teller) (drop w.appended sending.rules) ≡ Some text)
          → Holds (octets ++ []) (says (Some text) w)
      made (inl a) f = absurd (not_start w.teller.phase a.0 f.0)
      made (inr b) f =
          let more = said (drop w.appended sending.rules) refl f.1 b in
          record {
            all = h.all ++ text;
            lines = lines_spoken octets h.all w.to_taker w.cut w.taker.closed text h.lines;
            tells = record {
              gives = hears_calmly taker (h.all ++ text) _ (up config peer sending) more;
              stands = λ o. inr (b.0, (b.1.0, more));
            };
          }

      by : (how : Option Closed) → w.teller.closed ≡ how → Holds (octets ++ []) (says (Some text) w)
      by None o =
          made (h.tells.stands o)
          (established (is_established w.teller.phase.state) refl (sym (ap says_by o) ∙ e))
      by (Some why) o = absurd (none_some text (sym (ap says_by o) ∙ e))

  -- EVENTS
  holds_cut : (octets : List ℕ) (w : World) → Holds octets w → Holds (octets ++ []) (happens config peer sending Cut w)
  holds_cut octets w h = record {
    all = h.all;
    lines = lines_cut octets h.all w.to_taker w.cut w.taker.closed h.lines;
    tells = record { gives = h.tells.gives; stands = λ o. by (h.tells.stands o) };
  }
    where
      by : Awaiting h.all w.appended w.teller w.to_teller w.taker w.cut ⊎ Beyond h.all w.appended w.teller
          → Awaiting h.all w.appended w.teller [] w.taker true ⊎ Beyond h.all w.appended w.teller
      by (inl a) = inl (
        a.0,
        (
          a.1.0,
          record {
            safe = subst (IsSafe config (needs_of sending.rules)) (sym (append-nil w.teller.waiting))
                (safe_front config (needs_of sending.rules) w.teller.waiting w.to_teller a.1.1.safe);
            whole = λ e. absurd cc;
          },
        ),
      )
      by (inr b) = inr b

  holds_spoken : (octets : List ℕ) (w : World) (h : Holds octets w) (made : Handed) (flying : List ℕ)
      → Tells (h.all ++ made.text) w.appended made.point flying w.taker w.cut → Holds (octets ++ []) (teller_comes made flying w)
  holds_spoken octets w h made flying tells = record {
    all = h.all ++ made.text;
    lines = lines_spoken octets h.all w.to_taker w.cut w.taker.closed made.text h.lines;
    tells = tells;
  }

  pub holds_on : (octets : List ℕ) (w : World) (event : Event) → Holds octets w → Holds (octets ++ handed_over event w) (happens config peer sending event w)
  holds_on octets w event h =
      each_event config peer sending w (λ _ over _ next. Holds (octets ++ over) next)
      (record { all = h.all; lines = lines_same octets h.all w.to_taker w.cut w.taker.closed w.taker.closed (λ o. o) h.lines; tells = h.tells })
      (λ text e. holds_said octets w text e h)
      (λ to count moment.
      let piece : List ℕ = take count w.to_taker in
      let made : Handed = hand taker moment w.taker piece in
      record {
        all = h.all;
        lines = lines_delivered octets h.all w.to_taker w.cut w.taker.closed made.point.closed count (hand_opens taker moment w.taker piece) h.lines;
        tells = tells_heard h.all w.appended w.teller w.to_teller w.taker w.cut made (taker_speaks moment w.taker piece) h.tells;
      })
      (λ to count moment. holds_spoken octets w h (hand teller moment w.teller (take count w.to_teller)) (drop count w.to_teller)
      (tells_piece h.all w.appended w.teller w.to_teller w.taker w.cut moment count h.tells))
      (λ end moment e. record {
        all = h.all;
        lines = lines_same octets h.all w.to_taker w.cut w.taker.closed (ticked moment w.taker).point.closed (tick_opens moment w.taker) h.lines;
        tells = tells_heard h.all w.appended w.teller w.to_teller w.taker w.cut (ticked moment w.taker) (taker_wakes moment w.taker) h.tells;
      })
      (λ end moment e. holds_spoken octets w h (ticked moment w.teller) w.to_teller
      (tells_tick h.all w.appended w.teller w.to_teller w.taker w.cut moment h.tells))
      (holds_cut octets w h) event

  pub holds_first : Holds [] (at_first config peer sending)
  holds_first =
      let all : List ℕ = open_sent config peer sending in
      let reads = reads_open config peer sending can in
      record {
        all = all;
        lines = record { behind = all; front = refl; flows = λ o c. refl; gone = λ c. absurd cc };
        tells = record {
          gives = hears_calmly taker all _ (met config peer sending) reads;
          stands = λ o. inl (
            refl,
            (
              reads,
              record { safe = none_safe config (needs_of sending.rules) [] refl; whole = λ c. inl (refl, λ o. refl) },
            ),
          );
        };
      }

  pub takes_front : (events : List Event)
      → (n : ℕ) × ((run config peer sending events).taken ≡ take n (map (update_sent config peer sending) sending.rules))
  takes_front events =
      let octets : List ℕ = delivered config peer sending events in
      let h : Holds octets (run config peer sending events) =
      each_run config peer sending Holds holds_on events [] (at_first config peer sending) holds_first in
      let taken : List Update = (run config peer sending events).taken in
      let first = front_first taker at_start octets h.lines.behind in
      let all : map (update_sent config peer sending) (take (run config peer sending events).appended sending.rules) ≡ taken ++ first.0 =
      sym h.tells.gives.0 ∙ ap (λ (z : List ℕ). (session_by taker at_start z).0) (sym h.lines.front) ∙ first.1
      ∙ ap (λ (u : List Update). u ++ first.0) (sym (takes_delivered config peer sending events)) in
      (length taken, front_of (update_sent config peer sending) taken first.0 (run config peer sending events).appended sending.rules all)
