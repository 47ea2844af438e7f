-- What the receiving end takes of all that is delivered to it.
use Rattle.fs_speaker.proofs.Words.{◌≡◌, ℕ, List, [], ◌++◌, take, Option, Some, None, refl, ap, sym, ◌∙◌, append_assoc, append-nil, Config, Peer}
use Rattle.fs_speaker.proofs.Words.{Update, Closed, Tick, Quiet, Keeps, Expires, Sending, Point, Handed, handed, hand, Last, at_start, session_by}
use Rattle.fs_speaker.proofs.Words.{at_moment, tick_at, Machine, both_hands, machine_waits, runs_updates, Event, ticks, ticked, taken_in, handed_over}
use Rattle.fs_speaker.proofs.Words.{delivered, World, taker_of, happens, at_first, run}
use Rattle.fs_speaker.proofs.{Handover.{open_hand, closed_hand}, Events.{each_event, each_run}, Waking.{tick_each}}

abbrev updates_in : Machine → Point → List ℕ → List Update
updates_in machine now more = (session_by machine now.phase (now.waiting ++ more)).0

-- What was taken is what the octets delivered give; and while the end is open it goes on from where it stands.
record Takes (machine : Machine) (octets : List ℕ) (taken : List Update) (now : Point) : Type 0 where
  all_is : taken ≡ (session_by machine at_start octets).0
  goes : now.closed ≡ None → (more : List ℕ) → (session_by machine at_start (octets ++ more)).0 ≡ taken ++ updates_in machine now more

hand_updates : (machine : Machine) (moment : ℕ) (now : Point) (piece : List ℕ) → now.closed ≡ None
    → (hand machine moment now piece).updates ≡ updates_in machine now piece
hand_updates machine moment now piece e =
    ap (λ (h : Handed). h.updates) (open_hand machine moment now piece e) ∙ runs_updates machine now.phase (at_moment moment now.times) (now.waiting ++ piece)

-- a piece
takes_piece : (machine : Machine) (octets : List ℕ) (taken : List Update) (now : Point) (moment : ℕ) (piece : List ℕ) → Takes machine octets taken now
    → (how : Option Closed) → now.closed ≡ how
    → Takes machine (octets ++ taken_in how piece) (taken ++ (hand machine moment now piece).updates) (hand machine moment now piece).point
takes_piece machine octets taken now moment piece t None e =
    let made : Handed = hand machine moment now piece in
    record {
      all_is = ap (λ (u : List Update). taken ++ u) (hand_updates machine moment now piece e) ∙ sym (t.goes e piece);
      goes = λ opened more.
          ap (λ (z : List ℕ). (session_by machine at_start z).0) (append_assoc octets piece more)
          ∙ t.goes e (piece ++ more)
          ∙ ap (λ (u : List Update). taken ++ u) (both_hands machine now moment 0 piece more e)
          ∙ ap (λ (u : List Update). taken ++ (made.updates ++ u)) (hand_updates machine 0 made.point more opened)
          ∙ sym (append_assoc taken made.updates (updates_in machine made.point more));
    }
takes_piece machine octets taken now moment piece t (Some why) e =
    let shut : hand machine moment now piece ≡ handed now [] [] = closed_hand machine moment now piece why e in
    rw (shut, append-nil octets, append-nil taken) t

takes_same : (machine : Machine) (octets : List ℕ) (taken : List Update) (now : Point) → Takes machine octets taken now → Takes machine (octets ++ []) taken now
takes_same machine octets taken now t = rw (append-nil octets) t

-- the clock
takes_tick : (machine : Machine) (octets : List ℕ) (taken : List Update) (now : Point) (moment : ℕ) → Takes machine octets taken now
    → Takes machine octets (taken ++ (ticked moment now).updates) (ticked moment now).point
takes_tick machine octets taken now moment t =
    tick_each moment now (λ made. Takes machine octets (taken ++ made.updates) made.point) (due (tick_at now.phase.hold (at_moment moment now.times)))
    (λ why e. none)
  where
    none : Takes machine octets (taken ++ []) now
    none = rw (append-nil taken) t

    due : (tick : Tick) → now.closed ≡ None
        → Takes machine octets (taken ++ (ticks tick now.waiting now.phase (at_moment moment now.times)).updates)
        (ticks tick now.waiting now.phase (at_moment moment now.times)).point
    due Quiet e = record { all_is = none.all_is; goes = λ opened more. none.goes e more }
    due Keeps e = record { all_is = none.all_is; goes = λ opened more. none.goes e more }
    due Expires e = record { all_is = none.all_is; goes = λ opened more. absurd cc }

module _ (config : Config) (peer : Peer) (sending : Sending) where
  abbrev machine : Machine
  machine = taker_of config peer sending

  abbrev TakesIn : List ℕ → World → Type 0
  TakesIn octets w = Takes machine octets w.taken w.taker

  takes_on : (octets : List ℕ) (w : World) (event : Event) → TakesIn octets w → TakesIn (octets ++ handed_over event w) (happens config peer sending event w)
  takes_on octets w event t =
      each_event config peer sending w (λ _ over _ next. TakesIn (octets ++ over) next) same (λ text e. same)
      (λ to count moment. takes_piece machine octets w.taken w.taker moment (take count w.to_taker) t w.taker.closed refl) (λ to count moment. same)
      (λ end moment e. takes_same machine octets (w.taken ++ (ticked moment w.taker).updates) (ticked moment w.taker).point
      (takes_tick machine octets w.taken w.taker moment t))
      (λ end moment e. same) same event
    where
      same : TakesIn (octets ++ []) w
      same = takes_same machine octets w.taken w.taker t

  pub takes_delivered : (events : List Event) → (run config peer sending events).taken ≡ (session_by machine at_start (delivered config peer sending events)).0
  takes_delivered events =
      let first : Takes machine [] [] (at_first config peer sending).taker = record {
        all_is = sym (ap (λ (z : List Update × Last). z.0) (machine_waits machine at_start [] refl));
        goes = λ opened more. refl;
      } in
      (each_run config peer sending TakesIn takes_on events [] (at_first config peer sending) first).all_is
