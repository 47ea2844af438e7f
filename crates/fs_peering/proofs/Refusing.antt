-- Two joined ends of which the announcing one has the identifier 0.0.0.0: its OPEN is refused, and nothing else closes them.
use Rattle.fs_peering.proofs.Words.{Closed, Config, Fault, Handed, IsUnnamed, Last, Machine, Message, MessageFault, Notified, Open, Peer, Phase}
use Rattle.fs_peering.proofs.Words.{Point, Sending, Step, Times, Update, at_fault, at_moment, at_start, closed, first_message, hand, handed}
use Rattle.fs_peering.proofs.Words.{notice_text, open_body, open_sent, opened, point, runs_by, session_by, shuts, step_by, stops, takes, tick_at}
use Rattle.fs_peering.proofs.Words.{ticked, ticks, transition_by, waits, ◌≡◌, ◌⊎◌, inl, inr, ◌<◌, ◌^◌, ℕ, Bool, true, false, if◌then◌else◌}
use Rattle.fs_peering.proofs.Words.{List, [], ◌∷◌, ◌++◌, length, take, drop, Option, Some, None, Result, Err, Ok, refl, ap, sym, ◌∙◌, subst}
use Rattle.fs_peering.proofs.Words.{append_assoc, append-nil, arith, take-append-drop, none-some, same_Some, open_unnamed, message_stable, text_first}
use Rattle.fs_peering.proofs.Words.{World, at_first, happens, next_said, run, runs_on, says, sent, taker_comes, taker_of, teller_comes, teller_of}
use Rattle.fs_peering.proofs.Words.{open_fits, runs_stops, runs_waits, closed_hand, open_hand, ticked_by, Shows, told, machine_stops, step_found}
use Rattle.fs_peering.proofs.Words.{ClosesUnnamed}
use Rattle.std.proofs.lemmas.Bool.{true≢false as never}
use Rattle.fs_speaker.{specs.declared.event.Event.{Event, TheVariants.{Send, Deliver, Tick as TickEvent, Cut}}, proofs.Unnamed.{same_why}}

-- An end at which one message closes, wherever more follows: of the octets up to it the end waits for more, or closes so.
module _ (machine : Machine) (why : Closed) (text : List ℕ) (message : Message)
    (first : (more : List ℕ) → first_message (text ++ more) ≡ Some (message, more)) (err : transition_by machine at_start message ≡ Err why) where
  shuts_all : (more : List ℕ) → session_by machine at_start (text ++ more) ≡ ([], closed why)
  shuts_all more =
      ap (λ (z : List ℕ). session_by machine at_start z) (sym (append-nil (text ++ more)))
      ∙ machine_stops machine at_start why (text ++ more) [] (step_found machine at_start (text ++ more) (message, more) (Err why) (first more) err)

  abbrev Comes : Times → List ℕ → Handed → Type 0
  Comes times octets made = (made ≡ handed (point octets at_start times None) [] []) ⊎ (made ≡ shuts machine at_start times why)

  no_both : (next : Phase × Option Update) → ◌≡◌ {A = Result (Phase × Option Update) Closed} (Ok next) (Err why) → ⊥
  no_both next e = cc

  comes : (times : Times) (octets rest more : List ℕ) → octets ++ rest ≡ text ++ more → Comes times octets (runs_by machine at_start times octets)
  comes times octets rest more e = by (step_by machine at_start octets) refl
    where
      by : (step : Step) → step_by machine at_start octets ≡ step → Comes times octets (runs_by machine at_start times octets)
      by waits h = inl (runs_waits machine at_start times octets h)
      by (stops other) h =
          let same : closed other ≡ closed why =
          ap (λ (s : List Update × Last). s.1)
          (sym (machine_stops machine at_start other octets rest h) ∙ ap (λ (z : List ℕ). session_by machine at_start z) e ∙ shuts_all _) in
          inr (ap (λ (z : List ℕ). runs_by machine at_start times z) (sym (append-nil octets)) ∙ runs_stops machine at_start times other octets [] h
          ∙ ap (λ (c : Closed). shuts machine at_start times c) (same_why other why same))
      by (takes next update behind) h =
          let shows : Shows machine at_start octets (takes next update behind) = subst (Shows machine at_start octets) h (told machine at_start octets) in
          let found : ◌≡◌ {A = Option (Message × List ℕ)} (Some (shows.0, behind ++ rest)) (Some (message, more)) =
          sym (message_stable octets rest (shows.0, behind) shows.1) ∙ ap first_message e ∙ first more in
          let same : shows.0 ≡ message = ap (λ (f : Message × List ℕ). f.0) (same_Some (shows.0, behind ++ rest) (message, more) found) in
          absurd (no_both _ (sym shows.2 ∙ ap (transition_by machine at_start) same ∙ err))

  -- it waits for more of it, or has closed so
  abbrev pub IsEnd : List ℕ → Point → Type 0
  IsEnd heard now = ((now.closed ≡ None) × ((now.phase ≡ at_start) × (now.waiting ≡ heard))) ⊎ (now.closed ≡ Some why)

  -- What a piece made of it: it waits on and says nothing; or it closes and says so; or it had closed.
  abbrev pub Made : List ℕ → Point → Handed → Type 0
  Made heard now made =
      ((now.closed ≡ None) × ((made.point.closed ≡ None) × ((made.point.phase ≡ at_start) × ((made.point.waiting ≡ heard) × (made.text ≡ [])))))
      ⊎ (((now.closed ≡ None) × ((made.point.closed ≡ Some why) × (made.text ≡ at_fault machine.farewell why)))
      ⊎ ((now.closed ≡ Some why) × ((made.point.closed ≡ Some why) × (made.text ≡ []))))

  end_hand : (heard piece rest more : List ℕ) (now : Point) (moment : ℕ) → IsEnd heard now → (now.closed ≡ None → (heard ++ piece) ++ rest ≡ text ++ more)
      → Made (heard ++ piece) now (hand machine moment now piece)
  end_hand heard piece rest more now moment (inr shut) goes =
      let there : hand machine moment now piece ≡ handed now [] [] = closed_hand machine moment now piece why shut in
      inr (inr (shut, (ap (λ (h : Handed). h.point.closed) there ∙ shut, ap (λ (h : Handed). h.text) there)))
  end_hand heard piece rest more now moment (inl i) goes = by (comes _ _ _ _ (goes i.0))
    where
      times : Times
      times = at_moment moment now.times

      made_is : hand machine moment now piece ≡ runs_by machine at_start times (heard ++ piece)
      made_is =
          open_hand machine moment now piece i.0 ∙ ap (λ (p : Phase). runs_by machine p times (now.waiting ++ piece)) i.1.0
          ∙ ap (λ (z : List ℕ). runs_by machine at_start times (z ++ piece)) i.1.1

      by : Comes times (heard ++ piece) (runs_by machine at_start times (heard ++ piece)) → Made (heard ++ piece) now (hand machine moment now piece)
      by (inl w) =
          let at : hand machine moment now piece ≡ handed (point (heard ++ piece) at_start times None) [] [] = made_is ∙ w in
          inl (
            i.0,
            (
              ap (λ (h : Handed). h.point.closed) at,
              (ap (λ (h : Handed). h.point.phase) at, (ap (λ (h : Handed). h.point.waiting) at, ap (λ (h : Handed). h.text) at)),
            ),
          )
      by (inr s) =
          let at : hand machine moment now piece ≡ shuts machine at_start times why = made_is ∙ s in
          inr (inl (i.0, (ap (λ (h : Handed). h.point.closed) at, ap (λ (h : Handed). h.text) at)))

  -- the clock does nothing at it
  end_tick : (heard : List ℕ) (now : Point) (moment : ℕ) → IsEnd heard now
      → IsEnd heard (ticked moment now).point × (((ticked moment now).text ≡ []) × ((ticked moment now).point.closed ≡ now.closed))
  end_tick heard now moment (inr shut) =
      let at : ticked moment now ≡ handed now [] [] = ap (ticked_by moment now) shut in
      (inr (ap (λ (h : Handed). h.point.closed) at ∙ shut), (ap (λ (h : Handed). h.text) at, ap (λ (h : Handed). h.point.closed) at))
  end_tick heard now moment (inl i) =
      let at : ticked moment now ≡ handed (point now.waiting at_start (at_moment moment now.times) None) [] [] =
      ap (ticked_by moment now) i.0 ∙ ap
      (λ (p : Phase). ticks (tick_at p.hold (at_moment moment now.times)) now.waiting p (at_moment moment now.times)) i.1.0 in (
        inl (ap (λ (h : Handed). h.point.closed) at, (ap (λ (h : Handed). h.point.phase) at, ap (λ (h : Handed). h.point.waiting) at ∙ i.1.1)),
        (ap (λ (h : Handed). h.text) at, ap (λ (h : Handed). h.point.closed) at ∙ sym i.0),
      )

-- what was heard and what is in flight is a front of all that was said, and all of it while the wire isn't cut
abbrev Flies : (heard flying whole : List ℕ) → Bool → Type 0
Flies heard flying whole cut = (rest : List ℕ) × ((heard ++ (flying ++ rest) ≡ whole) × (cut ≡ false → rest ≡ []))

flies_said : (heard flying whole text : List ℕ) (cut : Bool) → Flies heard flying whole cut → Flies heard (sent cut flying text) (whole ++ text) cut
flies_said heard flying whole text true f = (
  f.0 ++ text,
  (
    ap (λ (z : List ℕ). heard ++ z) (sym (append_assoc flying f.0 text)) ∙ sym (append_assoc heard (flying ++ f.0) text) ∙ ap (λ (z : List ℕ). z ++ text) f.1.0,
    λ e. absurd (never e),
  ),
)
flies_said heard flying whole text false f = (
  [],
  (
    ap (λ (z : List ℕ). heard ++ z) (append-nil (flying ++ text)) ∙ sym (append_assoc heard flying text)
        ∙ ap (λ (z : List ℕ). (heard ++ z) ++ text) (sym (append-nil flying) ∙ ap (λ (z : List ℕ). flying ++ z) (sym (f.1.1 refl)))
        ∙ ap (λ (z : List ℕ). z ++ text) f.1.0,
    λ e. refl,
  ),
)

taken_front : (heard flying rest : List ℕ) (n : ℕ) → (heard ++ take n flying) ++ (drop n flying ++ rest) ≡ heard ++ (flying ++ rest)
taken_front heard flying rest n =
    append_assoc heard (take n flying) (drop n flying ++ rest)
    ∙ ap (λ (z : List ℕ). heard ++ z) (sym (append_assoc (take n flying) (drop n flying) rest) ∙ ap (λ (z : List ℕ). z ++ rest) (take-append-drop n flying))

flies_taken : (heard flying whole : List ℕ) (cut : Bool) (n : ℕ) → Flies heard flying whole cut → Flies (heard ++ take n flying) (drop n flying) whole cut
flies_taken heard flying whole cut n f = (f.0, (taken_front heard flying f.0 n ∙ f.1.0, f.1.1))

flies_cut : (heard flying whole : List ℕ) (cut : Bool) → Flies heard flying whole cut → Flies heard [] whole true
flies_cut heard flying whole cut f = (flying ++ f.0, (f.1.0, λ e. absurd (never e)))

nothing : (xs ys : List ℕ) → xs ++ ys ≡ [] → xs ≡ []
nothing [] ys e = refl
nothing (x ∷ xs) ys e = absurd cc

module _ (config : Config) (peer : Peer) (sending : Sending) (un : IsUnnamed config peer sending) where
  abbrev taker : Machine
  taker = taker_of config peer sending

  abbrev teller : Machine
  teller = teller_of config peer sending

  abbrev opening : List ℕ
  opening = open_sent config peer sending

  abbrev body : List ℕ
  body = open_body peer.asn config.hold_time sending.id

  abbrev notice : List ℕ
  notice = notice_text 2 3

  first_open : (more : List ℕ) → first_message (opening ++ more) ≡ Some (record { kind = 1; body = body }, more)
  first_open more = let fits = open_fits (length body) refl in text_first 1 body more (omega arith) (omega arith) fits.0 fits.1

  first_notice : (more : List ℕ) → first_message (notice ++ more) ≡ Some (record { kind = 3; body = 2 ∷ 3 ∷ [] }, more)
  first_notice more = text_first 3 (2 ∷ 3 ∷ []) more (omega arith) (omega arith) refl (omega arith)

  zero_small : (n : ℕ) → n ≡ 0 → n < 2 ^ 32
  zero_small n e = rw e (omega arith)

  refuses : transition_by taker at_start (record { kind = 1; body = body }) ≡ Err (Fault 2 3)
  refuses = ap (λ (r : Result Open MessageFault). opened taker r)
      (open_unnamed peer.asn config.hold_time sending.id un.asn.small un.hold_time.small
      (zero_small _ un.unnamed) un.asn.some un.hold_time.not_one un.hold_time.not_two un.unnamed)

  is_told : transition_by teller at_start (record { kind = 3; body = 2 ∷ 3 ∷ [] }) ≡ Err (Notified 2 3)
  is_told = refl

  abbrev IsTaker : List ℕ → Point → Type 0
  IsTaker = IsEnd taker (Fault 2 3) opening (record { kind = 1; body = body }) first_open refuses

  abbrev IsTeller : List ℕ → Point → Type 0
  IsTeller = IsEnd teller (Notified 2 3) notice (record { kind = 3; body = 2 ∷ 3 ∷ [] }) first_notice is_told

  -- the receiving end said nothing while it was open, and then its NOTIFICATION
  abbrev Said : Option Closed → List ℕ → Type 0
  Said how said = ((how ≡ None) × (said ≡ [])) ⊎ ((how ≡ Some (Fault 2 3)) × (said ≡ notice))

  record Refused (w : World) : Type 0 where
    octets : List ℕ
    heard : List ℕ
    more : List ℕ
    said : List ℕ
    taker_is : IsTaker octets w.taker
    teller_is : IsTeller heard w.teller
    said_is : Said w.taker.closed said
    flies : w.taker.closed ≡ None → Flies octets w.to_taker (opening ++ more) w.cut
    goes : w.teller.closed ≡ None → Flies heard w.to_teller said w.cut

  more_said : (octets flying more text : List ℕ) (cut : Bool) → Flies octets flying (opening ++ more) cut
      → Flies octets (sent cut flying text) (opening ++ (more ++ text)) cut
  more_said octets flying more text cut f =
      subst (λ (z : List ℕ). Flies octets (sent cut flying text) z cut) (append_assoc opening more text) (flies_said _ _ _ _ _ f)

  -- the announcing end said something
  teller_said : (w : World) (r : Refused w) (now : Point) (flying heard : List ℕ) (text : List ℕ) → IsTeller heard now
      → (now.closed ≡ None → Flies heard flying r.said w.cut)
      → (n : ℕ) → Refused (record {
        taker = w.taker;
        teller = now;
        to_taker = sent w.cut w.to_taker text;
        to_teller = flying;
        appended = n;
        cut =
            w.cut;
        taken = w.taken;
      })
  teller_said w r now flying heard text is goes n = record {
    octets = r.octets;
    heard = heard;
    more = r.more ++ text;
    said = r.said;
    taker_is = r.taker_is;
    teller_is = is;
    said_is = r.said_is;
    flies = λ o. more_said _ _ _ _ _ (r.flies o);
    goes = goes;
  }

  -- what the world is where an end was handed so many octets of those that flew to it
  abbrev taker_given : World → (moment count : ℕ) → World
  taker_given w moment count = taker_comes (hand taker moment w.taker (take count w.to_taker)) (drop count w.to_taker) w

  abbrev teller_given : World → (moment count : ℕ) → World
  teller_given w moment count = teller_comes (hand teller moment w.teller (take count w.to_teller)) (drop count w.to_teller) w

  -- the receiving end was
  taker_made : (w : World) (r : Refused w) (moment count : ℕ) → Refused (taker_given w moment count)
  taker_made w r moment count = by r.taker_is
    where
      piece : List ℕ
      piece = take count w.to_taker

      made : Handed
      made = hand taker moment w.taker piece

      goes_on : w.teller.closed ≡ None → Flies r.heard (sent w.cut w.to_teller made.text) (r.said ++ made.text) w.cut
      goes_on o = flies_said _ _ _ _ _ (r.goes o)

      -- so it stands, with this said
      so : IsTaker (r.octets ++ piece) made.point → Said made.point.closed (r.said ++ made.text) → (made.point.closed ≡ None → w.taker.closed ≡ None)
          → Refused (taker_given w moment count)
      so is said opens = record {
        octets = r.octets ++ piece;
        heard = r.heard;
        more = r.more;
        said = r.said ++ made.text;
        taker_is = is;
        teller_is = r.teller_is;
        said_is = said;
        flies = λ o. flies_taken _ _ _ _ _ (r.flies (opens o));
        goes = goes_on;
      }

      was_open : w.taker.closed ≡ None → r.said ≡ []
      was_open o = at r.said_is
        where
          at : Said w.taker.closed r.said → r.said ≡ []
          at (inl s) = s.1
          at (inr s) = absurd (none-some (Fault 2 3) (sym o ∙ s.0))

      was_shut : w.taker.closed ≡ Some (Fault 2 3) → r.said ≡ notice
      was_shut c = at r.said_is
        where
          at : Said w.taker.closed r.said → r.said ≡ notice
          at (inl s) = absurd (none-some (Fault 2 3) (sym s.0 ∙ c))
          at (inr s) = s.1

      from : Made taker (Fault 2 3) opening (record { kind = 1; body = body }) first_open refuses (r.octets ++ piece) w.taker made
          → Refused (taker_given w moment count)
      from (inl m) =
          so (inl (m.1.0, (m.1.1.0, m.1.1.1.0))) (inl (m.1.0, ap (λ (z : List ℕ). r.said ++ z) m.1.1.1.1 ∙ append-nil r.said ∙ was_open m.0)) (λ o. m.0)
      from (inr (inl m)) =
          so (inr m.1.0) (inr (m.1.0, ap (λ (z : List ℕ). r.said ++ z) m.1.1 ∙ ap (λ (z : List ℕ). z ++ notice) (was_open m.0))) (λ o. m.0)
      from (inr (inr m)) =
          so (inr m.1.0) (inr (m.1.0, ap (λ (z : List ℕ). r.said ++ z) m.1.1 ∙ append-nil r.said ∙ was_shut m.0))
          (λ o. absurd (none-some (Fault 2 3) (sym o ∙ m.1.0)))

      by : IsTaker r.octets w.taker → Refused (taker_given w moment count)
      by (inl i) =
          let f = r.flies i.0 in
          from (end_hand _ _ opening _ first_open refuses _ _ _ _ _ _ (inl i) (λ o. taken_front r.octets _ _ _ ∙ f.1.0))
      by (inr c) =
          from (end_hand _ _ opening _ first_open refuses _ _ [] [] w.taker _ (inr c)
          (λ o. absurd (none-some (Fault 2 3) (sym o ∙ c))))

  -- the announcing end was
  teller_made : (w : World) (r : Refused w) (moment count : ℕ) → Refused (teller_given w moment count)
  teller_made w r moment count = by r.teller_is
    where
      piece : List ℕ
      piece = take count w.to_teller

      so : IsTeller (r.heard ++ piece) (hand teller moment w.teller piece).point
          → ((hand teller moment w.teller piece).point.closed ≡ None → w.teller.closed ≡ None) → Refused (teller_given w moment count)
      so is opens =
          teller_said _ r _ _ _ _ is (λ o. flies_taken _ _ _ _ _ (r.goes (opens o))) _

      from : Made teller (Notified 2 3) notice (record { kind = 3; body = 2 ∷ 3 ∷ [] }) first_notice is_told (r.heard ++ piece) w.teller
          (hand teller moment w.teller piece) → Refused (teller_given w moment count)
      from (inl m) = so (inl (m.1.0, (m.1.1.0, m.1.1.1.0))) (λ o. m.0)
      from (inr (inl m)) = so (inr m.1.0) (λ o. m.0)
      from (inr (inr m)) = so (inr m.1.0) (λ o. absurd (none-some (Notified 2 3) (sym o ∙ m.1.0)))

      -- what it was handed is a front of the NOTIFICATION
      fronts : (rest : List ℕ) → (r.heard ++ piece) ++ rest ≡ r.said → Said w.taker.closed r.said
          → (rest : List ℕ) × ((r.heard ++ piece) ++ rest ≡ notice ++ [])
      fronts rest e (inl s) = (notice, ap (λ (z : List ℕ). z ++ notice) (nothing _ _ (e ∙ s.1)))
      fronts rest e (inr s) = (rest, e ∙ s.1)

      by : IsTeller r.heard w.teller → Refused (teller_given w moment count)
      by (inl i) =
          let f = r.goes i.0 in
          let front = fronts _ (taken_front r.heard _ _ _ ∙ f.1.0) r.said_is in
          from (end_hand _ _ notice _ first_notice is_told _ _ _ _ _ _ (inl i) (λ o. front.1))
      by (inr c) =
          from (end_hand _ _ notice _ first_notice is_told _ _ [] [] w.teller _ (inr c)
          (λ o. absurd (none-some (Notified 2 3) (sym o ∙ c))))

  -- the clock was heard
  taker_ticks : (w : World) (r : Refused w) (moment : ℕ) → Refused (taker_comes (ticked moment w.taker) w.to_taker w)
  taker_ticks w r moment =
      let t = end_tick taker _ opening _ first_open refuses _ _ _ r.taker_is in
      record {
        octets = r.octets;
        heard = r.heard;
        more = r.more;
        said = r.said ++ (ticked moment w.taker).text;
        taker_is = t.0;
        teller_is = r.teller_is;
        said_is =
            subst (λ (how : Option Closed). Said how (r.said ++ (ticked moment w.taker).text)) (sym t.1.1)
            (subst (Said w.taker.closed) (sym (ap (λ (z : List ℕ). r.said ++ z) t.1.0 ∙ append-nil r.said)) r.said_is);
        flies = λ o. r.flies (sym t.1.1 ∙ o);
        goes = λ o. flies_said _ _ _ _ _ (r.goes o);
      }

  teller_ticks : (w : World) (r : Refused w) (moment : ℕ) → Refused (teller_comes (ticked moment w.teller) w.to_teller w)
  teller_ticks w r moment =
      let t = end_tick teller _ notice _ first_notice is_told _ _ _ r.teller_is in
      teller_said w r _ _ _ _ t.0 (λ o. r.goes (sym t.1.1 ∙ o)) _

  refused_on : (w : World) (event : Event) → Refused w → Refused (happens config peer sending event w)
  refused_on w Send r = by (next_said config peer sending w.teller w.appended)
    where
      by : (text : Option (List ℕ)) → Refused (says text w)
      by None = r
      by (Some text) = teller_said _ r _ _ _ _ r.teller_is r.goes _
  refused_on w (Deliver to count moment) r = by _
    where
      by : (zeroth : Bool) → Refused (if zeroth then taker_given w moment count else teller_given w moment count)
      by true = taker_made _ r _ _
      by false = teller_made _ r _ _
  refused_on w (TickEvent end moment) r = by _
    where
      by : (zeroth : Bool) → Refused (if zeroth then taker_comes (ticked moment w.taker) w.to_taker w else teller_comes (ticked moment w.teller) w.to_teller w)
      by true = taker_ticks _ r _
      by false = teller_ticks _ r _
  refused_on w Cut r = record {
    octets = r.octets;
    heard = r.heard;
    more = r.more;
    said = r.said;
    taker_is = r.taker_is;
    teller_is = r.teller_is;
    said_is = r.said_is;
    flies = λ o. flies_cut _ _ _ _ (r.flies o);
    goes = λ o. flies_cut _ _ _ _ (r.goes o);
  }

  refused_first : Refused (at_first config peer sending)
  refused_first = record {
    octets = [];
    heard = [];
    more = [];
    said = [];
    taker_is = inl (refl, (refl, refl));
    teller_is = inl (refl, (refl, refl));
    said_is = inl (refl, refl);
    flies = λ o. ([], (refl, λ e. refl));
    goes = λ o. ([], (refl, λ e. refl));
  }

  refused_all : (events : List Event) (w : World) → Refused w → Refused (runs_on config peer sending w events)
  refused_all [] w r = r
  refused_all (event ∷ events) w r = refused_all events (happens config peer sending event w) (refused_on w event r)

  taker_so : (now : Point) (octets : List ℕ) → IsTaker octets now → (now.closed ≡ None) ⊎ (now.closed ≡ Some (Fault 2 3))
  taker_so now octets (inl i) = inl i.0
  taker_so now octets (inr c) = inr c

  teller_so : (now : Point) (heard : List ℕ) → IsTeller heard now → (now.closed ≡ None) ⊎ (now.closed ≡ Some (Notified 2 3))
  teller_so now heard (inl i) = inl i.0
  teller_so now heard (inr c) = inr c

pub closes_unnamed : ClosesUnnamed
closes_unnamed config peer sending events un =
    let r = refused_all _ _ _ un events _ (refused_first _ _ _ un) in (
      taker_so _ _ _ un (run config peer sending events).taker _ r.taker_is,
      teller_so _ _ _ un (run config peer sending events).teller _ r.teller_is,
    )
