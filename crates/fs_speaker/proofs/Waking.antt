use Rattle.fs_speaker.proofs.Words.{◌≡◌, ℕ, List, [], ◌++◌, Option, Some, None, Result, Ok, Err, refl, ap, sym, ◌∙◌, subst, append-nil, IfSome}
use Rattle.fs_speaker.proofs.Words.{pending, Closed, Fault, Notified, NoFamily, Memory, Tick, Quiet, Keeps, Expires, Times, Phase, Point, Handed}
use Rattle.fs_speaker.proofs.Words.{handed, hand, Lined, Refuses, TickDoes, TickCloses, Ticks, TicksOpen, StaysOver, closed_after, notice_text}
use Rattle.fs_speaker.proofs.Words.{at_moment, written_now, tick_at, Machine, closed_hand, hand_each, ticks, ticked, IsAt, StandsAt, TicksOver}

-- The clock at an end.

abbrev Came : Machine → Lined → (out out' : List ℕ) → Handed → Type 0
Came machine new out out' made = StandsAt machine new made.point × (out' ≡ out ++ made.text)

pub open_not : (why : Closed) → Some why ≡ None → ⊥
open_not why e = cc

module _ (machine : Machine) (moment : ℕ) (old new : Lined) (out out' : List ℕ) (now : Point) (at : IsAt machine old now) where
  abbrev then_at : Times
  then_at = at_moment moment now.times

  tick_is : tick_at old.phase.hold (at_moment moment old.times) ≡ tick_at now.phase.hold then_at
  tick_is = ap (λ (p : Phase). tick_at p.hold (at_moment moment old.times)) at.phase_is
      ∙ ap (λ (t : Times). tick_at now.phase.hold (at_moment moment t)) at.times_is

  -- the end is open with these moments
  stays_open : (times : Times) → new.closed ≡ None → new.framing ≡ old.framing → new.phase ≡ old.phase → new.times ≡ times
      → StandsAt machine new (record { waiting = now.waiting; phase = now.phase; times = times; closed = None })
  stays_open times shut framing phase moved = record {
    closed_is = shut;
    open_is = λ e. record {
      waiting_is = ap pending framing ∙ at.waiting_is;
      phase_is = phase ∙ at.phase_is;
      times_is = moved;
      waits_is = at.waits_is;
    };
  }

  does : new.closed ≡ None → new.framing ≡ old.framing → new.phase ≡ old.phase → (tick : Tick) → TickDoes tick (at_moment moment old.times) new.times out out'
      → Came machine new out out' (ticks tick now.waiting now.phase then_at)
  does shut framing phase Quiet did =
      (stays_open then_at shut framing phase (did.0 ∙ ap (at_moment moment) at.times_is), did.1 ∙ sym (append-nil out))
  does shut framing phase Keeps did =
      (stays_open (written_now then_at) shut framing phase (did.0 ∙ ap (λ (t : Times). written_now (at_moment moment t)) at.times_is), did.1)
  does shut framing phase Expires did = absurd did

  refused : (why : Closed) → (why ≡ Memory → ⊥) → Refuses 4 0 out out' why → (why ≡ Fault 4 0) × (out' ≡ out ++ notice_text 4 0)
  refused Memory other did = absurd (other refl)
  refused (Fault code subcode) other did = did
  refused (Notified code subcode) other did = did
  refused NoFamily other did = did

  closes : (why : Closed) → (why ≡ Memory → ⊥) → new.closed ≡ Some why → (tick : Tick) → TickCloses tick why out out'
      → Came machine new out out' (ticks tick now.waiting now.phase then_at)
  closes why other shut Expires did =
      let r = refused why other did in
      (record { closed_is = shut ∙ ap (λ (c : Closed). Some c) r.0; open_is = λ e. absurd (open_not (Fault 4 0) e) }, r.1)
  closes why other shut Keeps did = absurd (other did.0)
  closes why other shut Quiet did = absurd did

-- what a tick makes of an end that has closed so, or is open
abbrev pub ticked_by : ℕ → Point → Option Closed → Handed
ticked_by moment now how = elim how [
  | Some why ↦ handed now [] []
  | None ↦ ticks (tick_at now.phase.hold (at_moment moment now.times)) now.waiting now.phase (at_moment moment now.times)
]

-- An open end does what its clock asks for, and a closed one nothing.
pub tick_each : (moment : ℕ) (now : Point) (P : Handed → Type 0)
    → (now.closed ≡ None → P (ticks (tick_at now.phase.hold (at_moment moment now.times)) now.waiting now.phase (at_moment moment now.times)))
    → ((why : Closed) → now.closed ≡ Some why → P (handed now [] [])) → P (ticked moment now)
tick_each moment now P opened shut = by now.closed refl
  where
    by : (how : Option Closed) → now.closed ≡ how → P (ticked_by moment now how)
    by None e = opened e
    by (Some why) e = shut why e

-- what closed an end stays
pub hand_opens : (machine : Machine) (moment : ℕ) (now : Point) (piece : List ℕ) → (hand machine moment now piece).point.closed ≡ None → now.closed ≡ None
hand_opens machine moment now piece = hand_each machine moment now piece (λ made. made.point.closed ≡ None → now.closed ≡ None) (λ e o. e) (λ why e o. o)

pub hand_stays : (machine : Machine) (moment : ℕ) (now : Point) (piece : List ℕ) (why : Closed) → now.closed ≡ Some why
    → (hand machine moment now piece).point.closed ≡ Some why
hand_stays machine moment now piece why e = ap (λ (m : Handed). m.point.closed) (closed_hand machine moment now piece why e) ∙ e

pub tick_opens : (moment : ℕ) (now : Point) → (ticked moment now).point.closed ≡ None → now.closed ≡ None
tick_opens moment now = tick_each moment now (λ made. made.point.closed ≡ None → now.closed ≡ None) (λ e o. e) (λ why e o. o)

pub tick_stays : (moment : ℕ) (now : Point) (why : Closed) → now.closed ≡ Some why → (ticked moment now).point.closed ≡ Some why
tick_stays moment now why e =
    tick_each moment now (λ made. made.point.closed ≡ Some why) (λ o. absurd (open_not why (sym e ∙ o))) (λ other f. e)

pub ticks_on : (machine : Machine) (moment : ℕ) (old new : Lined) (out out' : List ℕ) (result : Result (Unit {0}) Closed) → result ≡ Ok tt
    → StaysOver old new result out out' → new.closed ≡ closed_after result → TicksOpen moment old new out out' result
    → TicksOver machine moment old new out out'
ticks_on machine moment old new out out' result e stays shut did now stands = by now.closed refl
  where
    no_call : (why : Closed) → result ≡ Err why → ⊥
    no_call why f = absurd cc

    by : (how : Option Closed) → now.closed ≡ how → Came machine new out out' (ticked_by moment now how)
    by None opened =
        let at = stands.open_is opened in
        let done = subst (λ (r : Result (Unit {0}) Closed). Ticks moment old new out out' r) e (did (stands.closed_is ∙ opened)) in
        does machine moment old new out out' now at (shut ∙ ap closed_after e) done.1.0 done.1.1 (tick_at now.phase.hold (at_moment moment now.times))
        (subst (λ (t : Tick). TickDoes t (at_moment moment old.times) new.times out out') (tick_is machine moment old new out out' now at) done.0)
    by (Some why) closed = absurd (no_call why (rw (stands.closed_is ∙ closed) at stays).0)

pub ticks_shut : (machine : Machine) (moment : ℕ) (old new : Lined) (out out' : List ℕ) (why : Closed) (result : Result (Unit {0}) Closed)
    → result ≡ Err why → (why ≡ Memory → ⊥)
    → StaysOver old new result out out' → new.closed ≡ closed_after result → TicksOpen moment old new out out' result
    → TicksOver machine moment old new out out'
ticks_shut machine moment old new out out' why result e other stays shut did now stands = by now.closed refl
  where
    by : (how : Option Closed) → now.closed ≡ how → Came machine new out out' (ticked_by moment now how)
    by None opened =
        let at = stands.open_is opened in
        let done = subst (λ (r : Result (Unit {0}) Closed). Ticks moment old new out out' r) e (did (stands.closed_is ∙ opened)) in
        closes machine moment old new out out' now at why other (shut ∙ ap closed_after e) (tick_at now.phase.hold (at_moment moment now.times))
        (subst (λ (t : Tick). TickCloses t why out out') (tick_is machine moment old new out out' now at) done.0)
    by (Some what) closed =
        let was : old.closed ≡ Some what = stands.closed_is ∙ closed in
        let kept = subst (λ (o : Option Closed). IfSome o (λ (w : Closed). (result ≡ Err w) × (new ≡ old) × (out' ≡ out))) was stays in (
          record { closed_is = ap (λ (l : Lined). l.closed) kept.1 ∙ was ∙ sym closed; open_is = λ h. absurd (open_not what (sym closed ∙ h)) },
          kept.2 ∙ sym (append-nil out),
        )
