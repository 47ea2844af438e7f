-- An end that takes a piece message by message comes to what the whole piece makes of it.
use Rattle.fs_speaker.proofs.Words.{◌≡◌, ℕ, List, [], ◌∷◌, ◌++◌, length, drop, max, Option, Some, None, Result, Ok, Err, refl, ap, sym, ◌∙◌, subst}
use Rattle.fs_speaker.proofs.Words.{arith, append_assoc, append-nil, IfSome, take, ◌-◌, drop_all, take_rest, nil_from_length, Update, pending, State}
use Rattle.fs_speaker.proofs.Words.{WaitOpen, WaitKeep, Established, Closed, Fault, Notified, NoFamily, Memory, Times, Point, point, Handed, handed}
use Rattle.fs_speaker.proofs.Words.{shuts, updates_with, with_taken, runs_by, hand, Lined, Step, waits, takes, stops, step_by, answer_of}
use Rattle.fs_speaker.proofs.Words.{closed_after, Advanced, CloseIs, FeedsAt, FeedsOpen, StaysOver, moved, at_fault, times, at_moment, Phase, Machine}
use Rattle.fs_speaker.proofs.Words.{runs_takes, runs_stops, runs_waits, StandsAt, HandsOver}
use Rattle.fs_session.specs.{declared.state.State.TheVariants.{Closed as IsClosed}, Times.{taken_in}}
pub use Rattle.fs_session.proofs.MessageRuns.{open_hand, closed_hand}

-- what was taken and answered before, and what is to come
abbrev pub behind : List Update → List ℕ → Handed → Handed
behind updates text later = handed later.point (updates ++ later.updates) (text ++ later.text)

-- a moment that was handed in already moves nothing
pub moment_stays : (moment : ℕ) (now : Times) → at_moment moment (at_moment moment now) ≡ at_moment moment now
moment_stays moment now =
    let same : max (max now.greatest moment) moment ≡ max now.greatest moment = omega arith in
    ap (λ (g : ℕ). times g now.taken now.written) same

took_stays : (moment : ℕ) (state : State) (now : Times) → at_moment moment (taken_in state (at_moment moment now)) ≡ taken_in state (at_moment moment now)
took_stays moment state now =
    let same : max (max now.greatest moment) moment ≡ max now.greatest moment = omega arith in
    by state same
  where
    by : (state : State) → max (max now.greatest moment) moment ≡ max now.greatest moment
        → at_moment moment (taken_in state (at_moment moment now)) ≡ taken_in state (at_moment moment now)
    by WaitOpen same = ap (λ (g : ℕ). times g (max now.greatest moment) (max now.greatest moment)) same
    by WaitKeep same = ap (λ (g : ℕ). times g (max now.greatest moment) now.written) same
    by Established same = ap (λ (g : ℕ). times g (max now.greatest moment) now.written) same
    by IsClosed same = ap (λ (g : ℕ). times g (max now.greatest moment) now.written) same

-- Of all that the piece makes of the end this was taken and answered, and what is still to come is made of the octets in
-- hand and the rest.
pub record Comes (machine : Machine) (moment : ℕ) (whole : Handed) (taken taken' : List Update) (out out' : List ℕ) (line : Lined) (rest : List ℕ)
    : Type 0 where
  pub updates : List Update
  pub text : List ℕ
  pub took : taken' ≡ taken ++ updates
  pub said : out' ≡ out ++ text
  pub waits_is : step_by machine line.phase (pending line.framing) ≡ waits
  pub goes : whole ≡ behind updates text (runs_by machine line.phase (at_moment moment line.times) (pending line.framing ++ rest))

-- and the moment was handed in
pub record Came (machine : Machine) (moment : ℕ) (whole : Handed) (taken taken' : List Update) (out out' : List ℕ) (line : Lined) (rest : List ℕ)
    : Type 0 where
  pub comes : Comes machine moment whole taken taken' out out' line rest
  pub moved_is : at_moment moment line.times ≡ line.times

nothing_waits : (machine : Machine) (now : Phase) → step_by machine now [] ≡ waits
nothing_waits machine now = refl

module _ (machine : Machine) (moment : ℕ) (whole : Handed) (taken : List Update) (out : List ℕ) where
  -- a message was taken
  by_step : (taken' : List Update) (out' out2 : List ℕ) (old new : Lined) (rest : List ℕ) (count : ℕ) (update : Option Update)
      → Comes machine moment whole taken taken' out out' old rest
      → (step : Step) → step_by machine old.phase (pending old.framing ++ rest) ≡ step
      → Advanced step (moved moment old) new rest count update → out2 ≡ out' ++ answer_of machine old.phase.state step
      → Came machine moment whole taken (taken' ++ updates_with update []) out out2 new (drop count rest)
  by_step taken' out' out2 old new rest count update c waits h did said =
      let gone : drop count rest ≡ [] = drop_all count rest (omega (arith, did.0)) in
      record {
        moved_is = rw did.4 (moment_stays moment old.times);
        comes = record {
          updates = c.updates ++ updates_with update [];
          text = c.text ++ [];
          took = ap (λ (u : List Update). u ++ updates_with update []) c.took ∙ append_assoc taken c.updates (updates_with update []);
          said = said ∙ ap (λ (t : List ℕ). t ++ []) c.said ∙ append_assoc out c.text [];
          goes = rw (
            did.1,
            did.2,
            did.3,
            did.4,
            gone,
            append-nil c.updates,
            append-nil c.text,
            append-nil (pending old.framing ++ rest),
            moment_stays moment old.times,
          ) c.goes;
          waits_is = rw (did.1, did.2) h;
        };
      }
  by_step taken' out' out2 old new rest count update c (takes next took left) h did said =
      let at : runs_by machine old.phase (at_moment moment old.times) (pending old.framing ++ rest)
      ≡ with_taken (machine.answer old.phase.state) took (runs_by machine next (taken_in old.phase.state (at_moment moment old.times)) left) =
      ap (runs_by machine old.phase (at_moment moment old.times)) (sym (append-nil (pending old.framing ++ rest)))
      ∙ runs_takes machine old.phase next (at_moment moment old.times) took (pending old.framing ++ rest) left [] h
      ∙ ap (λ (z : List ℕ). with_taken (machine.answer old.phase.state) took
      (runs_by machine next (taken_in old.phase.state (at_moment moment old.times)) z)) (append-nil left) in
      let later : Handed = runs_by machine next (taken_in old.phase.state (at_moment moment old.times)) left in
      record {
        moved_is = rw did.5 (took_stays moment old.phase.state old.times);
        comes = record {
          updates = c.updates ++ updates_with update [];
          text = c.text ++ machine.answer old.phase.state;
          took = ap (λ (u : List Update). u ++ updates_with update []) c.took ∙ append_assoc taken c.updates (updates_with update []);
          said = said ∙ ap (λ (t : List ℕ). t ++ machine.answer old.phase.state) c.said ∙ append_assoc out c.text (machine.answer old.phase.state);
          goes = rw (did.2, did.3, did.4, did.5, ← did.1, took_stays moment old.phase.state old.times)
              (c.goes ∙ ap (behind c.updates c.text) at ∙ join c.updates c.text (machine.answer old.phase.state) took later);
          waits_is = rw did.2 (nothing_waits machine new.phase);
        };
      }
    where
      join : (updates : List Update) (text answer : List ℕ) (took : Option Update) (later : Handed)
          → behind updates text (with_taken answer took later) ≡ behind (updates ++ updates_with took []) (text ++ answer) later
      join updates text answer None later = rw (append-nil updates, append_assoc text answer later.text) refl
      join updates text answer (Some update) later = rw (append_assoc updates (update ∷ []) later.updates, append_assoc text answer later.text) refl
  by_step taken' out' out2 old new rest count update c (stops why) h did said = absurd did

  -- one call of an opened end
  comes_more : (taken' : List Update) (out' out2 : List ℕ) (old new : Lined) (rest : List ℕ) (count : ℕ) (update : Option Update)
      → Comes machine moment whole taken taken' out out' old rest → FeedsAt machine moment old new rest out' out2 (Ok (count, update))
      → Came machine moment whole taken (taken' ++ updates_with update []) out out2 new (drop count rest)
  comes_more taken' out' out2 old new rest count update c fed =
      by_step taken' out' out2 old new rest count update c (step_by machine old.phase (pending old.framing ++ rest)) refl fed.0 fed.1

  -- a call that closed the end
  comes_closed : (taken' : List Update) (out' out2 : List ℕ) (old : Lined) (rest : List ℕ) (why : Closed)
      → Comes machine moment whole taken taken' out out' old rest
      → step_by machine old.phase (pending old.framing ++ rest) ≡ stops why → out2 ≡ out' ++ at_fault machine.farewell why
      → (whole.point.closed ≡ Some why) × ((taken' ≡ taken ++ whole.updates) × (out2 ≡ out ++ whole.text))
  comes_closed taken' out' out2 old rest why c h said =
      let at : whole ≡ behind c.updates c.text (shuts machine old.phase (at_moment moment old.times) why) =
      c.goes ∙ ap (λ (z : List ℕ). behind c.updates c.text (runs_by machine old.phase (at_moment moment old.times) z))
      (sym (append-nil (pending old.framing ++ rest)))
      ∙ ap (behind c.updates c.text) (runs_stops machine old.phase (at_moment moment old.times) why (pending old.framing ++ rest) [] h) in
      let told : out2 ≡ out ++ (c.text ++ at_fault machine.farewell why) = said ∙ ap (λ (t : List ℕ). t ++ at_fault machine.farewell why) c.said
      ∙ append_assoc out c.text (at_fault machine.farewell why) in
      rw (at, append-nil c.updates) (refl, (c.took, told))

  -- all of the piece was taken
  came_all : (taken' : List Update) (out' : List ℕ) (line : Lined) (rest : List ℕ) → Came machine moment whole taken taken' out out' line rest → rest ≡ []
      → line.closed ≡ None → StandsAt machine line whole.point × ((taken' ≡ taken ++ whole.updates) × (out' ≡ out ++ whole.text))
  came_all taken' out' line rest c none opened =
      let resting : Handed = handed (point (pending line.framing) line.phase line.times None) [] [] in
      let at : whole ≡ behind c.comes.updates c.comes.text resting =
      c.comes.goes
      ∙ ap (λ (z : List ℕ). behind c.comes.updates c.comes.text (runs_by machine line.phase (at_moment moment line.times) z))
      (ap (λ (z : List ℕ). pending line.framing ++ z) none ∙ append-nil (pending line.framing))
      ∙ ap (λ (t : Times). behind c.comes.updates c.comes.text (runs_by machine line.phase t (pending line.framing))) c.moved_is
      ∙ ap (behind c.comes.updates c.comes.text) (runs_waits machine line.phase line.times (pending line.framing) c.comes.waits_is) in
      rw (at, append-nil c.comes.updates, append-nil c.comes.text) (
        record { closed_is = opened; open_is = λ e. record { waiting_is = refl; phase_is = refl; times_is = refl; waits_is = c.comes.waits_is } },
        (c.comes.took, c.comes.said),
      )

-- From a point: a closed end did nothing, and an opened one has come so far.
abbrev pub GoesFrom : Machine → ℕ → Lined → Lined → (piece rest : List ℕ) → (taken taken' : List Update) → (out out' : List ℕ) → Point → Option Closed → Type 0
GoesFrom machine moment old line piece rest taken taken' out out' now None =
    (line.closed ≡ None) × Comes machine moment (runs_by machine now.phase (at_moment moment now.times) (now.waiting ++ piece)) taken taken' out out' line rest
GoesFrom machine moment old line piece rest taken taken' out out' now (Some why) = (line ≡ old) × (taken' ≡ taken) × (out' ≡ out)

-- so from whatever point the end stood at
abbrev pub Going : Machine → ℕ → Lined → Lined → (piece rest : List ℕ) → (taken taken' : List Update) → (out out' : List ℕ) → Type 0
Going machine moment old line piece rest taken taken' out out' =
    (now : Point) → StandsAt machine old now → GoesFrom machine moment old line piece rest taken taken' out out' now now.closed

pub going_start : (machine : Machine) (moment : ℕ) (old : Lined) (piece : List ℕ) (taken : List Update) (out : List ℕ)
    → Going machine moment old old piece piece taken taken out out
going_start machine moment old piece taken out now stands = by now.closed refl
  where
    by : (how : Option Closed) → now.closed ≡ how → GoesFrom machine moment old old piece piece taken taken out out now how
    by (Some why) e = (refl, refl, refl)
    by None e =
        let at = stands.open_is e in (
          stands.closed_is ∙ e,
          record {
            updates = [];
            text = [];
            took = sym (append-nil taken);
            said = sym (append-nil out);
            waits_is = rw (at.phase_is, at.waiting_is) at.waits_is;
            goes = rw (at.waiting_is, at.times_is, at.phase_is) refl;
          },
        )

no_call : {A : Type 0} (why : Closed) (a : A) (how : Option Closed) (result : Result A Closed) → result ≡ Ok a → result ≡ Err why → ⊥
no_call why a how result e f = absurd cc

-- of an opened end a call goes on
went : (machine : Machine) (moment : ℕ) (old line new : Lined) (piece rest : List ℕ) (taken taken' : List Update) (out out' out2 : List ℕ) (count : ℕ)
    (update : Option Update)
    (result : Result (ℕ × Option Update) Closed) (now : Point) → result ≡ Ok (count, update) → StandsAt machine old now
    → StaysOver line new result out' out2 → FeedsOpen machine moment line new rest out' out2 result
    → (how : Option Closed) → now.closed ≡ how → GoesFrom machine moment old line piece rest taken taken' out out' now how
    → (how ≡ None) × Came machine moment (runs_by machine now.phase (at_moment moment now.times) (now.waiting ++ piece)) taken
    (taken' ++ updates_with update []) out out2 new (drop count rest)
went machine moment old line new piece rest taken taken' out out' out2 count update result now e stands stays feeds None opened g = (
  refl,
  comes_more machine moment (runs_by machine now.phase (at_moment moment now.times) (now.waiting ++ piece)) taken out taken' out' out2 line new rest
      count update g.1
      (subst (λ (r : Result (ℕ × Option Update) Closed). FeedsAt machine moment line new rest out' out2 r) e (feeds g.0)),
)
went machine moment old line new piece rest taken taken' out out' out2 count update result now e stands stays feeds (Some why) shut g =
    let closed : line.closed ≡ Some why = ap (λ (l : Lined). l.closed) g.0 ∙ stands.closed_is ∙ shut in
    absurd (no_call why (count, update) (Some why) result e (rw closed at stays).0)

pub going_more : (machine : Machine) (moment : ℕ) (old line new : Lined) (piece rest : List ℕ) (taken taken' : List Update) (out out' out2 : List ℕ) (count : ℕ)
    (update : Option Update) (result : Result (ℕ × Option Update) Closed) → result ≡ Ok (count, update)
    → Going machine moment old line piece rest taken taken' out out'
    → StaysOver line new result out' out2 → FeedsOpen machine moment line new rest out' out2 result → new.closed ≡ closed_after result
    → Going machine moment old new piece (drop count rest) taken (taken' ++ updates_with update []) out out2
going_more machine moment old line new piece rest taken taken' out out' out2 count update result e g stays feeds closed now stands =
    let w = went machine moment old line new piece rest taken taken' out out' out2 count update result now e stands stays feeds now.closed refl
    (g now stands) in
    subst (λ (how : Option Closed). GoesFrom machine moment old new piece (drop count rest) taken (taken' ++ updates_with update []) out out2 now how) (sym w.0)
    (closed ∙ ap closed_after e, w.1.comes)

-- the last call took the rest
pub hands_all : (machine : Machine) (moment : ℕ) (old line new : Lined) (piece rest : List ℕ) (taken taken' : List Update) (out out' out2 : List ℕ) (count : ℕ)
    (update : Option Update) (result : Result (ℕ × Option Update) Closed) → result ≡ Ok (count, update)
    → Going machine moment old line piece rest taken taken' out out'
    → StaysOver line new result out' out2 → FeedsOpen machine moment line new rest out' out2 result → new.closed ≡ closed_after result → drop count rest ≡ []
    → HandsOver machine moment old new piece taken (taken' ++ updates_with update []) out out2
hands_all machine moment old line new piece rest taken taken' out out' out2 count update result e g stays feeds closed none now stands =
    let w = went machine moment old line new piece rest taken taken' out out' out2 count update result now e stands stays feeds now.closed refl
    (g now stands) in
    rw (open_hand machine moment now piece w.0)
    (came_all machine moment (runs_by machine now.phase (at_moment moment now.times) (now.waiting ++ piece)) taken out
    (taken' ++ updates_with update []) out2 new (drop count rest) w.1 none
    (closed ∙ ap closed_after e))

pub close_is : (step : Step) (why : Closed) → (why ≡ Memory → ⊥) → CloseIs step why → step ≡ stops why
close_is step Memory other h = absurd (other refl)
close_is step (Fault code subcode) other h = h
close_is step (Notified code subcode) other h = h
close_is step NoFamily other h = h

-- the last call closed the end, or the end was closed
pub hands_closed : (machine : Machine) (moment : ℕ) (old line new : Lined) (piece rest : List ℕ) (taken taken' : List Update) (out out' out2 : List ℕ)
    (why : Closed)
    (result : Result (ℕ × Option Update) Closed) → result ≡ Err why → (why ≡ Memory → ⊥) → Going machine moment old line piece rest taken taken' out out'
    → StaysOver line new result out' out2 → FeedsOpen machine moment line new rest out' out2 result → new.closed ≡ closed_after result
    → HandsOver machine moment old new piece taken taken' out out2
hands_closed machine moment old line new piece rest taken taken' out out' out2 why result e other g stays feeds closed now stands =
    by now.closed refl (g now stands)
  where
    never : (what : Closed) → Some what ≡ None → ⊥
    never what h = absurd cc

    by : (how : Option Closed) → now.closed ≡ how → GoesFrom machine moment old line piece rest taken taken' out out' now how
        → StandsAt machine new (hand machine moment now piece).point
        × ((taken' ≡ taken ++ (hand machine moment now piece).updates) × (out2 ≡ out ++ (hand machine moment now piece).text))
    by None opened g =
        let fed : FeedsAt machine moment line new rest out' out2 (Err why) =
        subst (λ (r : Result (ℕ × Option Update) Closed). FeedsAt machine moment line new rest out' out2 r) e (feeds g.0) in
        let whole : Handed = runs_by machine now.phase (at_moment moment now.times) (now.waiting ++ piece) in
        let c = comes_closed machine moment whole taken out taken' out' out2 line rest why g.1
        (close_is (step_by machine line.phase (pending line.framing ++ rest)) why other fed.0) fed.1 in
        rw (open_hand machine moment now piece opened)
        (record { closed_is = closed ∙ ap closed_after e ∙ sym c.0; open_is = λ h. absurd (never why (sym c.0 ∙ h)) }, c.1)
    by (Some what) shut g =
        let was : line.closed ≡ Some what = ap (λ (l : Lined). l.closed) g.0 ∙ stands.closed_is ∙ shut in
        let kept = subst (λ (o : Option Closed). IfSome o (λ (w : Closed). (result ≡ Err w) × (new ≡ line) × (out2 ≡ out'))) was stays in
        rw (closed_hand machine moment now piece what shut, append-nil taken, append-nil out) (
          record { closed_is = ap (λ (l : Lined). l.closed) kept.1 ∙ was ∙ sym shut; open_is = λ h. absurd (never what (sym shut ∙ h)) },
          (g.1, kept.2 ∙ g.2),
        )

-- nothing lies behind a count that leaves nothing
pub rest_none : (count : ℕ) (rest : List ℕ) → length (take (length rest - count) (drop count rest)) ≡ 0 → drop count rest ≡ []
rest_none count rest h = nil_from_length (drop count rest) (ap length (sym (take_rest rest count)) ∙ h)
