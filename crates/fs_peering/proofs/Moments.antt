-- The moments of an end, one more at a time, and when its hold time expires.
use Rattle.fs_peering.proofs.Words.{Expires, Keeps, Quiet, Times, tick_at, Closed, Established, Handed, Machine, Message, MessageFault, Phase, Point}
use Rattle.fs_peering.proofs.Words.{State, Update, WaitKeep, WaitOpen, at_moment, at_start, handed, point, runs}
use Rattle.fs_peering.proofs.Words.{runs_by, shuts, taken_in, transition_by, ◌≡◌, ◌<◌, ◌≤◌, ℕ, ◌-◌, max, List, [], ◌∷◌, ◌++◌, length, ap}
use Rattle.fs_peering.proofs.Words.{sym, ◌∙◌, arith, append_assoc, append-nil, ◌≢◌, ◌==◌, ◌*◌, suc, zero, Bool, true, false, if◌then◌else◌, nat_le}
use Rattle.fs_peering.proofs.Words.{refl, subst, ◌⊎◌, inl, inr, ◌+◌, Option, Some, None, Result, Ok, Err, length-append, IsTakenAt, Spans, most}
use Rattle.fs_peering.proofs.Words.{AreTimely, nat_tests, none-some, ran, runs_none, runs_step, Pieces, moments_in, after, hears, course, course_from}
use Rattle.fs_peering.proofs.Courses.{Steps, lived}
use Rattle.fs_speaker.specs.declared.State.TheVariants.{Closed as IsClosed}

pub most_append : (xs ys : List ℕ) → most (xs ++ ys) ≡ max (most xs) (most ys)
most_append [] ys = omega arith
most_append (x ∷ xs) ys = let h : most (xs ++ ys) ≡ max (most xs) (most ys) = most_append xs ys in omega (arith, h)

pub most_more : (xs : List ℕ) (m : ℕ) → most (xs ++ m ∷ []) ≡ max (most xs) m
most_more xs m = let h : most (xs ++ m ∷ []) ≡ max (most xs) (max m 0) = most_append _ _ in omega (arith, h)

pub taken_later : (moments : List ℕ) (taken m : ℕ) → IsTakenAt moments taken → IsTakenAt (moments ++ m ∷ []) taken
taken_later moments taken m t = record {
  earlier = t.earlier;
  later = t.later ++ m ∷ [];
  split = ap (λ (z : List ℕ). z ++ m ∷ []) t.split ∙ append_assoc t.earlier t.later (m ∷ []);
  some = t.some;
  taken_is = t.taken_is;
}

-- the last moment is the one at which a message is taken
pub taken_now : (moments : List ℕ) (greatest : ℕ) → 0 < length moments → greatest ≡ most moments → IsTakenAt moments greatest
taken_now moments greatest some e = record { earlier = moments; later = []; split = sym (append-nil moments); some = some; taken_is = e }

-- the hold time expired at the last of them
pub spans_now : (moments : List ℕ) (greatest taken least : ℕ) → greatest ≡ most moments → IsTakenAt moments taken → 0 < least → least ≤ greatest - taken
    → Spans least moments
spans_now moments greatest taken least e t some far = record {
  earlier = t.earlier;
  later = t.later;
  split = t.split;
  some = t.some;
  apart =
      let all : most moments ≡ max (most t.earlier) (most t.later) = ap most t.split ∙ most_append _ _ in
      omega (arith, all, e, t.taken_is, some, far);
}

-- what a tick says of the hold time
pub expires_timed : (hold : ℕ) (now : Times) → tick_at hold now ≡ Expires → hold ≢ 0
expires_timed hold now h zero_is = quiet (subst (λ (n : ℕ). tick_at n now ≡ Expires) zero_is h)
  where
    quiet : Quiet ≡ Expires → ⊥
    quiet e = cc

pub expires_far : (hold : ℕ) (now : Times) → tick_at hold now ≡ Expires → 1000 * hold ≤ now.greatest - now.taken
expires_far hold now h =
    let far : nat_le (1000 * hold) (now.greatest - now.taken) ≡ true =
    by (hold == 0) (nat_le (1000 * hold) (now.greatest - now.taken)) (nat_le (1000 * hold) (3 * (now.greatest - now.written))) h in
    grind (arith, nat_tests, far)
  where
    by : (a b c : Bool) → (if a then Quiet else if b then Expires else if c then Keeps else Quiet) ≡ Expires → b ≡ true
    by true b c e = absurd cc
    by false true c e = refl
    by false false true e = absurd cc
    by false false false e = absurd cc

pub positive : (n : ℕ) → n ≢ 0 → 0 < 1000 * n
positive zero h = absurd (h refl)
positive (suc n) h = omega arith

abbrev Made : Type 0
Made = Result (Phase × Option Update) Closed

-- what stays open has its moments, or took a message at the greatest of them
abbrev Later : Phase → Times → Point → Type 0
Later now times made =
    ((made.phase ≡ now) × (made.times ≡ times)) ⊎ ((made.times.taken ≡ times.greatest) × (made.times.greatest ≡ times.greatest))

abbrev LaterOpen : Phase → Times → Handed → Type 0
LaterOpen now times made = made.point.closed ≡ None → Later now times made.point

took_now : (state : State) (times : Times) → ((taken_in state times).taken ≡ times.greatest) × ((taken_in state times).greatest ≡ times.greatest)
took_now WaitOpen times = (refl, refl)
took_now WaitKeep times = (refl, refl)
took_now Established times = (refl, refl)
took_now IsClosed times = (refl, refl)

shut_later : (machine : Machine) (now at : Phase) (times : Times) (why : Closed) → LaterOpen now times (shuts machine at times why)
shut_later machine now at times why e = absurd (none-some why (sym e))

runs_later : (machine : Machine) (messages : List Message) (now : Phase) (times : Times) (waiting : List ℕ) (wrong : Option MessageFault)
    → LaterOpen now times (runs machine now times messages waiting wrong)
runs_later machine [] now times waiting None =
    subst (LaterOpen now times) (sym (runs_none machine now times waiting None)) (λ e. inl (refl, refl))
runs_later machine [] now times waiting (Some fault) =
    subst (LaterOpen now times) (sym (runs_none machine now times waiting (Some fault))) (shut_later machine _ _ _ _)
runs_later machine (message ∷ messages) now times waiting wrong =
    subst (LaterOpen now times) (sym (runs_step machine now times message messages waiting wrong))
    (by (λ next. runs_later _ _ _ _ _ _) (transition_by machine now message))
  where
    by : ((next : Phase) → LaterOpen next (taken_in now.state times) (runs machine next (taken_in now.state times) messages waiting wrong)) → (made : Made)
        → LaterOpen now times (ran machine now times made (λ next. runs machine next (taken_in now.state times) messages waiting wrong))
    by rest (Ok next) e = at (rest next.0 e)
      where
        took : ((taken_in now.state times).taken ≡ times.greatest) × ((taken_in now.state times).greatest ≡ times.greatest)
        took = took_now now.state _

        later : Point
        later = (runs machine next.0 (taken_in now.state times) messages waiting wrong).point

        at : Later next.0 (taken_in now.state times) later → Later now times later
        at (inl k) = inr (ap (λ (t : Times). t.taken) k.1 ∙ took.0, ap (λ (t : Times). t.greatest) k.1 ∙ took.1)
        at (inr k) = inr (k.0 ∙ took.1, k.1 ∙ took.1)
    by rest (Err why) e = shut_later machine _ _ _ _ e

abbrev Timely : List ℕ → Handed → Type 0
Timely moments made = made.point.closed ≡ None → AreTimely moments made.point.phase.hold made.point.times

timely_more : (machine : Machine) (moments : List ℕ) (now : Handed) (event : ℕ × List ℕ) → Timely moments now
    → Timely (moments ++ event.0 ∷ []) (after now (hears machine event now.point))
timely_more machine moments now event t end =
    subst (λ (p : Point). AreTimely all p.phase.hold p.times) (sym k.point_is) (at (runs_later _ _ _ _ _ _
    (sym (ap (λ (p : Point). p.closed) k.point_is) ∙ end)))
  where
    all : List ℕ
    all = moments ++ event.0 ∷ []

    octets : List ℕ
    octets = now.point.waiting ++ event.1

    live : (now.point.closed ≡ None) × Steps machine event now.point
    live = lived _ _ _ end

    k : Steps machine event now.point
    k = live.1

    before : AreTimely moments now.point.phase.hold now.point.times
    before = t live.0

    all_greatest : k.times.greatest ≡ most all
    all_greatest = k.greatest ∙ ap (λ (n : ℕ). max n event.0) before.greatest_is ∙ sym (most_more _ _)

    some_moment : 0 < length all
    some_moment = let e : length all ≡ length moments + 1 = length-append moments (event.0 ∷ []) in omega (arith, e)

    at : Later now.point.phase k.times (runs_by machine now.point.phase k.times octets).point
        → AreTimely all (runs_by machine now.point.phase k.times octets).point.phase.hold (runs_by machine now.point.phase k.times octets).point.times
    at (inl l) = record {
      greatest_is = ap (λ (x : Times). x.greatest) l.1 ∙ all_greatest;
      taken_is = λ timed. subst (IsTakenAt all) (sym (ap (λ (x : Times). x.taken) l.1 ∙ k.taken))
          (taken_later _ _ _ (before.taken_is (λ z. timed (ap (λ (p : Phase). p.hold) l.0 ∙ z))));
    }
    at (inr l) = record {
      greatest_is = l.1 ∙ all_greatest;
      taken_is = λ timed. taken_now _ _ some_moment (l.0 ∙ all_greatest);
    }

timely_on : (machine : Machine) (moments : List ℕ) (now : Handed) → Timely moments now → (heard : Pieces)
    → Timely (moments ++ moments_in heard) (course_from machine now heard)
timely_on machine moments now t [] = subst (λ (ms : List ℕ). Timely ms now) (sym (append-nil moments)) t
timely_on machine moments now t (event ∷ heard) =
    subst (λ (ms : List ℕ). Timely ms (course_from machine (after now (hears machine event now.point)) heard))
    (append_assoc moments (event.0 ∷ []) (moments_in heard))
    (timely_on machine (moments ++ event.0 ∷ []) (after now (hears machine event now.point)) (timely_more machine moments now event t) heard)

pub timely_course : (machine : Machine) (heard : Pieces) → Timely (moments_in heard) (course machine heard)
timely_course machine heard =
    timely_on machine [] (handed (point [] at_start (record { greatest = 0; taken = 0; written = 0 }) None) [] [])
    (λ e. record { greatest_is = refl; taken_is = λ timed. absurd (timed refl) }) heard

pub expires_late : (machine : Machine) (heard : Pieces) (moment : ℕ) → (course machine heard).point.closed ≡ None
    → tick_at (course machine heard).point.phase.hold (at_moment moment (course machine heard).point.times) ≡ Expires
    → ((course machine heard).point.phase.hold ≢ 0) × Spans (1000 * (course machine heard).point.phase.hold) (moments_in heard ++ moment ∷ [])
expires_late machine heard moment alive due =
    let here : Point = (course machine heard).point in
    let timely : AreTimely (moments_in heard) here.phase.hold here.times = timely_course _ _ alive in
    let timed : here.phase.hold ≢ 0 = expires_timed _ _ due in (
      timed,
      spans_now _ _ _ _ (ap (λ (n : ℕ). max n moment) timely.greatest_is ∙ sym (most_more _ _))
          (taken_later _ _ _ (timely.taken_is timed)) (positive _ timed) (expires_far _ _ due),
    )
