-- One piece more.
use Rattle.fs_peering.proofs.Words.{Closed, Expires, Fault, Handed, Keeps, Machine, Point, Quiet, Tick, Times, at_moment, first_point, hand, handed}
use Rattle.fs_peering.proofs.Words.{message_text, point, runs_by, tick_at, ticked, ticks, ◌≡◌, ◌⊎◌, inl, inr, ℕ, suc, zero, ◌+◌, List}
use Rattle.fs_peering.proofs.Words.{[], ◌∷◌, ◌++◌, length, drop, take, Option, Some, None, refl, ap, sym, ◌∙◌, subst, arith, append_assoc, append-nil}
use Rattle.fs_peering.proofs.Words.{length-append, flat_map-append, map-append, none-some, closed_hand, ticked_by, Pieces, moments_in, octets_in}
use Rattle.fs_peering.proofs.Words.{after, hears, course, course_from}
use Rattle.std.proofs.Math.Seq.{drop-append_seam, take-append_seam}

-- so many KEEPALIVEs
abbrev pub keepalives : ℕ → List ℕ
keepalives zero = []
keepalives (suc n) = keepalives n ++ message_text 4 []

more : (machine : Machine) (now : Handed) (heard : Pieces) (event : ℕ × List ℕ)
    → course_from machine now (heard ++ event ∷ []) ≡ after (course_from machine now heard) (hears machine event (course_from machine now heard).point)
more machine now [] event = refl
more machine now (first ∷ heard) event = more machine (after now (hears machine first now.point)) heard event

pub course_more : (machine : Machine) (heard : Pieces) (event : ℕ × List ℕ)
    → course machine (heard ++ event ∷ []) ≡ after (course machine heard) (hears machine event (course machine heard).point)
course_more machine heard event = more machine (handed first_point [] []) heard event

-- the pieces but the last
pub but_last : (xs ys : Pieces) (x y : ℕ × List ℕ) → xs ++ x ∷ [] ≡ ys ++ y ∷ [] → xs ≡ ys
but_last xs ys x y e =
    let one : length (xs ++ x ∷ []) ≡ length xs + 1 = length-append xs (x ∷ []) in
    let other : length (ys ++ y ∷ []) ≡ length ys + 1 = length-append ys (y ∷ []) in
    let all : length (xs ++ x ∷ []) ≡ length (ys ++ y ∷ []) = ap (λ (z : Pieces). length z) e in
    let same : length xs ≡ length ys = omega (arith, one, other, all) in
    sym (take-append_seam xs (x ∷ [])) ∙ ap (λ (n : ℕ). take n (xs ++ x ∷ [])) same ∙ ap (take (length ys)) e ∙ take-append_seam ys (y ∷ [])

-- and the last
pub last_one : (xs ys : Pieces) (x y : ℕ × List ℕ) → xs ++ x ∷ [] ≡ ys ++ y ∷ [] → x ≡ y
last_one xs ys x y e =
    let one : length (xs ++ x ∷ []) ≡ length xs + 1 = length-append xs (x ∷ []) in
    let other : length (ys ++ y ∷ []) ≡ length ys + 1 = length-append ys (y ∷ []) in
    let all : length (xs ++ x ∷ []) ≡ length (ys ++ y ∷ []) = ap (λ (z : Pieces). length z) e in
    let same : length xs ≡ length ys = omega (arith, one, other, all) in
    ap (λ (z : Pieces). elim z [ [] ↦ x | first ∷ more ↦ first ])
    (sym (drop-append_seam xs (x ∷ [])) ∙ ap (λ (n : ℕ). drop n (xs ++ x ∷ [])) same ∙ ap (drop (length ys)) e ∙ drop-append_seam ys (y ∷ []))

pub octets_more : (heard : Pieces) (moment : ℕ) (piece : List ℕ) → octets_in (heard ++ (moment, piece) ∷ []) ≡ octets_in heard ++ piece
octets_more heard moment piece = flat_map-append (λ (p : ℕ × List ℕ). p.1) heard ((moment, piece) ∷ [])
    ∙ ap (λ (z : List ℕ). octets_in heard ++ z) (append-nil piece)

pub moments_more : (heard : Pieces) (moment : ℕ) (piece : List ℕ) → moments_in (heard ++ (moment, piece) ∷ []) ≡ moments_in heard ++ moment ∷ []
moments_more heard moment piece = map-append (λ (p : ℕ × List ℕ). p.0) heard ((moment, piece) ∷ [])

-- what each piece more leaves true is true of all
module _ (P : Pieces → Type 0) (step : (heard : Pieces) (event : ℕ × List ℕ) → P heard → P (heard ++ event ∷ [])) where
  behind : (earlier later : Pieces) → P earlier → P (earlier ++ later)
  behind earlier [] p = subst P (sym (append-nil earlier)) p
  behind earlier (event ∷ later) p =
      subst P (append_assoc earlier (event ∷ []) later) (behind _ _ (step earlier event p))

  pub by_pieces : P [] → (heard : Pieces) → P heard
  by_pieces none heard = behind _ _ none

-- What an open end makes of a piece where its hold time hasn't expired: the clock says KEEPALIVEs, and none without a hold
-- time; then the octets in hand are run.
pub record Steps (machine : Machine) (event : ℕ × List ℕ) (now : Point) : Type 0 where
  pub times : Times
  pub greatest : times.greatest ≡ (at_moment event.0 now.times).greatest
  pub taken : times.taken ≡ now.times.taken
  pub kept : ℕ
  pub point_is : (hears machine event now).point ≡ (runs_by machine now.phase times (now.waiting ++ event.1)).point
  pub text_is : (hears machine event now).text ≡ keepalives kept ++ (runs_by machine now.phase times (now.waiting ++ event.1)).text
  pub untimed : now.phase.hold ≡ 0 → kept ≡ 0

module _ (machine : Machine) (event : ℕ × List ℕ) (now : Point) where
  abbrev then_at : Times
  then_at = at_moment event.0 now.times

  pub woke_is : (tick : Tick) → now.closed ≡ None → tick_at now.phase.hold then_at ≡ tick → ticked event.0 now ≡ ticks tick now.waiting now.phase then_at
  woke_is tick e k = ap (ticked_by event.0 now) e ∙ ap (λ (x : Tick). ticks x now.waiting now.phase then_at) k

  stepped : (times : Times) (kept : ℕ) → times.greatest ≡ then_at.greatest → times.taken ≡ now.times.taken
      → ticked event.0 now ≡ handed (point now.waiting now.phase times None) [] (keepalives kept) → (now.phase.hold ≡ 0 → kept ≡ 0)
      → Steps machine event now
  stepped times kept g t w untimed = record {
    times = at_moment event.0 times;
    greatest = omega (arith, g);
    taken = t;
    kept = kept;
    point_is = ap (λ (m : Handed). (hand machine event.0 m.point event.1).point) w;
    text_is = ap (λ (m : Handed). m.text ++ (hand machine event.0 m.point event.1).text) w;
    untimed = untimed;
  }

  timed : tick_at now.phase.hold then_at ≡ Keeps → now.phase.hold ≡ 0 → ◌≡◌ {A = ℕ} 1 0
  timed k z = absurd (quiet (subst (λ (n : ℕ). tick_at n then_at ≡ Keeps) z k))
    where
      quiet : Quiet ≡ Keeps → ⊥
      quiet h = cc

  pub steps : now.closed ≡ None → Steps machine event now ⊎ (tick_at now.phase.hold (at_moment event.0 now.times) ≡ Expires)
  steps e = by (tick_at now.phase.hold then_at) refl
    where
      by : (tick : Tick) → tick_at now.phase.hold then_at ≡ tick → Steps machine event now ⊎ (tick_at now.phase.hold then_at ≡ Expires)
      by Quiet k = inl (stepped _ _ refl refl (woke_is _ e k) (λ z. refl))
      by Keeps k = inl (stepped _ _ refl refl (woke_is _ e k) (timed k))
      by Expires k = inr k

  shut : (why : Closed) → (ticked event.0 now).point.closed ≡ Some why → (hears machine event now).point.closed ≡ Some why
  shut why e = ap (λ (h : Handed). h.point.closed) (closed_hand machine event.0 (ticked event.0 now).point event.1 why e) ∙ e

  -- a closed end stays as it is
  pub stays_shut : (why : Closed) → now.closed ≡ Some why → (hears machine event now).point.closed ≡ Some why
  stays_shut why e = shut _ (ap (λ (m : Handed). m.point.closed) (ap (ticked_by event.0 now) e) ∙ e)

  -- an end that is open behind it was so before, and its hold time didn't expire
  pub lived : (hears machine event now).point.closed ≡ None → (now.closed ≡ None) × Steps machine event now
  lived end = by _ refl
    where
      at : now.closed ≡ None → Steps machine event now ⊎ (tick_at now.phase.hold (at_moment event.0 now.times) ≡ Expires)
          → (now.closed ≡ None) × Steps machine event now
      at e (inl s) = (e, s)
      at e (inr k) = absurd (none-some (Fault 4 0) (sym end ∙ shut _ (ap (λ (m : Handed). m.point.closed) (woke_is _ e k))))

      by : (c : Option Closed) → now.closed ≡ c → (now.closed ≡ None) × Steps machine event now
      by None e = at e (steps e)
      by (Some why) e = absurd (none-some why (sym end ∙ stays_shut _ e))
