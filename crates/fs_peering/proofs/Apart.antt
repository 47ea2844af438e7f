-- Of all moments a later one lies so far above an earlier one where some of them do.
use Rattle.fs_peering.proofs.Words.{Config, Expires, Fault, Last, Machine, Peer, Sending, Update, announcer, at_moment, needs_of, receiver, tick_at}
use Rattle.fs_peering.proofs.Words.{◌≡◌, ◌⊎◌, inl, inr, ℕ, ◌+◌, ◌<◌, ◌≤◌, nat_le, List, [], ◌∷◌, ◌++◌, length, Bool, true, false, not, flat_map}
use Rattle.fs_peering.proofs.Words.{if◌then◌else◌, None, Some, refl, ap, sym, ◌∙◌, ◌*◌, subst, append_assoc, arith, nat_tests, flat_map-append}
use Rattle.fs_peering.proofs.Words.{map-append, Spans, most, Heard, heard_by, moments_of, of_first, of_second, Pieces, moments_in, octets_in}
use Rattle.fs_peering.proofs.Words.{ClosesIn, ExpiresAt, HasClosed, LieApart, Reaches, RunsLate, told_by, course}
use Rattle.fs_peering.proofs.{Moments.{expires_late, positive}, Expiring.{Expired, bounded_late, closed_late}, StaysOpen.{stands}}

reaches_behind : (least : ℕ) (xs ys : List ℕ) → Reaches least ys → Reaches least (xs ++ ys)
reaches_behind least [] ys r = r
reaches_behind least (x ∷ xs) ys r = inr (reaches_behind least xs ys r)

reaches_front : (least : ℕ) (xs ys : List ℕ) → Reaches least xs → Reaches least (xs ++ ys)
reaches_front least [] ys r = absurd r
reaches_front least (x ∷ xs) ys (inl h) = inl h
reaches_front least (x ∷ xs) ys (inr r) = inr (reaches_front least xs ys r)

pub apart_front : (least : ℕ) (xs ys : List ℕ) → LieApart least xs → LieApart least (xs ++ ys)
apart_front least [] ys a = absurd a
apart_front least (x ∷ xs) ys (inl r) = inl (reaches_front _ _ _ r)
apart_front least (x ∷ xs) ys (inr a) = inr (apart_front least xs ys a)

-- the greatest of them is one
reaches_most : (least : ℕ) (xs : List ℕ) → 0 < least → least ≤ most xs → Reaches least xs
reaches_most least [] some far = absurd (omega (arith, some, far))
reaches_most least (x ∷ xs) some far = by (λ f. reaches_most least xs some f) (nat_le least x) refl
  where
    is : nat_le least x ≡ true → least ≤ x
    is h = grind (arith, nat_tests, h)

    other : nat_le least x ≡ false → x < least
    other h = grind (arith, nat_tests, h)

    by : (least ≤ most xs → Reaches least xs) → (b : Bool) → nat_le least x ≡ b → Reaches least (x ∷ xs)
    by rest true h = inl (is h)
    by rest false h = let below = other h in inr (rest (omega (arith, far, below)))

pub apart_spans : (least : ℕ) (moments : List ℕ) → 0 < least → Spans least moments → LieApart least moments
apart_spans least moments some s = subst (LieApart least) (sym s.split) (by s.earlier s.some s.apart)
  where
    by : (earlier : List ℕ) → 0 < length earlier → most earlier + least ≤ most s.later → LieApart least (earlier ++ s.later)
    by [] none far = absurd (omega (arith, none))
    by (x ∷ xs) one far =
        inl (reaches_behind (x + least) xs s.later (reaches_most (x + least) s.later (omega (arith, some)) (omega (arith, far))))

-- those of one end are some of both
module _ (which : Bool) where
  abbrev of_one : List Heard → Pieces
  of_one events = flat_map (heard_by which) events

  reaches_one : (least : ℕ) (events : List Heard) → Reaches least (moments_in (of_one events)) → Reaches least (moments_of events)
  reaches_one least [] r = absurd r
  reaches_one least (event ∷ events) r = by (λ k. reaches_one least events k) (if which then event.first else not event.first) r
    where
      by : (Reaches least (moments_in (of_one events)) → Reaches least (moments_of events)) → (b : Bool)
          → Reaches least (moments_in ((if b then (event.moment, event.piece) ∷ [] else []) ++ of_one events)) → Reaches least (moments_of (event ∷ events))
      by rest true (inl h) = inl h
      by rest true (inr k) = inr (rest k)
      by rest false k = inr (rest k)

  pub apart_one : (least : ℕ) (events : List Heard) → LieApart least (moments_in (of_one events)) → LieApart least (moments_of events)
  apart_one least [] a = absurd a
  apart_one least (event ∷ events) a = by (λ k. apart_one least events k) (if which then event.first else not event.first) a
    where
      by : (LieApart least (moments_in (of_one events)) → LieApart least (moments_of events)) → (b : Bool)
          → LieApart least (moments_in ((if b then (event.moment, event.piece) ∷ [] else []) ++ of_one events)) → LieApart least (moments_of (event ∷ events))
      by rest true (inl r) = inl (reaches_one _ events r)
      by rest true (inr k) = inr (rest k)
      by rest false k = inr (rest k)

-- the hold time of an end expired at one of the moments
module _ (machine : Machine) (heard earlier later : Pieces) (event : ℕ × List ℕ) (split : heard ≡ earlier ++ event ∷ later)
    (lived : (course machine earlier).point.closed ≡ None)
    (due : tick_at (course machine earlier).point.phase.hold (at_moment event.0 (course machine earlier).point.times) ≡ Expires) where
  abbrev hold : ℕ
  hold = (course machine earlier).point.phase.hold

  far : LieApart (1000 * hold) (moments_in heard)
  far =
      let late = expires_late machine earlier event.0 lived due in
      subst (LieApart (1000 * hold)) (append_assoc (moments_in earlier) (event.0 ∷ []) (moments_in later)
      ∙ sym (ap moments_in split ∙ map-append (λ (e : ℕ × List ℕ). e.0) earlier (event ∷ later)))
      (apart_front (1000 * hold) (moments_in earlier ++ event.0 ∷ []) (moments_in later)
      (apart_spans _ _ (positive _ late.0) late.1))

  runs_late : (given : List ℕ) → ((least : ℕ) → LieApart least (moments_in heard) → LieApart least given) → RunsLate machine heard given
  runs_late given lift = record {
    taken = octets_in earlier;
    untaken = octets_in (event ∷ later);
    split = ap octets_in split ∙ flat_map-append (λ (e : ℕ × List ℕ). e.1) earlier (event ∷ later);
    phase = (course machine earlier).point.phase;
    found = (stands _ earlier lived).found;
    timed = (expires_late machine earlier event.0 lived due).0;
    apart = lift (1000 * hold) far;
  }

pub late_first : (config : Config) (peer : ℕ) (whose : Peer) (events : List Heard) (replied : List ℕ)
    → HasClosed config peer whose (of_first events) replied (Fault 4 0)
    → RunsLate (receiver config whose) (of_first events) (moments_of events)
late_first config peer whose events replied c = by c.closes
  where
    by : ExpiresAt config whose c.earlier c.moment replied (Fault 4 0) ⊎ ClosesIn config peer whose c.earlier c.moment c.piece replied (Fault 4 0)
        → RunsLate (receiver config whose) (of_first events) (moments_of events)
    by (inl x) = runs_late _ _ _ _ _ c.split c.lived x.due _ (λ least a. apart_one true _ _ a)
    by (inr y) = absurd (bounded_late config whose _ (ap (λ (z : List Update × Last). z.1) (y.over.stays [])))

pub late_second : (config : Config) (sending : Sending) (events : List Heard) → (told_by config sending (of_second events)).point.closed ≡ Some (Fault 4 0)
    → RunsLate (announcer config (needs_of sending.rules)) (of_second events) (moments_of events)
late_second config sending events c =
    let machine : Machine = announcer config (needs_of sending.rules) in
    let x : Expired machine (of_second events) = closed_late _ _ c in
    runs_late _ _ _ _ _ x.split x.lived x.due _ (λ least a. apart_one false _ _ a)
