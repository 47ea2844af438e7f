-- Which rules may take all packets of another by the single numbers that they ask for, and where these stand in order.
use Rattle.fs_shadow.proofs.Words.{◌≡◌, ℕ, zero, suc, ◌+◌, ◌-◌, ◌^◌, ◌<◌, ◌≤◌, ◌==◌, inl, inr, Bool, true, false, not, ◌&&◌, if◌then◌else◌, Option}
use Rattle.fs_shadow.proofs.Words.{Some, None, List, [], ◌∷◌, get_or, length, max, take, drop, refl, sym, ap, subst, ◌∙◌, arith, AllByRecursion}
use Rattle.fs_shadow.proofs.Words.{list_all, list_any, slice_get, cases_Bool, cases_lt, eq-eqb, or_cases, true≢false, none-some, afi_of, or_first}
use Rattle.fs_shadow.proofs.Words.{or_second, compares, holds, contains, Extent, Numbers, Bits, Measure, Outline, implies, may_lie_in, Part, Listed}
use Rattle.fs_shadow.proofs.Words.{each_got, AreMeasuresOf, IsMeasureOf, IsTold, TakesIn, TakesOne, extent_lies_in, has_probe, is_probed, key_in}
use Rattle.fs_shadow.proofs.Words.{measure_lies_in, number_or_none, AreOutlinesOf, IsFirst, IsOutlineOf, first_taker, is_asked, is_number, key_of}
use Rattle.fs_shadow.proofs.Words.{outline_takes_all, probes, takes_as}
use Rattle.fs_shadow.proofs.Below.{each_below, follows}
use Rattle.fs_shadow.specs.declared.extents.Extent.TheVariants.{V4, V6}
use Rattle.fs_base.proofs.Bools.{and_parts}

-- the key

-- what lies in an extent with one number has none but that
held_is : (e f : Extent) (w n : ℕ) → extent_lies_in e f ≡ true → TakesIn e w → TakesOne f → TakesIn f n → w ≡ n
held_is (Numbers xs) (Numbers ys) w n lies held one has =
    one w n held.0 has.0 (follows (contains xs w) (contains ys w) (each_below (2 ^ 64) (λ k. implies (contains xs k) (contains ys k)) lies w held.0)
    held.1) has.1
held_is (Numbers xs) (V4 y) w n lies held one has = absurd one
held_is (Numbers xs) (V6 y) w n lies held one has = absurd one
held_is (Numbers xs) (Bits y) w n lies held one has = absurd one
held_is (V4 x) f w n lies held one has = absurd held
held_is (V6 x) f w n lies held one has = absurd held
held_is (Bits x) f w n lies held one has = absurd held

-- and is probed
has_held : (e f : Extent) (held : Option ℕ) → extent_lies_in e f ≡ true → TakesOne f → has_probe e held ≡ true → (held ≡ None → ⊥)
has_held e (V4 y) held lies one probed none = absurd one
has_held e (V6 y) held lies one probed none = absurd one
has_held e (Bits y) held lies one probed none = absurd one
has_held (Numbers xs) (Numbers ys) held lies one probed none = true≢false (sym probed ∙ ap (has_probe (Numbers xs)) none)
has_held (V4 x) (Numbers ys) held lies one probed none = true≢false (sym lies)
has_held (V6 x) (Numbers ys) held lies one probed none = true≢false (sym lies)
has_held (Bits x) (Numbers ys) held lies one probed none = true≢false (sym lies)

-- one pair holds of a number where its comparison does
pub one_holds : (k : ℕ) (pairs : List (ℕ × ℕ)) → 1 ≤ length pairs → length pairs < 2 → holds (compares k) pairs ≡ true
    → compares k (get_or pairs 0 (0, 0)) ≡ true
one_holds k [] least below h = absurd (omega (arith, least))
one_holds k (p ∷ q ∷ ps) least below h = absurd (omega (arith, below))
one_holds k (p ∷ []) least below h = elim (or_cases (compares k p && true) false h) [
  | inl one ↦ (and_parts (compares k p) true one).0
  | inr none ↦ absurd (true≢false (sym none))
]

-- a measure that lies in one with one number probes it
measure_probes : (inner outer : Measure) (n : ℕ) → IsTold inner → IsTold outer → outer.single ≡ true → outer.held ≡ Some n → is_probed inner ≡ true
    → measure_lies_in inner outer ≡ true → probes n inner ≡ true
measure_probes inner outer n told also single has probed lies = at inner.held refl
  where
    p : (may_lie_in inner.kind outer.kind ≡ true) × (extent_lies_in inner.extent outer.extent ≡ true)
    p = and_parts (may_lie_in inner.kind outer.kind) (extent_lies_in inner.extent outer.extent) lies

    at : (o : Option ℕ) → inner.held ≡ o → is_number n inner.held ≡ true
    at None e = absurd (has_held inner.extent outer.extent inner.held p.1 (also.single single) probed e)
    at (Some w) e =
        let same : w ≡ n = held_is inner.extent outer.extent w n p.1 (told.held w e) (also.single single) (also.held n has) in
        ap (is_number n) e ∙ eq-eqb w n same

any_probes : (outer : Measure) (n : ℕ) (inner : List Measure) → AllByRecursion IsTold inner → IsTold outer → outer.single ≡ true → outer.held ≡ Some n
    → list_all is_probed inner ≡ true
    → list_any (λ m. measure_lies_in m outer) inner ≡ true → list_any (probes n) inner ≡ true
any_probes outer n [] told also single has probed lies = lies
any_probes outer n (m ∷ ms) told also single has probed lies =
    let p = and_parts (is_probed m) (list_all is_probed ms) probed in
    elim (or_cases (measure_lies_in m outer) (list_any (λ m. measure_lies_in m outer) ms) lies) [
      | inl here ↦ or_first (probes n m) (list_any (probes n) ms) (measure_probes m outer n told.0 also single has p.0 here)
      | inr later ↦ or_second (probes n m) (list_any (probes n) ms) (any_probes outer n ms told.1 also single has p.1 later)
    ]

one_asked : (m : Measure) (inner : List Measure) → AllByRecursion IsTold inner → IsTold m → list_all is_probed inner ≡ true
    → list_any (λ q. measure_lies_in q m) inner ≡ true → is_asked inner (key_in m) ≡ true
one_asked m inner told also probed lies = at m.single refl m.held refl
  where
    none : is_asked inner 0 ≡ true
    none = or_first (0 == 0) (list_any (probes 0) inner) refl

    at : (b : Bool) → m.single ≡ b → (o : Option ℕ) → m.held ≡ o → is_asked inner (if m.single then number_or_none m.held else 0) ≡ true
    at false e o f = (λ i. is_asked inner (if e i then number_or_none m.held else 0)) ∙ none
    at true e None f = (λ i. is_asked inner (if e i then number_or_none (f i) else 0)) ∙ none
    at true e (Some n) f =
        (λ i. is_asked inner (if e i then number_or_none (f i) else 0))
        ∙ or_second (n == 0) (list_any (probes n) inner) (any_probes m n inner told also e f probed lies)

asked_for : (measures inner : List Measure) → AllByRecursion IsTold measures → AllByRecursion IsTold inner → list_all is_probed inner ≡ true
    → list_all (λ outer. list_any (λ m. measure_lies_in m outer) inner) measures ≡ true → is_asked inner (key_of measures) ≡ true
asked_for [] inner told also probed all = or_first (0 == 0) (list_any (probes 0) inner) refl
asked_for (m ∷ ms) inner told also probed all =
    let p = and_parts (list_any (λ q. measure_lies_in q m) inner) (list_all (λ outer. list_any (λ q. measure_lies_in q outer) inner) ms) all in
    let rest : is_asked inner (key_of ms) ≡ true = asked_for ms inner told.1 also probed p.1 in
    let first : is_asked inner (key_in m) ≡ true = one_asked m inner also told.0 probed p.0 in
    elim (cases_lt (key_in m) (key_of ms)) [
      | inl less ↦ ap (is_asked inner) (let e : max (key_in m) (key_of ms) ≡ key_of ms = omega (arith, less) in e) ∙ rest
      | inr most ↦ ap (is_asked inner) (let e : max (key_in m) (key_of ms) ≡ key_in m = omega (arith, most) in e) ∙ first
    ]

-- a rule that takes all packets of another is asked for
pub takers_asked : (earlier later : Outline) → AllByRecursion IsTold earlier.measures.items → AllByRecursion IsTold later.measures.items
    → list_all is_probed later.measures.items ≡ true
    → outline_takes_all earlier later ≡ true → is_asked later.measures.items (key_of earlier.measures.items) ≡ true
takers_asked earlier later told also probed takes =
    let p = and_parts (not earlier.goes_on)
    ((afi_of earlier.family == afi_of later.family)
    && list_all (λ outer. list_any (λ inner. measure_lies_in inner outer) later.measures.items) earlier.measures.items) takes in
    let q = and_parts (afi_of earlier.family == afi_of later.family)
    (list_all (λ outer. list_any (λ inner. measure_lies_in inner outer) later.measures.items) earlier.measures.items) p.1 in
    asked_for earlier.measures.items later.measures.items told also probed q.1

-- the first that takes all packets

pub found : (later : Outline) (place s : ℕ) (window : List Outline) → s ≤ place
    → ((i : ℕ) (o : Outline) → slice_get window i ≡ Some o → s + i < place → outline_takes_all o later ≡ false)
    → takes_as (slice_get window (place - s)) later ≡ true → first_taker s window later ≡ Some place
found later place s [] from none takes = absurd (true≢false (sym takes))
found later place s (o ∷ os) from none takes = elim (cases_lt s place) [
  | inl less ↦
      ap (λ (b : Bool). if b then Some s else first_taker (s + 1) os later) (none 0 o refl (omega (arith, less)))
      ∙ found later place (s + 1) os (omega (arith, less)) (λ i x e l. none (suc i) x e (omega (arith, l)))
      (subst (λ k. takes_as (slice_get (o ∷ os) k) later ≡ true) (let e : place - s ≡ suc (place - (s + 1)) = omega (arith, less) in e) takes)
  | inr most ↦
      ap (λ (b : Bool). if b then Some s else first_taker (s + 1) os later)
      (subst (λ k. takes_as (slice_get (o ∷ os) k) later ≡ true) (let e : place - s ≡ 0 = omega (arith, most) in e) takes)
      ∙ ap Some (let e : s ≡ place = omega (arith, most, from) in e)
]

pub none_found : (later : Outline) (s : ℕ) (window : List Outline)
    → ((i : ℕ) (o : Outline) → slice_get window i ≡ Some o → outline_takes_all o later ≡ false) → first_taker s window later ≡ None
none_found later s [] none = refl
none_found later s (o ∷ os) none =
    ap (λ (b : Bool). if b then Some s else first_taker (s + 1) os later) (none 0 o refl)
    ∙ none_found later (s + 1) os (λ i x e. none (suc i) x e)

taken_none : (n i : ℕ) (xs : List Outline) → n ≤ i → slice_get (take n xs) i ≡ None
taken_none zero i xs most = refl
taken_none (suc n) i [] most = refl
taken_none (suc n) zero (x ∷ xs) most = absurd (omega (arith, most))
taken_none (suc n) (suc i) (x ∷ xs) most = taken_none n i xs (omega (arith, most))

taken_same : (n i : ℕ) (xs : List Outline) → i < n → slice_get (take n xs) i ≡ slice_get xs i
taken_same zero i xs less = absurd (omega (arith, less))
taken_same (suc n) i [] less = refl
taken_same (suc n) zero (x ∷ xs) less = refl
taken_same (suc n) (suc i) (x ∷ xs) less = taken_same n i xs (omega (arith, less))

dropped_same : (s i : ℕ) (xs : List Outline) → slice_get (drop s xs) i ≡ slice_get xs (s + i)
dropped_same zero i xs = ap (slice_get xs) (let e : i ≡ 0 + i = omega arith in e)
dropped_same (suc s) i [] = refl
dropped_same (suc s) i (x ∷ xs) = dropped_same s i xs ∙ ap (slice_get (x ∷ xs)) (let e : suc (s + i) ≡ suc s + i = omega arith in e)

-- what stands in the stretch from s on before n
window_at : (s n i : ℕ) (xs : List Outline) (o : Outline) → slice_get (take (n - s) (drop s xs)) i ≡ Some o → (s + i < n) × (slice_get xs (s + i) ≡ Some o)
window_at s n i xs o e = elim (cases_lt i (n - s)) [
  | inl less ↦ (omega (arith, less), sym (dropped_same s i xs) ∙ sym (taken_same (n - s) i (drop s xs) less) ∙ e)
  | inr most ↦ absurd (none-some o (sym (taken_none (n - s) i (drop s xs) most) ∙ e))
]

measures_told : (parts : List Part) (measures : List Measure) → AreMeasuresOf parts measures → AllByRecursion IsTold measures
measures_told [] [] all = tt
measures_told [] (m ∷ ms) all = absurd all
measures_told (p ∷ ps) [] all = absurd all
measures_told (p ∷ ps) (m ∷ ms) all = (let h : IsMeasureOf p m = all.0 in h.told, measures_told ps ms all.1)

pub all_told : (rules : List Listed) (outlines : List Outline) → AreOutlinesOf rules outlines
    → AllByRecursion (λ x. AllByRecursion IsTold x.measures.items) outlines
all_told [] [] all = tt
all_told [] (o ∷ os) all = absurd all
all_told (r ∷ rs) [] all = absurd all
all_told (r ∷ rs) (o ∷ os) all = (let h : IsOutlineOf r o = all.0 in measures_told r.rule.parts o.measures.items h.measures, all_told rs os all.1)

module _ (outlines : List Outline) (later : Outline) (start number place : ℕ)
    (told : AllByRecursion (λ x. AllByRecursion IsTold x.measures.items) outlines) (also : AllByRecursion IsTold later.measures.items)
    (probed : list_all is_probed later.measures.items ≡ true) (first : IsFirst outlines later (is_asked later.measures.items) start number place) where
  none_before : (i : ℕ) (o : Outline) → slice_get (take (number - start) (drop start outlines)) i ≡ Some o → start + i < place
      → outline_takes_all o later ≡ false
  none_before i o e less =
      let w = window_at start number i outlines o e in
      elim (cases_Bool (outline_takes_all o later)) [
        | inl takes ↦ first.none (start + i) o (omega arith) less w.1
            (takers_asked o later (each_got (λ x. AllByRecursion IsTold x.measures.items) outlines (start + i) o told w.1) also probed takes)
        | inr none ↦ none
      ]

  pub first_found : place < number → first_taker start (take (number - start) (drop start outlines)) later ≡ Some place
  first_found less =
      found later place start (take (number - start) (drop start outlines)) first.from none_before
      (ap (λ o. takes_as o later) (taken_same (number - start) (place - start) (drop start outlines) (let f = first.from in omega (arith, less, f))
      ∙ dropped_same start (place - start) outlines
      ∙ ap (slice_get outlines) (let f = first.from in let e : start + (place - start) ≡ place = omega (arith, f) in e))
      ∙ first.takes less)

  pub first_none : number ≤ place → first_taker start (take (number - start) (drop start outlines)) later ≡ None
  first_none most =
      none_found later start (take (number - start) (drop start outlines))
      (λ i o e. let w = window_at start number i outlines o e in none_before i o e (omega (arith, w.0, most)))
