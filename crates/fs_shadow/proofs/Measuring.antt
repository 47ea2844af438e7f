-- What the measures and outlines of rules tell is what the rules say.
use Rattle.fs_shadow.proofs.Words.{◌≡◌, ℕ, ◌+◌, ◌^◌, ◌<◌, ◌==◌, Bool, true, false, not, ◌&&◌, ◌||◌, if◌then◌else◌, Some, List, [], ◌∷◌, get_or}
use Rattle.fs_shadow.proofs.Words.{length, zero, suc, refl, sym, ap, subst, ◌∙◌, arith, list_all, list_any, true≢false, afi_of, compares, holds}
use Rattle.fs_shadow.proofs.Words.{Prefix, covers, same_tests, part_of, parts_of, AreSound, IsSoundBody, Body, V4Body, V6Body, ListBody, Part, Listed}
use Rattle.fs_shadow.proofs.Words.{contains, Extent, Numbers, Bits, Measure, Known, Outline, all_below, are_same_pairs, body_lies_in, implies}
use Rattle.fs_shadow.proofs.Words.{may_lie_in, numbers_lie_in, part_lies_in, AreMeasuresOf, AreSpansOf, IsExtentOf, IsMeasureOf, bits_lie_in}
use Rattle.fs_shadow.proofs.Words.{extent_lies_in, measure_lies_in, AreOutlinesOf, IsOutlineOf, first_taker, outline_takes_all, first_taking}
use Rattle.fs_shadow.proofs.Words.{takes_all}
use Rattle.fs_shadow.proofs.{Below.{below_from, below_is, each_below, follows, implied}, ByBits.{v4_covers, v6_covers}, Testing.{alike}}
use Rattle.fs_shadow.specs.declared.extents.Extent.TheVariants.{V4, V6}
use Rattle.std.specs.Prelude.{IsTrue, ◌↔◌}
use Rattle.fs_nlri.specs.declared.component.Component.{Component}

record HasPairs (body : Body) (spans : List (ℕ × ℕ)) : Type 0 where
  pub pairs : List (ℕ × ℕ)
  pub is : body ≡ ListBody pairs
  pub says : (n : ℕ) → n < 2 ^ 64 → contains spans n ≡ holds (compares n) pairs

pairs_of : (body : Body) (spans : List (ℕ × ℕ)) → AreSpansOf body spans → HasPairs body spans
pairs_of (V4Body f l b) spans h = absurd h
pairs_of (V6Body l o b) spans h = absurd h
pairs_of (ListBody pairs) spans h = record { pairs = pairs; is = refl; says = h }

same_below : (bound : ℕ) (test other : ℕ → Bool) → ((n : ℕ) → n < bound → test n ≡ other n) → all_below bound test ≡ all_below bound other
same_below bound test other same =
    same_tests (all_below bound test) (all_below bound other)
    (λ all. below_from bound other (λ n below. sym (same n below) ∙ each_below bound test all n below))
    (λ all. below_from bound test (λ n below. same n below ∙ each_below bound other all n below))

numbers_same : (xs ys : List (ℕ × ℕ)) (p q : List (ℕ × ℕ)) → ((n : ℕ) → n < 2 ^ 64 → contains xs n ≡ holds (compares n) p)
    → ((n : ℕ) → n < 2 ^ 64 → contains ys n ≡ holds (compares n) q)
    → all_below (2 ^ 64) (λ n. implies (contains xs n) (contains ys n)) ≡ numbers_lie_in p q
numbers_same xs ys p q f g =
    same_below (2 ^ 64) (λ n. implies (contains xs n) (contains ys n)) (λ n. implies (holds (compares n) p) (holds (compares n) q))
    (λ n below i. implies (f n below i) (g n below i))

-- which body an extent is of
v4_extent : (p q : Part) (x y : Prefix) → IsExtentOf p (V4 x) → IsExtentOf q (V4 y) → covers y x ≡ body_lies_in q.kind p.body q.body
v4_extent p q x y a b =
    v4_covers x y (subst IsSoundBody a.0 a.1) (subst IsSoundBody b.0 b.1) ∙ sym (λ i. body_lies_in q.kind (a.0 i) (b.0 i))

v6_extent : (p q : Part) (x y : Known) → IsExtentOf p (V6 x) → IsExtentOf q (V6 y) → bits_lie_in x y ≡ body_lies_in q.kind p.body q.body
v6_extent p q x y a b =
    v6_covers x y (subst IsSoundBody a.0 a.1) (subst IsSoundBody b.0 b.1) ∙ sym (λ i. body_lies_in q.kind (a.0 i) (b.0 i))

none_in : (kind : ℕ) (p q : Part) (b c : Body) → p.body ≡ b → q.body ≡ c → body_lies_in kind b c ≡ false → false ≡ body_lies_in kind p.body q.body
none_in kind p q b c e f h = sym ((λ i. body_lies_in kind (e i) (f i)) ∙ h)

-- ranges that lie within others
pub spans_tell : (r : Bool) (xs ys : List (ℕ × ℕ)) → IsTrue r ↔ ((n : ℕ) → n < 2 ^ 64 → IsTrue (contains xs n) → IsTrue (contains ys n))
    → r ≡ all_below (2 ^ 64) (λ n. implies (contains xs n) (contains ys n))
spans_tell r xs ys h =
    below_is r (2 ^ 64) (λ n. implies (contains xs n) (contains ys n))
    (λ true_is n below. implied (contains xs n) (contains ys n) (h.0 true_is n below))
    (λ each. h.1 (λ n below e. follows (contains xs n) (contains ys n) (each n below) e))

extent_says : (p q : Part) (e f : Extent) → IsExtentOf p e → IsExtentOf q f → may_lie_in p.kind q.kind ≡ true
    → extent_lies_in e f ≡ body_lies_in q.kind p.body q.body
extent_says p q (V4 x) (V4 y) a b may = v4_extent p q x y a b
extent_says p q (V6 x) (V6 y) a b may = v6_extent p q x y a b
extent_says p q (V4 x) (V6 y) a b may = none_in q.kind p q _ _ a.0 b.0 refl
extent_says p q (V6 x) (V4 y) a b may = none_in q.kind p q _ _ a.0 b.0 refl
extent_says p q (V4 x) (Numbers ys) a b may = none_in q.kind p q _ _ a.0 (pairs_of q.body ys b.0).is refl
extent_says p q (V6 x) (Numbers ys) a b may = none_in q.kind p q _ _ a.0 (pairs_of q.body ys b.0).is refl
extent_says p q (V4 x) (Bits ys) a b may = none_in q.kind p q _ _ a.0 b.0 refl
extent_says p q (V6 x) (Bits ys) a b may = none_in q.kind p q _ _ a.0 b.0 refl
extent_says p q (Numbers xs) (V4 y) a b may = none_in q.kind p q _ _ (pairs_of p.body xs a.0).is b.0 refl
extent_says p q (Numbers xs) (V6 y) a b may = none_in q.kind p q _ _ (pairs_of p.body xs a.0).is b.0 refl
extent_says p q (Bits xs) (V4 y) a b may = none_in q.kind p q _ _ a.0 b.0 refl
extent_says p q (Bits xs) (V6 y) a b may = none_in q.kind p q _ _ a.0 b.0 refl
extent_says p q (Numbers xs) (Numbers ys) a b may =
    let h = pairs_of p.body xs a.0 in
    let k = pairs_of q.body ys b.0 in
    numbers_same xs ys h.pairs k.pairs h.says k.says
    ∙ sym ((λ i. body_lies_in q.kind (h.is i) (k.is i)) ∙ ap (λ (c : Bool). if c then are_same_pairs h.pairs k.pairs else numbers_lie_in h.pairs k.pairs) b.1)
extent_says p q (Bits xs) (Bits ys) a b may =
    sym ((λ i. body_lies_in q.kind (a.0 i) (b.0 i)) ∙ ap (λ (c : Bool). if c then are_same_pairs xs ys else numbers_lie_in xs ys) b.1)
extent_says p q (Numbers xs) (Bits ys) a b may = absurd (true≢false (sym (sym a.1 ∙ alike p.kind q.kind may ∙ b.1)))
extent_says p q (Bits xs) (Numbers ys) a b may = absurd (true≢false (sym a.1 ∙ alike p.kind q.kind may ∙ b.1))

under : (b x y : Bool) → (b ≡ true → x ≡ y) → (b && x) ≡ (b && y)
under true x y h = h refl
under false x y h = refl

measure_says : (p q : Part) (e f : Measure) → IsMeasureOf p e → IsMeasureOf q f → measure_lies_in e f ≡ part_lies_in p q
measure_says p q e f a b =
    (λ i. may_lie_in (a.kind i) (b.kind i) && extent_lies_in e.extent f.extent)
    ∙ under (may_lie_in p.kind q.kind) (extent_lies_in e.extent f.extent) (body_lies_in q.kind p.body q.body)
    (extent_says p q e.extent f.extent a.extent b.extent)

any_says : (q : Part) (f : Measure) → IsMeasureOf q f → (parts : List Part) (measures : List Measure) → AreMeasuresOf parts measures
    → list_any (λ inner. measure_lies_in inner f) measures ≡ list_any (λ inner. part_lies_in inner q) parts
any_says q f h [] [] all = refl
any_says q f h [] (m ∷ ms) all = absurd all
any_says q f h (p ∷ ps) [] all = absurd all
any_says q f h (p ∷ ps) (m ∷ ms) all = λ i. measure_says p q m f all.0 h i || any_says q f h ps ms all.1 i

all_say : (others : List Part) (measured : List Measure) → AreMeasuresOf others measured → (parts : List Part) (measures : List Measure)
    → AreMeasuresOf parts measures
    → list_all (λ outer. list_any (λ inner. measure_lies_in inner outer) measured) measures
    ≡ list_all (λ outer. list_any (λ inner. part_lies_in inner outer) others) parts
all_say others measured h [] [] all = refl
all_say others measured h [] (m ∷ ms) all = absurd all
all_say others measured h (p ∷ ps) [] all = absurd all
all_say others measured h (p ∷ ps) (m ∷ ms) all = λ i. any_says p m all.0 others measured h i && all_say others measured h ps ms all.1 i

outline_says : (a b : Listed) (o p : Outline) → IsOutlineOf a o → IsOutlineOf b p → outline_takes_all o p ≡ takes_all a b
outline_says a b o p h k = λ i. not (h.goes_on i)
    && ((afi_of (h.family i) == afi_of (k.family i)) && all_say b.rule.parts p.measures.items k.measures a.rule.parts o.measures.items h.measures i)

pub taker_says : (later : Listed) (o : Outline) → IsOutlineOf later o → (place : ℕ) (rules : List Listed) (outlines : List Outline)
    → AreOutlinesOf rules outlines
    → first_taker place outlines o ≡ first_taking place rules later
taker_says later o h place [] [] all = refl
taker_says later o h place [] (x ∷ xs) all = absurd all
taker_says later o h place (r ∷ rs) [] all = absurd all
taker_says later o h place (r ∷ rs) (x ∷ xs) all = λ i. if outline_says r later x o all.0 h i then Some place
    else taker_says later o h (place + 1) rs xs all.1 i

pub sound_at : (components : List Component) (i : ℕ) (x : Component) → i < length components → x ≡ get_or components i x
    → AreSound (parts_of components) → IsSoundBody (part_of x).body
sound_at [] i x below is sound = absurd (omega (arith, below))
sound_at (y ∷ ys) zero x below is sound = subst (λ (z : Component). IsSoundBody (part_of z).body) (sym is) sound.0
sound_at (y ∷ ys) (suc i) x below is sound = sound_at ys i x (omega (arith, below)) is sound.1
