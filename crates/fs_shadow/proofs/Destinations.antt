-- Which rules may contain which by their destinations: of rules in order an earlier contains a later one only where all
-- between them have their destination too, or where its destination is all addresses.
use Rattle.std.proofs.Common.{pow_pos}
use Rattle.fs_shadow.proofs.Words.{◌≡◌, ℕ, zero, suc, ◌+◌, ◌-◌, ◌*◌, ◌^◌, ◌<◌, ◌≤◌, ◌==◌, ◌⊎◌, inl, inr, Bool, true, false, not, ◌&&◌, ◌||◌, nat_lt}
use Rattle.fs_shadow.proofs.Words.{cond, Option, Some, None, List, [], ◌∷◌, get_or, length, refl, sym, ap, subst, ◌∙◌, arith, list_all, list_any}
use Rattle.fs_shadow.proofs.Words.{slice_get, and_parts, and_right, cases_Bool, cases_eq, cases_lt, eq-eqb, eqb-true, ltb-true, or_cases, true≢false}
use Rattle.fs_shadow.proofs.Words.{none-some, same_Some, slice_get_within, Family, cleared, width_of, Body, V4Body, V6Body, ListBody, Part, Listed}
use Rattle.fs_shadow.proofs.Words.{IsOfFamily, span_by, span_of, spans_of, each_got, body_lies_in, may_lie_in, part_lies_in, AreInOrder, begins_anew}
use Rattle.fs_shadow.proofs.Words.{lie_apart, takes_all}
use Rattle.fs_shadow.proofs.ByBits.{v4_less, v4_same, v6_less, v6_same}
use Rattle.fs_shadow.specs.Contains.{contains}
use Rattle.fs_base.{specs.declared.prefix.Family.TheVariants.{V4, V6}, proofs.Blocks.{IsBlock, block_inside, block_of}}
use Rattle.fs_nlri.{specs.{Forms.{form_of}, Rule.{AreNormal, IsNormalAt, destination_body, destination_in}}, proofs.Destination.{IsMade, destination_first}}
use Rattle.fs_order.specs.Laws.{last_shown}
use Rattle.fs_rules.proofs.Noting.{family_of_destination}
use Rattle.fs_buckets.proofs.Destinations.{HasDestination, from_span, made_destination}

-- a destination that lies in one with these ends, or none that does
abbrev Within : Option (ℕ × ℕ) → (s : ℕ × ℕ) → (size : ℕ) → Type 0
Within (Some t) s size = (s.0 ≤ t.0) × (t.1 ≤ s.1)
Within None s size = (s.0 ≡ 0) × (s.1 + 1 ≡ size)

v4_within : (m a n b : ℕ) → (m ≤ 32) × (a ≡ cleared 32 m a) → (n ≤ 32) × (b ≡ cleared 32 n b) → body_lies_in 1 (V4Body V4 m a) (V4Body V4 n b) ≡ true
    → (b ≤ a) × (a + 2 ^ (32 - m) - 1 ≤ b + 2 ^ (32 - n) - 1)
v4_within m a n b h k lies = elim (cases_lt m n) [
  | inl less ↦ absurd (true≢false (sym lies ∙ sym (v4_less V4 V4 m a n b (refl, h.0, h.1) (refl, k.0, k.1) less)))
  | inr most ↦
      let e : cleared 32 n a ≡ b = eqb-true (cleared 32 n a) b (v4_same V4 V4 m a n b (refl, h.0, h.1) (refl, k.0, k.1) most ∙ lies) in
      let inner : (b ≤ a) × (a + 2 ^ (32 - m) ≤ b + 2 ^ (32 - n)) = block_inside 32 n b m a (block_of 32 n b k.0 k.1) (block_of 32 m a h.0 h.1) most e in
      (inner.0, omega (arith, inner.1))
]

minus_none : (n : ℕ) → n - 0 ≡ n
minus_none n = omega arith

-- a destination of IPv6 whose length is 0 is all addresses
v6_all : (n b : ℕ) → n ≡ 0 → b ≡ cleared 128 n b → n ≤ 128 → (b ≡ 0) × (b + 2 ^ (128 - n) ≡ 2 ^ 128)
v6_all n b none clear short =
    let block : IsBlock 128 n b = block_of 128 n b short clear in
    let size : 2 ^ (128 - n) ≡ 2 ^ 128 = ap (λ q. 2 ^ (128 - q)) none in
    let within : b + 2 ^ (128 - n) ≤ 2 ^ 128 = block.within in
    (omega (arith, size, within), omega (arith, size, within))

v6_first : (m a n b : ℕ) → (m ≤ 128) × (a ≡ cleared 128 m a) → (n ≤ 128) × (b ≡ cleared 128 n b) → ((n ≡ 0) ⊎ ((n ≤ m) × (cleared 128 n a ≡ b)))
    → (b ≤ a) × (a + 2 ^ (128 - m) - 1 ≤ b + 2 ^ (128 - n) - 1)
v6_first m a n b h k (inl none) =
    let all : (b ≡ 0) × (b + 2 ^ (128 - n) ≡ 2 ^ 128) = v6_all n b none k.1 k.0 in
    let block : IsBlock 128 m a = block_of 128 m a h.0 h.1 in
    let within : a + 2 ^ (128 - m) ≤ 2 ^ 128 = block.within in
    (omega (arith, all.0), omega (arith, all.1, within))
v6_first m a n b h k (inr same) =
    let inner : (b ≤ a) × (a + 2 ^ (128 - m) ≤ b + 2 ^ (128 - n)) =
    block_inside 128 n b m a (block_of 128 n b k.0 k.1) (block_of 128 m a h.0 h.1) same.0 same.1 in
    (inner.0, omega (arith, inner.1))

-- the bits that an outer prefix without an offset knows
v6_bits : (m o a n b : ℕ) → IsNormalAt (form_of V6 1) (V6Body m o a) → IsNormalAt (form_of V6 1) (V6Body n 0 b)
    → body_lies_in 1 (V6Body m o a) (V6Body n 0 b) ≡ true
    → (n ≡ 0) ⊎ ((o ≡ 0) × (n ≤ m) × (cleared 128 n (a * 2 ^ (0 - o)) ≡ b))
v6_bits m o a n b h k lies = elim (cases_eq n 0) [
  | inl none ↦ inl none
  | inr some ↦ elim (cases_lt 0 o) [
    | inl above ↦ absurd (true≢false (sym lies ∙ sym (v6_less m o a n 0 b h k some (inl above))))
    | inr first ↦ elim (cases_lt m n) [
      | inl less ↦ absurd (true≢false (sym lies ∙ sym (v6_less m o a n 0 b h k some (inr less))))
      | inr most ↦
          let e : cleared 128 (n - 0) (a * 2 ^ (0 - o)) ≡ b = eqb-true (cleared 128 (n - 0) (a * 2 ^ (0 - o))) b (v6_same m o a n 0 b h k first most ∙ lies) in
          inr (omega arith, most, subst (λ q. cleared 128 q (a * 2 ^ (0 - o)) ≡ b) (minus_none n) e)
    ]
  ]
]

v6_within : (m o a n b : ℕ) → IsNormalAt (form_of V6 1) (V6Body m o a) → IsNormalAt (form_of V6 1) (V6Body n 0 b)
    → body_lies_in 1 (V6Body m o a) (V6Body n 0 b) ≡ true
    → Within (span_by (destination_body (V6Body m o a))) (b, b + 2 ^ (128 - n) - 1) (2 ^ 128)
v6_within m o a n b h k lies = at (o == 0) refl (v6_bits m o a n b h k lies)
  where
    outer : b ≡ cleared 128 n b
    outer = subst (λ q. b ≡ cleared 128 q b) (minus_none n) k.1

    at : (c : Bool) → (o == 0) ≡ c → (n ≡ 0) ⊎ ((o ≡ 0) × (n ≤ m) × (cleared 128 n (a * 2 ^ (0 - o)) ≡ b))
        → Within (span_by (cond c (Some (V6, a, m)) None)) (b, b + 2 ^ (128 - n) - 1) (2 ^ 128)
    at true e known =
        let zero_is : o ≡ 0 = eqb-true o 0 e in
        let clear : a ≡ cleared 128 m a = subst (λ q. a ≡ cleared 128 q a) (ap (λ q. m - q) zero_is ∙ minus_none m) h.1 in
        v6_first m a n b (h.0.0, clear) (k.0.0, outer) (same zero_is known)
      where
        same : o ≡ 0 → (n ≡ 0) ⊎ ((o ≡ 0) × (n ≤ m) × (cleared 128 n (a * 2 ^ (0 - o)) ≡ b)) → (n ≡ 0) ⊎ ((n ≤ m) × (cleared 128 n a ≡ b))
        same z (inl none) = inl none
        same z (inr (f, l, g)) =
            let plain : a * 2 ^ (0 - o) ≡ a = ap (λ q. a * 2 ^ (0 - q)) z ∙ (let once : a * 1 ≡ a = omega arith in once) in
            inr (l, sym (ap (cleared 128 n) plain) ∙ g)
    at false e (inl none) =
        let all : (b ≡ 0) × (b + 2 ^ (128 - n) ≡ 2 ^ 128) = v6_all n b none outer k.0.0 in
        (all.0, omega (arith, all.1))
    at false e (inr (f, l, g)) = absurd (true≢false (sym (eq-eqb o 0 f) ∙ e))

body_within : (family : Family) (x y : Body) (d : Family × ℕ × ℕ) → IsNormalAt (form_of family 1) x → IsNormalAt (form_of family 1) y
    → destination_body x ≡ Some d → body_lies_in 1 y x ≡ true
    → Within (span_by (destination_body y)) (d.1, last_shown d) (2 ^ width_of family)
body_within V4 (V4Body g n b) (V4Body f m a) d k h e lies =
    subst (λ (t : Family × ℕ × ℕ). Within (Some (a, last_shown (f, a, m))) (t.1, last_shown t) (2 ^ 32)) (same_Some (g, b, n) d e)
    (subst (λ x. Within (Some (a, last_shown (x, a, m))) (b, last_shown (g, b, n)) (2 ^ 32)) (sym h.0)
    (subst (λ x. Within (Some (a, last_shown (V4, a, m))) (b, last_shown (x, b, n)) (2 ^ 32)) (sym k.0)
    (v4_within m a n b (h.1, h.2) (k.1, k.2)
    (subst (λ x. body_lies_in 1 (V4Body V4 m a) (V4Body x n b) ≡ true) k.0
    (subst (λ x. body_lies_in 1 (V4Body x m a) (V4Body g n b) ≡ true) h.0 lies)))))
body_within V4 (V4Body g n b) (V6Body m o a) d k h e lies = absurd h
body_within V4 (V4Body g n b) (ListBody ps) d k h e lies = absurd h
body_within V4 (V6Body n p b) y d k h e lies = absurd k
body_within V4 (ListBody ps) y d k h e lies = absurd k
body_within V6 (V4Body g n b) y d k h e lies = absurd k
body_within V6 (ListBody ps) y d k h e lies = absurd k
body_within V6 (V6Body n p b) (V4Body f m a) d k h e lies = absurd h
body_within V6 (V6Body n p b) (ListBody ps) d k h e lies = absurd h
body_within V6 (V6Body n p b) (V6Body m o a) d k h e lies = at (p == 0) refl e
  where
    at : (c : Bool) → (p == 0) ≡ c → cond c (Some (V6, b, n)) None ≡ Some d → Within (span_by (destination_body (V6Body m o a))) (d.1, last_shown d) (2 ^ 128)
    at false z g = absurd (none-some d g)
    at true z g =
        let zero_is : p ≡ 0 = eqb-true p 0 z in
        subst (λ (t : Family × ℕ × ℕ). Within (span_by (destination_body (V6Body m o a))) (t.1, last_shown t) (2 ^ 128)) (same_Some (V6, b, n) d g)
        (v6_within m o a n b h (subst (λ q. IsNormalAt (form_of V6 1) (V6Body n q b)) zero_is k)
        (subst (λ q. body_lies_in 1 (V6Body m o a) (V6Body n q b) ≡ true) zero_is lies))

-- a destination lies in the first component alone
one_kind : (kind : ℕ) → may_lie_in kind 1 ≡ true → kind ≡ 1
one_kind kind may = elim (or_cases (kind == 1) ((1 == 4) && ((kind == 5) || (kind == 6))) may)
    [ inl same ↦ eqb-true kind 1 same | inr port ↦ absurd (true≢false (sym port)) ]

abbrev in_kind : Part → Part → Bool
in_kind x inner = may_lie_in inner.kind 1 && body_lies_in 1 inner.body x.body

none_later : (family : Family) (last : ℕ) (x : Part) (ys : List Part) → 1 ≤ last → AreNormal family last ys → list_any (in_kind x) ys ≡ true → ⊥
none_later family last x [] above normal some = true≢false (sym some)
none_later family last x (y ∷ ys) above normal some =
    let risen : last < y.kind = normal.0 in
    elim (or_cases (in_kind x y) (list_any (in_kind x) ys) some) [
      | inl here ↦ let one : y.kind ≡ 1 = one_kind y.kind (and_parts (may_lie_in y.kind 1) (body_lies_in 1 y.body x.body) here).0 in
          omega (arith, one, risen, above)
      | inr later ↦ none_later family y.kind x ys (omega (arith, risen, above)) normal.2 later
    ]

first_within : (family : Family) (x : Part) (d : Family × ℕ × ℕ) (ys : List Part) → IsNormalAt (form_of family 1) x.body → AreNormal family 0 ys
    → destination_body x.body ≡ Some d
    → list_any (in_kind x) ys ≡ true → Within (span_by (destination_in ys)) (d.1, last_shown d) (2 ^ width_of family)
first_within family x d [] k normal e some = absurd (true≢false (sym some))
first_within family x d (y ∷ ys) k normal e some =
    let risen : 0 < y.kind = normal.0 in
    elim (or_cases (in_kind x y) (list_any (in_kind x) ys) some) [
      | inl here ↦ found (and_parts (may_lie_in y.kind 1) (body_lies_in 1 y.body x.body) here)
      | inr later ↦ absurd (none_later family y.kind x ys (omega (arith, risen)) normal.2 later)
    ]
  where
    found : (may_lie_in y.kind 1 ≡ true) × (body_lies_in 1 y.body x.body ≡ true)
        → Within (span_by (destination_in (y ∷ ys))) (d.1, last_shown d) (2 ^ width_of family)
    found h =
        let one : y.kind ≡ 1 = one_kind y.kind h.0 in
        let is : destination_in (y ∷ ys) ≡ destination_body y.body = destination_first family y ys normal
        ∙ ap (λ q. cond (q == 1) (destination_body y.body) None) one in
        subst (λ o. Within (span_by o) (d.1, last_shown d) (2 ^ width_of family)) (sym is)
        (body_within family x.body y.body d k (subst (λ q. IsNormalAt (form_of family q) y.body) one normal.1) e h.1)

parts_within : (family : Family) (xs ys : List Part) (d : Family × ℕ × ℕ) → AreNormal family 0 xs → AreNormal family 0 ys → destination_in xs ≡ Some d
    → list_all (λ outer. list_any (λ inner. part_lies_in inner outer) ys) xs ≡ true
    → Within (span_by (destination_in ys)) (d.1, last_shown d) (2 ^ width_of family)
parts_within family [] ys d normal also e all = absurd (none-some d e)
parts_within family (x ∷ xs) ys d normal also e all = at (x.kind == 1) refl (sym (destination_first family x xs normal) ∙ e)
  where
    any : list_any (λ inner. part_lies_in inner x) ys ≡ true
    any = (and_parts (list_any (λ inner. part_lies_in inner x) ys) (list_all (λ outer. list_any (λ inner. part_lies_in inner outer) ys) xs) all).0

    at : (c : Bool) → (x.kind == 1) ≡ c → cond c (destination_body x.body) None ≡ Some d
        → Within (span_by (destination_in ys)) (d.1, last_shown d) (2 ^ width_of family)
    at false c g = absurd (none-some d g)
    at true c g =
        let one : x.kind ≡ 1 = eqb-true x.kind 1 c in
        first_within family x d ys (subst (λ q. IsNormalAt (form_of family q) x.body) one normal.1) also g
        (subst (λ q. list_any (λ (inner : Part). may_lie_in inner.kind q && body_lies_in q inner.body x.body) ys ≡ true) one any)

rule_within : (family : Family) (a b : Listed) (s : ℕ × ℕ) → IsOfFamily family a → IsOfFamily family b → contains a.rule b.rule ≡ true → span_of a.rule ≡ Some s
    → Within (span_of b.rule) s (2 ^ width_of family)
rule_within family a b s h k holds e =
    let found : HasDestination a.rule s = from_span a.rule s e in
    subst (λ (t : ℕ × ℕ). Within (span_of b.rule) t (2 ^ width_of family)) (sym found.span)
    (parts_within family a.rule.parts b.rule.parts found.d (normal a h) (normal b k) found.is (and_parts _ _ holds).1)
  where
    normal : (r : Listed) → IsOfFamily family r → AreNormal family 0 r.rule.parts
    normal r g = subst (λ f. AreNormal f 0 r.rule.parts) g.same g.rule.normal

-- a destination's ends
rule_ends : (family : Family) (a : Listed) (p : ℕ × ℕ) → IsOfFamily family a → span_of a.rule ≡ Some p → (p.0 ≤ p.1) × (p.1 + 1 ≤ 2 ^ width_of family)
rule_ends family a p h e = subst (λ (t : ℕ × ℕ). (t.0 ≤ t.1) × (t.1 + 1 ≤ 2 ^ width_of family)) (sym found.span) (low, high)
  where
    found : HasDestination a.rule p
    found = from_span a.rule p e

    same : found.d.0 ≡ family
    same = family_of_destination a.rule found.d h.rule found.is ∙ h.same

    made : IsMade (Some found.d)
    made = made_destination a.rule found.d h.rule found.is

    block : IsBlock (width_of found.d.0) found.d.2 found.d.1
    block = block_of (width_of found.d.0) found.d.2 found.d.1 made.0 made.1

    some : 0 < 2 ^ (width_of found.d.0 - found.d.2)
    some = pow_pos (width_of found.d.0 - found.d.2)

    within : found.d.1 + 2 ^ (width_of found.d.0 - found.d.2) ≤ 2 ^ width_of found.d.0
    within = block.within

    low : found.d.1 ≤ last_shown found.d
    low = omega (arith, some)

    high : last_shown found.d + 1 ≤ 2 ^ width_of family
    high = subst (λ f. last_shown found.d + 1 ≤ 2 ^ width_of f) same (omega (arith, some, within))

-- what stands at a place of a list of rules
span_at : (rules : List Listed) (i : ℕ) (a : Listed) → slice_get rules i ≡ Some a → get_or (spans_of rules) i None ≡ span_of a.rule
span_at [] i a e = absurd (none-some a e)
span_at (r ∷ rs) zero a e = ap (λ (x : Listed). span_of x.rule) (same_Some r a e)
span_at (r ∷ rs) (suc i) a e = span_at rs i a e

pub rule_at : {X : Type 0} (xs : List X) (i : ℕ) → i < length xs → (x : X) × (slice_get xs i ≡ Some x)
rule_at [] i below = absurd (omega (arith, below))
rule_at (x ∷ xs) zero below = (x, refl)
rule_at (x ∷ xs) (suc i) below = rule_at xs i (omega (arith, below))

-- none of the first rules takes all packets of one from a number on
abbrev pub AreApart : List Listed → (start number : ℕ) → Type 0
AreApart rules start number = (i j : ℕ) (a b : Listed) → i < start → number ≤ j → slice_get rules i ≡ Some a → slice_get rules j ≡ Some b
    → takes_all a b ≡ false

differ : (p q : ℕ × ℕ) → p.0 ≡ q.0 → p.1 ≡ q.1 → lie_apart (Some p) (Some q) ≡ true → ⊥
differ p q e f h = true≢false (sym h ∙ (λ i. not (eq-eqb p.0 q.0 e i) || not (eq-eqb p.1 q.1 f i)))

module _ (rules : List Listed) (order : AreInOrder rules) where
  size : ℕ
  size = 2 ^ width_of order.family

  abbrev spans : List (Option (ℕ × ℕ))
  spans = spans_of rules

  ends_at : (i : ℕ) (p : ℕ × ℕ) → i < length rules → get_or spans i None ≡ Some p → (p.0 ≤ p.1) × (p.1 + 1 ≤ 2 ^ width_of order.family)
  ends_at i p below e =
      let r = rule_at rules i below in
      rule_ends order.family r.0 p (each_got (IsOfFamily order.family) rules i r.0 order.each r.1) (sym (span_at rules i r.0 r.1) ∙ e)

  steps : (i m : ℕ) (s x : ℕ × ℕ) → i ≤ m → get_or spans i None ≡ Some s → get_or spans m None ≡ Some x → (s.1 ≤ x.1) × (x.0 ≤ s.1 → x.0 ≤ s.0)
  steps i m s x most e f = elim (cases_lt i m) [
    | inl less ↦ (order.nesting.rising i m s x less e f, order.nesting.nested i m s x less e f)
    | inr last ↦
        let same : m ≡ i = omega (arith, most, last) in
        let is : s ≡ x = same_Some s x (sym e ∙ ap (λ k. get_or spans k None) (sym same) ∙ f) in
        subst (λ (t : ℕ × ℕ). (s.1 ≤ t.1) × (t.0 ≤ s.1 → t.0 ≤ s.0)) is ((let l : s.1 ≤ s.1 = omega arith in l), (λ h. (let l : s.0 ≤ s.0 = omega arith in l)))
  ]

  module _ (n : ℕ) (inside : n < length rules) (some : 0 < n) (anew : lie_apart (get_or spans (n - 1) None) (get_or spans n None) ≡ true)
      (i j : ℕ) (a b : Listed) (less : i < n) (from : n ≤ j) (below : j < length rules) (at_i : slice_get rules i ≡ Some a)
      (at_j : slice_get rules j ≡ Some b) where
    before : i ≤ n - 1
    before = omega (arith, less, some)

    one_less : n - 1 < n
    one_less = omega (arith, some)

    first_is : get_or spans i None ≡ span_of a.rule
    first_is = span_at rules i a at_i

    last_is : get_or spans j None ≡ span_of b.rule
    last_is = span_at rules j b at_j

    to_p : (s p : ℕ × ℕ) → span_of a.rule ≡ Some s → get_or spans (n - 1) None ≡ Some p → (s.1 ≤ p.1) × (p.0 ≤ s.1 → p.0 ≤ s.0)
    to_p s p e g = steps i (n - 1) s p before (first_is ∙ e) g

    p_ends : (p : ℕ × ℕ) → get_or spans (n - 1) None ≡ Some p → (p.0 ≤ p.1) × (p.1 + 1 ≤ 2 ^ width_of order.family)
    p_ends p g = ends_at (n - 1) p (omega (arith, inside, one_less)) g

    -- where the first is all addresses, that before the place begins as it does
    p_low : (s p : ℕ × ℕ) → span_of a.rule ≡ Some s → get_or spans (n - 1) None ≡ Some p → s.1 + 1 ≡ 2 ^ width_of order.family → p.0 ≤ s.0
    p_low s p e g all = (to_p s p e g).1 (let ends = p_ends p g in omega (arith, ends.0, ends.1, all))

    -- a destination of its own
    same_ends : (s t p q : ℕ × ℕ) → span_of a.rule ≡ Some s → span_of b.rule ≡ Some t → get_or spans (n - 1) None ≡ Some p → get_or spans n None ≡ Some q
        → (s.0 ≤ t.0) × (t.1 ≤ s.1) → (p.0 ≡ q.0) × (p.1 ≡ q.1)
    same_ends s t p q e f g h within = (
      omega (arith, within.0, to_t.1 (omega (arith, t_ends.0, within.1, to_q, first.0)), between, inner),
      omega (arith, first.0, to_q, to_t.0, within.1),
    )
      where
        first : (s.1 ≤ p.1) × (p.0 ≤ s.1 → p.0 ≤ s.0)
        first = to_p s p e g

        to_q : p.1 ≤ q.1
        to_q = order.nesting.rising (n - 1) n p q one_less g h

        to_t : (q.1 ≤ t.1) × (t.0 ≤ q.1 → t.0 ≤ q.0)
        to_t = steps n j q t from h (last_is ∙ f)

        q_ends : (q.0 ≤ q.1) × (q.1 + 1 ≤ 2 ^ width_of order.family)
        q_ends = ends_at n q inside h

        t_ends : (t.0 ≤ t.1) × (t.1 + 1 ≤ 2 ^ width_of order.family)
        t_ends = ends_at j t below (last_is ∙ f)

        -- p begins no later than s
        inner : p.0 ≤ s.0
        inner = first.1 (omega (arith, (p_ends p g).0, to_q, to_t.0, within.1))

        between : q.0 ≤ p.0
        between = order.nesting.nested (n - 1) n p q one_less g h (omega (arith, q_ends.0, to_t.0, within.1, first.0))

    -- none: then the first is all addresses
    all_ends : (s p q : ℕ × ℕ) → span_of a.rule ≡ Some s → get_or spans (n - 1) None ≡ Some p → get_or spans n None ≡ Some q
        → (s.0 ≡ 0) × (s.1 + 1 ≡ 2 ^ width_of order.family) → (p.0 ≡ q.0) × (p.1 ≡ q.1)
    all_ends s p q e g h all = (omega (arith, all.0, p_low s p e g all.1, q_low), omega (arith, all.1, (to_p s p e g).0, to_q.0, (p_ends p g).1, q_ends.1))
      where
        to_q : (s.1 ≤ q.1) × (q.0 ≤ s.1 → q.0 ≤ s.0)
        to_q = steps i n s q (omega (arith, less)) (first_is ∙ e) h

        q_ends : (q.0 ≤ q.1) × (q.1 + 1 ≤ 2 ^ width_of order.family)
        q_ends = ends_at n q inside h

        q_low : q.0 ≤ s.0
        q_low = to_q.1 (omega (arith, q_ends.0, q_ends.1, all.1))

    tail_ends : (s p : ℕ × ℕ) → span_of a.rule ≡ Some s → get_or spans (n - 1) None ≡ Some p → (s.0 ≡ 0) × (s.1 + 1 ≡ 2 ^ width_of order.family) → 0 < p.0 → ⊥
    tail_ends s p e g all above = omega (arith, all.0, p_low s p e g all.1, above)

    none_held : contains a.rule b.rule ≡ true → ⊥
    none_held holds = by_first (span_of a.rule) refl
      where
        within : (s : ℕ × ℕ) → span_of a.rule ≡ Some s → Within (span_of b.rule) s (2 ^ width_of order.family)
        within s e = rule_within order.family a b s (each_got (IsOfFamily order.family) rules i a order.each at_i)
            (each_got (IsOfFamily order.family) rules j b order.each at_j) holds e

        by_both : (s p q : ℕ × ℕ) → span_of a.rule ≡ Some s → get_or spans (n - 1) None ≡ Some p → get_or spans n None ≡ Some q → (o : Option (ℕ × ℕ))
            → span_of b.rule ≡ o → Within o s (2 ^ width_of order.family)
            → lie_apart (Some p) (Some q) ≡ true → ⊥
        by_both s p q e g h (Some t) f w apart = let same : (p.0 ≡ q.0) × (p.1 ≡ q.1) = same_ends s t p q e f g h w in differ p q same.0 same.1 apart
        by_both s p q e g h None f w apart = let same : (p.0 ≡ q.0) × (p.1 ≡ q.1) = all_ends s p q e g h w in differ p q same.0 same.1 apart

        by_next : (s p : ℕ × ℕ) → span_of a.rule ≡ Some s → get_or spans (n - 1) None ≡ Some p → (o : Option (ℕ × ℕ)) → get_or spans n None ≡ o
            → lie_apart (Some p) o ≡ true → ⊥
        by_next s p e g (Some q) h apart = by_both s p q e g h (span_of b.rule) refl (within s e) apart
        by_next s p e g None h apart =
            let bare : span_of b.rule ≡ None = sym last_is ∙ order.nesting.bare n j from h in
            tail_ends s p e g (subst (λ o. Within o s (2 ^ width_of order.family)) bare (within s e)) (ltb-true 0 p.0 apart)

        by_last : (s : ℕ × ℕ) → span_of a.rule ≡ Some s → (o : Option (ℕ × ℕ)) → get_or spans (n - 1) None ≡ o → lie_apart o (get_or spans n None) ≡ true → ⊥
        by_last s e None g apart = true≢false (sym apart)
        by_last s e (Some p) g apart = by_next s p e g (get_or spans n None) refl apart

        by_first : (o : Option (ℕ × ℕ)) → span_of a.rule ≡ o → ⊥
        by_first None e =
            let bare : get_or spans (n - 1) None ≡ None = order.nesting.bare i (n - 1) before (first_is ∙ e) in
            true≢false (sym anew ∙ ap (λ o. lie_apart o (get_or spans n None)) bare)
        by_first (Some s) e = by_last s e (get_or spans (n - 1) None) refl anew

pub anew_apart : (rules : List Listed) (n : ℕ) → AreInOrder rules → n < length rules → begins_anew (spans_of rules) n ≡ true → AreApart rules n n
anew_apart rules n order inside h i j a b less from at_i at_j =
    let p = and_parts (nat_lt 0 n) (lie_apart (get_or (spans_of rules) (n - 1) None) (get_or (spans_of rules) n None)) h in
    elim (cases_Bool (contains a.rule b.rule)) [
      | inl holds ↦ absurd (none_held rules order n inside (ltb-true 0 n p.0) p.1 i j a b less from (slice_get_within rules j b at_j) at_i at_j holds)
      | inr none ↦ and_right _ _ none
    ]
