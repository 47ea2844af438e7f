-- The order is that of the standards' words.
use Rattle.fs_order.proofs.Words.{◌≡◌, ℕ, ◌+◌, ◌-◌, ◌^◌, ◌<◌, ◌≤◌, ◌⊎◌, List, [], ◌∷◌, refl, sym, ap, ◌∙◌, subst, arith, inl, inr, Ordering, Option}
use Rattle.fs_order.proofs.Words.{Some, None, Bool, true, Less, Equal, Greater, is_lt, nat_cmp, ordering_then, cases_lt, nat_tests, ranked}
use Rattle.fs_order.proofs.Words.{tied_itself, pow_pos, Family, V4, V6, afi_of, cleared, same_family, canonical, Form, V4Form, V6Form, ListForm}
use Rattle.fs_order.proofs.Words.{form_of, Body, V4Body, V6Body, ListBody, Part, Ruled, AreNormal, IsNormalAt, IsNormalBody, IsRule, body_cmp}
use Rattle.fs_order.proofs.Words.{part_cmp, parts_cmp, rule_cmp, Before, BodyBefore, IsWithin, OctetsBefore, PartsBefore, PrefixBefore, body_total}
use Rattle.fs_order.proofs.Words.{sound_part}
use Rattle.fs_order.proofs.{Pairs.{equal_numbers, octets_cmp}, Same.{first_equal, same_body, second_equal}}
use Rattle.fs_base.proofs.{Blocks.{IsBlock, block_again, block_inside, block_meeting, block_of}, Orderings.{less_of_is_lt}}

lower : (a b : ℕ) → a < b → nat_cmp a b ≡ Less
lower a b h = grind (arith, nat_tests)

level : (a b : ℕ) → a ≡ b → nat_cmp a b ≡ Equal
level a b h = grind (arith, nat_tests)

is_lower : (a b : ℕ) → nat_cmp a b ≡ Less → a < b
is_lower a b h = ranked a b Less (sym h)

-- the first comparison says less, or nothing and the second does
then_less : (o p : Ordering) → ordering_then o p ≡ Less → (o ≡ Less) ⊎ ((o ≡ Equal) × (p ≡ Less))
then_less Less p h = inl refl
then_less Equal p h = inr (refl, h)
then_less Greater p h = cc

first_less : (o p : Ordering) → o ≡ Less → ordering_then o p ≡ Less
first_less o p h = ap (λ (r : Ordering). ordering_then r p) h

second_less : (o p : Ordering) → o ≡ Equal → p ≡ Less → ordering_then o p ≡ Less
second_less o p h k = ap (λ (r : Ordering). ordering_then r p) h ∙ k

-- the comparison of two prefixes
abbrev blocks_cmp : (w m a n b : ℕ) → Ordering
blocks_cmp w m a n b = ordering_then (nat_cmp (a + 2 ^ (w - m) - 1) (b + 2 ^ (w - n) - 1)) (ordering_then (nat_cmp n m) Equal)

decide : (a b : ℕ) → (a ≡ b) ⊎ (a ≡ b → ⊥)
decide a b = at (cases_lt a b) (cases_lt b a)
  where
    at : (a < b) ⊎ (b ≤ a) → (b < a) ⊎ (a ≤ b) → (a ≡ b) ⊎ (a ≡ b → ⊥)
    at (inl h) k = inr (λ e. omega arith)
    at (inr h) (inl k) = inr (λ e. omega arith)
    at (inr h) (inr k) = inl (omega arith)

module _ (w m a n b : ℕ) (p : IsBlock w m a) (q : IsBlock w n b) where
  size_a : 0 < 2 ^ (w - m)
  size_a = pow_pos (w - m)

  size_b : 0 < 2 ^ (w - n)
  size_b = pow_pos (w - n)

  -- a lies in the block of b
  a_meets : n ≤ m → b < a + 2 ^ (w - m) → a < b + 2 ^ (w - n) → IsWithin w m a n b
  a_meets h low high = (h, block_meeting w n b m a q p h low high)

  b_meets : m ≤ n → a < b + 2 ^ (w - n) → b < a + 2 ^ (w - m) → IsWithin w n b m a
  b_meets h low high = (h, block_meeting w m a n b p q h low high)

  a_inside : IsWithin w m a n b → (b ≤ a) × (a + 2 ^ (w - m) ≤ b + 2 ^ (w - n))
  a_inside h = block_inside w n b m a q p h.0 h.1

  b_inside : IsWithin w n b m a → (a ≤ b) × (b + 2 ^ (w - n) ≤ a + 2 ^ (w - m))
  b_inside h = block_inside w m a n b p q h.0 h.1

  -- the last address is lower: nested or apart
  lower_last : a + 2 ^ (w - m) - 1 < b + 2 ^ (w - n) - 1 → PrefixBefore w m a n b
  lower_last less = at (cases_lt m n)
    where
      not_b : IsWithin w n b m a → ⊥
      not_b h = let ends = b_inside h in omega (arith, size_a, size_b)

      apart : (IsWithin w m a n b → ⊥) → ((m < n) ⊎ (n ≤ m)) → a < b
      apart nested lengths = near nested lengths (cases_lt a b)
        where
          near : (IsWithin w m a n b → ⊥) → ((m < n) ⊎ (n ≤ m)) → (a < b) ⊎ (b ≤ a) → a < b
          near nested lengths (inl h) = h
          near nested (inl shorter) (inr h) =
              absurd (not_b (b_meets (omega (arith, size_a, size_b)) (omega (arith, size_a, size_b)) (omega (arith, size_a, size_b))))
          near nested (inr longer) (inr h) = absurd (nested (a_meets longer (omega (arith, size_a, size_b)) (omega (arith, size_a, size_b))))

      split : (n ≤ m) → (cleared w n a ≡ b) ⊎ (cleared w n a ≡ b → ⊥) → PrefixBefore w m a n b
      split longer (inl within) = inl (let ends = a_inside (longer, within) in longer_than within ends, (longer, within))
        where
          longer_than : cleared w n a ≡ b → (b ≤ a) × (a + 2 ^ (w - m) ≤ b + 2 ^ (w - n)) → n < m
          longer_than within ends = same_length (cases_lt n m)
            where
              same_length : (n < m) ⊎ (m ≤ n) → n < m
              same_length (inl h) = h
              same_length (inr h) =
                  let e : m ≡ n = omega (arith, size_a, size_b) in
                  let whole : cleared w n a ≡ a = subst (λ (k : ℕ). cleared w k a ≡ a) e (sym (block_again w m a p)) in
                  let same : a ≡ b = sym whole ∙ within in
                  let sizes : 2 ^ (w - m) ≡ 2 ^ (w - n) = ap (λ (k : ℕ). 2 ^ (w - k)) e in
                  absurd (omega (arith, size_a, size_b))
      split longer (inr outside) = inr (λ h. outside h.1, not_b, apart (λ h. outside h.1) (inr longer))

      at : (m < n) ⊎ (n ≤ m) → PrefixBefore w m a n b
      at (inl shorter) = inr (
        λ h. (let l = h.0 in omega (arith, size_a, size_b)),
        not_b,
        apart (λ h. (let l = h.0 in omega (arith, size_a, size_b))) (inl shorter),
      )
      at (inr longer) = split longer (decide (cleared w n a) b)

  blocks_less : blocks_cmp w m a n b ≡ Less → PrefixBefore w m a n b
  blocks_less e = at (then_less (nat_cmp (a + 2 ^ (w - m) - 1) (b + 2 ^ (w - n) - 1)) (ordering_then (nat_cmp n m) Equal) e)
    where
      longer : (nat_cmp n m ≡ Less) ⊎ ((nat_cmp n m ≡ Equal) × (Equal ≡ Less)) → n < m
      longer (inl h) = is_lower n m h
      longer (inr h) = let never = h.1 in cc

      at : (nat_cmp (a + 2 ^ (w - m) - 1) (b + 2 ^ (w - n) - 1) ≡ Less)
          ⊎ ((nat_cmp (a + 2 ^ (w - m) - 1) (b + 2 ^ (w - n) - 1) ≡ Equal) × (ordering_then (nat_cmp n m) Equal ≡ Less)) → PrefixBefore w m a n b
      at (inl h) = lower_last (is_lower (a + 2 ^ (w - m) - 1) (b + 2 ^ (w - n) - 1) h)
      at (inr h) =
          let lasts = equal_numbers (a + 2 ^ (w - m) - 1) (b + 2 ^ (w - n) - 1) h.0 in
          let l : n < m = longer (then_less (nat_cmp n m) Equal h.1) in
          inl (l, a_meets (omega (arith, size_a, size_b)) (omega (arith, size_a, size_b)) (omega (arith, size_a, size_b)))

  blocks_before : PrefixBefore w m a n b → blocks_cmp w m a n b ≡ Less
  blocks_before (inl h) =
      let ends = a_inside h.1 in
      nested h.0 (cases_lt (a + 2 ^ (w - m) - 1) (b + 2 ^ (w - n) - 1)) (let e : a + 2 ^ (w - m) - 1 ≤ b + 2 ^ (w - n) - 1 = omega (arith, size_a, size_b) in e)
    where
      nested : n < m → (a + 2 ^ (w - m) - 1 < b + 2 ^ (w - n) - 1) ⊎ (b + 2 ^ (w - n) - 1 ≤ a + 2 ^ (w - m) - 1)
          → a + 2 ^ (w - m) - 1 ≤ b + 2 ^ (w - n) - 1 → blocks_cmp w m a n b ≡ Less
      nested l (inl k) le = first_less (nat_cmp (a + 2 ^ (w - m) - 1) (b + 2 ^ (w - n) - 1)) (ordering_then (nat_cmp n m) Equal)
          (lower (a + 2 ^ (w - m) - 1) (b + 2 ^ (w - n) - 1) k)
      nested l (inr k) le =
          second_less (nat_cmp (a + 2 ^ (w - m) - 1) (b + 2 ^ (w - n) - 1)) (ordering_then (nat_cmp n m) Equal)
          (level (a + 2 ^ (w - m) - 1) (b + 2 ^ (w - n) - 1) (omega (arith, size_a, size_b)))
          (first_less (nat_cmp n m) Equal (lower n m l))
  blocks_before (inr h) =
      first_less (nat_cmp (a + 2 ^ (w - m) - 1) (b + 2 ^ (w - n) - 1)) (ordering_then (nat_cmp n m) Equal)
      (lower (a + 2 ^ (w - m) - 1) (b + 2 ^ (w - n) - 1) (at (cases_lt (a + 2 ^ (w - m) - 1) (b + 2 ^ (w - n) - 1)) (cases_lt n m)))
    where
      at : (a + 2 ^ (w - m) - 1 < b + 2 ^ (w - n) - 1) ⊎ (b + 2 ^ (w - n) - 1 ≤ a + 2 ^ (w - m) - 1) → (n < m) ⊎ (m ≤ n)
          → a + 2 ^ (w - m) - 1 < b + 2 ^ (w - n) - 1
      at (inl k) l = k
      at (inr k) (inl l) = absurd (h.0 (a_meets (omega (arith, size_a, size_b, h.2)) (omega (arith, size_a, size_b, h.2)) (omega (arith, size_a, size_b, h.2))))
      at (inr k) (inr l) = absurd (h.1 (b_meets l (omega (arith, size_a, size_b, h.2)) (omega (arith, size_a, size_b, h.2))))

octets_less : (xs ys : List ℕ) → octets_cmp xs ys ≡ Less → OctetsBefore xs ys
octets_less [] [] e = cc
octets_less [] (y ∷ ys) e = cc
octets_less (x ∷ xs) [] e = tt
octets_less (x ∷ xs) (y ∷ ys) e = at (then_less (nat_cmp x y) (octets_cmp xs ys) e) (octets_less xs ys)
  where
    at : (nat_cmp x y ≡ Less) ⊎ ((nat_cmp x y ≡ Equal) × (octets_cmp xs ys ≡ Less)) → (octets_cmp xs ys ≡ Less → OctetsBefore xs ys)
        → (x < y) ⊎ ((x ≡ y) × OctetsBefore xs ys)
    at (inl h) rest = inl (is_lower x y h)
    at (inr h) rest = inr (equal_numbers x y h.0, rest h.1)

octets_before : (xs ys : List ℕ) → OctetsBefore xs ys → octets_cmp xs ys ≡ Less
octets_before [] ys h = absurd h
octets_before (x ∷ xs) [] h = refl
octets_before (x ∷ xs) (y ∷ ys) h = at h (octets_before xs ys)
  where
    at : (x < y) ⊎ ((x ≡ y) × OctetsBefore xs ys) → (OctetsBefore xs ys → octets_cmp xs ys ≡ Less) → ordering_then (nat_cmp x y) (octets_cmp xs ys) ≡ Less
    at (inl h) rest = first_less (nat_cmp x y) (octets_cmp xs ys) (lower x y h)
    at (inr h) rest = second_less (nat_cmp x y) (octets_cmp xs ys) (level x y h.0) (rest h.1)

abbrev BothWays : Body → Body → Type 0
BothWays x y = (body_cmp x y ≡ Less → BodyBefore x y) × (BodyBefore x y → body_cmp x y ≡ Less)

v4_ways : (x y : Body) → IsNormalBody V4Form x → IsNormalBody V4Form y → BothWays x y
v4_ways (V4Body f m a) (V4Body g n b) h k =
    let p = block_of 32 m a h.1 h.2 in
    let q = block_of 32 n b k.1 k.2 in
    (blocks_less 32 m a n b p q, blocks_before 32 m a n b p q)
v4_ways (V4Body f m a) (V6Body n p b) h k = absurd k
v4_ways (V4Body f m a) (ListBody ys) h k = absurd k
v4_ways (V6Body m o a) y h k = absurd h
v4_ways (ListBody xs) y h k = absurd h

v6_ways : (x y : Body) → IsNormalBody V6Form x → IsNormalBody V6Form y → BothWays x y
v6_ways (V6Body m o a) (V6Body n p b) h k =
    (λ e. there (then_less (nat_cmp o p) (blocks_cmp 128 (m - o) a (n - p) b) e), back)
  where
    left : IsBlock 128 (m - o) a
    left = block_of 128 (m - o) a (let l = h.0.0 in omega arith) h.1

    right : IsBlock 128 (n - p) b
    right = block_of 128 (n - p) b (let l = k.0.0 in omega arith) k.1

    there : (nat_cmp o p ≡ Less) ⊎ ((nat_cmp o p ≡ Equal) × (blocks_cmp 128 (m - o) a (n - p) b ≡ Less))
        → (o < p) ⊎ ((o ≡ p) × PrefixBefore 128 (m - o) a (n - p) b)
    there (inl e) = inl (is_lower o p e)
    there (inr e) = inr (equal_numbers o p e.0, blocks_less 128 (m - o) a (n - p) b left right e.1)

    back : (o < p) ⊎ ((o ≡ p) × PrefixBefore 128 (m - o) a (n - p) b) → ordering_then (nat_cmp o p) (blocks_cmp 128 (m - o) a (n - p) b) ≡ Less
    back (inl e) = first_less (nat_cmp o p) (blocks_cmp 128 (m - o) a (n - p) b) (lower o p e)
    back (inr e) = second_less (nat_cmp o p) (blocks_cmp 128 (m - o) a (n - p) b) (level o p e.0) (blocks_before 128 (m - o) a (n - p) b left right e.1)
v6_ways (V6Body m o a) (V4Body g n b) h k = absurd k
v6_ways (V6Body m o a) (ListBody ys) h k = absurd k
v6_ways (V4Body f m a) y h k = absurd h
v6_ways (ListBody xs) y h k = absurd h

form_ways : (form : Form) (x y : Body) → IsNormalBody form x → IsNormalBody form y → BothWays x y
form_ways V4Form x y h k = v4_ways x y h k
form_ways V6Form x y h k = v6_ways x y h k
form_ways (ListForm kind widths bits) (ListBody xs) (ListBody ys) h k = (octets_less (canonical xs) (canonical ys), octets_before (canonical xs) (canonical ys))
form_ways (ListForm kind widths bits) (ListBody xs) (V4Body g n b) h k = absurd k
form_ways (ListForm kind widths bits) (ListBody xs) (V6Body n p b) h k = absurd k
form_ways (ListForm kind widths bits) (V4Body f m a) y h k = absurd h
form_ways (ListForm kind widths bits) (V6Body m o a) y h k = absurd h

body_ways : (form : Option Form) (x y : Body) → IsNormalAt form x → IsNormalAt form y → BothWays x y
body_ways None x y h k = absurd h
body_ways (Some form) x y h k = form_ways form x y h k

-- two bodies behind one type of a family
same_type : (family : Family) (x y : Part) → IsNormalAt (form_of family x.kind) x.body → IsNormalAt (form_of family y.kind) y.body → x.kind ≡ y.kind
    → BothWays x.body y.body
same_type family x y h k e = body_ways (form_of family x.kind) x.body y.body h (subst (λ (n : ℕ). IsNormalAt (form_of family n) y.body) (sym e) k)

abbrev Ways : List Part → List Part → Type 0
Ways xs ys = (parts_cmp xs ys ≡ Less → PartsBefore xs ys) × (PartsBefore xs ys → parts_cmp xs ys ≡ Less)

parts_ways : (family : Family) (i j : ℕ) (xs ys : List Part) → AreNormal family i xs → AreNormal family j ys → Ways xs ys
parts_ways family i j [] [] h k = (λ e. cc, λ e. absurd e)
parts_ways family i j [] (y ∷ ys) h k = (λ e. cc, λ e. absurd e)
parts_ways family i j (x ∷ xs) [] h k = (λ e. tt, λ e. refl)
parts_ways family i j (x ∷ xs) (y ∷ ys) h k = (
  λ e. there (then_less (part_cmp x y) (parts_cmp xs ys) e) (parts_ways family x.kind y.kind xs ys h.2 k.2),
  λ e. back e (parts_ways family x.kind y.kind xs ys h.2 k.2),
)
  where
    of_part : (nat_cmp x.kind y.kind ≡ Less) ⊎ ((nat_cmp x.kind y.kind ≡ Equal) × (body_cmp x.body y.body ≡ Less))
        → (x.kind < y.kind) ⊎ ((x.kind ≡ y.kind) × (BodyBefore x.body y.body ⊎ ((x.body ≡ y.body) × PartsBefore xs ys)))
    of_part (inl e) = inl (is_lower x.kind y.kind e)
    of_part (inr e) =
        let kind = equal_numbers x.kind y.kind e.0 in
        inr (kind, inl ((same_type family x y h.1 k.1 kind).0 e.1))

    there : (part_cmp x y ≡ Less) ⊎ ((part_cmp x y ≡ Equal) × (parts_cmp xs ys ≡ Less)) → Ways xs ys
        → (x.kind < y.kind) ⊎ ((x.kind ≡ y.kind) × (BodyBefore x.body y.body ⊎ ((x.body ≡ y.body) × PartsBefore xs ys)))
    there (inl e) rest = of_part (then_less (nat_cmp x.kind y.kind) (body_cmp x.body y.body) e)
    there (inr e) rest =
        let kind = equal_numbers x.kind y.kind (first_equal (nat_cmp x.kind y.kind) (body_cmp x.body y.body) e.0) in
        let body = same_body x.body y.body (sound_part (form_of family x.kind) x.body h.1) (sound_part (form_of family y.kind) y.body k.1)
        (second_equal (nat_cmp x.kind y.kind) (body_cmp x.body y.body) e.0) in
        inr (kind, inr (body, rest.0 e.1))

    bodies : (x.kind ≡ y.kind) → BodyBefore x.body y.body ⊎ ((x.body ≡ y.body) × PartsBefore xs ys) → Ways xs ys
        → ordering_then (part_cmp x y) (parts_cmp xs ys) ≡ Less
    bodies kind (inl e) rest = first_less (part_cmp x y) (parts_cmp xs ys)
        (second_less (nat_cmp x.kind y.kind) (body_cmp x.body y.body) (level x.kind y.kind kind) ((same_type family x y h.1 k.1 kind).1 e))
    bodies kind (inr e) rest =
        let body : body_cmp x.body y.body ≡ Equal = subst (λ (z : Body). body_cmp x.body z ≡ Equal) e.0 (tied_itself body_total x.body) in
        let part : part_cmp x y ≡ Equal = ap (λ (r : Ordering). ordering_then r (body_cmp x.body y.body)) (level x.kind y.kind kind) ∙ body in
        second_less (part_cmp x y) (parts_cmp xs ys) part (rest.1 e.1)

    back : (x.kind < y.kind) ⊎ ((x.kind ≡ y.kind) × (BodyBefore x.body y.body ⊎ ((x.body ≡ y.body) × PartsBefore xs ys))) → Ways xs ys
        → ordering_then (part_cmp x y) (parts_cmp xs ys) ≡ Less
    back (inl e) rest = first_less (part_cmp x y) (parts_cmp xs ys) (first_less (nat_cmp x.kind y.kind) (body_cmp x.body y.body) (lower x.kind y.kind e))
    back (inr e) rest = bodies e.0 e.1 rest

families : (f g : Family) → afi_of f < afi_of g → (f ≡ V4) × (g ≡ V6)
families V4 V6 h = (refl, refl)
families V4 V4 h = absurd (omega arith)
families V6 V6 h = absurd (omega arith)
families V6 V4 h = absurd (omega arith)

pub before_law : (a b : Ruled) → IsRule a → IsRule b → (rule_cmp a b ≡ Less → Before a b) × (Before a b → rule_cmp a b ≡ Less)
before_law a b h k = (λ e. there (then_less (nat_cmp (afi_of a.family) (afi_of b.family)) (parts_cmp a.parts b.parts) e), back)
  where
    ways : a.family ≡ b.family → Ways a.parts b.parts
    ways e = parts_ways a.family 0 0 a.parts b.parts h.normal (subst (λ (f : Family). AreNormal f 0 b.parts) (sym e) k.normal)

    there : (nat_cmp (afi_of a.family) (afi_of b.family) ≡ Less)
        ⊎ ((nat_cmp (afi_of a.family) (afi_of b.family) ≡ Equal) × (parts_cmp a.parts b.parts ≡ Less)) → Before a b
    there (inl e) = inl (families a.family b.family (is_lower (afi_of a.family) (afi_of b.family) e))
    there (inr e) =
        let family = same_family a.family b.family (equal_numbers (afi_of a.family) (afi_of b.family) e.0) in
        inr (family, (ways family).0 e.1)

    back : Before a b → rule_cmp a b ≡ Less
    back (inl e) =
        let left : afi_of a.family ≡ 1 = ap afi_of e.0 in
        let right : afi_of b.family ≡ 2 = ap afi_of e.1 in
        first_less (nat_cmp (afi_of a.family) (afi_of b.family)) (parts_cmp a.parts b.parts) (lower (afi_of a.family) (afi_of b.family) (omega arith))
    back (inr e) = second_less (nat_cmp (afi_of a.family) (afi_of b.family)) (parts_cmp a.parts b.parts)
        (level (afi_of a.family) (afi_of b.family) (ap afi_of e.0)) ((ways e.0).1 e.1)

pub before_test : (a b : Ruled) (answer : Bool) → IsRule a × IsRule b → answer ≡ is_lt (rule_cmp a b)
    → (answer ≡ true → Before a b) × (Before a b → answer ≡ true)
before_test a b answer rules e =
    let law = before_law a b rules.0 rules.1 in
    (λ h. law.0 (less_of_is_lt (rule_cmp a b) (sym e ∙ h)), λ h. e ∙ ap is_lt (law.1 h))
