-- Only the same rule is equal in the order.
use Rattle.fs_order.proofs.Words.{◌≡◌, ℕ, ◌+◌, ◌-◌, ◌^◌, ◌<◌, ◌⊎◌, List, [], ◌∷◌, refl, sym, ap, ◌∙◌, subst, arith, inl, inr, Ordering, Less, Equal}
use Rattle.fs_order.proofs.Words.{Greater, nat_cmp, ordering_then, slice_cmp, tied_itself, pow_pos, afi_of, same_family, Body, V4Body, V6Body}
use Rattle.fs_order.proofs.Words.{ListBody, Part, Ruled, IsRule, body_cmp, part_cmp, parts_cmp, rule_cmp, AreSound, IsSoundBody, rule_total}
use Rattle.fs_order.proofs.Words.{rule_sound}
use Rattle.fs_order.proofs.Pairs.{equal_numbers, pair_cmp, pairs_compared}
use Rattle.fs_nlri.{specs.Spelling.{IsRange}, proofs.Fronts.{same_part}}

pub first_equal : (o p : Ordering) → ordering_then o p ≡ Equal → o ≡ Equal
first_equal Less p h = h
first_equal Equal p h = refl
first_equal Greater p h = h

pub second_equal : (o p : Ordering) → ordering_then o p ≡ Equal → p ≡ Equal
second_equal Less p h = cc
second_equal Equal p h = h
second_equal Greater p h = cc

same_pairs : (xs ys : List (ℕ × ℕ)) → slice_cmp pair_cmp xs ys ≡ Equal → xs ≡ ys
same_pairs [] [] h = refl
same_pairs [] (y ∷ ys) h = cc
same_pairs (x ∷ xs) [] h = cc
same_pairs (x ∷ xs) (y ∷ ys) h =
    let pair = first_equal (pair_cmp x y) (slice_cmp pair_cmp xs ys) h in
    let operator = equal_numbers x.0 y.0 (first_equal (nat_cmp x.0 y.0) (nat_cmp x.1 y.1) pair) in
    let value = equal_numbers x.1 y.1 (second_equal (nat_cmp x.0 y.0) (nat_cmp x.1 y.1) pair) in
    let rest = same_pairs xs ys (second_equal (pair_cmp x y) (slice_cmp pair_cmp xs ys) h) in
    λ i. (operator i, value i) ∷ rest i

-- what the order reads of two bodies
pub record Alike (last last' len len' : ℕ) : Type 0 where
  pub lasts : last ≡ last'
  pub lengths : len ≡ len'

alike : (last last' len len' : ℕ) → ordering_then (nat_cmp last last') (ordering_then (nat_cmp len' len) Equal) ≡ Equal → Alike last last' len len'
alike last last' len len' h =
    let l = first_equal (nat_cmp last last') (ordering_then (nat_cmp len' len) Equal) h in
    let n = second_equal (nat_cmp last last') (ordering_then (nat_cmp len' len) Equal) h in
    record { lasts = equal_numbers last last' l; lengths = sym (equal_numbers len' len (first_equal (nat_cmp len' len) Equal n)) }

same_bits : (w a b m n : ℕ) → a + 2 ^ (w - m) - 1 ≡ b + 2 ^ (w - n) - 1 → m ≡ n → a ≡ b
same_bits w a b m n e l =
    let size : 2 ^ (w - m) ≡ 2 ^ (w - n) = ap (λ (k : ℕ). 2 ^ (w - k)) l in
    let some : 0 < 2 ^ (w - m) = pow_pos (w - m) in
    omega arith

same_range : (m o n p : ℕ) → IsRange m o → IsRange n p → o ≡ p → m - o ≡ n - p → m ≡ n
same_range m o n p h k e l = at h.1 k.1
  where
    at : (o < m) ⊎ ((m ≡ 0) × (o ≡ 0)) → (p < n) ⊎ ((n ≡ 0) × (p ≡ 0)) → m ≡ n
    at (inl x) (inl y) = omega arith
    at (inl x) (inr y) = omega arith
    at (inr x) (inl y) = omega arith
    at (inr x) (inr y) = omega arith

pub same_body : (x y : Body) → IsSoundBody x → IsSoundBody y → body_cmp x y ≡ Equal → x ≡ y
same_body (V4Body f m a) (V4Body g n b) h k e =
    let both = alike (a + 2 ^ (32 - m) - 1) (b + 2 ^ (32 - n) - 1) m n e in
    let family : f ≡ g = h.0 ∙ sym k.0 in
    let bits = same_bits 32 a b m n both.lasts both.lengths in
    λ i. V4Body (family i) (both.lengths i) (bits i)
same_body (V6Body m o a) (V6Body n p b) h k e =
    let rest = ordering_then (nat_cmp (a + 2 ^ (128 - (m - o)) - 1) (b + 2 ^ (128 - (n - p)) - 1)) (ordering_then (nat_cmp (n - p) (m - o)) Equal) in
    let offset = equal_numbers o p (first_equal (nat_cmp o p) rest e) in
    let both = alike (a + 2 ^ (128 - (m - o)) - 1) (b + 2 ^ (128 - (n - p)) - 1) (m - o) (n - p) (second_equal (nat_cmp o p) rest e) in
    let bits = same_bits 128 a b (m - o) (n - p) both.lasts both.lengths in
    let len = same_range m o n p h.0 k.0 offset both.lengths in
    λ i. V6Body (len i) (offset i) (bits i)
same_body (ListBody xs) (ListBody ys) h k e =
    ap ListBody (same_pairs xs ys (pairs_compared h.0 k.0 xs ys h.1 k.1 ∙ e))
same_body (V4Body f m a) (V6Body n p b) h k e = cc
same_body (V4Body f m a) (ListBody ys) h k e = cc
same_body (V6Body m o a) (V4Body g n b) h k e = cc
same_body (V6Body m o a) (ListBody ys) h k e = cc
same_body (ListBody xs) (V4Body g n b) h k e = cc
same_body (ListBody xs) (V6Body n p b) h k e = cc

same_parts : (xs ys : List Part) → AreSound xs → AreSound ys → parts_cmp xs ys ≡ Equal → xs ≡ ys
same_parts [] [] h k e = refl
same_parts [] (y ∷ ys) h k e = cc
same_parts (x ∷ xs) [] h k e = cc
same_parts (x ∷ xs) (y ∷ ys) h k e =
    let part = first_equal (part_cmp x y) (parts_cmp xs ys) e in
    let kind = equal_numbers x.kind y.kind (first_equal (nat_cmp x.kind y.kind) (body_cmp x.body y.body) part) in
    let body = same_body x.body y.body h.0 k.0 (second_equal (nat_cmp x.kind y.kind) (body_cmp x.body y.body) part) in
    let rest = same_parts xs ys h.1 k.1 (second_equal (part_cmp x y) (parts_cmp xs ys) e) in
    λ i. same_part x y kind body i ∷ rest i

pub same_rules : (a b : Ruled) → IsRule a → IsRule b → rule_cmp a b ≡ Equal → a ≡ b
same_rules a b h k e =
    let family = same_family a.family b.family
    (equal_numbers (afi_of a.family) (afi_of b.family) (first_equal (nat_cmp (afi_of a.family) (afi_of b.family)) (parts_cmp a.parts b.parts) e)) in
    let parts = same_parts a.parts b.parts (rule_sound a h) (rule_sound b k)
    (second_equal (nat_cmp (afi_of a.family) (afi_of b.family)) (parts_cmp a.parts b.parts) e) in
    λ i. record { family = family i; parts = parts i }

pub same_law : (a b : Ruled) → IsRule a → IsRule b → (rule_cmp a b ≡ Equal → a ≡ b) × (a ≡ b → rule_cmp a b ≡ Equal)
same_law a b h k = (same_rules a b h k, λ e. subst (λ (r : Ruled). rule_cmp a r ≡ Equal) e (tied_itself rule_total a))
