-- The destinations decide, unless they are equal.
use Rattle.fs_order.proofs.Words.{◌≡◌, ℕ, ◌+◌, ◌-◌, ◌^◌, ◌<◌, List, [], ◌∷◌, refl, sym, ap, ap₂, ◌∙◌, subst, arith, Ordering, Option, Some, None}
use Rattle.fs_order.proofs.Words.{Bool, true, false, ◌==◌, if◌then◌else◌, Less, Equal, Greater, nat_cmp, ordering_then, nat_tests, eqb-true, Family}
use Rattle.fs_order.proofs.Words.{V4, V6, afi_of, form_of, Body, V4Body, V6Body, ListBody, Part, AreNormal, IsNormalAt, destination_body}
use Rattle.fs_order.proofs.Words.{destination_in, destination_of, body_cmp, part_cmp, parts_cmp, rule_cmp}
use Rattle.fs_order.specs.Laws.{destination_cmp, DestinationsFirst}
use Rattle.fs_nlri.proofs.Destination.{destination_first}

lower : (a b : ℕ) → a < b → nat_cmp a b ≡ Less
lower a b h = grind (arith, nat_tests)

higher : (a b : ℕ) → b < a → nat_cmp a b ≡ Greater
higher a b h = grind (arith, nat_tests)

level : (a b : ℕ) → a ≡ b → nat_cmp a b ≡ Equal
level a b h = grind (arith, nat_tests)

-- what decides first may be asked twice
twice : (l m o : Ordering) → ordering_then (ordering_then l (ordering_then m Equal)) o
    ≡ ordering_then (ordering_then l m) (ordering_then (ordering_then l (ordering_then m Equal)) o)
twice Less m o = refl
twice Greater m o = refl
twice Equal Less o = refl
twice Equal Greater o = refl
twice Equal Equal o = refl

-- two bodies behind the destination's type, in one family
bodies_first : (family : Family) (x y : Body) (o : Ordering) → IsNormalAt (form_of family 1) x → IsNormalAt (form_of family 1) y
    → ordering_then (body_cmp x y) o ≡ ordering_then (destination_cmp (destination_body x) (destination_body y)) (ordering_then (body_cmp x y) o)
bodies_first V4 (V4Body f m a) (V4Body g n b) o h k = at f g h.0 k.0
  where
    at : (f g : Family) → f ≡ V4 → g ≡ V4
        → ordering_then (body_cmp (V4Body f m a) (V4Body g n b)) o
        ≡ ordering_then (destination_cmp (destination_body (V4Body f m a)) (destination_body (V4Body g n b)))
        (ordering_then (body_cmp (V4Body f m a) (V4Body g n b)) o)
    at V4 V4 e e' = twice (nat_cmp (a + 2 ^ (32 - m) - 1) (b + 2 ^ (32 - n) - 1)) (nat_cmp n m) o
    at V6 g e e' = cc
    at V4 V6 e e' = cc
bodies_first V4 (V4Body f m a) (V6Body n p b) o h k = absurd k
bodies_first V4 (V4Body f m a) (ListBody ys) o h k = absurd k
bodies_first V4 (V6Body m p a) y o h k = absurd h
bodies_first V4 (ListBody xs) y o h k = absurd h
bodies_first V6 (V6Body m p a) (V6Body n q b) o h k = at (p == 0) (q == 0) refl refl
  where
    lasts : Ordering
    lasts = nat_cmp (a + 2 ^ (128 - (m - p)) - 1) (b + 2 ^ (128 - (n - q)) - 1)

    lengths : Ordering
    lengths = nat_cmp (n - q) (m - p)

    rest : Ordering
    rest = ordering_then lasts (ordering_then lengths Equal)

    offsets : Ordering → Ordering
    offsets r = ordering_then (ordering_then r rest) o

    shown : Ordering
    shown = ordering_then (nat_cmp (a + 2 ^ (128 - m) - 1) (b + 2 ^ (128 - n) - 1)) (nat_cmp n m)

    decides : (r d : Ordering) → nat_cmp p q ≡ r → ordering_then (ordering_then r rest) o ≡ ordering_then d (ordering_then (ordering_then r rest) o)
        → offsets (nat_cmp p q) ≡ ordering_then d (offsets (nat_cmp p q))
    decides r d e same = ap offsets e ∙ same ∙ sym (ap (λ (s : Ordering). ordering_then d (offsets s)) e)

    whole : (n q : ℕ) → (q == 0) ≡ true → n - q ≡ n
    whole n q e = let zero : q ≡ 0 = eqb-true q 0 e in omega arith

    none : (q : ℕ) → (q == 0) ≡ false → 0 < q
    none q e = grind (arith, nat_tests)

    at : (c d : Bool) → (p == 0) ≡ c → (q == 0) ≡ d
        → offsets (nat_cmp p q) ≡ ordering_then (destination_cmp (if c then Some (V6, a, m) else None) (if d then Some (V6, b, n) else None))
        (offsets (nat_cmp p q))
    at true true e f =
        let same : nat_cmp p q ≡ Equal = level p q (eqb-true p 0 e ∙ sym (eqb-true q 0 f)) in
        let plain : ordering_then lasts lengths ≡ shown =
        λ i. ordering_then (nat_cmp (a + 2 ^ (128 - whole m p e i) - 1) (b + 2 ^ (128 - whole n q f i) - 1))
        (nat_cmp (whole n q f i) (whole m p e i)) in
        decides Equal shown same (twice lasts lengths o ∙ ap (λ (s : Ordering). ordering_then s (ordering_then rest o)) plain)
    at true false e f = decides Less Less (lower p q (let z : p ≡ 0 = eqb-true p 0 e in let s : 0 < q = none q f in omega arith)) refl
    at false true e f = decides Greater Greater (higher p q (let z : q ≡ 0 = eqb-true q 0 f in let s : 0 < p = none p e in omega arith)) refl
    at false false e f = refl
bodies_first V6 (V6Body m p a) (V4Body g n b) o h k = absurd k
bodies_first V6 (V6Body m p a) (ListBody ys) o h k = absurd k
bodies_first V6 (V4Body f m a) y o h k = absurd h
bodies_first V6 (ListBody xs) y o h k = absurd h

only_one : (kind : ℕ) → (kind == 1) ≡ false → 0 < kind → 1 < kind
only_one kind e h = grind (arith, nat_tests)

-- a decided comparison
decided : (d o p : Ordering) → o ≡ d → ordering_then o p ≡ ordering_then d (ordering_then o p)
decided Less o p e = ap (λ (r : Ordering). ordering_then r p) e
decided Greater o p e = ap (λ (r : Ordering). ordering_then r p) e
decided Equal o p e = refl

-- a destination on one side alone
left_alone : (d : Option (Family × ℕ × ℕ)) (o p : Ordering) → o ≡ Less → ordering_then o p ≡ ordering_then (destination_cmp d None) (ordering_then o p)
left_alone None o p e = refl
left_alone (Some x) o p e = decided Less o p e

right_alone : (d : Option (Family × ℕ × ℕ)) (o p : Ordering) → o ≡ Greater → ordering_then o p ≡ ordering_then (destination_cmp None d) (ordering_then o p)
right_alone None o p e = refl
right_alone (Some x) o p e = decided Greater o p e

-- the first components
heads_first : (family : Family) (x y : Part) (o : Ordering) → 0 < x.kind → 0 < y.kind → IsNormalAt (form_of family x.kind) x.body
    → IsNormalAt (form_of family y.kind) y.body
    → ordering_then (part_cmp x y) o
    ≡ ordering_then (destination_cmp (if x.kind == 1 then destination_body x.body else None) (if y.kind == 1 then destination_body y.body
    else None)) (ordering_then (part_cmp x y) o)
heads_first family x y o sx sy h k = at (x.kind == 1) (y.kind == 1) refl refl
  where
    kinds : Ordering → Ordering
    kinds r = ordering_then (ordering_then r (body_cmp x.body y.body)) o

    moved : (r d : Ordering) → nat_cmp x.kind y.kind ≡ r → kinds r ≡ ordering_then d (kinds r)
        → kinds (nat_cmp x.kind y.kind) ≡ ordering_then d (kinds (nat_cmp x.kind y.kind))
    moved r d e same = ap kinds e ∙ same ∙ sym (ap (λ (s : Ordering). ordering_then d (kinds s)) e)

    at : (c d : Bool) → (x.kind == 1) ≡ c → (y.kind == 1) ≡ d
        → kinds (nat_cmp x.kind y.kind)
        ≡ ordering_then (destination_cmp (if c then destination_body x.body else None) (if d then destination_body y.body else None))
        (kinds (nat_cmp x.kind y.kind))
    at true true e f =
        let p : x.kind ≡ 1 = eqb-true x.kind 1 e in
        let q : y.kind ≡ 1 = eqb-true y.kind 1 f in
        moved Equal (destination_cmp (destination_body x.body) (destination_body y.body)) (level x.kind y.kind (p ∙ sym q))
        (bodies_first family x.body y.body o (subst (λ (n : ℕ). IsNormalAt (form_of family n) x.body) p h)
        (subst (λ (n : ℕ). IsNormalAt (form_of family n) y.body) q k))
    at true false e f =
        let less : nat_cmp x.kind y.kind ≡ Less =
        lower x.kind y.kind (let p : x.kind ≡ 1 = eqb-true x.kind 1 e in let q : 1 < y.kind = only_one y.kind f sy in omega arith) in
        left_alone (destination_body x.body) (part_cmp x y) o (ap (λ (r : Ordering). ordering_then r (body_cmp x.body y.body)) less)
    at false true e f =
        let more : nat_cmp x.kind y.kind ≡ Greater =
        higher x.kind y.kind (let p : y.kind ≡ 1 = eqb-true y.kind 1 f in let q : 1 < x.kind = only_one x.kind e sx in omega arith) in
        right_alone (destination_body y.body) (part_cmp x y) o (ap (λ (r : Ordering). ordering_then r (body_cmp x.body y.body)) more)
    at false false e f = refl

parts_first : (family : Family) (xs ys : List Part) → AreNormal family 0 xs → AreNormal family 0 ys
    → parts_cmp xs ys ≡ ordering_then (destination_cmp (destination_in xs) (destination_in ys)) (parts_cmp xs ys)
parts_first family [] [] h k = refl
parts_first family [] (y ∷ ys) h k = right_alone (destination_in (y ∷ ys)) Greater Equal refl
parts_first family (x ∷ xs) [] h k = left_alone (destination_in (x ∷ xs)) Less Equal refl
parts_first family (x ∷ xs) (y ∷ ys) h k =
    heads_first family x y (parts_cmp xs ys) h.0 k.0 h.1 k.1
    ∙ sym (ap₂ (λ (p q : Option (Family × ℕ × ℕ)). ordering_then (destination_cmp p q) (parts_cmp (x ∷ xs) (y ∷ ys)))
    (destination_first family x xs h) (destination_first family y ys k))

pub destinations_first : DestinationsFirst
destinations_first a b h k e =
    let same : nat_cmp (afi_of a.family) (afi_of b.family) ≡ Equal = level (afi_of a.family) (afi_of b.family) (ap afi_of e) in
    let left : rule_cmp a b ≡ parts_cmp a.parts b.parts = ap (λ (r : Ordering). ordering_then r (parts_cmp a.parts b.parts)) same in
    let normal : AreNormal a.family 0 b.parts = subst (λ (f : Family). AreNormal f 0 b.parts) (sym e) k.normal in
    left ∙ parts_first a.family a.parts b.parts h.normal normal
    ∙ sym (ap (λ (r : Ordering). ordering_then (destination_cmp (destination_of a) (destination_of b)) r) left)
