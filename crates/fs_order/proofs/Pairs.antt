-- The canonical octets of two lists of pairs compare as the pairs do.
use Rattle.fs_order.proofs.Words.{◌≡◌, ℕ, zero, suc, ◌+◌, ◌*◌, ◌/◌, ◌%◌, ◌^◌, ◌<◌, ◌≤◌, List, [], ◌∷◌, ◌++◌, true, false, true≢false, refl, sym, ap}
use Rattle.fs_order.proofs.Words.{ap₂, ◌∙◌, subst, arith, Ordering, Less, Equal, Greater, nat_cmp, ordering_then, slice_cmp, ranked, nat_tests}
use Rattle.fs_order.proofs.Words.{IsNormal, canonical, pair_octets, Body, ListBody, IsSoundBody, ended_cmp, body_cmp}
use Rattle.std.{specs.Int.{byte_at, bytes_high_first}, proofs.Math.{Nat.{mod-one, div-one, mod-eq_of_lt, pow-succ', one-le-pow, mod-lt}, Arith.{mod-mul}}}
use Rattle.fs_base.proofs.NumberTests.{next_row}
use Rattle.fs_ops.specs.{declared.kind.Kind.{Kind}, Operator.{ends, meant_bits, width_of}, OperatorList.{AreNormal}}

abbrev pub octets_cmp : List ℕ → List ℕ → Ordering
octets_cmp = ended_cmp nat_cmp

abbrev pub pair_cmp : ℕ × ℕ → ℕ × ℕ → Ordering
pair_cmp x y = ordering_then (nat_cmp x.0 y.0) (nat_cmp x.1 y.1)

-- the high digits decide, and then the low ones
two_digits : (a b c d x y size : ℕ) (o : Ordering) → c < size → d < size → (a < b → x + size ≤ y) → (b < a → y + size ≤ x) → (a ≡ b → x ≡ y)
    → ordering_then (nat_cmp a b) (ordering_then (nat_cmp c d) o) ≡ ordering_then (nat_cmp (x + c) (y + d)) o
two_digits a b c d x y size o lc ld below above same = grind (arith, nat_tests)

byte_is : (k n : ℕ) → byte_at k n ≡ n / 256 ^ k % 256
byte_is zero n = ap (λ (m : ℕ). m % 256) (sym (div-one n))
byte_is (suc k) n = refl

-- a number of k + 1 octets is its highest octet and the number of the others
top_octet : (k n : ℕ) → n % 256 ^ suc k ≡ byte_at k n * 256 ^ k + n % 256 ^ k
top_octet k n =
    let size : 0 < 256 ^ k = one-le-pow k 256 (omega arith) in
    let split : n % (256 * 256 ^ k) ≡ (n / 256 ^ k % 256) * 256 ^ k + n % 256 ^ k = mod-mul n (omega arith) size in
    rw (byte_is k n) (ap (λ (m : ℕ). n % m) (pow-succ' 256 k) ∙ split)

-- the octets of two numbers, highest first, compare as the numbers do
pub octets_number : (k n m : ℕ) (s t : List ℕ)
    → octets_cmp (bytes_high_first k n ++ s) (bytes_high_first k m ++ t) ≡ ordering_then (nat_cmp (n % 256 ^ k) (m % 256 ^ k)) (octets_cmp s t)
octets_number zero n m s t = rw (mod-one n, mod-one m) refl
octets_number (suc k) n m s t =
    let size : 0 < 256 ^ k = one-le-pow k 256 (omega arith) in
    ap (λ (o : Ordering). ordering_then (nat_cmp (byte_at k n) (byte_at k m)) o) (octets_number k n m s t)
    ∙ two_digits (byte_at k n) (byte_at k m) (n % 256 ^ k) (m % 256 ^ k) (byte_at k n * 256 ^ k) (byte_at k m * 256 ^ k) (256 ^ k) (octets_cmp s t)
    (mod-lt n size) (mod-lt m size)
    (next_row (byte_at k n) (byte_at k m) (256 ^ k)) (next_row (byte_at k m) (byte_at k n) (256 ^ k)) (λ e. ap (λ (a : ℕ). a * 256 ^ k) e)
    ∙ ap (λ (o : Ordering). ordering_then o (octets_cmp s t)) (λ i. nat_cmp (sym (top_octet k n) i) (sym (top_octet k m) i))

pub equal_numbers : (a b : ℕ) → nat_cmp a b ≡ Equal → a ≡ b
equal_numbers a b e = ranked a b Equal (sym e)

-- values of one width
same_width : (n k v w : ℕ) (s t : List ℕ) → n ≡ k → v < 256 ^ n → w < 256 ^ k
    → octets_cmp (bytes_high_first n v ++ s) (bytes_high_first k w ++ t) ≡ ordering_then (nat_cmp v w) (octets_cmp s t)
same_width n k v w s t e lv lw =
    let small : w < 256 ^ n = subst (λ (j : ℕ). w < 256 ^ j) (sym e) lw in
    ap (λ (j : ℕ). octets_cmp (bytes_high_first n v ++ s) (bytes_high_first j w ++ t)) (sym e)
    ∙ octets_number n v w s t
    ∙ ap (λ (o : Ordering). ordering_then o (octets_cmp s t)) (λ i. nat_cmp (mod-eq_of_lt lv i) (mod-eq_of_lt small i))

-- a pair, and what comes behind it where the operators are equal
one_pair : (x y : ℕ × ℕ) (s t : List ℕ) (o : Ordering) → x.1 < 256 ^ width_of x.0 → y.1 < 256 ^ width_of y.0 → (x.0 ≡ y.0 → o ≡ octets_cmp s t)
    → ordering_then (pair_cmp x y) o ≡ octets_cmp (pair_octets x ++ s) (pair_octets y ++ t)
one_pair x y s t o lx ly rest = at (nat_cmp x.0 y.0) refl
  where
    at : (r : Ordering) → nat_cmp x.0 y.0 ≡ r
        → ordering_then (ordering_then r (nat_cmp x.1 y.1)) o
        ≡ ordering_then r (octets_cmp (bytes_high_first (width_of x.0) x.1 ++ s) (bytes_high_first (width_of y.0) y.1 ++ t))
    at Less e = refl
    at Greater e = refl
    at Equal e =
        let same : x.0 ≡ y.0 = equal_numbers x.0 y.0 e in
        ap (λ (r : Ordering). ordering_then (nat_cmp x.1 y.1) r) (rest same)
        ∙ sym (same_width (width_of x.0) (width_of y.0) x.1 y.1 s t (ap width_of same) lx ly)

one_end : {A : Type 0} (x y : ℕ × ℕ) → ends x.0 ≡ true → ends y.0 ≡ false → x.0 ≡ y.0 → A
one_end x y h k e = absurd (true≢false (sym h ∙ ap ends e ∙ k))

normal_pairs : (bits bits' : ℕ) (xs ys : List (ℕ × ℕ)) → AreNormal bits xs → AreNormal bits' ys
    → slice_cmp pair_cmp xs ys ≡ octets_cmp (canonical xs) (canonical ys)
normal_pairs bits bits' [] ys h k = absurd h
normal_pairs bits bits' (x ∷ []) [] h k = absurd k
normal_pairs bits bits' (x ∷ x' ∷ xs) [] h k = absurd k
normal_pairs bits bits' (x ∷ []) (y ∷ []) h k = one_pair x y [] [] Equal h.0.fits k.0.fits (λ e. refl)
normal_pairs bits bits' (x ∷ []) (y ∷ y' ∷ ys) h k = one_pair x y [] (canonical (y' ∷ ys)) Less h.0.fits k.0.fits (λ e. one_end x y h.1 k.1 e)
normal_pairs bits bits' (x ∷ x' ∷ xs) (y ∷ []) h k = one_pair x y (canonical (x' ∷ xs)) [] Greater h.0.fits k.0.fits (λ e. one_end y x k.1 h.1 (sym e))
normal_pairs bits bits' (x ∷ x' ∷ xs) (y ∷ y' ∷ ys) h k =
    one_pair x y (canonical (x' ∷ xs)) (canonical (y' ∷ ys)) (slice_cmp pair_cmp (x' ∷ xs) (y' ∷ ys)) h.0.fits k.0.fits
    (λ e. normal_pairs bits bits' (x' ∷ xs) (y' ∷ ys) h.2 k.2)

pub pairs_compared : (kind kind' : Kind) (xs ys : List (ℕ × ℕ)) → IsNormal kind xs → IsNormal kind' ys
    → slice_cmp pair_cmp xs ys ≡ octets_cmp (canonical xs) (canonical ys)
pairs_compared kind kind' xs ys h k = normal_pairs (meant_bits kind) (meant_bits kind') xs ys h.normal k.normal

-- so two bodies of lists do
pub lists_compared : (x y : Body) (xs ys : List (ℕ × ℕ)) (order : Ordering) → x ≡ ListBody xs → y ≡ ListBody ys → IsSoundBody x → IsSoundBody y
    → order ≡ slice_cmp pair_cmp xs ys → order ≡ body_cmp x y
lists_compared x y xs ys order is other h k compared =
    let a : IsSoundBody (ListBody xs) = subst IsSoundBody is h in
    let b : IsSoundBody (ListBody ys) = subst IsSoundBody other k in
    compared ∙ pairs_compared a.0 b.0 xs ys a.1 b.1 ∙ sym (ap₂ body_cmp is other)
