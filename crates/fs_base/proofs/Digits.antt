-- The octets of a number are the only ones of their count that write it, in either order.
use Rattle.fs_base.proofs.Words.{◌≡◌, ℕ, zero, suc, ◌+◌, ◌*◌, ◌^◌, ◌<◌, ◌≤◌, List, [], ◌∷◌, length, take, refl, sym, ap, ◌∙◌, arith, inl, inr}
use Rattle.fs_base.proofs.Words.{add-mul, mod-lt, mul-le-mul_right, length-take, append-nil, cases_lt, byte_at, bytes_high_first, bytes_low_first}
use Rattle.fs_base.proofs.Words.{IsOctets}
use Rattle.fs_base.proofs.Octets.{octets_at, octets_cons, octets_head, octets_nil, octets_tail, octets_take}
use Rattle.byteorder.specs.Endian.{big_number, big_bytes, little_number, little_bytes}
use Rattle.byteorder.specs.Numbers.{big_from-cons, big_from-lt, big_from-take, big_number-reads_back, length-bytes_high_first, length-bytes_low_first}
use Rattle.byteorder.specs.Numbers.{little_from-cons, little_from-lt, little_from-take, little_number-reads_back}

-- a digit and what is below it make one number in one way
not_above : (p x a y b : ℕ) → a < p → x * p + a ≡ y * p + b → x < y → ⊥
not_above p x a y b small same less =
    let more : (x + 1) * p ≤ y * p = mul-le-mul_right p (omega arith) in
    let step : (x + 1) * p ≡ x * p + 1 * p = add-mul x 1 p in
    omega (arith, more, step)

same_digit : (p x a y b : ℕ) → a < p → b < p → x * p + a ≡ y * p + b → x ≡ y
same_digit p x a y b small small' same = elim (cases_lt x y) [
  | inl less ↦ absurd (not_above p x a y b small same less)
  | inr not_less ↦ elim (cases_lt y x) [
    | inl more ↦ absurd (not_above p y b x a small' (sym same) more)
    | inr not_more ↦ omega arith
  ]
]

-- octets of one count that write one number are the same, where a number tells its first octet and the number of the others
module _ (number : ℕ → List ℕ → ℕ)
    (parted : (n x y : ℕ) (xs ys : List ℕ) → IsOctets (x ∷ xs) → IsOctets (y ∷ ys) → number (suc n) (x ∷ xs) ≡ number (suc n) (y ∷ ys)
    → (x ≡ y) × (number n xs ≡ number n ys)) where
  alike : (n : ℕ) (xs ys : List ℕ) → length xs ≡ n → length ys ≡ n → IsOctets xs → IsOctets ys → number n xs ≡ number n ys → xs ≡ ys
  alike zero [] [] a b p q same = refl
  alike zero [] (y ∷ ys) a b p q same = absurd (omega arith)
  alike zero (x ∷ xs) ys a b p q same = absurd (omega arith)
  alike (suc n) [] ys a b p q same = absurd (omega arith)
  alike (suc n) (x ∷ xs) [] a b p q same = absurd (omega arith)
  alike (suc n) (x ∷ xs) (y ∷ ys) a b p q same =
      let parts = parted n x y xs ys p q same in
      ap (λ d. d ∷ xs) parts.0
      ∙ ap (λ more. y ∷ more) (alike n xs ys (omega arith) (omega arith) (octets_tail x xs p) (octets_tail y ys q) parts.1)

big_parted : (n x y : ℕ) (xs ys : List ℕ) → IsOctets (x ∷ xs) → IsOctets (y ∷ ys) → big_number (suc n) (x ∷ xs) ≡ big_number (suc n) (y ∷ ys)
    → (x ≡ y) × (big_number n xs ≡ big_number n ys)
big_parted n x y xs ys p q same =
    let moved : x * 256 ^ n + big_number n xs ≡ y * 256 ^ n + big_number n ys =
    sym (ap (λ k. x * 256 ^ n + k) (big_from-cons 0 n x xs)) ∙ same ∙ ap (λ k. y * 256 ^ n + k) (big_from-cons 0 n y ys) in
    let first : x ≡ y =
    same_digit (256 ^ n) x (big_number n xs) y (big_number n ys)
    (big_from-lt 0 n xs (octets_at xs (octets_tail x xs p))) (big_from-lt 0 n ys (octets_at ys (octets_tail y ys q))) moved in
    (first, omega (arith, moved, ap (λ d. d * 256 ^ n) first))

little_parted : (n x y : ℕ) (xs ys : List ℕ) → IsOctets (x ∷ xs) → IsOctets (y ∷ ys)
    → little_number (suc n) (x ∷ xs) ≡ little_number (suc n) (y ∷ ys) → (x ≡ y) × (little_number n xs ≡ little_number n ys)
little_parted n x y xs ys p q same =
    let moved : x + 256 * little_number n xs ≡ y + 256 * little_number n ys =
    sym (ap (λ k. x + 256 * k) (little_from-cons 0 n x xs)) ∙ same ∙ ap (λ k. y + 256 * k) (little_from-cons 0 n y ys) in
    let low : x < 256 = octets_head x xs p in
    let low' : y < 256 = octets_head y ys q in
    (omega arith, omega arith)

octet_small : (i x : ℕ) → byte_at i x < 256
octet_small zero x = mod-lt x (omega arith)
octet_small (suc i) x = mod-lt _ (omega arith)

pub big_octets : (n x : ℕ) → IsOctets (big_bytes n x)
big_octets zero x = octets_nil
big_octets (suc n) x = octets_cons (byte_at n x) (bytes_high_first n x) (octet_small n x) (big_octets n x)

low_octets : (i n x : ℕ) → IsOctets (bytes_low_first i n x)
low_octets i zero x = octets_nil
low_octets i (suc n) x = octets_cons (byte_at i x) (bytes_low_first (suc i) n x) (octet_small i x) (low_octets (suc i) n x)

pub little_octets : (n x : ℕ) → IsOctets (little_bytes n x)
little_octets n x = low_octets 0 n x

-- no number of n octets reaches 256 ^ n
pub big_below : (n : ℕ) (octets : List ℕ) → IsOctets octets → big_number n octets < 256 ^ n
big_below n octets are = big_from-lt 0 n octets (octets_at octets are)

pub little_below : (n : ℕ) (octets : List ℕ) → IsOctets octets → little_number n octets < 256 ^ n
little_below n octets are = little_from-lt 0 n octets (octets_at octets are)

-- the first n octets are those that the number in them is written by
pub big_written : (n : ℕ) (octets : List ℕ) → n ≤ length octets → IsOctets octets → take n octets ≡ big_bytes n (big_number n octets)
big_written n octets held are =
    let number = big_number n octets in
    let back : big_number n (big_bytes n number) ≡ number =
    ap (big_number n) (sym (append-nil (big_bytes n number))) ∙ big_number-reads_back n number [] (big_below n octets are) in
    alike big_number big_parted n (take n octets) (big_bytes n number) (omega (arith, length-take n octets)) (length-bytes_high_first n number)
    (octets_take n octets are) (big_octets n number) (big_from-take 0 n n octets (omega arith) ∙ sym back)

pub little_written : (n : ℕ) (octets : List ℕ) → n ≤ length octets → IsOctets octets → take n octets ≡ little_bytes n (little_number n octets)
little_written n octets held are =
    let number = little_number n octets in
    let back : little_number n (little_bytes n number) ≡ number =
    ap (little_number n) (sym (append-nil (little_bytes n number))) ∙ little_number-reads_back n number [] (little_below n octets are) in
    alike little_number little_parted n (take n octets) (little_bytes n number) (omega (arith, length-take n octets)) (length-bytes_low_first 0 n number)
    (octets_take n octets are) (little_octets n number) (little_from-take 0 n n octets (omega arith) ∙ sym back)
