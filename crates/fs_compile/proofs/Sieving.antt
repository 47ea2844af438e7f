-- The rules that a packet may match, by the bits of words.
use Rattle.fs_compile.proofs.Words.{◌≡◌, ℕ, ◌+◌, ◌-◌, ◌/◌, ◌%◌, ◌^◌, ◌<◌, ◌≤◌, ◌⊎◌, inl, inr, min, sym, subst, ap, ◌∙◌, Bool, true, false}
use Rattle.fs_compile.proofs.Words.{bit_and, map, List, get_or, length, w64, arith, bit_at, trailing_zeros, cases_lt, get_or-map}
use Rattle.fs_compile.proofs.Words.{bit_at-trailing_zeros, bit_at-zero, bit_at_and, bit_at_or, false_from, Rows}
use Rattle.fs_compile.proofs.Words.{AreRows, first_at, front_of, word_of, Missed}
use Rattle.std.proofs.{Math.Nat.{div-div-eq-div-mul, div-le_self}, lemmas.Nat.{pow-add}}

-- the bits of a number without its lowest ones
shifted : (n a i : ℕ) → bit_at (n / 2 ^ a) i ≡ bit_at n (a + i)
shifted n a i = ap (λ (m : ℕ). m % 2) (div-div-eq-div-mul n (2 ^ a) (2 ^ i) ∙ ap (λ (p : ℕ). n / p) (sym (pow-add 2 a i)))

not_both : (n : ℕ) → n ≡ 1 → n ≡ 0 → ⊥
not_both n set clear = omega (arith, set, clear)

-- the lowest bit that is set, and those below it
pub lowest : (rest : ℕ) → rest < 2 ^ 64 → 0 < rest → (trailing_zeros w64 rest < 64) × (bit_at rest (trailing_zeros w64 rest) ≡ 1)
    × ((i : ℕ) → i < trailing_zeros w64 rest → bit_at rest i ≡ 0)
lowest rest small some = bit_at-trailing_zeros w64 rest some small

pub fits_shifted : (word n : ℕ) → word < 2 ^ 64 → word / 2 ^ n < 2 ^ 64
fits_shifted word n small = let a : word / 2 ^ n ≤ word = div-le_self word (2 ^ n) in omega (arith, a, small)

both_set : (a b i : ℕ) → bit_at a i ≡ 1 → bit_at b i ≡ 1 → bit_at (bit_and a b) i ≡ 1
both_set a b i h k = bit_at_and a b i ∙ at (bit_at a i) (bit_at b i) h k where
  at : (x y : ℕ) → x ≡ 1 → y ≡ 1 → min x y ≡ 1
  at x y e f = omega (arith, e, f)

clear_in_both : (a b i : ℕ) → bit_at a i ≡ 0 → bit_at (bit_and a b) i ≡ 0
clear_in_both a b i h = bit_at_and a b i ∙ at (bit_at a i) (bit_at b i) h where
  at : (x y : ℕ) → x ≡ 0 → min x y ≡ 0
  at x y e = omega (arith, e)

none_in_front : (front a b c i : ℕ) → front ≡ 0 → bit_at (bit_and (bit_and (bit_and front a) b) c) i ≡ 0
none_in_front front a b c i h = clear_in_both _ c i (clear_in_both _ b i (clear_in_both front a i (ap (λ (n : ℕ). bit_at n i) h ∙ bit_at-zero i)))

pub set_in_all : (tests : List Bool) (rows : Rows) (to place k : ℕ) → AreRows tests to rows → first_at rows place ≤ k
    → k < first_at rows place + 64 → k < to → get_or tests k false ≡ true
    → bit_at (word_of rows place) (k - first_at rows place) ≡ 1
set_in_all tests rows to place k are from within before hit =
    subst (λ (i : ℕ). bit_at (word_of rows i) (k - first_at rows place) ≡ 1) here
    (subst (λ (i : ℕ). bit_at (word_of rows ((k - rows.first) / 64)) i ≡ 1) bit
    (both_set _ _ ((k - rows.first) % 64)
    (both_set _ _ ((k - rows.first) % 64)
    (both_set _ _ ((k - rows.first) % 64)
    (both_set _ _ ((k - rows.first) % 64)
    (both_set _ _ ((k - rows.first) % 64) (are.source.marked k low before hit) (are.destination_port.marked k low before hit))
    (are.source_port.marked k low before hit))
    (are.protocol.marked k low before hit))
    (are.length.marked k low before hit))
    (bit_at_or _ _ ((k - rows.first) % 64) ∙ are.ports.marked k low before hit))) where
      low : rows.first ≤ k
      low = omega (arith, from)

      here : (k - rows.first) / 64 ≡ place
      here = omega (arith, from, within)

      bit : (k - rows.first) % 64 ≡ k - first_at rows place
      bit = omega (arith, from, within)

-- a word that has no bit in front has no rule that matches
pub none_marked : (tests : List Bool) (rows : Rows) (place start from end : ℕ) → front_of rows place ≡ 0
    → ((k : ℕ) → from ≤ k → k < end → get_or tests k false ≡ true → bit_at (word_of rows place) (k - start) ≡ 1)
    → Missed tests from end
none_marked tests rows place start from end none marked k above below = false_from (get_or tests k false) (λ hit.
    not_both (bit_at (word_of rows place) (k - start)) (marked k above below hit) (none_in_front (front_of rows place) _ _ _ (k - start) none))

-- the rules whose bits are set among those that are left
abbrev pub AreLeft : (tests : List Bool) → (rest number end : ℕ) → Type 0
AreLeft tests rest number end = (k : ℕ) → number ≤ k → k < end → get_or tests k false ≡ true → bit_at rest (k - number) ≡ 1

pub left_first : (tests : List Bool) (word start from end : ℕ) → start ≤ from
    → ((k : ℕ) → from ≤ k → k < end → get_or tests k false ≡ true → bit_at word (k - start) ≡ 1) → AreLeft tests (word / 2 ^ (from - start)) from end
left_first tests word start from end begins marked k above below hit =
    shifted word (from - start) (k - from)
    ∙ ap (λ (i : ℕ). bit_at word i) (let e : from - start + (k - from) ≡ k - start = omega (arith, begins, above) in e) ∙ marked k above below hit

pub left_next : (tests : List Bool) (rest number clear end : ℕ) → AreLeft tests rest number end → AreLeft tests (rest / 2 ^ clear / 2) (number + clear + 1) end
left_next tests rest number clear end left k above below hit =
    shifted (rest / 2 ^ clear) 1 (k - (number + clear + 1)) ∙ shifted rest clear (1 + (k - (number + clear + 1)))
    ∙ ap (λ (i : ℕ). bit_at rest i) (let e : clear + (1 + (k - (number + clear + 1))) ≡ k - number = omega (arith, above) in e)
    ∙ left k (omega (arith, above)) below hit

-- What has no bit doesn't match.
pub missed_on : (tests : List Bool) (rest from end number clear : ℕ) → AreLeft tests rest number end → ((j : ℕ) → j < clear → bit_at rest j ≡ 0)
    → Missed tests from (min number end) → Missed tests from (min (number + clear) end)
missed_on tests rest from end number clear left none missed k above below = by (cases_lt k number) where
  by : (k < number) ⊎ (number ≤ k) → get_or tests k false ≡ false
  by (inl earlier) = missed k above (omega (arith, earlier, below))
  by (inr later) = false_from (get_or tests k false) (λ hit.
      not_both (bit_at rest (k - number)) (left k later (omega (arith, below)) hit) (none (k - number) (omega (arith, later, below))))

pub missed_all : (tests : List Bool) (rest from end number : ℕ) → rest ≡ 0 → AreLeft tests rest number end → Missed tests from (min number end)
    → Missed tests from end
missed_all tests rest from end number none left missed k above below =
    missed_on tests rest from end number end left (λ j _. ap (λ (n : ℕ). bit_at n j) none ∙ bit_at-zero j) missed k above (omega (arith, below))

-- a test that is passed is a rule that matches
pub test_passes : {X : Type 0} (test : X → Bool) (xs : List X) (i : ℕ) (d : X) (r : Bool) → i < length xs → r ≡ test (get_or xs i d) → r ≡ true
    → get_or (map test xs) i false ≡ true
test_passes test xs i d r below e t = get_or-map test xs i d false below ∙ sym e ∙ t
