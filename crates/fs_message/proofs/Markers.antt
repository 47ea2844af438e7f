-- A number of so many octets is the greatest exactly where each of them is 255.
use Rattle.fs_message.proofs.Words.{◌≡◌, ℕ, zero, suc, ◌+◌, ◌-◌, ◌*◌, ◌^◌, ◌<◌, ◌≤◌, ◌==◌, Bool, false, not, ◌||◌, List, [], ◌∷◌, length, take, refl}
use Rattle.fs_message.proofs.Words.{ap, ap₂, sym, ◌∙◌, arith, inl, inr, slice_index, list_any, cases_eq, ne_eqb, nat_tests, big_from, big_from-cons}
use Rattle.fs_message.proofs.Words.{big_from-lt}
use Rattle.std.proofs.Math.Nat.{pow-succ', mul-le-mul_right}

abbrev wrong : ℕ → Bool
wrong octet = not (octet == 255)

top : (m b : ℕ) → b < m → (255 * m + b == 256 * m - 1) ≡ (b == m - 1)
top m b some = grind (arith, nat_tests)

below : (x m b : ℕ) → x < 255 → b < m → (x * m + b == 256 * m - 1) ≡ false
below x m b low small =
    let most : x * m ≤ 254 * m = mul-le-mul_right m (omega arith) in
    ne_eqb (x * m + b) (256 * m - 1) (λ same. omega arith)

pub greatest : (n : ℕ) (xs : List ℕ) → n ≤ length xs → ((k : ℕ) → slice_index xs k < 256) → not (big_from 0 n xs == 256 ^ n - 1) ≡ list_any wrong (take n xs)
greatest zero xs long small = refl
greatest (suc n) [] long small = absurd (omega arith)
greatest (suc n) (x ∷ xs) long small =
    let rest : big_from 0 n xs < 256 ^ n = big_from-lt 0 n xs (λ k. small (suc k)) in
    let whole : not (big_from 0 (suc n) (x ∷ xs) == 256 ^ suc n - 1) ≡ not (x * 256 ^ n + big_from 0 n xs == 256 * 256 ^ n - 1) =
    ap₂ (λ (a b : ℕ). not (x * 256 ^ n + a == b - 1)) (big_from-cons 0 n x xs) (pow-succ' 256 n) in
    elim (cases_eq x 255) [
      | inl same ↦ whole ∙ ap (λ (y : ℕ). not (y * 256 ^ n + big_from 0 n xs == 256 * 256 ^ n - 1)) same
          ∙ ap not (top (256 ^ n) (big_from 0 n xs) rest)
          ∙ greatest n xs (omega arith) (λ k. small (suc k))
          ∙ sym (ap (λ (y : ℕ). list_any wrong (y ∷ take n xs)) same)
      | inr other ↦ whole ∙ ap not (below x (256 ^ n) (big_from 0 n xs) (let byte : x < 256 = small 0 in omega arith) rest)
          ∙ sym (ap (λ (t : Bool). not t || list_any wrong (take n xs)) (ne_eqb x 255 other))
    ]
