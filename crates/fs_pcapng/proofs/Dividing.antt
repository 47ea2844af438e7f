-- Powers that are taken step by step.
use Rattle.std.proofs.{Common.{◌≡◌, ℕ, suc, ◌<◌, ◌≤◌, ◌/◌, ◌^◌, ◌*◌, ◌+◌, arith, ap, sym, ◌∙◌}, Math.Nat.{div-eq_of_lt, mul-le-mul, pow-le-pow_right, pow-suc}}

-- what is divided by a power above it is nothing
pub nothing_left : (scaled base power n m : ℕ) → 2 ≤ base → power ≡ base ^ n → scaled < power → n ≤ m → 0 ≡ scaled / base ^ m
nothing_left scaled base power n m some is more far =
    let up : base ^ n ≤ base ^ m = pow-le-pow_right (let p : 0 < base = omega (arith, some) in p) far in
    let over : scaled < base ^ m = omega (arith, is, more, up) in
    sym (div-eq_of_lt over)

pub next_power : (base power n : ℕ) → power ≡ base ^ n → power * base ≡ base ^ (n + 1)
next_power base power n is = ap (λ p. p * base) is ∙ sym (pow-suc base n) ∙ ap (λ k. base ^ k) (let s : suc n ≡ n + 1 = omega arith in s)

pub next_small : (scaled base power : ℕ) → base ≤ 10 → power ≤ scaled → power * base ≤ 10 * scaled + 10
next_small scaled base power few low =
    let up : power * base ≤ scaled * 10 = mul-le-mul low few in
    omega (arith, up)

pub next_some : (base power : ℕ) → 2 ≤ base → 1 ≤ power → 1 ≤ power * base
next_some base power many some =
    let one : 1 ≤ base = omega (arith, many) in
    let up : 1 * 1 ≤ power * base = mul-le-mul some one in
    omega (arith, up)
