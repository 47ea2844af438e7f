-- Numbers that only the last digit tells apart.
use Rattle.fs_line.proofs.Words.{◌≡◌, ◌+◌, ◌-◌, ◌/◌, ◌%◌, ◌<◌, ◌≤◌, ◌^◌, ◌∷◌, [], ◌++◌, ℕ, List, length, take, arith, sym, ap, subst, ◌∙◌, ⊎_elim}
use Rattle.fs_line.proofs.Words.{length-append, take-append-le, take_all, IsDecade}
use Rattle.std.{proofs.lemmas.{Bool.{cases_lt}, Fmt.{decimal_digit, decimal_nonempty, decimal_step_wide}}, specs.Fmt.{decimal}}

-- the numbers below ten
pub first_ten : (digits : List ℕ) → IsDecade 0 digits 0
first_ten digits = record {
  short = omega arith;
  text = λ digit small. (let same : 0 + digit ≡ digit = omega arith in ap decimal same)
      ∙ decimal_digit digit small;
}

-- a number's digits but the last, where they are a front of a text
front_is : (text front : List ℕ) (last n : ℕ) → text ≡ front ++ (last ∷ []) → n + 1 ≡ length text → take n text ≡ front
front_is text front last n is counted =
    let same : length front ≡ n + 0 = omega (arith, counted ∙ ap length is ∙ length-append front (last ∷ [])) in
    ap (take n) is ∙ take-append-le n front (last ∷ []) (omega (arith, same)) ∙ take_all n front (omega (arith, same))

pub some_digit : (n : ℕ) (text : List ℕ) → n < 2 ^ 64 → text ≡ decimal n → 0 < length text
some_digit n text fits is = subst (λ (digits : List ℕ). 0 < length digits) (sym is) (decimal_nonempty n fits)

-- the ten numbers of a number
pub ten_of : (n : ℕ) (text digits : List ℕ) (front : ℕ) → n < 2 ^ 64 → text ≡ decimal n → front + 1 ≡ length text → front < 8
    → take front digits ≡ take front text
    → IsDecade (n - n % 10) digits front
ten_of n text digits front fits is counted short same = record {
  short = short;
  text = λ digit small. ⊎_elim
      (λ (one : n < 10).
      let zero : front ≡ 0 = omega (arith, counted ∙ ap length is ∙ ap length (decimal_digit n one)) in
      let all : n - n % 10 + digit ≡ digit = omega arith in
      ap decimal all ∙ decimal_digit digit small ∙ sym (ap (λ (k : ℕ). take k digits ++ ((48 + digit) ∷ [])) zero))
      (λ (more : 10 ≤ n).
      let m : ℕ = n - n % 10 + digit in
      let tens : m / 10 ≡ n / 10 = omega arith in
      let last : m % 10 ≡ digit = omega arith in
      let wide : n < 10 ^ 64 = omega arith in
      let wide_m : m < 10 ^ 64 = omega arith in
      let many : 10 ≤ m = omega arith in
      decimal_step_wide m many wide_m
      ∙ (λ i. decimal (tens i) ++ ((48 + last i) ∷ []))
      ∙ ap (λ (digits : List ℕ). digits ++ ((48 + digit) ∷ []))
      (sym (front_is text (decimal (n / 10)) (48 + n % 10) front (is ∙ decimal_step_wide n more wide) counted))
      ∙ ap (λ (digits : List ℕ). digits ++ ((48 + digit) ∷ [])) (sym same))
      (cases_lt n 10);
}
