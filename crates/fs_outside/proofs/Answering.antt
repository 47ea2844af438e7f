-- What clocks in memory tell of their answers.
use Rattle.std.proofs.Common.{◌≡◌, ℕ, List, [], ◌∷◌, ◌++◌, Bool, true, false, Some, None, ◌+◌, ◌-◌, ◌<◌, ◌≤◌, min, nat_lt, length, take, refl, ap}
use Rattle.std.proofs.Common.{sym, arith, append_assoc}
use Rattle.std.proofs.lemmas.{List.{replicate-append-replicate, take_all, take_more}, Bool.Decides.{nat_tests}}
use Rattle.std.specs.Prelude.{if◌then◌else◌, replicate, get_or}
use Rattle.fs_outside.specs.{Sink.{Grew}, Moments.{answer_at, answers_to, last_of}}

one_more : (n x : ℕ) → replicate (n + 1) x ≡ replicate n x ++ x ∷ []
one_more n x = sym (replicate-append-replicate n 1 x)

-- one answer more, whether it stands in the list or repeats its last
more : (moments : List ℕ) (n : ℕ) (b : Bool) → nat_lt n (length moments) ≡ b
    → answers_to moments (n + 1) ≡ answers_to moments n ++ (if b then get_or moments n 0 else last_of moments) ∷ []
more moments n true test =
    let within : n < length moments = grind (arith, nat_tests) in
    let none : n + 1 - length moments ≡ 0 = omega (arith, within) in
    let none_yet : n - length moments ≡ 0 = omega (arith, within) in
    rw (none, none_yet, take_more moments n 0 within) (plain (take n moments) (get_or moments n 0)) where
      plain : (xs : List ℕ) (x : ℕ) → (xs ++ x ∷ []) ++ [] ≡ (xs ++ []) ++ x ∷ []
      plain [] x = refl
      plain (y ∷ xs) x = ap (λ (l : List ℕ). y ∷ l) (plain xs x)
more moments n false test =
    let past : length moments ≤ n = grind (arith, nat_tests) in
    let size : n + 1 - length moments ≡ (n - length moments) + 1 = omega (arith, past) in
    let all : take n moments ≡ moments = take_all n moments past in
    let all_more : take (n + 1) moments ≡ moments = take_all (n + 1) moments (omega (arith, past)) in
    rw (size, all, all_more, one_more (n - length moments) (last_of moments))
    (sym (append_assoc moments (replicate (n - length moments) (last_of moments)) (last_of moments ∷ [])))

never : (n m : ℕ) → n < m → m ≤ n → ⊥
never n m less more = omega arith

told : (moments : List ℕ) (calls most answer : ℕ) (before now : Bool) → answer ≡ answer_at moments calls
    → nat_lt calls most ≡ before → nat_lt (min (calls + 1) most) most ≡ now
    → Grew (if before then Some (answers_to moments calls) else None) (if now then Some (answers_to moments (min (calls + 1) most)) else None) (answer ∷ [])
told moments calls most answer before false is was test = tt
told moments calls most answer true true is was test =
    let next : min (calls + 1) most ≡ calls + 1 = grind (arith, nat_tests) in
    rw (next, is) (more moments calls (nat_lt calls (length moments)) refl)
told moments calls most answer false true is was test =
    let within : calls < most = grind (arith, nat_tests) in
    let past : most ≤ calls = grind (arith, nat_tests) in
    absurd (never calls most within past)

-- the answers told grow by the answer of one call
pub told_more : (moments : List ℕ) (calls calls' most answer : ℕ) → calls' ≡ min (calls + 1) most → answer ≡ answer_at moments calls
    → Grew
    (if nat_lt calls most then Some (answers_to moments calls) else None)
    (if nat_lt calls' most then Some (answers_to moments calls') else None)
    (answer ∷ [])
told_more moments calls calls' most answer counted is =
    rw counted (told moments calls most answer (nat_lt calls most) (nat_lt (min (calls + 1) most) most) is refl refl)
