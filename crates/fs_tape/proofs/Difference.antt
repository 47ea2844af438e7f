use Rattle.fs_tape.proofs.Words.{◌≡◌, ◌≢◌, ℕ, List, ◌∷◌, Some, true, false, ◌+◌, ◌<◌, ◌==◌, length, get_or, drop, refl, ◌∙◌, arith, drop-cons}
use Rattle.fs_tape.proofs.Words.{add-one, if◌then◌else◌, nat_tests, difference_from}

-- The loop that looks for the first difference of two lists, place by place.

pub difference_step : (place : ℕ) (xs ys : List ℕ) → place < length xs → place < length ys
    → difference_from place (drop place xs) (drop place ys)
    ≡ (if get_or xs place 0 == get_or ys place 0 then difference_from (place + 1) (drop (place + 1) xs) (drop (place + 1) ys) else Some place)
difference_step place xs ys within had =
    let x : drop place xs ≡ get_or xs place 0 ∷ drop (place + 1) xs = rw (add-one, drop-cons xs place 0) refl in
    let y : drop place ys ≡ get_or ys place 0 ∷ drop (place + 1) ys = rw (add-one, drop-cons ys place 0) refl in
    rw (x, y) refl

pub difference_same : (place : ℕ) (xs ys : List ℕ) → place < length xs → place < length ys
    → get_or xs place 0 ≡ get_or ys place 0
    → difference_from place (drop place xs) (drop place ys) ≡ difference_from (place + 1) (drop (place + 1) xs) (drop (place + 1) ys)
difference_same place xs ys within had same =
    let test : get_or xs place 0 == get_or ys place 0 ≡ true = grind (arith, nat_tests) in
    difference_step place xs ys within had ∙ rw test refl

pub difference_found : (place : ℕ) (xs ys : List ℕ) → place < length xs → place < length ys
    → get_or xs place 0 ≢ get_or ys place 0 → difference_from place (drop place xs) (drop place ys) ≡ Some place
difference_found place xs ys within had differ =
    let test : get_or xs place 0 == get_or ys place 0 ≡ false = grind (arith, nat_tests) in
    difference_step place xs ys within had ∙ rw test refl
