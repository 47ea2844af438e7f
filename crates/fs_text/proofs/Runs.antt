use Rattle.fs_text.proofs.Words.{◌≡◌, ℕ, ◌<◌, ◌+◌, suc, List, [], ◌∷◌, ◌++◌, Bool, true, false, if◌then◌else◌, take, drop, length, refl, sym, ap}
use Rattle.fs_text.proofs.Words.{subst, ◌∙◌, arith, prefix_len, AllByRecursion, Run, Delimiter, with_octet, parts_by, Ends}

-- A run at the front of a text.

onto : (p : ℕ → Bool) (octet : ℕ) (text : List ℕ)
    → with_octet octet (parts_by p text) ≡ Run (octet ∷ take (prefix_len p text) text) ∷ parts_by p (drop (prefix_len p text) text)
onto p octet [] = refl
onto p octet (x ∷ xs) = by (onto p x xs) (p x) refl
  where
    by : with_octet x (parts_by p xs) ≡ Run (x ∷ take (prefix_len p xs) xs) ∷ parts_by p (drop (prefix_len p xs) xs)
        → (b : Bool) → p x ≡ b
        → with_octet octet (if b then with_octet x (parts_by p xs) else Delimiter x ∷ parts_by p xs)
        ≡ Run (octet ∷ take (if b then 1 + prefix_len p xs else 0) (x ∷ xs)) ∷ parts_by p (drop (if b then 1 + prefix_len p xs else 0) (x ∷ xs))
    by more true e =
        ap (with_octet octet) more
        ∙ ap (λ (k : ℕ). Run (octet ∷ take k (x ∷ xs)) ∷ parts_by p (drop k (x ∷ xs))) {x = suc (prefix_len p xs)} {y = 1 + prefix_len p xs} (omega arith)
    by more false e = ap (λ (c : Bool). Run (octet ∷ []) ∷ (if c then with_octet x (parts_by p xs) else Delimiter x ∷ parts_by p xs)) (sym e)

pub run_before : (p : ℕ → Bool) (text : List ℕ) → 0 < prefix_len p text
    → parts_by p text ≡ Run (take (prefix_len p text) text) ∷ parts_by p (drop (prefix_len p text) text)
run_before p [] some = absurd (omega arith)
run_before p (x ∷ xs) some = by (p x) some
  where
    by : (b : Bool) → 0 < (if b then 1 + prefix_len p xs else 0)
        → (if b then with_octet x (parts_by p xs) else Delimiter x ∷ parts_by p xs)
        ≡ Run (take (if b then 1 + prefix_len p xs else 0) (x ∷ xs)) ∷ parts_by p (drop (if b then 1 + prefix_len p xs else 0) (x ∷ xs))
    by true some =
        onto p x xs
        ∙ ap (λ (k : ℕ). Run (take k (x ∷ xs)) ∷ parts_by p (drop k (x ∷ xs))) {x = suc (prefix_len p xs)} {y = 1 + prefix_len p xs} (omega arith)
    by false some = absurd (omega arith)

run_onto : (p : ℕ → Bool) (octet : ℕ) (run rest : List ℕ) → AllByRecursion (λ o. p o ≡ true) run → Ends p rest
    → with_octet octet (parts_by p (run ++ rest)) ≡ Run (octet ∷ run) ∷ parts_by p rest
run_onto p octet [] [] all ends = refl
run_onto p octet [] (x ∷ xs) all e =
    subst (λ (c : Bool). with_octet octet (if c then with_octet x (parts_by p xs) else Delimiter x ∷ parts_by p xs)
    ≡ Run (octet ∷ []) ∷ (if c then with_octet x (parts_by p xs) else Delimiter x ∷ parts_by p xs)) (sym e) refl
run_onto p octet (x ∷ run) rest all ends =
    ap (λ (c : Bool). with_octet octet (if c then with_octet x (parts_by p (run ++ rest)) else Delimiter x ∷ parts_by p (run ++ rest))) all.0
    ∙ ap (with_octet octet) (run_onto p x run rest all.1 ends)

pub run_first : (p : ℕ → Bool) (run rest : List ℕ) → 0 < length run → AllByRecursion (λ o. p o ≡ true) run → Ends p rest
    → parts_by p (run ++ rest) ≡ Run run ∷ parts_by p rest
run_first p [] rest some all ends = absurd (omega arith)
run_first p (x ∷ run) rest some all ends =
    ap (λ (c : Bool). if c then with_octet x (parts_by p (run ++ rest)) else Delimiter x ∷ parts_by p (run ++ rest)) all.0
    ∙ run_onto p x run rest all.1 ends
