-- What remains of a list, of which a front was taken.
use Rattle.std.proofs.Common.{◌≡◌, ℕ, zero, suc, List, [], ◌∷◌, ◌++◌, ◌+◌, ◌-◌, ◌≤◌, Some, None, length, map, drop, refl, sym, arith, length-drop}
use Rattle.std.proofs.lemmas.List.{drop-append-le, drop-drop, drop_all}
use Rattle.std.specs.Prelude.{slice_get}

-- the first that remains
pub first_of : {A : Type 0} (xs : List A) (k : ℕ) → slice_get xs k ≡ slice_get (drop k xs) 0
first_of [] zero = refl
first_of [] (suc k) = refl
first_of (x ∷ xs) zero = refl
first_of (x ∷ xs) (suc k) = first_of xs k

-- one more at the end
pub one_more : {A : Type 0} (xs : List A) (k : ℕ) (x : A) → k ≤ length xs → drop k (xs ++ x ∷ []) ≡ drop k xs ++ x ∷ []
one_more xs k x within = drop-append-le k xs (x ∷ []) within

-- so many remain
pub size_of : {A : Type 0} (xs : List A) (k : ℕ) → length (drop k xs) ≡ length xs - k
size_of xs k = length-drop k xs

-- the first was taken
pub passed : {A : Type 0} (xs : List A) (k : ℕ) → drop (k + 1) xs ≡ drop 1 (drop k xs)
passed xs k = sym (drop-drop 1 k xs)

-- nothing remains to be taken
pub all_passed : {A : Type 0} (xs : List A) (k : ℕ) → length xs ≤ k → drop k xs ≡ drop 1 (drop k xs)
all_passed xs k past = rw (drop_all k xs past) refl

-- the events that remain are an event and those after it
pub front_of : {A B : Type 0} (f : A → B) (xs : List A) (x : A) → slice_get xs 0 ≡ Some x → map f xs ≡ f x ∷ map f (drop 1 xs)
front_of f [] x got = grind arith
front_of f (y ∷ xs) x got = grind arith

pub no_front : {A B : Type 0} (f : A → B) (xs : List A) → slice_get xs 0 ≡ None → map f xs ≡ []
no_front f [] none = refl
no_front f (x ∷ xs) none = grind arith
