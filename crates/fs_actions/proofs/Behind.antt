-- An action behind a list of actions.
use Rattle.fs_actions.proofs.Words.{◌≡◌, ℕ, ◌-◌, List, [], ◌∷◌, ◌++◌, length, slice_get, refl, Some, None, arith, Less, AllByRecursion, last_or}
use Rattle.fs_actions.proofs.Words.{IsStrictlySortedBy, nat_list_cmp_total, IsAction, IsAbove, IsActions}
use Rattle.fs_actions.proofs.Insertion.{by_octets}

last_at : (first : List ℕ) (xs : List (List ℕ)) → slice_get (first ∷ xs) (length xs) ≡ last_or (Some first) xs
last_at first [] = refl
last_at first (x ∷ xs) = last_at x xs

-- the element at the last place is the last one
pub last_is : (xs : List (List ℕ)) → slice_get xs (length xs - 1) ≡ last_or None xs
last_is [] = refl
last_is (x ∷ xs) = let place : length (x ∷ xs) - 1 ≡ length xs = omega arith in rw place (last_at x xs)

each_more : (P : List ℕ → Type 0) (xs : List (List ℕ)) (a : List ℕ) → AllByRecursion P xs → P a → AllByRecursion P (xs ++ a ∷ [])
each_more P [] a h p = (p, tt)
each_more P (x ∷ xs) a h p = (h.0, each_more P xs a h.1 p)

below_last : (x : List ℕ) (xs : List (List ℕ)) (a : List ℕ) → AllByRecursion (λ y. by_octets x y ≡ Less) xs → IsStrictlySortedBy by_octets xs
    → IsAbove (last_or (Some x) xs) a → by_octets x a ≡ Less
unfolding IsStrictlySortedBy
below_last x [] a h s b = b
below_last x (y ∷ ys) a h s b = nat_list_cmp_total.trans x y a h.0 (below_last y ys a s.0 s.1 b)

rising_behind : (x : List ℕ) (xs : List (List ℕ)) (a : List ℕ) → IsStrictlySortedBy by_octets (x ∷ xs) → IsAbove (last_or (Some x) xs) a
    → IsStrictlySortedBy by_octets (x ∷ (xs ++ a ∷ []))
unfolding IsStrictlySortedBy
rising_behind x [] a s b = ((b, tt), (tt, tt))
rising_behind x (y ∷ ys) a s b = (each_more (λ z. by_octets x z ≡ Less) (y ∷ ys) a s.0 (below_last x (y ∷ ys) a s.0 s.1 b), rising_behind y ys a s.1 b)

rising_more : (xs : List (List ℕ)) (a : List ℕ) → IsStrictlySortedBy by_octets xs → IsAbove (last_or None xs) a → IsStrictlySortedBy by_octets (xs ++ a ∷ [])
unfolding IsStrictlySortedBy
rising_more [] a s b = (tt, tt)
rising_more (x ∷ xs) a s b = rising_behind x xs a s b

-- one action more
pub actions_more : (xs : List (List ℕ)) (a : List ℕ) → IsActions xs → IsAction a → IsAbove (last_or None xs) a → IsActions (xs ++ a ∷ [])
actions_more xs a is action above = record { each = each_more IsAction xs a is.each action; rising = rising_more xs a is.rising above }
