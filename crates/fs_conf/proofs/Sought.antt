-- Lists of all that is below bounds, and what is sought in such lists.
use Rattle.fs_conf.proofs.Words.{◌≡◌, ◌⊎◌, inl, inr, ℕ, zero, suc, ◌+◌, ◌<◌, ◌≤◌, Bool, true, false, cond, List, [], ◌∷◌, ◌++◌, map, length, Option}
use Rattle.fs_conf.proofs.Words.{Some, None, All, refl, sym, ap, subst, arith, find, AllByRecursion, cons_option, flat_map, range_with_len}
use Rattle.fs_conf.proofs.Words.{All-append, each_append, each_mapped, each_weaker, lists_below}
use Rattle.std.specs.Prelude.{filter_map}

abbrev pub IsIn : {A : Type 0} → A → List A → Type 0
IsIn x [] = ⊥
IsIn x (y ∷ ys) = (y ≡ x) ⊎ IsIn x ys

pub in_left : {A : Type 0} (x : A) (xs ys : List A) → IsIn x xs → IsIn x (xs ++ ys)
in_left x [] ys h = absurd h
in_left x (z ∷ xs) ys (inl same) = inl same
in_left x (z ∷ xs) ys (inr later) = inr (in_left x xs ys later)

pub in_right : {A : Type 0} (x : A) (xs ys : List A) → IsIn x ys → IsIn x (xs ++ ys)
in_right x [] ys h = h
in_right x (z ∷ xs) ys h = inr (in_right x xs ys h)

pub in_map : {A B : Type 0} (f : A → B) (x : A) (xs : List A) → IsIn x xs → IsIn (f x) (map f xs)
in_map f x [] h = absurd h
in_map f x (z ∷ xs) (inl same) = inl (ap f same)
in_map f x (z ∷ xs) (inr later) = inr (in_map f x xs later)

pub in_flat : {A B : Type 0} (f : A → List B) (x : A) (y : B) (xs : List A) → IsIn x xs → IsIn y (f x) → IsIn y (flat_map f xs)
in_flat f x y [] h there = absurd h
in_flat {A} {B} f x y (z ∷ xs) (inl same) there = in_left y (f z) (flat_map f xs) (subst (λ (w : A). IsIn y (f w)) (sym same) there)
in_flat f x y (z ∷ xs) (inr later) there = in_right y (f z) (flat_map f xs) (in_flat f x y xs later there)

in_option : {B : Type 0} (y : B) (o : Option B) (ys : List B) → (o ≡ Some y) ⊎ IsIn y ys → IsIn y (cons_option o ys)
in_option y None ys (inl none) = absurd cc
in_option y None ys (inr there) = there
in_option y (Some z) ys (inl same) = inl cc
in_option y (Some z) ys (inr there) = inr there

pub in_filter : {A B : Type 0} (f : A → Option B) (x : A) (y : B) (xs : List A) → IsIn x xs → f x ≡ Some y → IsIn y (filter_map f xs)
in_filter f x y [] h gives = absurd h
in_filter f x y (z ∷ xs) (inl same) gives = in_option y (f z) (filter_map f xs) (inl (rw same gives))
in_filter f x y (z ∷ xs) (inr later) gives = in_option y (f z) (filter_map f xs) (inr (in_filter f x y xs later gives))

-- what holds of each

pub all_flat : {A B : Type 0} (P : A → Type 0) (Q : B → Type 0) (f : A → List B) (xs : List A) → ((x : A) → P x → AllByRecursion Q (f x)) → AllByRecursion P xs
    → AllByRecursion Q (flat_map f xs)
all_flat P Q f [] more p = tt
all_flat P Q f (x ∷ xs) more p = each_append Q (f x) (flat_map f xs) (more x p.0) (all_flat P Q f xs more p.1)

all_option : {B : Type 0} (Q : B → Type 0) (o : Option B) (ys : List B) → ((y : B) → o ≡ Some y → Q y) → AllByRecursion Q ys
    → AllByRecursion Q (cons_option o ys)
all_option Q None ys first p = p
all_option Q (Some y) ys first p = (first y refl, p)

pub all_filter : {A B : Type 0} (P : A → Type 0) (Q : B → Type 0) (f : A → Option B) (xs : List A) → ((x : A) (y : B) → P x → f x ≡ Some y → Q y)
    → AllByRecursion P xs
    → AllByRecursion Q (filter_map f xs)
all_filter P Q f [] more p = tt
all_filter P Q f (x ∷ xs) more p = all_option Q (f x) (filter_map f xs) (λ y is. more x y p.0 is) (all_filter P Q f xs more p.1)

-- what is found

pub none_in : {A : Type 0} (p : A → Bool) (xs : List A) (x : A) → find p xs ≡ None → IsIn x xs → p x ≡ false
none_in p [] x is h = absurd h
none_in {A} p (y ∷ xs) x is h = by (p y) refl is h (none_in p xs x)
  where
    by : (b : Bool) → p y ≡ b → cond b (Some y) (find p xs) ≡ None → (y ≡ x) ⊎ IsIn x xs → (find p xs ≡ None → IsIn x xs → p x ≡ false) → p x ≡ false
    by true passes is h more = absurd cc
    by false passes is (inl same) more = subst (λ (z : A). p z ≡ false) same passes
    by false passes is (inr later) more = more is later

-- the numbers and the lists below bounds

in_range : (from len k : ℕ) → k < len → IsIn (from + k) (range_with_len from len)
in_range from zero k inside = absurd (omega arith)
in_range from (suc len) zero inside = inl (omega arith)
in_range from (suc len) (suc k) inside =
    let same : from + 1 + k ≡ from + suc k = omega arith in
    inr (subst (λ (n : ℕ). IsIn n (range_with_len (from + 1) len)) same (in_range (from + 1) len k (omega arith)))

all_range : (from len bound : ℕ) → from + len ≤ bound → AllByRecursion (λ n. n < bound) (range_with_len from len)
all_range from zero bound within = tt
all_range from (suc len) bound within = (omega arith, all_range (from + 1) len bound (omega arith))

abbrev pub AreBelow : ℕ → List ℕ → Type 0
AreBelow bound list = All (λ n. n < bound) list

below_head : (bound x : ℕ) (xs : List ℕ) → AreBelow bound (x ∷ xs) → x < bound
below_head bound x xs are = are 0 0 (omega arith)

below_tail : (bound x : ℕ) (xs : List ℕ) → AreBelow bound (x ∷ xs) → AreBelow bound xs
below_tail bound x xs are k d inside = are (suc k) d (omega arith)

below_one : (bound x : ℕ) → x < bound → AreBelow bound (x ∷ [])
below_one bound x small zero d inside = small
below_one bound x small (suc k) d inside = absurd (omega arith)

below_cons : (bound x : ℕ) (xs : List ℕ) → x < bound → AreBelow bound xs → AreBelow bound (x ∷ xs)
below_cons bound x xs small are = All-append (λ n. n < bound) (x ∷ []) xs (below_one bound x small) are

below_nil : (bound : ℕ) → AreBelow bound []
below_nil bound k d inside = absurd (omega arith)

pub in_lists : (bound most : ℕ) (list : List ℕ) → length list ≤ most → AreBelow bound list → IsIn list (lists_below bound most)
unfolding lists_below
in_lists bound zero [] short are = inl refl
in_lists bound zero (x ∷ xs) short are = absurd (omega arith)
in_lists bound (suc most) [] short are = inl refl
in_lists bound (suc most) (x ∷ xs) short are =
    let same : 0 + x ≡ x = omega arith in
    let there : IsIn x (range_with_len 0 bound) = subst (λ (n : ℕ). IsIn n (range_with_len 0 bound)) same (in_range 0 bound x (below_head bound x xs are)) in
    inr (in_flat (λ (list : List ℕ). map (λ first. first ∷ list) (range_with_len 0 bound)) xs (x ∷ xs) (lists_below bound most)
    (in_lists bound most xs (omega arith) (below_tail bound x xs are)) (in_map (λ (first : ℕ). first ∷ xs) x (range_with_len 0 bound) there))

pub all_lists : (bound most : ℕ) → AllByRecursion (AreBelow bound) (lists_below bound most)
unfolding lists_below
all_lists bound zero = (below_nil bound, tt)
all_lists bound (suc most) = (
  below_nil bound,
  all_flat (AreBelow bound) (AreBelow bound) (λ (list : List ℕ). map (λ first. first ∷ list) (range_with_len 0 bound)) (lists_below bound most)
      (λ list are.
      each_mapped (λ (first : ℕ). first ∷ list) (AreBelow bound) (range_with_len 0 bound)
      (each_weaker (λ (n : ℕ). n < bound) (λ (n : ℕ). AreBelow bound (n ∷ list)) (λ n small. below_cons bound n list small are)
      (range_with_len 0 bound) (all_range 0 bound bound (omega arith))))
      (all_lists bound most),
)
