-- What the kept validities tell, read one group after the other.
use Rattle.fs_rules.proofs.Words.{ℕ, suc, ◌≡◌, ◌+◌, ◌≤◌, refl, sym, ap, ◌∙◌, Bool, true, false, true≢false, cond, List, [], ◌∷◌, ◌++◌, length, find}
use Rattle.fs_rules.proofs.Words.{nat_le, is_some, Option, Some, None, option_map, slice_get, zero, ◌-◌, arith, length-map, map-append, Family}
use Rattle.fs_rules.proofs.Words.{FlowRoute, Kept, routes_of, chosen, matching_from, flat, AreCut, chosen_flat}
use Rattle.fs_packet.specs.{Fields.{Viewed}, Matching.{is_match}}
use Rattle.fs_flows.proofs.ChosenParts.{chosen-append}

routes-append : (xs ys : List Kept) → routes_of (xs ++ ys) ≡ routes_of xs ++ routes_of ys
routes-append xs ys = map-append (λ k. k.route) xs ys

-- The numbers of the rules that match, in parts.
pub matching-append : (view : Viewed) (m : ℕ) (xs ys : List FlowRoute)
    → matching_from view m (xs ++ ys) ≡ matching_from view m xs ++ matching_from view (m + length xs) ys
matching-append view m [] ys = ap (λ n. matching_from view n ys) (let e : m ≡ m + 0 = omega arith in e)
matching-append view m (x ∷ xs) ys =
    at (is_match x.rule view) (matching-append view (m + 1) xs ys ∙ ap (λ n. matching_from view (m + 1) xs ++ matching_from view n ys) next) where
      next : m + 1 + length xs ≡ m + length (x ∷ xs)
      next = omega arith

      at : (b : Bool) → matching_from view (m + 1) (xs ++ ys) ≡ matching_from view (m + 1) xs ++ matching_from view (m + length (x ∷ xs)) ys
          → cond b (m ∷ matching_from view (m + 1) (xs ++ ys)) (matching_from view (m + 1) (xs ++ ys))
          ≡ cond b (m ∷ matching_from view (m + 1) xs) (matching_from view (m + 1) xs) ++ matching_from view (m + length (x ∷ xs)) ys
      at true ih = ap (λ ns. m ∷ ns) ih
      at false ih = ih

find_front : {X : Type 0} (p : X → Bool) (xs ys : List X) → is_some (find p xs) ≡ true → find p (xs ++ ys) ≡ find p xs
find_front p [] ys h = absurd (true≢false (sym h))
find_front p (x ∷ xs) ys h = at (p x) h (find_front p xs ys) where
  at : (b : Bool) → is_some (cond b (Some x) (find p xs)) ≡ true → (is_some (find p xs) ≡ true → find p (xs ++ ys) ≡ find p xs)
      → cond b (Some x) (find p (xs ++ ys)) ≡ cond b (Some x) (find p xs)
  at true g ih = refl
  at false g ih = ih g

find_back : {X : Type 0} (p : X → Bool) (xs ys : List X) → is_some (find p xs) ≡ false → find p (xs ++ ys) ≡ find p ys
find_back p [] ys h = refl
find_back p (x ∷ xs) ys h = at (p x) h (find_back p xs ys) where
  at : (b : Bool) → is_some (cond b (Some x) (find p xs)) ≡ false → (is_some (find p xs) ≡ false → find p (xs ++ ys) ≡ find p ys)
      → cond b (Some x) (find p (xs ++ ys)) ≡ find p ys
  at true g ih = absurd (true≢false g)
  at false g ih = ih g

abbrev pub next_in : Viewed → ℕ → ℕ → List Kept → Option ℕ
next_in view n m ks = find (λ k. nat_le n k) (matching_from view m (routes_of ks))

pub next_front : (view : Viewed) (n m : ℕ) (xs ys : List Kept) (found whole : Option ℕ) → found ≡ next_in view n m xs → is_some found ≡ true
    → next_in view n m (xs ++ ys) ≡ whole → found ≡ whole
next_front view n m xs ys found whole h some e = h
    ∙ sym (find_front (λ k. nat_le n k) (matching_from view m (routes_of xs)) (matching_from view (m + length (routes_of xs)) (routes_of ys))
    (sym (ap is_some h) ∙ some))
    ∙ ap (find (λ k. nat_le n k)) (sym (ap (matching_from view m) (routes-append xs ys) ∙ matching-append view m (routes_of xs) (routes_of ys))) ∙ e

pub next_back : (view : Viewed) (n m : ℕ) (xs ys : List Kept) (found whole : Option ℕ) → found ≡ next_in view n m xs → is_some found ≡ false
    → next_in view n m (xs ++ ys) ≡ whole → next_in view n (m + length xs) ys ≡ whole
next_back view n m xs ys found whole h none e =
    ap (λ l. find (λ k. nat_le n k) (matching_from view (m + l) (routes_of ys))) (sym (length-map xs (λ k. k.route)))
    ∙ sym (find_back (λ k. nat_le n k) (matching_from view m (routes_of xs)) (matching_from view (m + length (routes_of xs)) (routes_of ys))
    (sym (ap is_some h) ∙ none))
    ∙ ap (find (λ k. nat_le n k)) (sym (ap (matching_from view m) (routes-append xs ys) ∙ matching-append view m (routes_of xs) (routes_of ys))) ∙ e

-- One of a number, in parts.
some_map : {X Y : Type 0} (f : X → Y) (o : Option X) → is_some (option_map f o) ≡ is_some o
some_map f None = refl
some_map f (Some x) = refl

get_front : {X : Type 0} (xs ys : List X) (n : ℕ) → is_some (slice_get xs n) ≡ true → slice_get (xs ++ ys) n ≡ slice_get xs n
get_front [] ys n h = absurd (true≢false (sym h))
get_front (x ∷ xs) ys zero h = refl
get_front (x ∷ xs) ys (suc n) h = get_front xs ys n h

get_back : {X : Type 0} (xs ys : List X) (n : ℕ) → is_some (slice_get xs n) ≡ false → (length xs ≤ n) × (slice_get (xs ++ ys) n ≡ slice_get ys (n - length xs))
get_back [] ys n h = (omega arith, ap (slice_get ys) (let e : n ≡ n - 0 = omega arith in e))
get_back (x ∷ xs) ys zero h = absurd (true≢false h)
get_back (x ∷ xs) ys (suc n) h = let r : (length xs ≤ n) × (slice_get (xs ++ ys) n ≡ slice_get ys (n - length xs)) = get_back xs ys n h in
    let l : length xs ≤ n = r.0 in (omega arith, r.1 ∙ ap (slice_get ys) (let e : n - length xs ≡ suc n - suc (length xs) = omega arith in e))

module _ {X Y Z : Type 0} (f : X → Y) (g : Z → Y) (found : Option Z) (xs ys whole : List X) (left n : ℕ)
    (given : option_map g found ≡ option_map f (slice_get xs left)) (rest : slice_get (xs ++ ys) left ≡ slice_get whole n) where
  there : is_some (slice_get xs left) ≡ is_some found
  there = sym (some_map f (slice_get xs left)) ∙ sym (ap is_some given) ∙ some_map g found

  pub found_front : is_some found ≡ true → option_map g found ≡ option_map f (slice_get whole n)
  found_front some = given ∙ ap (option_map f) (sym (get_front xs ys left (there ∙ some)) ∙ rest)

  pub found_behind : is_some found ≡ false → length xs ≤ left
  found_behind none = (get_back xs ys left (there ∙ none)).0

  pub found_back : (size : ℕ) → is_some found ≡ false → size ≡ length xs → slice_get ys (left - size) ≡ slice_get whole n
  found_back size none e = ap (λ l. slice_get ys (left - l)) e ∙ sym (get_back xs ys left (there ∙ none)).1 ∙ rest

-- Chosen in one block after the other.
pub chosen_whole : (family : Family) (bs : List (List Kept)) → AreCut bs → chosen_flat family bs ≡ chosen family (flat bs)
chosen_whole family [] cut = refl
chosen_whole family (b ∷ bs) cut = ap (λ ks. chosen family b ++ ks) (chosen_whole family bs cut.1) ∙ sym (chosen-append family b (flat bs) cut.0)
