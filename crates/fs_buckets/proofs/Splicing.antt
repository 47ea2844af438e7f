-- Lists with a stretch put anew: what stands where, and what is left elsewhere.
use Rattle.fs_buckets.proofs.Words.{◌≡◌, ℕ, zero, suc, ◌+◌, ◌-◌, ◌<◌, ◌≤◌, ◌⊎◌, inl, inr, refl, sym, ap, ap₂, subst, ◌∙◌, Some, List, [], ◌∷◌, ◌++◌}
use Rattle.fs_buckets.proofs.Words.{length, get_or, take, drop, map, length-take-le, length-drop, length-append, get_or-drop, arith, AllByRecursion}
use Rattle.fs_buckets.proofs.Words.{slice_get, splice, cases_lt, drop-map, get_or-append_right, get_or-take, get_or_append_left, map-append, take-map}
use Rattle.fs_buckets.proofs.Words.{none-some, same_Some}
use Rattle.fs_base.proofs.Lists.{each_append}
use Rattle.fs_rules.proofs.Apart.{take_each, drop_each}

pub at_front : {X : Type 0} (xs ys : List X) (from to k : ℕ) (d : X) → from ≤ length xs → k < from → get_or (splice xs from to ys) k d ≡ get_or xs k d
at_front xs ys from to k d within below = get_or_append_left (take from xs) (ys ++ drop to xs) d k (omega (arith, below, size))
    ∙ get_or-take from xs k d below where
      size : length (take from xs) ≡ from
      size = length-take-le from xs within

past_front : {X : Type 0} (xs ys : List X) (from to k : ℕ) (d : X) → from ≤ length xs → from ≤ k
    → get_or (splice xs from to ys) k d ≡ get_or (ys ++ drop to xs) (k - from) d
past_front xs ys from to k d within above = get_or-append_right (take from xs) (ys ++ drop to xs) from k d (length-take-le from xs within) above

pub at_middle : {X : Type 0} (xs ys : List X) (from to k i : ℕ) (d : X) → from ≤ length xs → k ≡ from + i → i < length ys
    → get_or (splice xs from to ys) k d ≡ get_or ys i d
at_middle xs ys from to k i d within is below =
    let same : k - from ≡ i = omega (arith, is) in
    past_front xs ys from to k d within (omega (arith, is)) ∙ ap (λ n. get_or (ys ++ drop to xs) n d) same ∙ get_or_append_left ys (drop to xs) d i below

pub at_back : {X : Type 0} (xs ys : List X) (from to k i : ℕ) (d : X) → from ≤ length xs → to ≤ i → k + to ≡ from + length ys + i
    → get_or (splice xs from to ys) k d ≡ get_or xs i d
at_back xs ys from to k i d within past is =
    let same : to + (k - from - length ys) ≡ i = omega (arith, past, is) in
    past_front xs ys from to k d within (omega (arith, past, is)) ∙ get_or-append_right ys (drop to xs) (length ys) (k - from) d refl (omega (arith, past, is))
    ∙ get_or-drop to xs (k - from - length ys) d ∙ ap (λ n. get_or xs n d) same

-- What stands at a place of a spliced list, of which so many are new and the same: what stood there, one of these, or what
-- stood at the place that was as far behind.
abbrev pub Part : {X : Type 0} → (xs ys : List X) (target d : X) (from to count k : ℕ) → Type 0
Part xs ys target d from to count k =
    ((k < from) × (get_or ys k d ≡ get_or xs k d))
    ⊎ (((from ≤ k) × (k < from + count) × (get_or ys k d ≡ target))
    ⊎ ((from + count ≤ k) × (get_or ys k d ≡ get_or xs (to + (k - (from + count))) d)))

pub part_at : {X : Type 0} (xs news ys : List X) (target d : X) (from to count k : ℕ) → from ≤ length xs → ys ≡ splice xs from to news
    → length news ≡ count → ((i : ℕ) → i < length news → get_or news i d ≡ target)
    → Part xs ys target d from to count k
part_at xs news ys target d from to count k within is size each = at (cases_lt k from) (cases_lt k (from + count)) where
  here : get_or ys k d ≡ get_or (splice xs from to news) k d
  here = ap (λ zs. get_or zs k d) is

  at : (k < from) ⊎ (from ≤ k) → (k < from + count) ⊎ (from + count ≤ k) → Part xs ys target d from to count k
  at (inl below) c = inl (below, here ∙ at_front xs news from to k d within below)
  at (inr above) (inl below) =
      let inside : k - from < length news = omega (arith, above, below, size) in
      inr (inl (above, below, here ∙ at_middle xs news from to k (k - from) d within (omega (arith, above)) inside ∙ each (k - from) inside))
  at (inr above) (inr past) = inr (inr (past, here ∙ at_back xs news from to k (to + (k - (from + count))) d within (omega arith) (omega (arith, past, size))))

pub spliced_size : {X : Type 0} (xs ys : List X) (from to : ℕ) → from ≤ to → to ≤ length xs → length (splice xs from to ys) + to ≡ from + length ys + length xs
spliced_size xs ys from to le within =
    let a : length (splice xs from to ys) ≡ length (take from xs) + length (ys ++ drop to xs) = length-append (take from xs) (ys ++ drop to xs) in
    let b : length (ys ++ drop to xs) ≡ length ys + length (drop to xs) = length-append ys (drop to xs) in
    let c : length (drop to xs) ≡ length xs - to = length-drop to xs in
    let d : length (take from xs) ≡ from = length-take-le from xs (omega (arith, le, within)) in
    omega (arith, a, b, c, d, within)

pub map_spliced : {X Y : Type 0} (f : X → Y) (xs ys : List X) (from to : ℕ) → map f (splice xs from to ys) ≡ splice (map f xs) from to (map f ys)
map_spliced f xs ys from to =
    map-append f (take from xs) (ys ++ drop to xs)
    ∙ ap₂ (λ zs bs. zs ++ bs) (sym (take-map f from xs)) (map-append f ys (drop to xs) ∙ ap (λ bs. map f ys ++ bs) (sym (drop-map f to xs)))

pub each_spliced : {X : Type 0} (P : X → Type 0) (xs ys : List X) (from to : ℕ) → AllByRecursion P xs → AllByRecursion P ys
    → AllByRecursion P (splice xs from to ys)
each_spliced P xs ys from to h k =
    each_append P (take from xs) (ys ++ drop to xs) (take_each P from xs h) (each_append P ys (drop to xs) k (drop_each P to xs h))

pub each_got : {X : Type 0} (P : X → Type 0) (xs : List X) (i : ℕ) (x : X) → AllByRecursion P xs → slice_get xs i ≡ Some x → P x
each_got P [] i x h e = absurd (none-some x e)
each_got P (y ∷ ys) zero x h e = subst P (same_Some y x e) h.0
each_got P (y ∷ ys) (suc i) x h e = each_got P ys i x h.1 e
