-- The first update behind which a peer holds more than it may, and the session that it cuts.
use Rattle.fs_desk.proofs.Words.{◌≡◌, ℕ, List, [], ◌∷◌, ◌++◌, map, map-id, find, Bool, true, false, Option, Some, None, if◌then◌else◌, ap, sym, ◌∙◌}
use Rattle.fs_desk.proofs.Words.{map-append, find-append, option_or, Update, Last, closed, routes_left, is_over, fronts, first_over, too_many}
use Rattle.fs_desk.proofs.Words.{bounded}
use Rattle.fs_rules.proofs.Chosen.{map-map}

fronts-append : {A : Type 0} (xs ys : List A) → fronts (xs ++ ys) ≡ fronts xs ++ map (λ front. xs ++ front) (fronts ys)
fronts-append [] ys = sym (map-id (fronts ys))
fronts-append (x ∷ xs) ys =
    ap (λ fs. (x ∷ []) ∷ map (λ front. x ∷ front) fs) (fronts-append xs ys)
    ∙ ap (λ fs. (x ∷ []) ∷ fs) (map-append (λ front. x ∷ front) (fronts xs) (map (λ front. xs ++ front) (fronts ys)))
    ∙ ap (λ fs. (x ∷ []) ∷ (map (λ front. x ∷ front) (fronts xs) ++ fs)) (sym (map-map (λ front. xs ++ front) (λ front. x ∷ front) (fronts ys)))

find_first : {A : Type 0} (p : A → Bool) (xs ys : List A) (found : A) → find p xs ≡ Some found → find p (xs ++ ys) ≡ Some found
find_first p xs ys found h = find-append p xs ys ∙ ap (λ o. option_or o (find p ys)) h

find_later : {A : Type 0} (p : A → Bool) (xs ys : List A) → find p xs ≡ None → find p (xs ++ ys) ≡ find p ys
find_later p xs ys h = find-append p xs ys ∙ ap (λ o. option_or o (find p ys)) h

module _ (most : Option ℕ) where
  -- behind updates that don't pass the limit the next one decides
  next_over : (updates : List Update) (update : Update) → first_over most updates ≡ None
      → first_over most (updates ++ update ∷ []) ≡ (if is_over most (routes_left (updates ++ update ∷ [])) then Some (updates ++ update ∷ []) else None)
  next_over updates update h =
      ap (find (λ front. is_over most (routes_left front))) (fronts-append updates (update ∷ []))
      ∙ find_later (λ front. is_over most (routes_left front)) (fronts updates) ((updates ++ update ∷ []) ∷ []) h

  pub next_within : (updates : List Update) (update : Update) → first_over most updates ≡ None → is_over most (routes_left (updates ++ update ∷ [])) ≡ false
      → first_over most (updates ++ update ∷ []) ≡ None
  next_within updates update h k = next_over updates update h ∙ ap (λ (b : Bool). if b then Some (updates ++ update ∷ []) else None) k

  pub next_passes : (updates : List Update) (update : Update) → first_over most updates ≡ None → is_over most (routes_left (updates ++ update ∷ [])) ≡ true
      → first_over most (updates ++ update ∷ []) ≡ Some (updates ++ update ∷ [])
  next_passes updates update h k = next_over updates update h ∙ ap (λ (b : Bool). if b then Some (updates ++ update ∷ []) else None) k

  -- what follows the update at which the limit was passed doesn't count
  pub over_stays : (updates more front : List Update) → first_over most updates ≡ Some front → first_over most (updates ++ more) ≡ Some front
  over_stays updates more front h =
      ap (find (λ front. is_over most (routes_left front))) (fronts-append updates more)
      ∙ find_first (λ front. is_over most (routes_left front)) (fronts updates) (map (λ front. updates ++ front) (fronts more)) front h

  -- a session that doesn't pass the limit is as without it
  pub bounded_within : (updates : List Update) (last : Last) → first_over most updates ≡ None → bounded most (updates, last) ≡ (updates, last)
  bounded_within updates last h =
      ap (λ (o : Option (List Update)). elim o as (λ _. List Update × Last) [ None ↦ (updates, last) | Some front ↦ (front, closed too_many) ]) h

  -- and one that passes it is closed there
  pub bounded_over : (updates front : List Update) (last : Last) → first_over most updates ≡ Some front
      → bounded most (updates, last) ≡ (front, closed too_many)
  bounded_over updates front last h =
      ap (λ (o : Option (List Update)). elim o as (λ _. List Update × Last) [ None ↦ (updates, last) | Some front ↦ (front, closed too_many) ]) h
