use Rattle.fs_base.proofs.Words.{◌≡◌, ℕ, List, [], ◌++◌, Option, Some, None, Result, Ok, Err, ◌+◌, length, take, min, ap, ◌∙◌, arith, append_assoc}
use Rattle.fs_base.proofs.Words.{OnErr, take-append-add, common_steps, Grew, GrewPart}

-- Laws of what a sink tells.

-- nothing was written
pub Grew-refl : {A : Type 0} (a : Option (List A)) → Grew a a []
Grew-refl None = tt
Grew-refl (Some octets) = grind (arith, common_steps)

-- one piece, and then another
pub Grew-trans : {A : Type 0} (a b c : Option (List A)) (xs ys : List A) → Grew a b xs → Grew b c ys → Grew a c (xs ++ ys)
Grew-trans a b None xs ys first later = tt
Grew-trans a None (Some now) xs ys first later = absurd later
Grew-trans None (Some before) (Some now) xs ys first later = absurd first
Grew-trans (Some start) (Some before) (Some now) xs ys first later =
    later ∙ ap (λ octets. octets ++ ys) first ∙ append_assoc start xs ys

-- all of a piece is a front of it
pub part_whole : (a b : Option (List ℕ)) (xs : List ℕ) → Grew a b xs → GrewPart a b xs
part_whole a b xs grew = (length xs, let e : take (length xs) xs ≡ xs = grind (arith, common_steps) in rw e grew)

-- and so is nothing of it
pub part_none : (a b : Option (List ℕ)) (xs : List ℕ) → Grew a b [] → GrewPart a b xs
part_none a b xs grew = (0, grew)

front : (n : ℕ) (xs ys : List ℕ) → take (min n (length xs)) (xs ++ ys) ≡ take n xs
front n xs ys = grind (arith, common_steps)

-- a front of a piece is one of a longer piece
pub part_more : (a b : Option (List ℕ)) (xs ys : List ℕ) → GrewPart a b xs → GrewPart a b (xs ++ ys)
part_more a b xs ys part = (min part.0 (length xs), rw (front part.0 xs ys) part.1)

-- all of a piece, and then a front of another
pub part_then : (a b c : Option (List ℕ)) (xs ys : List ℕ) → Grew a b xs → GrewPart b c ys → GrewPart a c (xs ++ ys)
part_then a b c xs ys grew part =
    (length xs + part.0, rw (take-append-add xs ys part.0) (Grew-trans a b c xs (take part.0 ys) grew part.1))

-- what holds anyhow holds at a failure
pub on_err : {T E : Type 0} {X : Type 0} (result : Result T E) → X → OnErr result X
on_err (Ok t) x = tt
on_err (Err e) x = x
