use Rattle.fs_buckets.proofs.Words.{◌≡◌, ℕ, zero, suc, ◌+◌, ◌<◌, ◌++◌, [], ◌∷◌, List, length, get_or, take, drop, map, refl, sym, ap, subst, ◌∙◌}
use Rattle.fs_buckets.proofs.Words.{AllZip, map_more}

-- Lists of which each element stands so to that at its place in another.

pub each_size : {X Y : Type 0} (R : X → Y → Type 0) (xs : List X) (ys : List Y) → AllZip R xs ys → length ys ≡ length xs
each_size R [] [] h = refl
each_size R [] (y ∷ ys) h = absurd h
each_size R (x ∷ xs) [] h = absurd h
each_size R (x ∷ xs) (y ∷ ys) h = ap suc (each_size R xs ys h.1)

pub each_append : {X Y : Type 0} (R : X → Y → Type 0) (xs zs : List X) (ys ws : List Y) → AllZip R xs ys → AllZip R zs ws → AllZip R (xs ++ zs) (ys ++ ws)
each_append R [] zs [] ws h k = k
each_append R [] zs (y ∷ ys) ws h k = absurd h
each_append R (x ∷ xs) zs [] ws h k = absurd h
each_append R (x ∷ xs) zs (y ∷ ys) ws h k = (h.0, each_append R xs zs ys ws h.1 k)

pub each_taken : {X Y : Type 0} (R : X → Y → Type 0) (n : ℕ) (xs : List X) (ys : List Y) → AllZip R xs ys → AllZip R (take n xs) (take n ys)
each_taken R zero xs ys h = tt
each_taken R (suc n) [] [] h = tt
each_taken R (suc n) [] (y ∷ ys) h = absurd h
each_taken R (suc n) (x ∷ xs) [] h = absurd h
each_taken R (suc n) (x ∷ xs) (y ∷ ys) h = (h.0, each_taken R n xs ys h.1)

pub each_dropped : {X Y : Type 0} (R : X → Y → Type 0) (n : ℕ) (xs : List X) (ys : List Y) → AllZip R xs ys → AllZip R (drop n xs) (drop n ys)
each_dropped R zero xs ys h = h
each_dropped R (suc n) [] [] h = tt
each_dropped R (suc n) [] (y ∷ ys) h = absurd h
each_dropped R (suc n) (x ∷ xs) [] h = absurd h
each_dropped R (suc n) (x ∷ xs) (y ∷ ys) h = each_dropped R n xs ys h.1

-- what a loop makes of one element more
pub each_pushed : {X Y Z : Type 0} (R : Y → Z → Type 0) (f : X → Y) (xs : List X) (i : ℕ) (x : X) (old new : List Z) (z : Z) → i < length xs
    → x ≡ get_or xs i x → new ≡ old ++ z ∷ []
    → AllZip R (map f (take i xs)) old → R (f x) z → AllZip R (map f (take (i + 1) xs)) new
each_pushed R f xs i x old new z below is pushed all one =
    subst (λ ys. AllZip R ys new) (sym (map_more f xs i x below ∙ ap (λ y. map f (take i xs) ++ f y ∷ []) (sym is)))
    (subst (AllZip R (map f (take i xs) ++ f x ∷ [])) (sym pushed) (each_append R (map f (take i xs)) (f x ∷ []) old (z ∷ []) all (one, tt)))
