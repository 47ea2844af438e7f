-- What was found passes, and what holds of each holds of it.
use Rattle.fs_conf.proofs.Words.{◌≡◌, Bool, true, false, cond, List, [], ◌∷◌, Option, Some, None, refl, subst, find, AllByRecursion, none-some}
use Rattle.std.specs.Prelude.{if◌then◌else◌}

-- where a test passes
pub cond_within : {A : Type 0} (test : Bool) (found : Option A) (value : A) → (if test then found else None) ≡ Some value → (test ≡ true) × (found ≡ Some value)
cond_within true found value e = (refl, e)
cond_within false found value e = absurd (none-some value e)

-- the first of a list that passes
pub found_in : {A : Type 0} (P : A → Type 0) (p : A → Bool) (xs : List A) (x : A) → AllByRecursion P xs → find p xs ≡ Some x → P x × (p x ≡ true)
found_in P p [] x all is = absurd cc
found_in {A} P p (y ∷ xs) x all is = by (p y) refl is (found_in P p xs x all.1)
  where
    by : (b : Bool) → p y ≡ b → cond b (Some y) (find p xs) ≡ Some x → (find p xs ≡ Some x → P x × (p x ≡ true)) → P x × (p x ≡ true)
    by true passes is more = let same : y ≡ x = cc in (subst P same all.0, subst (λ (z : A). p z ≡ true) same passes)
    by false passes is more = more is

pub found_each : {A : Type 0} (P : A → Type 0) (test : A → Bool) (all : List A) (found : A) → AllByRecursion P all → find test all ≡ Some found → P found
found_each P test all found each is = (found_in P test all found each is).0
