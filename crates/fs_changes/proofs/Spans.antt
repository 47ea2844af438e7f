-- Destinations in their order, by first and last addresses.
use Rattle.fs_changes.proofs.Words.{Option, Some, None, arith, inl, inr, refl, sym, ℕ, ◌<◌, ◌∙◌, ◌≡◌, Less, Greater, Before, before_of, behind_of}
use Rattle.fs_changes.proofs.Words.{equal_greater, less_equal, less_greater, of_before, of_behind, same_place, place_by}
use Rattle.fs_changes.proofs.Filters.{IsOrder}

before_onward : (p q r : ℕ × ℕ) → Before p q → Before q r → Before p r
before_onward p q r (inl a) (inl b) = inl (omega (arith, a, b))
before_onward p q r (inl a) (inr b) = let e : q.1 ≡ r.1 = b.0 in inl (omega (arith, a, e))
before_onward p q r (inr a) (inl b) = let e : p.1 ≡ q.1 = a.0 in inl (omega (arith, e, b))
before_onward p q r (inr a) (inr b) =
    let first : q.0 < p.0 = a.1 in
    let then : r.0 < q.0 = b.1 in
    inr (a.0 ∙ b.0, omega (arith, first, then))

less_turned : (t s : Option (ℕ × ℕ)) → place_by t s ≡ Less → place_by s t ≡ Greater
less_turned None None e = absurd (less_equal (sym e))
less_turned None (Some p) e = refl
less_turned (Some q) None e = absurd (less_greater (sym e))
less_turned (Some q) (Some p) e = of_behind q p (before_of p q e)

greater_turned : (t s : Option (ℕ × ℕ)) → place_by t s ≡ Greater → place_by s t ≡ Less
greater_turned None None e = absurd (equal_greater e)
greater_turned None (Some p) e = absurd (less_greater e)
greater_turned (Some q) None e = refl
greater_turned (Some q) (Some p) e = of_before q p (behind_of p q e)

less_onward : (t s u : Option (ℕ × ℕ)) → place_by t s ≡ Less → place_by u t ≡ Less → place_by u s ≡ Less
less_onward None None u e f = absurd (less_equal (sym e))
less_onward (Some q) None u e f = absurd (less_greater (sym e))
less_onward None (Some p) None e f = refl
less_onward None (Some p) (Some r) e f = absurd (less_greater (sym f))
less_onward (Some q) (Some p) None e f = refl
less_onward (Some q) (Some p) (Some r) e f = of_before p r (before_onward p q r (before_of p q e) (before_of q r f))

pub in_order : IsOrder place_by
in_order = record { less = less_turned; greater = greater_turned; equal = same_place; onward = less_onward }
