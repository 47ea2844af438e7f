-- Laws of tests: of `&&`, `||` and `not`, and of two tests that say the same.
use Rattle.std.proofs.Common.{◌≡◌, ◌⊎◌, inl, inr, refl, sym, Bool, true, false, not, ◌&&◌, ◌||◌, true≢false, ap, if◌then◌else◌}
-- std's laws, by the names that are used here
pub use Rattle.std.proofs.Math.Bool.{and-true as and_true}
pub use Rattle.std.proofs.lemmas.Bool.{and_from as and_both, false_from_ne_true as false_from, not-false as true_of_not, not_from_true as not_of_true}
pub use Rattle.std.proofs.lemmas.Bool.{or_left as or_first, or_parts as or_false, or_right as or_second}

-- Each part of both.
pub and_first : (a b : Bool) → (a && b) ≡ true → a ≡ true
and_first true b h = refl
and_first false b h = h

pub and_second : (a b : Bool) → (a && b) ≡ true → b ≡ true
and_second true b h = h
and_second false b h = absurd (true≢false (sym h))

pub and_parts : (a b : Bool) → (a && b) ≡ true → (a ≡ true) × (b ≡ true)
and_parts a b h = (and_first a b h, and_second a b h)

-- where one part excludes the other
pub and_false : (a b : Bool) → (a ≡ true → b ≡ false) → (a && b) ≡ false
and_false true b h = h refl
and_false false b h = refl

-- What one part of two says.
pub or_either : (a b : Bool) → (a || b) ≡ true → (a ≡ true) ⊎ (b ≡ true)
or_either true b h = inl refl
or_either false b h = inr h

-- a part that is false adds nothing
pub or_none : (a b : Bool) → b ≡ false → (a || b) ≡ a
or_none true b h = refl
or_none false b h = h

-- Implication, as `not a || b`.
pub or_implies : (a b : Bool) → (a ≡ true → b ≡ true) → (not a || b) ≡ true
or_implies true b h = h refl
or_implies false b h = refl

pub or_implied : (a b : Bool) → (not a || b) ≡ true → a ≡ true → b ≡ true
or_implied true b h k = h
or_implied false b h k = absurd (true≢false (sym k))

-- a way across `not`
pub false_of_not : (a : Bool) → not a ≡ true → a ≡ false
false_of_not true h = absurd (true≢false (sym h))
false_of_not false h = refl

-- two tests that follow from each other are the same
pub same_tests : (a b : Bool) → (a ≡ true → b ≡ true) → (b ≡ true → a ≡ true) → a ≡ b
same_tests true b there back = sym (there refl)
same_tests false true there back = back refl
same_tests false false there back = refl

pub or_weaker : (a b c d : Bool) → (a ≡ true → c ≡ true) → (b ≡ true → d ≡ true) → (a || b) ≡ true → (c || d) ≡ true
or_weaker true b c d f g h = ap (λ (x : Bool). x || d) (f refl)
or_weaker false b true d f g h = refl
or_weaker false b false d f g h = g h

pub if_true : {A : Type 0} (b : Bool) (x y : A) → b ≡ true → (if b then x else y) ≡ x
if_true true x y h = refl
if_true false x y h = absurd cc

pub if_false : {A : Type 0} (b : Bool) (x y : A) → b ≡ false → (if b then x else y) ≡ y
if_false true x y h = absurd cc
if_false false x y h = refl
