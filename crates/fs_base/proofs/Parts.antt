-- Laws of the parts that stand one behind the other.
use Rattle.std.proofs.Common.{length-drop}
use Rattle.fs_base.proofs.Words.{◌≡◌, ℕ, zero, suc, List, [], ◌++◌, Option, Some, None, ◌<◌, ◌≤◌, ◌+◌, ◌-◌, inl, inr, length, take, drop, refl, ap}
use Rattle.fs_base.proofs.Words.{sym, ◌∙◌, arith, subst, nat_le, drop-take, nat_tests, with_part, parts_within, parts_of, parts_then, Shrinks}
use Rattle.fs_base.proofs.Words.{ShrinksBy, Stable}
use Rattle.fs_base.proofs.Options.{none_or_some}

module _ {N A : Type 0} (size : N → ℕ) (next : N → Option (A × N)) where
  within_end : (n : ℕ) (now : N) → next now ≡ None → parts_within next n now ≡ ([], now)
  unfolding parts_within
  within_end zero now h = refl
  within_end (suc n) now h = rw (h, parts_within) refl

  within_step : (n : ℕ) (now : N) (found : A × N) → next now ≡ Some found
      → parts_within next (suc n) now ≡ with_part found.0 (parts_within next n found.1)
  unfolding parts_within
  within_step n now found h = rw (h, parts_within) refl

  -- where no part stands there are none
  pub all_end : (now : N) → next now ≡ None → parts_within next (size now) now ≡ ([], now)
  all_end now h = within_end (size now) now h

  module _ (shrinks : ShrinksBy size next) where
    no_room : (now : N) (found : A × N) → next now ≡ Some found → size now ≤ 0 → ⊥
    no_room now found h none = let s : size found.1 < size now = shrinks now found h in omega arith

    -- a count that reaches the size is enough
    enough : (n m : ℕ) (now : N) → size now ≤ n → size now ≤ m → parts_within next n now ≡ parts_within next m now
    enough zero zero now a b = refl
    enough zero (suc m) now a b = elim (none_or_some (next now)) [
      | inl h ↦ within_end zero now h ∙ sym (within_end (suc m) now h)
      | inr found ↦ absurd (no_room now found.0 found.1 a)
    ]
    enough (suc n) zero now a b = elim (none_or_some (next now)) [
      | inl h ↦ within_end (suc n) now h ∙ sym (within_end zero now h)
      | inr found ↦ absurd (no_room now found.0 found.1 b)
    ]
    enough (suc n) (suc m) now a b = elim (none_or_some (next now)) [
      | inl h ↦ within_end (suc n) now h ∙ sym (within_end (suc m) now h)
      | inr found ↦
          let s : size found.0.1 < size now = shrinks now found.0 found.1 in
          within_step n now found.0 found.1
          ∙ ap (with_part found.0.0) (enough n m found.0.1 (omega arith) (omega arith))
          ∙ sym (within_step m now found.0 found.1)
    ]

    -- where a part stands it is the first, and the others are those behind it
    pub all_step : (now : N) (found : A × N) → next now ≡ Some found
        → parts_within next (size now) now ≡ with_part found.0 (parts_within next (size found.1) found.1)
    all_step now found h =
        let s : size found.1 < size now = shrinks now found h in
        enough (size now) (suc (size now)) now (omega arith) (omega arith)
        ∙ within_step (size now) now found h
        ∙ ap (with_part found.0) (enough (size now) (size found.1) found.1 (omega arith) (omega arith))

    -- what holds where no part stands, and of a part and those behind it where it holds of these, holds of all parts
    module _ (P : N → List A × N → Type 0) (none : (now : N) → next now ≡ None → P now ([], now))
        (more : (now : N) (found : A × N) → next now ≡ Some found → P found.1 (parts_within next (size found.1) found.1)
        → P now (with_part found.0 (parts_within next (size found.1) found.1))) where
      end_by : (now : N) → next now ≡ None → P now (parts_within next (size now) now)
      end_by now h = subst (P now) (sym (all_end now h)) (none now h)

      parts_by : (n : ℕ) (now : N) → size now ≤ n → P now (parts_within next (size now) now)
      parts_by zero now a = elim (none_or_some (next now)) [
        | inl h ↦ end_by now h
        | inr found ↦ absurd (no_room now found.0 found.1 a)
      ]
      parts_by (suc n) now a = elim (none_or_some (next now)) [
        | inl h ↦ end_by now h
        | inr found ↦
            let s : size found.0.1 < size now = shrinks now found.0 found.1 in
            subst (P now) (sym (all_step now found.0 found.1)) (more now found.0 found.1 (parts_by n found.0.1 (omega arith)))
      ]

      pub all_parts : (now : N) → P now (parts_within next (size now) now)
      all_parts now = parts_by (size now) now (omega arith)

-- of octets: where no part stands there are none, and the octets stay
pub parts_end : {A : Type 0} (next : List ℕ → Option (A × List ℕ)) (octets : List ℕ)
    → next octets ≡ None → parts_of next octets ≡ ([], octets)
unfolding parts_of
parts_end next octets h = all_end length next octets h

-- where a part stands it is the first, and the others are those of what follows
pub parts_step : {A : Type 0} (next : List ℕ → Option (A × List ℕ)) → Shrinks next → (octets : List ℕ) (found : A × List ℕ)
    → next octets ≡ Some found → parts_of next octets ≡ with_part found.0 (parts_of next found.1)
unfolding parts_of
parts_step next shrinks octets found h = all_step length next shrinks octets found h

-- the parts of joined octets: those of the first, and then those of what they leave and what follows
pub parts_append : {A : Type 0} (next : List ℕ → Option (A × List ℕ)) → Shrinks next → Stable next → (octets more : List ℕ)
    → parts_of next (octets ++ more) ≡ parts_then (parts_of next octets) (parts_of next ((parts_of next octets).1 ++ more))
unfolding parts_of
parts_append next shrinks stable octets more =
    all_parts length next shrinks
    (λ front parts. parts_of next (front ++ more) ≡ parts_then parts (parts_of next (parts.1 ++ more)))
    (λ front h. refl)
    (λ front found h later.
    parts_step next shrinks (front ++ more) (found.0, found.1 ++ more) (stable front more found h) ∙ ap (with_part found.0) later)
    octets

-- the window and the limit behind the first n octets of what is judged
pub window_behind : (limit taken n : ℕ) (left : List ℕ) → n ≤ limit - taken
    → take (limit - (taken + n)) (drop n left) ≡ drop n (take (limit - taken) left)
window_behind limit taken n left within =
    let size : limit - taken ≡ n + (limit - (taken + n)) = omega arith in
    rw size (sym (drop-take n (limit - (taken + n)) left))

pub limit_behind : (limit taken n : ℕ) (left : List ℕ) → n ≤ limit - taken → n ≤ length left
    → nat_le (limit - (taken + n)) (length (drop n left)) ≡ nat_le (limit - taken) (length left)
limit_behind limit taken n left within had = rw (length-drop n left) (grind (arith, nat_tests))
