use Rattle.fs_input.proofs.Words.{◌≡◌, ◌≢◌, ℕ, List, Bool, true, false, Some, ◌≤◌, ◌<◌, ◌+◌, ◌-◌, ◌==◌, ◌&&◌, not, min, inl, inr, length, refl, ap}
use Rattle.fs_input.proofs.Words.{sym, ◌∙◌, subst, arith, if◌then◌else◌, nat_le, length-take, nat_tests, Fills, at_limit, window, short_fault, bad}
use Rattle.fs_input.proofs.Words.{limited, Bad, Limit, Read, Scanner, field, partial, Fails, HasMore, IsOver, end_of, ends_by, whole}

-- What an input answers where its octets end before a field is whole.

same_limit : (limit taken taken' count size : ℕ) → taken ≤ limit → count ≡ min (limit - taken) size → taken' ≡ taken + count
    → nat_le (limit - taken) size ≡ (taken' == limit)
same_limit limit taken taken' count size within all now = grind (arith, nat_tests)

-- all octets that are judged were taken
pub limit_is : (limit taken taken' count : ℕ) (left : List ℕ) → taken ≤ limit → count ≡ length (window limit taken left)
    → taken' ≡ taken + count → at_limit limit taken left ≡ (taken' == limit)
limit_is limit taken taken' count left within all now =
    same_limit limit taken taken' count (length left) within (all ∙ length-take (limit - taken) left) now

short_by : {R : Type 0} (cut : R) (reached test : Bool) (place place' : ℕ) → reached ≡ test → place ≡ place'
    → Fails (Some (if reached then limited else bad cut place)) (if test then Limit else Bad cut place')
short_by cut true true place place' same at_place = refl
short_by cut true false place place' same at_place = absurd cc
short_by cut false true place place' same at_place = absurd cc
short_by cut false false place place' same at_place = ap (λ n. Some (bad cut n)) at_place

-- the fault of a chain for which these octets are too few
pub short_fails : {A R : Type 0} (scanner : Scanner A R) (cut : R) (limit taken taken' count : ℕ) (left : List ℕ)
    → taken ≤ limit → count ≡ length (window limit taken left) → taken' ≡ taken + count
    → scanner taken (window limit taken left) ≡ partial
    → Fails (ends_by scanner cut limit taken left) (short_fault cut taken' limit)
short_fails scanner cut limit taken taken' count left within all now h =
    subst
    (λ scan. Fails (end_of cut (at_limit limit taken left) taken (length (window limit taken left)) scan) (short_fault cut taken' limit))
    (sym h)
    (short_by cut (at_limit limit taken left) (taken' == limit) (taken + length (window limit taken left)) taken'
    (limit_is limit taken taken' count left within all now) (omega (arith, all, now)))

-- an input that ends short didn't fail
pub short_reads : {R : Type 0} (cut : R) (taken limit : ℕ) → short_fault cut taken limit ≢ Read
short_reads {R} cut taken limit = by (taken == limit)
  where
    by : (test : Bool) → (if test then Limit else Bad cut taken) ≢ Read
    by true e = absurd cc
    by false e = absurd cc

-- a buffer that wasn't filled took all that is judged
pub all_taken : (limit taken : ℕ) (left left' into : List ℕ) (count : ℕ) → Fills (window limit taken left) left left' into count
    → count < length into → count ≡ length (window limit taken left)
all_taken limit taken left left' into count filled short = omega (arith, filled.count_is, short)

pub field_short : {R : Type 0} (size place : ℕ) (octets : List ℕ) → length octets < size
    → field {A = List ℕ} {R = R} size whole place octets ≡ partial
field_short size place octets short = let test : nat_le size (length octets) ≡ false = grind (arith, nat_tests) in rw test refl

pub field_fails : {R : Type 0} (cut : R) (limit taken taken' : ℕ) (left left' into : List ℕ) (count : ℕ)
    → Fills (window limit taken left) left left' into count → count < length into → taken ≤ limit → taken' ≡ taken + count
    → Fails (ends_by (field (length into) whole) cut limit taken left) (short_fault cut taken' limit)
field_fails cut limit taken taken' left left' into count filled short within now =
    let all = all_taken limit taken left left' into count filled short in
    let few : length (window limit taken left) < length into = omega (arith, all, short) in
    short_fails (field (length into) whole) cut limit taken taken' count left within all now
    (field_short (length into) taken (window limit taken left) few)

-- The test whether the input ended before a field.
module _ (limit taken taken' : ℕ) (left left' into : List ℕ) (count : ℕ) (filled : Fills (window limit taken left) left left' into count)
    (short : count < length into) (within : taken ≤ limit) (now : taken' ≡ taken + count) where
  all : count ≡ length (window limit taken left)
  all = all_taken limit taken left left' into count filled short

  at_end : (reached : Bool) → (taken' == limit) ≡ reached → at_limit limit taken left ≡ reached
  at_end reached r = limit_is limit taken taken' count left within all now ∙ r

  pub over_is : ((count == 0) && not (taken' == limit)) ≡ true → IsOver limit taken left
  over_is test = by (count == 0) (taken' == limit) refl refl test
    where
      by : (none reached : Bool) → (count == 0) ≡ none → (taken' == limit) ≡ reached → (none && not reached) ≡ true → IsOver limit taken left
      by true true n r e = absurd cc
      by true false n r e =
          record { below = at_end false r; none = (let zero : count ≡ 0 = grind (arith, nat_tests) in omega (arith, zero, all)) }
      by false reached n r e = absurd cc

  pub more_is : ((count == 0) && not (taken' == limit)) ≡ false → HasMore limit taken left
  more_is test = by (count == 0) (taken' == limit) refl refl test
    where
      by : (none reached : Bool) → (count == 0) ≡ none → (taken' == limit) ≡ reached → (none && not reached) ≡ false → HasMore limit taken left
      by none true n r e = inl (at_end true r)
      by true false n r e = absurd cc
      by false false n r e = inr (let some : 0 < count = grind (arith, nat_tests) in omega (arith, some, all))
