-- The first octets of a part, of which some were put back.
use Rattle.fs_input.proofs.Words.{◌≡◌, ◌≢◌, ℕ, List, [], ◌++◌, Bool, true, false, Result, ◌<◌, ◌≤◌, ◌+◌, ◌==◌, ◌&&◌, not, length, refl, ap, sym, ◌∙◌}
use Rattle.fs_input.proofs.Words.{subst, arith, if◌then◌else◌, nat_tests, Fills, window, Counted, draws_ahead, short_fault, Fault, Calls, Fails, Moment, again}
use Rattle.fs_input.proofs.Words.{HasMore, IsOver, Passes, PassesOn, Reads, Took, ahead, ends_by, whole, Scanner, field}
use Rattle.fs_input.proofs.{CutShort.{field_fails, more_is, over_is}, Taking.{field_took}}
use Rattle.std.specs.Prelude.{Option}
use Rattle.fs_base.specs.Draws.{Draws, Passed}

ahead_at : (counted : Counted) (left : ℕ → List ℕ) (slot : ℕ) → slot ≡ counted.slot → ahead counted left slot ≡ counted.back ++ left slot
ahead_at counted left slot same = let test : (slot == counted.slot) ≡ true = grind (arith, nat_tests) in rw test refl

pub ahead_here : (counted : Counted) (left : ℕ → List ℕ) → ahead counted left counted.slot ≡ counted.back ++ left counted.slot
ahead_here counted left = ahead_at counted left counted.slot refl

pub ahead_other : (counted : Counted) (left : ℕ → List ℕ) (slot : ℕ) → slot ≢ counted.slot → ahead counted left slot ≡ left slot
ahead_other counted left slot apart = let test : (slot == counted.slot) ≡ false = grind (arith, nat_tests) in rw test refl

-- where nothing was put back, what is left is the slot's
ahead_none : (counted : Counted) (left : ℕ → List ℕ) (slot : ℕ) → counted.back ≡ [] → ahead counted left slot ≡ left slot
ahead_none counted left slot none = by (slot == counted.slot)
  where
    by : (test : Bool) → (if test then counted.back ++ left slot else left slot) ≡ left slot
    by true = ap (λ back. back ++ left slot) none
    by false = refl

pub nothing_ahead : (counted : Counted) (left : ℕ → List ℕ) → counted.back ≡ [] → ahead counted left ≡ left
nothing_ahead counted left none = λ i slot. ahead_none counted left slot none i

-- a moment at which nothing is put back
again_none : (now : Moment) → now.counted.back ≡ [] → again now ≡ now
again_none now none = λ i. record { calls = now.calls; left = nothing_ahead now.counted now.left none i; holds = now.holds; counted = now.counted }

-- a call behind which nothing is put back, as before it
module _ {T A R : Type 0} {scanner : Scanner A R} {cut : R} {tells : T → A} {told : Bool} {result : Result T (Fault R)} (old new : Moment)
    (none : old.counted.back ≡ []) (later : new.counted.back ≡ []) where
  pub reads_ahead : Reads told old new scanner cut tells result → Reads told (again old) (again new) scanner cut tells result
  reads_ahead h =
      subst (λ n. Reads told (again old) n scanner cut tells result) (sym (again_none new later))
      (subst (λ o. Reads told o new scanner cut tells result) (sym (again_none old none)) h)

  pub reads_straight : Reads told (again old) (again new) scanner cut tells result → Reads told old new scanner cut tells result
  reads_straight h =
      subst (λ n. Reads told old n scanner cut tells result) (again_none new later)
      (subst (λ o. Reads told o (again new) scanner cut tells result) (again_none old none) h)

module _ (old new : Counted) (left left' : ℕ → List ℕ) (same : new.slot ≡ old.slot) where
  again_others : ((other : ℕ) → other ≢ old.slot → left' other ≡ left other) → (other : ℕ) → other ≢ old.slot
      → ahead new left' other ≡ ahead old left other
  again_others kept other apart =
      ahead_other new left' other (λ e. apart (e ∙ same)) ∙ kept other apart ∙ sym (ahead_other old left other apart)

  -- what holds of the octets that were put back and of those that the slot has left
  of_ahead : (P : List ℕ → List ℕ → Type 0) → P (old.back ++ left old.slot) (new.back ++ left' old.slot)
      → P (ahead old left old.slot) (ahead new left' old.slot)
  of_ahead P h =
      subst (λ before. P before (ahead new left' old.slot)) (sym (ahead_here old left))
      (subst (λ later. P (old.back ++ left old.slot) later) (sym (ahead_at new left' old.slot (sym same))) h)

  again_passed : Draws old new (left old.slot) (left' old.slot)
      → Passed old.limit old.taken new.taken (ahead old left old.slot) (ahead new left' old.slot)
  again_passed h = of_ahead (λ before later. Passed old.limit old.taken new.taken before later) (draws_ahead old new (left old.slot) (left' old.slot) h)

  module _ (into : List ℕ) (count : ℕ)
      (filled : Fills (window old.limit old.taken (old.back ++ left old.slot)) (old.back ++ left old.slot) (new.back ++ left' old.slot) into count) where
    pub again_took : {R : Type 0} → length into ≤ count → new.taken ≡ old.taken + count
        → Took (field {A = List ℕ} {R = R} (length into) whole old.taken (window old.limit old.taken (ahead old left old.slot)))
        (length (window old.limit old.taken (ahead old left old.slot))) old.taken new.taken (ahead old left old.slot) (ahead new left' old.slot) into
    again_took {R} all now =
        of_ahead
        (λ before later. Took (field {A = List ℕ} {R = R} (length into) whole old.taken (window old.limit old.taken before))
        (length (window old.limit old.taken before)) old.taken new.taken before later into)
        (field_took old.limit old.taken new.taken (old.back ++ left old.slot) (new.back ++ left' old.slot) into count filled all now)

    module _ (short : count < length into) (within : old.taken ≤ old.limit) (now : new.taken ≡ old.taken + count) (most : new.limit ≡ old.limit) where
      -- the octets end before the field is whole
      pub again_fails : {R : Type 0} (cut : R)
          → Fails (ends_by (field {A = List ℕ} {R = R} (length into) whole) cut old.limit old.taken (ahead old left old.slot))
          (short_fault cut new.taken new.limit)
      again_fails {R} cut =
          of_ahead
          (λ before later. Fails (ends_by (field {A = List ℕ} {R = R} (length into) whole) cut old.limit old.taken before)
          (short_fault cut new.taken new.limit))
          (subst
          (λ limit. Fails (ends_by (field {A = List ℕ} {R = R} (length into) whole) cut old.limit old.taken (old.back ++ left old.slot))
          (short_fault cut new.taken limit))
          (sym most)
          (field_fails cut old.limit old.taken new.taken (old.back ++ left old.slot) (new.back ++ left' old.slot) into count filled short within now))

      -- and before its first octet, or not
      pub again_over : ((count == 0) && not (new.taken == new.limit)) ≡ true → IsOver old.limit old.taken (ahead old left old.slot)
      again_over test =
          of_ahead (λ before later. IsOver old.limit old.taken before)
          (over_is old.limit old.taken new.taken (old.back ++ left old.slot) (new.back ++ left' old.slot) into count filled short within now
          (sym (ap (λ n. (count == 0) && not (new.taken == n)) most) ∙ test))

      pub again_more : ((count == 0) && not (new.taken == new.limit)) ≡ false → HasMore old.limit old.taken (ahead old left old.slot)
      again_more test =
          of_ahead (λ before later. HasMore old.limit old.taken before)
          (more_is old.limit old.taken new.taken (old.back ++ left old.slot) (new.back ++ left' old.slot) into count filled short within now
          (sym (ap (λ n. (count == 0) && not (new.taken == n)) most) ∙ test))

-- what a call does to the files, where octets were put back
pub again_passes : {told : Bool} {calls calls' : Calls} {holds holds' : List ℕ → Option (List ℕ)} (old new : Counted) (left left' : ℕ → List ℕ)
    → Passes told calls calls' left left' holds holds' (Draws old new (left old.slot) (left' old.slot)) old new
    → PassesOn told calls calls' (ahead old left) (ahead new left') holds holds' old new
again_passes old new left left' h = record {
  later = h.later;
  slot = h.slot;
  limit = h.limit;
  others = λ tells_so. record {
    others = again_others old new left left' h.slot (h.others tells_so).others;
    names = (h.others tells_so).names;
  };
  took = λ tells_so. again_passed old new left left' h.slot (h.took tells_so);
  opened = h.opened;
}
