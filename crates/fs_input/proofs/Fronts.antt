-- What stands before the records, filled as far as the octets and the limit reach, says what the input opens.
use Rattle.fs_input.proofs.Words.{◌≡◌, ℕ, List, [], ◌++◌, Bool, true, false, Result, Ok, Err, subst, ◌≤◌, ◌+◌, ◌-◌, ◌==◌, min, length, take, drop}
use Rattle.fs_input.proofs.Words.{refl, ap, sym, ◌∙◌, arith, if◌then◌else◌, nat_le, drop_all, length-take, nat_tests, Fills, window, Counted, Fault}
use Rattle.fs_input.proofs.Words.{End, limited, bad, Read, Limit, Bad, Head, Whole, Wrong, Partial}
use Rattle.fs_input.proofs.Records.{head_filled}
use Rattle.fs_input.specs.Opening.{IsFrontWithin, Opens, opened_answer, opened_by, opening}

module _ {V R : Type 0} (size : ℕ) (front_of : List ℕ → Head V R) (cut : R) where
  -- what was filled is what is judged
  opens_with : (limit taken : ℕ) (left left1 front : List ℕ) (count : ℕ) (said : Head V R) → taken ≡ 0
      → Fills (window limit taken left) left left1 front count → length front ≡ size → said ≡ front_of (take count front)
      → opening size front_of cut limit left ≡ opened_by cut (nat_le limit (length left)) (length (take size (take limit left))) said
  opens_with limit taken left left1 front count said none fills len h =
      let all : limit - taken ≡ limit = omega arith in
      let same : take count front ≡ take size (take limit left) =
      head_filled size (window limit taken left) left left1 front count fills len ∙ ap (λ n. take size (take n left)) all in
      ap (λ s. opened_by cut (nat_le limit (length left)) (length (take size (take limit left))) s) (sym (h ∙ ap front_of same))

  by_short : (limit : ℕ) (left behind left' : List ℕ) (test : Bool) (count : ℕ)
      → opening size front_of cut limit left ≡ Err (if test then limited else bad cut count)
      → Opens (λ v. v) (opening size front_of cut limit left) behind left' (Err (if test then Limit else Bad cut count))
  by_short limit left behind left' true count h = h
  by_short limit left behind left' false count h = h

  -- what is answered then opens the input
  opens : (limit taken : ℕ) (left left' front : List ℕ) (count taken' : ℕ) (said : Head V R) → taken ≡ 0
      → Fills (window limit taken left) left left' front count → length front ≡ size → said ≡ front_of (take count front)
      → IsFrontWithin size count said → taken' ≡ taken + count
      → Opens (λ v. v) (opening size front_of cut limit left) (drop size left) left' (opened_answer cut taken' limit said)
  opens limit taken left left' front count taken' (Whole said more) none fills len h within now =
      let e : count ≡ min (length front) (length (window limit taken left)) = fills.count_is in
      let same : count ≡ size = omega arith in (
        opens_with limit taken left left' front count (Whole said more) none fills len h,
        fills.left ∙ ap (λ n. drop n left) same,
      )
  opens limit taken left left' front count taken' (Wrong reason place) none fills len h within now =
      opens_with limit taken left left' front count (Wrong reason place) none fills len h
  opens limit taken left left' front count taken' Partial none fills len h within now =
      let e : count ≡ min (length front) (length (window limit taken left)) = fills.count_is in
      let least : count ≡ min limit (length left) = omega (arith, length-take (limit - taken) left) in
      let short : length (take size (take limit left)) ≡ count = omega (arith, length-take size (take limit left), length-take limit left) in
      let test : nat_le limit (length left) ≡ (count == limit) = grind (arith, nat_tests) in
      let place : taken' ≡ count = omega arith in
      rw place
      (by_short limit left (drop size left) left' (count == limit) count
      (opens_with limit taken left left' front count Partial none fills len h ∙ rw (short, test) refl))

-- a fault that ends an input before its records is that of what was to be opened, whatever is left
by_fault : {T V R : Type 0} (view : T → V) (found : Result V (End R)) (behind left left' : List ℕ) (fault : Fault R)
    → Opens (λ v. v) found behind left (Err fault) → Opens view found behind left' (Err fault)
by_fault view found behind left left' Read h = tt
by_fault view found behind left left' Limit h = h
by_fault view found behind left left' (Bad reason place) h = h

-- what opens an input is a whole front
pub opened_whole : {V R : Type 0} (cut : R) (limit : Bool) (size : ℕ) (head : Head V R) (value : V) → opened_by cut limit size head ≡ Ok value
    → (n : ℕ) × (head ≡ Whole value n)
opened_whole cut limit size (Whole found n) value h = let same : found ≡ value = cc in (n, ap (λ v. Whole v n) same)
opened_whole cut limit size (Wrong reason place) value h = absurd cc
opened_whole cut limit size Partial value h = absurd cc

-- what opens an input has all its octets
front_whole : {V R : Type 0} (cut : R) (size count taken limit : ℕ) (said : Head V R) (value : V)
    → IsFrontWithin size count said → opened_answer cut taken limit said ≡ Ok value → size ≤ count
front_whole cut size count taken limit (Whole said none) value within e = within
front_whole cut size count taken limit (Wrong reason place) value within e = absurd cc
front_whole cut size count taken limit Partial value within e = absurd cc

-- An input that is opened, of whose front octets may have been put back: what was answered of the octets that were filled.
module _ {V R : Type 0} (size : ℕ) (cut : R) (before now : Counted) (count : ℕ) (said : Head V R) (within : IsFrontWithin size count said) where
  -- an opened one has taken all that was put back
  pub none_back : (value : V) → opened_answer cut now.taken before.limit said ≡ Ok value → length before.back ≤ size
      → now.back ≡ drop count before.back → now.back ≡ []
  none_back value is few gone =
      let whole : size ≤ count = front_whole cut size count now.taken before.limit said value within is in
      gone ∙ drop_all count before.back (omega (arith, few, whole))

  module _ (front_of : List ℕ → Head V R) (left left' front : List ℕ)
      (filled : Fills (window before.limit before.taken (before.back ++ left)) (before.back ++ left) (now.back ++ left') front count)
      (start : before.taken ≡ 0) (sized : length front ≡ size) (exact : said ≡ front_of (take count front)) (counts : now.taken ≡ before.taken + count) where
    abbrev OpensAs : {T : Type 0} → (T → V) → List ℕ → Result T (Fault R) → Type 0
    OpensAs view rest answer = Opens view (opening size front_of cut before.limit (before.back ++ left)) (drop size (before.back ++ left)) rest answer

    answered : (answer : Result V (Fault R)) → opened_answer cut now.taken before.limit said ≡ answer → OpensAs (λ v. v) (now.back ++ left') answer
    answered answer is =
        subst (λ (a : Result V (Fault R)). OpensAs (λ v. v) (now.back ++ left') a) is
        (opens size front_of cut before.limit before.taken (before.back ++ left) (now.back ++ left') front count now.taken said start filled sized exact within
        counts)

    pub opens_not : {T : Type 0} (view : T → V) (fault : Fault R) → opened_answer cut now.taken before.limit said ≡ Err fault
        → OpensAs view left' (Err fault)
    opens_not view fault is =
        by_fault view (opening size front_of cut before.limit (before.back ++ left)) (drop size (before.back ++ left)) (now.back ++ left') left' fault
        (answered (Err fault) is)

    pub opens_so : {T : Type 0} (view : T → V) (input : T) → opened_answer cut now.taken before.limit said ≡ Ok (view input)
        → length before.back ≤ size → now.back ≡ drop count before.back → OpensAs view left' (Ok input)
    opens_so view input is few gone =
        let h = answered (Ok (view input)) is in
        (h.0, ap (λ (b : List ℕ). b ++ left') (sym (none_back (view input) is few gone)) ∙ h.1)
