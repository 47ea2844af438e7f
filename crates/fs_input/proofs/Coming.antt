-- The parts of an input, read one by one.
use Rattle.fs_input.proofs.Words.{◌≡◌, ◌⊎◌, inl, inr, ℕ, List, [], Some, None, Bool, true, false, ◌<◌, ◌≤◌, ◌+◌, ◌==◌, ◌&&◌, not, length, take, drop}
use Rattle.fs_input.proofs.Words.{refl, ap, sym, ◌∙◌, arith, if◌then◌else◌, nat_le, unwrap_or, length-drop, nat_tests, at_limit, window, with_part}
use Rattle.fs_input.proofs.Words.{At, Shrinks, at, judged, to_come, End, done, Chain, Placed, Takes, first_part, part_of, parts_to_come, placed, stop}
use Rattle.fs_input.proofs.Words.{Took, end_of, ends_by, Scan, behind, field, got, partial, wrong}
use Rattle.fs_input.proofs.PartsOfRecords.{to_come_end, to_come_step}

-- how many octets the parts of a chain take

pub field_takes : {A R : Type 0} (size : ℕ) (read : List ℕ → A) → Takes {A = A} {R = R} size (field size read)
field_takes {A = A} {R = R} size read place octets found count h = by (nat_le size (length octets)) refl h
  where
    by : (test : Bool) → nat_le size (length octets) ≡ test
        → ◌≡◌ {A = Scan A R} (if test then got (read (take size octets)) size else partial) (got found count) → (size ≤ count) × (count ≤ length octets)
    by true t e = let same : size ≡ count = cc in let held : size ≤ length octets = grind (arith, nat_tests) in (omega arith, omega arith)
    by false t e = absurd cc

pub behind_takes : {A R : Type 0} (n : ℕ) (scan : Scan A R) (value : A) (count : ℕ) → behind n scan ≡ got value count
    → (m : ℕ) × (scan ≡ got value m) × (count ≡ n + m)
behind_takes n (got found m) value count h =
    let value_is : found ≡ value = cc in let count_is : n + m ≡ count = cc in (m, ap (λ v. got v m) value_is, sym count_is)
behind_takes n (wrong reason spot) value count h = absurd cc
behind_takes n partial value count h = absurd cc

-- parts

module _ {S P R : Type 0} (chain : Chain S P R) where
  -- the part that stands here, and what stands behind it
  pub record IsPart (now : At (Placed S)) (found : P × At (Placed S)) : Type 0 where
    pub count : ℕ
    pub is : chain now.state.now now.state.place now.octets ≡ got (found.0, found.1.state.now) count
    pub rest_is : found.1.octets ≡ drop count now.octets

  found_by : (now : At (Placed S)) (found : P × At (Placed S)) (scan : Scan (P × S) R) → chain now.state.now now.state.place now.octets ≡ scan
      → part_of now scan ≡ Some found → IsPart now found
  found_by now found (got value count) s h =
      let first : value.0 ≡ found.0 = cc in
      let rest : at (placed value.1 (now.state.place + count)) (drop count now.octets) ≡ found.1 = cc in
      record {
        count = count;
        is = s ∙ (λ i. got (first i, (rest i).state.now) count);
        rest_is = sym (ap (λ (a : At (Placed S)). a.octets) rest);
      }
  found_by now found (wrong reason spot) s h = absurd cc
  found_by now found partial s h = absurd cc

  pub part_found : (now : At (Placed S)) (found : P × At (Placed S)) → first_part chain now ≡ Some found → IsPart now found
  part_found now found h = found_by now found (chain now.state.now now.state.place now.octets) refl h

  pub shrinks : ((state : S) → Takes 1 (chain state)) → Shrinks (first_part chain)
  shrinks takes now found h =
      let p = part_found now found h in
      let held = takes now.state.now now.state.place now.octets (found.0, found.1.state.now) p.count p.is in
      let some : 1 ≤ p.count = held.0 in
      let within : p.count ≤ length now.octets = held.1 in
      omega (arith, some, within, ap length p.rest_is, length-drop p.count now.octets)

  -- a part that was taken comes first
  pub part_comes : (cut : R) (limit taken taken' : ℕ) (now : S) (left left' : List ℕ) (part : P × S)
      → ((state : S) → Takes 1 (chain state))
      → Took (chain now taken (window limit taken left)) (length (window limit taken left)) taken taken' left left' part
      → parts_to_come chain cut limit taken now left ≡ with_part part.0 (parts_to_come chain cut limit taken' part.1 left')
  part_comes cut limit taken taken' now left left' part takes took =
      let n = took.count in
      let found : first_part chain (judged limit taken (at (placed now taken) left))
      ≡ Some (part.0, at (placed part.1 (taken + n)) (drop n (window limit taken left))) =
      ap (part_of (judged limit taken (at (placed now taken) left))) took.is in
      to_come_step (first_part chain) (stop chain cut) (shrinks takes) limit taken (at (placed now taken) left) part.0
      (placed part.1 (taken + n)) n took.within found
      ∙ (λ i. with_part part.0 (to_come (first_part chain) (stop chain cut) limit ((sym took.taken_is) i)
      (at (placed part.1 ((sym took.taken_is) i)) ((sym took.left_is) i))))

  none_by : (now : At (Placed S)) (cut : R) (limit : Bool) (taken size : ℕ) (scan : Scan (P × S) R) (end : End R)
      → end_of cut limit taken size scan ≡ Some end → part_of now scan ≡ None
  none_by now cut limit taken size (got value count) end h = absurd cc
  none_by now cut limit taken size (wrong reason spot) end h = refl
  none_by now cut limit taken size partial end h = refl

  -- where the chain ends, and something is left or the limit is reached
  pub end_comes : (cut : R) (limit taken : ℕ) (now : S) (left : List ℕ) (end : End R)
      → (at_limit limit taken left ≡ true) ⊎ (0 < length (window limit taken left))
      → ends_by (chain now) cut limit taken left ≡ Some end → parts_to_come chain cut limit taken now left ≡ ([], end)
  end_comes cut limit taken now left end some h =
      let octets = window limit taken left in
      let reached = at_limit limit taken left in
      let none = none_by (at (placed now taken) octets) cut reached taken (length octets) (chain now taken octets) end h in
      let test : (length octets == 0) && not reached ≡ false = over (length octets) reached some in
      to_come_end (first_part chain) (stop chain cut) limit taken (at (placed now taken) left) none
      ∙ (λ i. ([], (if test i then done else unwrap_or (h i) done)))
    where
      never : (b : Bool) → b && false ≡ false
      never true = refl
      never false = refl

      over : (size : ℕ) (reached : Bool) → (reached ≡ true) ⊎ (0 < size) → (size == 0) && not reached ≡ false
      over size true (inl e) = never (size == 0)
      over size false (inl e) = absurd cc
      over size reached (inr l) = let none : (size == 0) ≡ false = grind (arith, nat_tests) in ap (λ b. b && not reached) none

  -- where nothing is left below the limit
  pub done_comes : (cut : R) (limit taken : ℕ) (now : S) (left : List ℕ) → ((state : S) → Takes 1 (chain state))
      → at_limit limit taken left ≡ false → length (window limit taken left) ≡ 0
      → parts_to_come chain cut limit taken now left ≡ ([], done)
  done_comes cut limit taken now left takes free none =
      let octets = window limit taken left in
      let test : (length octets == 0) && not (at_limit limit taken left) ≡ true = λ i. (none i == 0) && not (free i) in
      to_come_end (first_part chain) (stop chain cut) limit taken (at (placed now taken) left)
      (nothing (chain now taken octets) refl)
      ∙ ap (λ b. ([], (if b then done else unwrap_or (end_of cut (at_limit limit taken left) taken (length octets) (chain now taken octets)) done))) test
    where
      nothing : (scan : Scan (P × S) R) → chain now taken (window limit taken left) ≡ scan
          → part_of (at (placed now taken) (window limit taken left)) scan ≡ None
      nothing (got value count) s =
          let held = takes now taken (window limit taken left) value count s in
          let some : 1 ≤ count = held.0 in
          let within : count ≤ length (window limit taken left) = held.1 in
          absurd (let no : ⊥ = omega arith in no)
      nothing (wrong reason spot) s = refl
      nothing partial s = refl
