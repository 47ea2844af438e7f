-- The test of a list by a field's number, of which an absent one is above all.
use Rattle.fs_ranges.proofs.Words.{◌≡◌, ℕ, ◌-◌, ◌^◌, ◌<◌, ◌≤◌, min, List, [], ◌∷◌, Bool, true, false, true≢false, ◌&&◌, ◌||◌, nat_le}
use Rattle.fs_ranges.proofs.Words.{nat_lt, if◌then◌else◌, Option, Some, None, refl, sym, ap, subst, ◌∙◌, arith, and_right, le-leb, le-ltb, leb-true}
use Rattle.fs_ranges.proofs.Words.{lt-leb, lt-ltb, same_tests, ListBody, part, holds_of, Test, Within, OneOf, PortWithin}
use Rattle.fs_ranges.proofs.Words.{IsSmallField, facts_of, field_number, number_of, AreNumbersOf, IsOnlyRange, has_field, range, clipped}
use Rattle.fs_ranges.proofs.Words.{contains, field_range, is_in, Field, Zero, DestinationAddress, SourceAddress, kind_of, asks_one, IsFieldTest, IsTestOf}
use Rattle.fs_ranges.specs.declared.field.Field.TheVariants.{DestinationPort, Dscp, EitherPort, FlowLabel, FragmentBits, IcmpCode, IcmpType, Length}
use Rattle.fs_ranges.specs.declared.field.Field.TheVariants.{Protocol, SourceFront, SourcePort, Syn}
use Rattle.fs_ranges.proofs.Enclosing.{from_in}
use Rattle.std.proofs.lemmas.Option.{same_Some}

-- a list is held against the number of its field
asked : (field : Field) (pairs : List (ℕ × ℕ)) (test : Test) → asks_one field ≡ true → IsFieldTest field pairs test
    → IsTestOf (part (kind_of field) (ListBody pairs)) test
asked Zero pairs test e h = absurd (true≢false (sym e))
asked DestinationAddress pairs test e h = absurd (true≢false (sym e))
asked SourceAddress pairs test e h = absurd (true≢false (sym e))
asked Protocol pairs test e h = λ view small. h (facts_of view) view.protocol refl small.protocol
asked EitherPort pairs test e h = absurd (true≢false (sym e))
asked DestinationPort pairs test e h = λ view small. h (facts_of view) view.destination_port refl small.destination_port
asked SourcePort pairs test e h = λ view small. h (facts_of view) view.source_port refl small.source_port
asked IcmpType pairs test e h = λ view small. h (facts_of view) view.icmp_type refl small.icmp_type
asked IcmpCode pairs test e h = λ view small. h (facts_of view) view.icmp_code refl small.icmp_code
asked Syn pairs test e h = absurd (true≢false (sym e))
asked Length pairs test e h = λ view small. h (facts_of view) (Some view.length) refl small.length
asked Dscp pairs test e h = λ view small. h (facts_of view) (Some view.dscp) refl small.dscp
asked FragmentBits pairs test e h = absurd (true≢false (sym e))
asked FlowLabel pairs test e h = λ view small. h (facts_of view) view.flow_label refl small.flow_label
asked SourceFront pairs test e h = absurd (true≢false (sym e))

nothing_in : (n : ℕ) → is_in n (1, 0) ≡ false
nothing_in n = same_tests (is_in n (1, 0)) false (λ h. let low : 1 ≤ n = (from_in n (1, 0) h).0 in let high : n ≤ 0 = (from_in n (1, 0) h).1 in
    absurd (omega arith)) (λ h. absurd (true≢false (sym h)))

least_same : (n last : ℕ) → n < 2 ^ 32 → nat_le n (min last (2 ^ 32 - 1)) ≡ nat_le n last
least_same n last small = same_tests (nat_le n (min last (2 ^ 32 - 1))) (nat_le n last)
    (λ h. let low : n ≤ min last (2 ^ 32 - 1) = leb-true n (min last (2 ^ 32 - 1)) h in le-leb n last (omega arith))
    (λ h. let low : n ≤ last = leb-true n last h in le-leb n (min last (2 ^ 32 - 1)) (omega arith))

clipped_low : (first last : ℕ) → (clipped first last).1 < 2 ^ 32
clipped_low first last = at (nat_lt first (2 ^ 32))
  where
    at : (b : Bool) → (let r : ℕ × ℕ = if b then (first, min last (2 ^ 32 - 1)) else (1, 0) in r.1 < 2 ^ 32)
    at true = let low : min last (2 ^ 32 - 1) < 2 ^ 32 = omega arith in low
    at false = let low : 0 < 2 ^ 32 = omega arith in low

clipped_same : (first last n : ℕ) → n < 2 ^ 32 → is_in n (clipped first last) ≡ is_in n (first, last)
clipped_same first last n small = at (nat_lt first (2 ^ 32)) refl
  where
    beyond : nat_lt first (2 ^ 32) ≡ false → nat_le first n ≡ false
    beyond e = same_tests (nat_le first n) false (λ h. let low : first ≤ n = leb-true first n h in
        absurd (true≢false (sym (lt-ltb first (2 ^ 32) (omega arith)) ∙ e))) (λ h. absurd (true≢false (sym h)))

    at : (b : Bool) → nat_lt first (2 ^ 32) ≡ b → is_in n (if b then (first, min last (2 ^ 32 - 1)) else (1, 0)) ≡ is_in n (first, last)
    at true e = ap (λ (b : Bool). nat_le first n && b) (least_same n last small)
    at false e = nothing_in n ∙ sym (ap (λ (b : Bool). b && nat_le n last) (beyond e))

-- the numbers below 2^32 are those of the range, and its last is one of them
pub record IsRangeOf (numbers : List (ℕ × ℕ)) (r : ℕ × ℕ) : Type 0 where
  pub low : r.1 < 2 ^ 32
  pub same : (n : ℕ) → n < 2 ^ 32 → is_in n r ≡ contains numbers n

or_false : (a : Bool) → (a || false) ≡ a
or_false true = refl
or_false false = refl

range_of : (numbers : List (ℕ × ℕ)) (r : ℕ × ℕ) → field_range numbers ≡ Some r → IsRangeOf numbers r
range_of [] r h = subst (λ (s : ℕ × ℕ). IsRangeOf [] s) (same_Some (1, 0) r h) (record { low = omega arith; same = λ n small. nothing_in n })
range_of (one ∷ []) r h = subst (λ (s : ℕ × ℕ). IsRangeOf (one ∷ []) s) (same_Some (clipped one.0 one.1) r h) (record {
  low = clipped_low one.0 one.1;
  same = λ n small. clipped_same one.0 one.1 n small ∙ sym (or_false (is_in n one));
})
range_of (one ∷ next ∷ ranges) r h = cc

in_range : (pairs numbers : List (ℕ × ℕ)) (r : ℕ × ℕ) (n : ℕ) (number : Option ℕ) → AreNumbersOf pairs numbers → IsRangeOf numbers r
    → n ≡ field_number number → IsSmallField number → is_in n r ≡ holds_of pairs number
in_range pairs numbers r n None are h e small = ap (λ (k : ℕ). is_in k r) e ∙ and_right (nat_le r.0 (2 ^ 32)) (nat_le (2 ^ 32) r.1) (lt-leb (2 ^ 32) r.1 h.low)
in_range pairs numbers r n (Some k) are h e small = ap (λ (k : ℕ). is_in k r) e ∙ h.same k small ∙ are k (omega arith)

pub within_test : (field : Field) (pairs numbers : List (ℕ × ℕ)) (low high : ℕ) → AreNumbersOf pairs numbers → field_range numbers ≡ Some (low, high)
    → asks_one field ≡ true → IsTestOf (part (kind_of field) (ListBody pairs)) (Within (range field low high))
within_test field pairs numbers low high are h asks =
    asked field pairs (Within (range field low high)) asks
    (λ facts number e small. in_range pairs numbers (low, high) (number_of facts field) number are (range_of numbers (low, high) h) e small)

in_only : (pairs : List (ℕ × ℕ)) (r : ℕ × ℕ) (n : ℕ) (number : Option ℕ) → r.1 < 2 ^ 32 → IsOnlyRange pairs r → n ≡ field_number number
    → IsSmallField number → is_in n r ≡ holds_of pairs number
in_only pairs r n None low only e small = ap (λ (k : ℕ). is_in k r) e ∙ and_right (nat_le r.0 (2 ^ 32)) (nat_le (2 ^ 32) r.1) (lt-leb (2 ^ 32) r.1 low)
in_only pairs r n (Some k) low only e small = ap (λ (k : ℕ). is_in k r) e ∙ only k

pub range_test : (field : Field) (pairs : List (ℕ × ℕ)) (low high : ℕ) → high < 2 ^ 32 → IsOnlyRange pairs (low, high)
    → asks_one field ≡ true → IsTestOf (part (kind_of field) (ListBody pairs)) (Within (range field low high))
range_test field pairs low high small only asks =
    asked field pairs (Within (range field low high)) asks
    (λ facts number e is_small. in_only pairs (low, high) (number_of facts field) number small only e is_small)

pub has_same : (pairs numbers : List (ℕ × ℕ)) (n : ℕ) (number : Option ℕ) → AreNumbersOf pairs numbers → n ≡ field_number number → IsSmallField number
    → has_field numbers n ≡ holds_of pairs number
has_same pairs numbers n None are e small = ap (λ (k : ℕ). has_field numbers k) e
    ∙ ap (λ (b : Bool). b && contains numbers (2 ^ 32)) (le-ltb (2 ^ 32) (2 ^ 32) (omega arith))
has_same pairs numbers n (Some k) are e small = ap (λ (k : ℕ). has_field numbers k) e
    ∙ ap (λ (b : Bool). b && contains numbers k) (lt-ltb k (2 ^ 32) small) ∙ are k (omega arith)

pub one_of_test : (field : Field) (pairs numbers : List (ℕ × ℕ)) → AreNumbersOf pairs numbers → asks_one field ≡ true
    → IsTestOf (part (kind_of field) (ListBody pairs)) (OneOf field numbers)
one_of_test field pairs numbers are asks =
    asked field pairs (OneOf field numbers) asks (λ facts number e small. has_same pairs numbers (number_of facts field) number are e small)

-- either port in one range
pub port_within : (pairs numbers : List (ℕ × ℕ)) (low high : ℕ) → AreNumbersOf pairs numbers → field_range numbers ≡ Some (low, high)
    → IsTestOf (part 4 (ListBody pairs)) (PortWithin low high)
port_within pairs numbers low high are h = λ view small i.
    in_range pairs numbers (low, high) (field_number view.source_port) view.source_port are (range_of numbers (low, high) h) refl small.source_port i
    || in_range pairs numbers (low, high) (field_number view.destination_port) view.destination_port are
    (range_of numbers (low, high) h) refl small.destination_port i
