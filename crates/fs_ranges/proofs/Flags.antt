-- A list that says of TCP flags no more than that SYN is set, as a range.
use Rattle.fs_ranges.specs.declared.field.Field.TheVariants.{Syn}
use Rattle.fs_ranges.proofs.Words.{◌≡◌, ◌≤◌, ℕ, ◌==◌, Bool, true, false, true≢false, not, ◌&&◌, ◌||◌, nat_le, bit_and, if◌then◌else◌, List, [], ◌∷◌}
use Rattle.fs_ranges.proofs.Words.{Option, Some, None, refl, sym, ap, ◌∙◌, arith, eq-eqb, eqb-true, le-leb, leb-true, and_first, and_second}
use Rattle.fs_ranges.proofs.Words.{same_tests, ListBody, part, IsSoundBody, has_bit, holds, masks, Within, syn_number, is_match, is_syn, range}
use Rattle.fs_ranges.proofs.Words.{IsTestOf, flags_pass}
use Rattle.fs_ranges.proofs.ComponentTests.{flags_are}
use Rattle.std.proofs.lemmas.Nat.{and_assoc}

two : (b : ℕ) → (nat_le 2 b && nat_le b 2) ≡ (b == 2)
two b = same_tests (nat_le 2 b && nat_le b 2) (b == 2)
    (λ h. let low : 2 ≤ b = leb-true 2 b (and_first (nat_le 2 b) (nat_le b 2) h) in let high : b ≤ 2 =
    leb-true b 2 (and_second (nat_le 2 b) (nat_le b 2) h) in eq-eqb b 2 (omega arith))
    (λ h. let e : b ≡ 2 = eqb-true b 2 h in (λ i. le-leb 2 b (omega (arith, e)) i && le-leb b 2 (omega (arith, e)) i))

plain : (n c k : Bool) (m : Bool) → (not n && c) ≡ true → (((if n then not (if c then k else m) else (if c then k else m)) && true) || false) ≡ k
plain false true true m h = refl
plain false true false m h = refl
plain false false k m h = absurd (true≢false (sym h))
plain true c k m h = absurd (true≢false (sym h))

bits : (octets : ℕ) → bit_and (bit_and octets 4095) 2 ≡ bit_and octets 2
bits octets = and_assoc 2 octets 4095

one : (operator value octets : ℕ) → value ≡ 2 → is_match operator ≡ true
    → holds (masks (bit_and octets 4095)) ((operator, value) ∷ []) ≡ (bit_and octets 2 == 2)
one operator value octets e h =
    ap (λ (v : ℕ). holds (masks (bit_and octets 4095)) ((operator, v) ∷ [])) e
    ∙ plain (has_bit operator 2) (has_bit operator 1) (bit_and (bit_and octets 4095) 2 == 2) (not (bit_and (bit_and octets 4095) 2 == 0)) h
    ∙ ap (λ (b : ℕ). b == 2) (bits octets)

syn_holds : (pairs : List (ℕ × ℕ)) (octets : ℕ) → is_syn pairs ≡ true → holds (masks (bit_and octets 4095)) pairs ≡ (bit_and octets 2 == 2)
syn_holds [] octets h = absurd (true≢false (sym h))
syn_holds (pair ∷ []) octets h =
    one pair.0 pair.1 octets (eqb-true pair.1 2 (and_second (is_match pair.0) (pair.1 == 2) h)) (and_first (is_match pair.0) (pair.1 == 2) h)
syn_holds (pair ∷ next ∷ pairs) octets h = absurd (true≢false (sym h))

syn_passes : (pairs : List (ℕ × ℕ)) (octets : Option ℕ) → is_syn pairs ≡ true
    → (nat_le 2 (syn_number octets) && nat_le (syn_number octets) 2) ≡ flags_pass pairs octets
syn_passes pairs None h = refl
syn_passes pairs (Some octets) h = two (bit_and octets 2) ∙ sym (syn_holds pairs octets h)

pub syn_is : (pairs : List (ℕ × ℕ)) → IsSoundBody (ListBody pairs) → is_syn pairs ≡ true → IsTestOf (part 9 (ListBody pairs)) (Within (range Syn 2 2))
syn_is pairs sound h = λ view small. syn_passes pairs view.tcp_octets h ∙ flags_are pairs pairs sound refl view small
