-- Each part of an UPDATE takes octets.
use Rattle.fs_attrs.proofs.Words.{◌≡◌, ℕ, ◌*◌, ◌<◌, ◌≤◌, ◌==◌, Bool, true, false, ◌&&◌, bit_and, nat_le, nat_lt, List, [], ◌∷◌, length, take, drop}
use Rattle.fs_attrs.proofs.Words.{Option, Some, None, refl, sym, ap, arith, if◌then◌else◌, option_map, nat_tests, big_number, Shrinks, Family}
use Rattle.fs_attrs.proofs.Words.{Segment, width_of, octets_for, first_bits, Attribute, attribute, sized, short_field, long_field, first_attribute}
use Rattle.fs_attrs.proofs.Words.{Shown, shown_as, first_prefix, as_width, first_as, numbers_of, segment, first_segment}
use Rattle.std.proofs.lemmas.{List.{length-drop}, Option.{cond_some}}

not_chosen : {A : Type 0} (test : Bool) (a b : A) → (if test then None else Some a) ≡ Some b → (test ≡ false) × (a ≡ b)
not_chosen true a b h = cc
not_chosen false a b h = (refl, cc)

sized_within : (size : ℕ) (octets : List ℕ) (found : List ℕ × List ℕ) → sized size octets ≡ Some found → length found.1 ≤ length octets
sized_within size octets found h =
    let c = cond_some (nat_le size (length octets)) (take size octets, drop size octets) found h in
    omega (arith, sym (ap (λ (z : List ℕ × List ℕ). length z.1) c.1), length-drop size octets)

short_within : (octets : List ℕ) (found : List ℕ × List ℕ) → short_field octets ≡ Some found → length found.1 ≤ length octets
short_within [] found h = cc
short_within (size ∷ rest) found h = omega (arith, sized_within size rest found h)

long_at : (short : Bool) (octets : List ℕ) (found : List ℕ × List ℕ)
    → (if short then None else sized (big_number 2 octets) (drop 2 octets)) ≡ Some found → length found.1 ≤ length octets
long_at true octets found h = cc
long_at false octets found h = omega (arith, sized_within (big_number 2 octets) (drop 2 octets) found h, length-drop 2 octets)

pub long_within : (octets : List ℕ) (found : List ℕ × List ℕ) → long_field octets ≡ Some found → length found.1 ≤ length octets
long_within octets found h = long_at (nat_lt (length octets) 2) octets found h

field_within : (short : Bool) (rest : List ℕ) (found : List ℕ × List ℕ) → (if short then short_field rest else long_field rest) ≡ Some found
    → length found.1 ≤ length rest
field_within true rest found h = short_within rest found h
field_within false rest found h = long_within rest found h

attribute_within : (kind : ℕ) (rest : List ℕ) (field : Option (List ℕ × List ℕ)) (found : Attribute × List ℕ)
    → ((f : List ℕ × List ℕ) → field ≡ Some f → length f.1 ≤ length rest)
    → option_map (λ f. (attribute kind f.0, f.1)) field ≡ Some found → length found.1 ≤ length rest
attribute_within kind rest None found le h = cc
attribute_within kind rest (Some f) found le h =
    let same : Some (attribute kind f.0, f.1) ≡ Some found = h in
    let behind : f.1 ≡ found.1 = cc in
    omega (arith, le f refl, ap (λ (z : List ℕ). length z) behind)

pub attribute_shrinks : Shrinks first_attribute
attribute_shrinks [] found h = cc
attribute_shrinks (flags ∷ []) found h = cc
attribute_shrinks (flags ∷ kind ∷ rest) found h =
    omega (
      arith,
      attribute_within kind rest (if bit_and flags 16 == 0 then short_field rest else long_field rest) found
          (λ f e. field_within (bit_and flags 16 == 0) rest f e) h,
    )

pub prefix_shrinks : (family : Family) → Shrinks (first_prefix family)
prefix_shrinks family [] found h = cc
prefix_shrinks family (len ∷ rest) found h =
    let c = cond_some (nat_le len (width_of family) && nat_le (octets_for len) (length rest))
    (shown_as family (first_bits (width_of family) len (take (octets_for len) rest)) len, drop (octets_for len) rest) found h in
    omega (arith, sym (ap (λ (z : Shown × List ℕ). length z.1) c.1), length-drop (octets_for len) rest)

as_positive : (four : Bool) → 0 < as_width four
as_positive true = omega arith
as_positive false = omega arith

pub as_shrinks : (four : Bool) → Shrinks (first_as four)
as_shrinks four octets found h =
    let c = not_chosen (nat_lt (length octets) (as_width four)) (big_number (as_width four) octets, drop (as_width four) octets) found h in
    let whole : nat_lt (length octets) (as_width four) ≡ false = c.0 in
    let long : as_width four ≤ length octets = grind (arith, nat_tests) in
    omega (arith, sym (ap (λ (z : ℕ × List ℕ). length z.1) c.1), length-drop (as_width four) octets, as_positive four, long)

pub segment_shrinks : (four : Bool) → Shrinks (first_segment four)
segment_shrinks four [] found h = cc
segment_shrinks four (form ∷ []) found h = cc
segment_shrinks four (form ∷ count ∷ rest) found h =
    let c = cond_some (((nat_le 1 form && nat_le form 4) && nat_lt 0 count) && nat_le (count * as_width four) (length rest))
    (segment form (numbers_of four (take (count * as_width four) rest)), drop (count * as_width four) rest) found h in
    omega (arith, sym (ap (λ (z : Segment × List ℕ). length z.1) c.1), length-drop (count * as_width four) rest)
