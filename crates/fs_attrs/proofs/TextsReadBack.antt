-- What is written of fields, attributes, prefixes and segments is read back as it was.
use Rattle.fs_attrs.proofs.Words.{◌≡◌, ℕ, suc, ◌+◌, ◌-◌, ◌*◌, ◌/◌, ◌^◌, ◌<◌, ◌≤◌, ◌==◌, Bool, true, false, ◌||◌, nat_le, nat_lt, List, [], ◌∷◌, ◌++◌}
use Rattle.fs_attrs.proofs.Words.{length, drop, Option, Some, None, refl, sym, ap, subst, ◌∙◌, arith, if◌then◌else◌, length-append, append_assoc}
use Rattle.fs_attrs.proofs.Words.{bit_or, flat_map, AllByRecursion, take_at, drop_at, nat_tests, big_number, big_bytes, length-bytes_high_first}
use Rattle.fs_attrs.proofs.Words.{big_number-reads_back, Shrinks, parts_of, with_part, parts_end, parts_step, Family, V4, V6, Segment, width_of}
use Rattle.fs_attrs.proofs.Words.{cleared, octets_for, first_octets, octets_back, Attribute, sized, long_field, first_attribute, Shown, first_prefix}
use Rattle.fs_attrs.proofs.Words.{are_prefixes, prefixes_of, as_width, first_as, numbers_of, first_segment, segments_of, are_segments, as_text}
use Rattle.fs_attrs.proofs.Words.{segment_text, segments_text, long_text, prefix_text, prefixes_text, flags_of, attribute_text}
use Rattle.fs_attrs.proofs.PartSizes.{attribute_shrinks, prefix_shrinks, as_shrinks, segment_shrinks}
use Rattle.std.specs.Prelude.{bit_and}
use Rattle.fs_message.specs.Write.{as_field}

-- parts: of what can be written each text is read as it was, whatever stands behind it

abbrev pub ReadsText : {A : Type 0} → (List ℕ → Option (A × List ℕ)) → (A → List ℕ) → (A → Type 0) → Type 0
ReadsText {A} next text Fits = (a : A) (rest : List ℕ) → Fits a → next (text a ++ rest) ≡ Some (a, rest)

parts_spelled : {A : Type 0} (next : List ℕ → Option (A × List ℕ)) (text : A → List ℕ) (Fits : A → Type 0)
    → Shrinks next → next [] ≡ None → ReadsText next text Fits → (items : List A) → AllByRecursion Fits items
    → parts_of next (flat_map text items) ≡ (items, [])
parts_spelled next text Fits shrinks none reads [] all = parts_end next [] none
parts_spelled next text Fits shrinks none reads (item ∷ items) all =
    parts_step next shrinks (text item ++ flat_map text items) (item, flat_map text items) (reads item (flat_map text items) all.0)
    ∙ ap (with_part item) (parts_spelled next text Fits shrinks none reads items all.1)

-- fields

sized_front : (size : ℕ) (front rest : List ℕ) → size ≡ length front → sized size (front ++ rest) ≡ Some (front, rest)
sized_front size front rest e =
    let both : length (front ++ rest) ≡ length front + length rest = length-append front rest in
    let long : nat_le size (length (front ++ rest)) ≡ true = grind (arith, nat_tests) in
    rw (long, take_at front rest size (sym e), drop_at front rest size (sym e)) refl

long_by : (head octets rest : List ℕ) → length head ≡ 2 → big_number 2 (head ++ (octets ++ rest)) ≡ length octets
    → long_field ((head ++ octets) ++ rest) ≡ Some (octets, rest)
long_by head octets rest size number =
    let both : length (head ++ (octets ++ rest)) ≡ length head + length (octets ++ rest) = length-append head (octets ++ rest) in
    let long : nat_lt (length (head ++ (octets ++ rest))) 2 ≡ false = grind (arith, nat_tests) in
    rw (append_assoc head octets rest, long, number, drop_at head (octets ++ rest) 2 size) (sized_front (length octets) octets rest refl)

pub long_read : (octets rest : List ℕ) → length octets < 65536 → long_field (long_text octets ++ rest) ≡ Some (octets, rest)
long_read octets rest small =
    long_by (big_bytes 2 (length octets)) octets rest (length-bytes_high_first 2 (length octets))
    (big_number-reads_back 2 (length octets) (octets ++ rest) small)

-- attributes

abbrev pub Fits : Attribute → Type 0
Fits given = length given.value < 65536

extended : (a b : Bool) → (bit_and (bit_or (if a then 192 else if b then 128 else 64) 16) 16 == 0) ≡ false
extended true b = refl
extended false true = refl
extended false false = refl

not_extended : (a b : Bool) → (bit_and (if a then 192 else if b then 128 else 64) 16 == 0) ≡ true
not_extended true b = refl
not_extended false true = refl
not_extended false false = refl

abbrev pub attribute_at : Bool → Attribute → List ℕ
attribute_at wide given =
    if wide then bit_or (flags_of given.kind) 16 ∷ given.kind ∷ long_text given.value
    else flags_of given.kind ∷ given.kind ∷ length given.value ∷ given.value

reads_at : (wide : Bool) (given : Attribute) (rest : List ℕ) → Fits given → first_attribute (attribute_at wide given ++ rest) ≡ Some (given, rest)
reads_at true given rest fits =
    rw (extended (given.kind == 16) ((given.kind == 9) || ((given.kind == 14) || (given.kind == 15))), long_read given.value rest fits) refl
reads_at false given rest fits =
    rw (
      not_extended (given.kind == 16) ((given.kind == 9) || ((given.kind == 14) || (given.kind == 15))),
      sized_front (length given.value) given.value rest refl,
    ) refl

pub reads_attribute : ReadsText first_attribute attribute_text Fits
reads_attribute given rest fits = reads_at (nat_lt 255 (length given.value)) given rest fits

long_at : (wide : Bool) (given : Attribute) → length given.value ≤ length (attribute_at wide given)
long_at true given = let size : length (long_text given.value) ≡ length (big_bytes 2 (length given.value)) + length given.value =
    length-append (big_bytes 2 (length given.value)) given.value in omega arith
long_at false given = omega arith

-- attributes fit where their octets do
pub all_fit : (list : List Attribute) → length (flat_map attribute_text list) < 65536 → AllByRecursion Fits list
all_fit [] small = tt
all_fit (given ∷ list) small =
    let both : length (flat_map attribute_text (given ∷ list)) ≡ length (attribute_text given) + length (flat_map attribute_text list) =
    length-append (attribute_text given) (flat_map attribute_text list) in
    let long : length given.value ≤ length (attribute_text given) = long_at (nat_lt 255 (length given.value)) given in
    (omega arith, all_fit list (omega arith))

pub attributes_read : (list : List Attribute) → length (flat_map attribute_text list) < 65536
    → parts_of first_attribute (flat_map attribute_text list) ≡ (list, [])
attributes_read list small = parts_spelled first_attribute attribute_text Fits attribute_shrinks refl reads_attribute list (all_fit list small)

-- prefixes

pub record IsShown (family : Family) (prefix : Shown) : Type 0 where
  pub same : prefix.0 ≡ family
  pub short : prefix.2 ≤ width_of family
  pub clear : prefix.1 ≡ cleared (width_of family) prefix.2 prefix.1

room_in : (family : Family) (len : ℕ) → len ≤ width_of family → 8 * octets_for len ≤ width_of family
room_in V4 len le = omega arith
room_in V6 len le = omega arith

prefix_at : (family : Family) (bits len : ℕ) (rest : List ℕ) → len ≤ width_of family → bits ≡ cleared (width_of family) len bits
    → first_prefix family (prefix_text (family, bits, len) ++ rest) ≡ Some ((family, bits, len), rest)
prefix_at family bits len rest short clear =
    let octets : List ℕ = first_octets (width_of family) len bits in
    let size : length octets ≡ octets_for len = length-bytes_high_first (octets_for len) (bits / 2 ^ (width_of family - 8 * octets_for len)) in
    let both : length (octets ++ rest) ≡ length octets + length rest = length-append octets rest in
    let low : nat_le len (width_of family) ≡ true = grind (arith, nat_tests) in
    let long : nat_le (octets_for len) (length (octets ++ rest)) ≡ true = grind (arith, nat_tests) in
    let back = octets_back (width_of family) len bits short (room_in family len short) clear in
    rw (low, long, take_at octets rest (octets_for len) size, drop_at octets rest (octets_for len) size, back) refl

pub reads_prefix : (family : Family) → ReadsText (first_prefix family) prefix_text (IsShown family)
reads_prefix family prefix rest is =
    subst (λ (f : Family). first_prefix family (prefix_text (f, prefix.1, prefix.2) ++ rest) ≡ Some ((f, prefix.1, prefix.2), rest)) (sym is.same)
    (prefix_at family prefix.1 prefix.2 rest is.short is.clear)

prefixes_parts : (family : Family) (prefixes : List Shown) → AllByRecursion (IsShown family) prefixes
    → parts_of (first_prefix family) (prefixes_text prefixes) ≡ (prefixes, [])
prefixes_parts family prefixes all =
    parts_spelled (first_prefix family) prefix_text (IsShown family) (prefix_shrinks family) refl (reads_prefix family) prefixes all

pub prefixes_whole : (family : Family) (prefixes : List Shown) → AllByRecursion (IsShown family) prefixes → are_prefixes family (prefixes_text prefixes) ≡ true
prefixes_whole family prefixes all = ap (λ (z : List Shown × List ℕ). length z.1 == 0) (prefixes_parts family prefixes all)

pub prefixes_read : (family : Family) (prefixes : List Shown) → AllByRecursion (IsShown family) prefixes
    → prefixes_of family (prefixes_text prefixes) ≡ prefixes
prefixes_read family prefixes all = ap (λ (z : List Shown × List ℕ). z.0) (prefixes_parts family prefixes all)

-- segments

-- an AS number that the session's width can say
abbrev pub FitsAs : Bool → ℕ → Type 0
FitsAs true asn = asn < 2 ^ 32
FitsAs false asn = asn ≤ 65535

as_field_low : (asn : ℕ) → asn ≤ 65535 → as_field asn ≡ asn
as_field_low asn low = let no : nat_lt 65535 asn ≡ false = grind (arith, nat_tests) in rw no refl

abbrev as_front : ℕ → List ℕ → Option (ℕ × List ℕ)
as_front width octets = if nat_lt (length octets) width then None else Some (big_number width octets, drop width octets)

as_at : (width asn : ℕ) (rest : List ℕ) → asn < 256 ^ width → as_front width (big_bytes width asn ++ rest) ≡ Some (asn, rest)
as_at width asn rest small =
    let size : length (big_bytes width asn) ≡ width = length-bytes_high_first width asn in
    let both : length (big_bytes width asn ++ rest) ≡ length (big_bytes width asn) + length rest = length-append (big_bytes width asn) rest in
    let long : nat_lt (length (big_bytes width asn ++ rest)) width ≡ false = grind (arith, nat_tests) in
    rw (long, big_number-reads_back width asn rest small, drop_at (big_bytes width asn) rest width size) refl

pub reads_as : (four : Bool) → ReadsText (first_as four) (as_text four) (FitsAs four)
reads_as true asn rest small = as_at 4 asn rest small
reads_as false asn rest small =
    subst (λ (n : ℕ). first_as false (big_bytes 2 n ++ rest) ≡ Some (asn, rest)) (sym (as_field_low asn small)) (as_at 2 asn rest (omega arith))

as_size : (four : Bool) (asn : ℕ) → length (as_text four asn) ≡ as_width four
as_size true asn = length-bytes_high_first 4 asn
as_size false asn = length-bytes_high_first 2 (as_field asn)

no_size : (four : Bool) → 0 ≡ 0 * as_width four
no_size true = refl
no_size false = refl

more_size : (four : Bool) (count size : ℕ) → size ≡ as_width four + count * as_width four → size ≡ suc count * as_width four
more_size true count size e = omega arith
more_size false count size e = omega arith

numbers_size : (four : Bool) (numbers : List ℕ) → length (flat_map (as_text four) numbers) ≡ length numbers * as_width four
numbers_size four [] = no_size four
numbers_size four (asn ∷ numbers) =
    more_size four (length numbers) (length (flat_map (as_text four) (asn ∷ numbers)))
    (length-append (as_text four asn) (flat_map (as_text four) numbers)
    ∙ ap (λ (n : ℕ). n + length (flat_map (as_text four) numbers)) (as_size four asn)
    ∙ ap (λ (n : ℕ). as_width four + n) (numbers_size four numbers))

pub numbers_read : (four : Bool) (numbers : List ℕ) → AllByRecursion (FitsAs four) numbers → numbers_of four (flat_map (as_text four) numbers) ≡ numbers
numbers_read four numbers all =
    ap (λ (z : List ℕ × List ℕ). z.0)
    (parts_spelled (first_as four) (as_text four) (FitsAs four) (as_shrinks four) (none_left four) (reads_as four) numbers all) where
      none_left : (four : Bool) → first_as four [] ≡ None
      none_left true = refl
      none_left false = refl

pub record FitsSegment (four : Bool) (given : Segment) : Type 0 where
  pub some : 1 ≤ length given.numbers
  pub lowest : 1 ≤ given.form
  pub highest : given.form ≤ 4
  pub numbers : AllByRecursion (FitsAs four) given.numbers

pub reads_segment : (four : Bool) → ReadsText (first_segment four) (segment_text four) (FitsSegment four)
reads_segment four given rest fits =
    let octets : List ℕ = flat_map (as_text four) given.numbers in
    let size : length octets ≡ length given.numbers * as_width four = numbers_size four given.numbers in
    let both : length (octets ++ rest) ≡ length octets + length rest = length-append octets rest in
    let one : nat_le 1 given.form ≡ true = let h = fits.lowest in grind (arith, nat_tests) in
    let four_ : nat_le given.form 4 ≡ true = let h = fits.highest in grind (arith, nat_tests) in
    let some : nat_lt 0 (length given.numbers) ≡ true = let h = fits.some in grind (arith, nat_tests) in
    let long : nat_le (length given.numbers * as_width four) (length (octets ++ rest)) ≡ true = grind (arith, nat_tests) in
    rw (
      one,
      four_,
      some,
      long,
      take_at octets rest (length given.numbers * as_width four) size,
      drop_at octets rest (length given.numbers * as_width four) size,
      numbers_read four given.numbers fits.numbers,
    ) refl

segments_parts : (four : Bool) (segments : List Segment) → AllByRecursion (FitsSegment four) segments
    → parts_of (first_segment four) (segments_text four segments) ≡ (segments, [])
segments_parts four segments all =
    parts_spelled (first_segment four) (segment_text four) (FitsSegment four) (segment_shrinks four) refl (reads_segment four) segments all

pub segments_whole : (four : Bool) (segments : List Segment) → AllByRecursion (FitsSegment four) segments
    → are_segments four (segments_text four segments) ≡ true
segments_whole four segments all = ap (λ (z : List Segment × List ℕ). length z.1 == 0) (segments_parts four segments all)

pub segments_read : (four : Bool) (segments : List Segment) → AllByRecursion (FitsSegment four) segments
    → segments_of four (segments_text four segments) ≡ segments
segments_read four segments all = ap (λ (z : List Segment × List ℕ). z.0) (segments_parts four segments all)
