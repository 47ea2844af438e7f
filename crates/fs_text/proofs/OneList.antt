-- The text of a list is that of no other list.
use Rattle.fs_text.proofs.Words.{◌≡◌, ℕ, ◌+◌, ◌*◌, ◌^◌, ◌<◌, ◌≤◌, ◌==◌, List, [], ◌∷◌, ◌++◌, Bool, true, false, not, if◌then◌else◌, length, bit_and}
use Rattle.fs_text.proofs.Words.{Result, Ok, Err, refl, sym, ap, subst, ◌∙◌, arith, codes, decimal, flat_map, AllByRecursion, bytes_eq, digits_value}
use Rattle.fs_text.proofs.Words.{digits, eqb-true, digits_is_IsNumeral, and_le_r, big_bytes, big_number, big_number-reads_back, decode_sized}
use Rattle.fs_text.proofs.Words.{FromHexError, append-nil, Kind, Numeric, Bitmask, ends, joins, meant_bits, width_code, width_of, IsNormal}
use Rattle.fs_text.proofs.Words.{IsNormalPair, octets_text, joined_text, least_code, list_text, mask_sign, number_sign, operand_text, pair_text, sign}
use Rattle.fs_text.proofs.Words.{width_text, width_word, code_at, is_sign, is_within, joined_bit, plain_of, relation_of, Ends, is_plain, first_normal}
use Rattle.fs_text.proofs.{Led.{head_is, no_words, tail_is}, Made.{all_below, below, made, number_with}}
use Rattle.fs_text.proofs.Pairs.{are_signs, bit_if, code_small, joiner_by, octets_run, others_end, pair_within, value_small, width_ends}
use Rattle.fs_text.proofs.{Wide.{code_back, octets_decoded, octets_len}, WordParts.{IsRun, run_decimal}}
use Rattle.fs_ops.specs.OperatorList.{AreNormal}

-- what a number's text says

pub decimal_back : (n : ℕ) → n < 2 ^ 64 → digits_value 10 (decimal n) ≡ n
decimal_back n small = (digits_is_IsNumeral 10 false (omega arith) (omega arith) n (omega arith)).1

pub hexadecimal_back : (n : ℕ) → n < 2 ^ 64 → digits_value 16 (digits 16 false n) ≡ n
hexadecimal_back n small = (digits_is_IsNumeral 16 false (omega arith) (omega arith) n (omega arith)).1

-- a front up to the first octet of another kind

pub one_split : (p : ℕ → Bool) (a b r s : List ℕ) → AllByRecursion (λ o. p o ≡ true) a → AllByRecursion (λ o. p o ≡ true) b → Ends p r → Ends p s
    → a ++ r ≡ b ++ s → (a ≡ b) × (r ≡ s)
one_split p [] [] r s all also end stop e = (refl, e)
one_split p [] (y ∷ b) [] s all also end stop e = no_words (sym e)
one_split p [] (y ∷ b) (x ∷ r) s all also end stop e =
    let same : x ≡ y = head_is e in
    let no : p y ≡ false = subst (λ (o : ℕ). p o ≡ false) same end in
    let yes : p y ≡ true = also.0 in
    absurd cc
one_split p (x ∷ a) [] r [] all also end stop e = no_words e
one_split p (x ∷ a) [] r (y ∷ s) all also end stop e =
    let same : x ≡ y = head_is e in
    let no : p x ≡ false = subst (λ (o : ℕ). p o ≡ false) (sym same) stop in
    let yes : p x ≡ true = all.0 in
    absurd cc
one_split p (x ∷ a) (y ∷ b) r s all also end stop e =
    let later = one_split p a b r s all.1 also.1 end stop (tail_is e) in
    (ap (λ (o : ℕ). o ∷ a) (head_is e) ∙ ap (λ (l : List ℕ). y ∷ l) later.0, later.1)

-- signs

-- numbers below n whose texts all differ are told by them
text_tells : (f : ℕ → List ℕ) (n a b : ℕ) → all_below (λ k. number_with f n (f k) == k) n ≡ true → a < n → b < n → f a ≡ f b → a ≡ b
text_tells f n a b all low high same =
    let back : (k : ℕ) → k < n → number_with f n (f k) ≡ k =
    λ k small. eqb-true (number_with f n (f k)) k (below (λ j. number_with f n (f j) == j) n k all small) in
    sym (back a low) ∙ ap (number_with f n) same ∙ back b high

one_sign : (kind : Kind) (a b : ℕ) → sign kind a ≡ sign kind b → relation_of kind a ≡ relation_of kind b
one_sign Numeric a b e =
    let low : bit_and a 7 ≤ 7 = and_le_r a 7 in
    let high : bit_and b 7 ≤ 7 = and_le_r b 7 in
    text_tells number_sign 8 (bit_and a 7) (bit_and b 7) refl (omega arith) (omega arith) e
one_sign Bitmask a b e =
    let low : bit_and a 3 ≤ 3 = and_le_r a 3 in
    let high : bit_and b 3 ≤ 3 = and_le_r b 3 in
    text_tells mask_sign 4 (bit_and a 3) (bit_and b 3) refl (omega arith) (omega arith) e

-- widths

abbrev width_read : ℕ → List ℕ → ℕ
width_read value text =
    if bytes_eq text [] then least_code value
    else if bytes_eq text (codes ":1") then 0
    else if bytes_eq text (codes ":2") then 1
    else if bytes_eq text (codes ":4") then 2
    else 3

written_back : (value code : ℕ) → code < 4 → width_read value (width_text code) ≡ code
written_back value code small = eqb-true (width_read value (width_text code)) code (below (λ k. width_read value (width_text k) == k) 4 code refl small)

width_back : (value code : ℕ) → code < 4 → width_read value (width_word value code) ≡ code
width_back value code small = by (code == least_code value) refl
  where
    by : (b : Bool) → (code == least_code value) ≡ b → width_read value (if b then [] else width_text code) ≡ code
    by true e = sym (eqb-true code (least_code value) e)
    by false e = written_back value code small

-- operands

abbrev Same : (a b : ℕ × ℕ) → Type 0
Same a b = (width_code a.0 ≡ width_code b.0) × (a.1 ≡ b.1)

one_number : (a b : ℕ × ℕ) → a.1 < 2 ^ 64 → b.1 < 2 ^ 64 → operand_text Numeric a.0 a.1 ≡ operand_text Numeric b.0 b.1 → Same a b
one_number a b small low e =
    let split = one_split is_plain (decimal a.1) (decimal b.1) (width_word a.1 (width_code a.0)) (width_word b.1 (width_code b.0))
    (run_decimal a.1 small).1 (run_decimal b.1 low).1
    (width_ends a.1 (width_code a.0)) (width_ends b.1 (width_code b.0)) e in
    let value : a.1 ≡ b.1 = sym (decimal_back a.1 small) ∙ ap (digits_value 10) split.0 ∙ decimal_back b.1 low in
    let width : width_word a.1 (width_code a.0) ≡ width_word a.1 (width_code b.0) =
    split.1 ∙ ap (λ (v : ℕ). width_word v (width_code b.0)) (sym value) in
    (sym (width_back a.1 (width_code a.0) (code_small a.0)) ∙ ap (width_read a.1) width ∙ width_back a.1 (width_code b.0) (code_small b.0), value)

abbrev pub octets_in : Result (List ℕ) FromHexError → List ℕ
octets_in (Ok octets) = octets
octets_in (Err error) = []

octets_number : (width n : ℕ) → n < 256 ^ width → big_number width (octets_in (decode_sized (octets_text width n) width)) ≡ n
octets_number width n small =
    ap (λ (r : Result (List ℕ) FromHexError). big_number width (octets_in r)) (octets_decoded width n)
    ∙ subst (λ (l : List ℕ). big_number width l ≡ n) (append-nil (big_bytes width n)) (big_number-reads_back width n [] small)

one_bits : (a b : ℕ × ℕ) → a.1 < 256 ^ width_of a.0 → b.1 < 256 ^ width_of b.0 → octets_text (width_of a.0) a.1 ≡ octets_text (width_of b.0) b.1 → Same a b
one_bits a b small low e =
    let code : width_code a.0 ≡ width_code b.0 =
    sym (code_back (width_code a.0) (code_small a.0))
    ∙ ap code_at (sym (octets_len (width_of a.0) a.1) ∙ ap length e ∙ octets_len (width_of b.0) b.1)
    ∙ code_back (width_code b.0) (code_small b.0) in
    let width : width_of a.0 ≡ width_of b.0 = ap (λ (k : ℕ). 2 ^ k) code in
    let same : octets_text (width_of b.0) a.1 ≡ octets_text (width_of b.0) b.1 =
    ap (λ (w : ℕ). octets_text w a.1) (sym width) ∙ e in
    let fits : a.1 < 256 ^ width_of b.0 = subst (λ (w : ℕ). a.1 < 256 ^ w) width small in (
      code,
      sym (octets_number (width_of b.0) a.1 fits)
          ∙ ap (λ (l : List ℕ). big_number (width_of b.0) (octets_in (decode_sized l (width_of b.0)))) same
          ∙ octets_number (width_of b.0) b.1 low,
    )

one_operand : (kind : Kind) (a b : ℕ × ℕ) → a.1 < 256 ^ width_of a.0 → b.1 < 256 ^ width_of b.0
    → operand_text kind a.0 a.1 ≡ operand_text kind b.0 b.1 → Same a b
one_operand Numeric a b small low e = one_number a b (value_small a.0 a.1 small) (value_small b.0 b.1 low) e
one_operand Bitmask a b small low e = one_bits a b small low e

-- a run is no sign

no_sign : (run rest : List ℕ) → IsRun run → Ends is_sign (run ++ rest)
no_sign [] rest is = absurd (let some : 0 < 0 = is.0 in omega arith)
no_sign (x ∷ run) rest is = ap not is.1.0

operand_ends : (kind : Kind) (pair : ℕ × ℕ) → pair.1 < 256 ^ width_of pair.0 → Ends is_sign (operand_text kind pair.0 pair.1)
operand_ends Numeric pair small = no_sign (decimal pair.1) (width_word pair.1 (width_code pair.0)) (run_decimal pair.1 (value_small pair.0 pair.1 small))
operand_ends Bitmask pair small =
    subst (Ends is_sign) (append-nil (octets_text (width_of pair.0) pair.1)) (no_sign (octets_text (width_of pair.0) pair.1) [] (octets_run pair.0 pair.1))

one_pair : (kind : Kind) (a b : ℕ × ℕ) → a.1 < 256 ^ width_of a.0 → b.1 < 256 ^ width_of b.0 → pair_text kind a ≡ pair_text kind b
    → (plain_of kind a.0 ≡ plain_of kind b.0) × (a.1 ≡ b.1)
one_pair kind a b small low e =
    let split = one_split is_sign (sign kind a.0) (sign kind b.0) (operand_text kind a.0 a.1) (operand_text kind b.0 b.1) (are_signs kind a.0)
    (are_signs kind b.0)
    (operand_ends kind a small) (operand_ends kind b low) e in
    let same : Same a b = one_operand kind a b small low split.1 in
    let relation : relation_of kind a.0 ≡ relation_of kind b.0 = one_sign kind a.0 b.0 split.0 in
    let code : width_code a.0 ≡ width_code b.0 = same.0 in
    (ap (λ (k : ℕ). 16 * k + relation_of kind a.0) code ∙ ap (λ (r : ℕ). 16 * width_code b.0 + r) relation, same.1)

-- lists

abbrev ended : Bool → ℕ
ended b = if b then 128 else 0

pair_is : (kind : Kind) (a b : ℕ × ℕ) → IsNormalPair (meant_bits kind) a → IsNormalPair (meant_bits kind) b → plain_of kind a.0 ≡ plain_of kind b.0
    → joined_bit a.0 ≡ joined_bit b.0 → ends a.0 ≡ ends b.0 → a.1 ≡ b.1 → a ≡ b
pair_is kind a b is are plain joined end value =
    let first : a.0 ≡ plain_of kind a.0 + joined_bit a.0 + ended (ends a.0) = made kind a.0 is.clear in
    let second : b.0 ≡ plain_of kind b.0 + joined_bit b.0 + ended (ends b.0) = made kind b.0 are.clear in
    let tail : ended (ends a.0) ≡ ended (ends b.0) = ap ended end in
    let operator : a.0 ≡ b.0 = omega (arith, first, second, tail, plain, joined) in
    ap (λ (o : ℕ). let made : ℕ × ℕ = (o, a.1) in made) operator ∙ ap (λ (v : ℕ). let made : ℕ × ℕ = (b.0, v) in made) value

joined_some : {A : Type 0} (kind : Kind) (pair : ℕ × ℕ) (others : List (ℕ × ℕ)) → flat_map (joined_text kind) (pair ∷ others) ≡ [] → A
joined_some {A} kind pair others e = by (joins pair.0) e
  where
    by : (b : Bool) → (joiner_by b ++ pair_text kind pair) ++ flat_map (joined_text kind) others ≡ [] → A
    by true h = no_words h
    by false h = no_words h

one_joined : (kind : Kind) (a b : ℕ × ℕ) (front back : List (ℕ × ℕ)) → flat_map (joined_text kind) (a ∷ front) ≡ flat_map (joined_text kind) (b ∷ back)
    → (joined_bit a.0 ≡ joined_bit b.0) × (pair_text kind a ++ flat_map (joined_text kind) front ≡ pair_text kind b ++ flat_map (joined_text kind) back)
one_joined kind a b front back e = by (joins a.0) (joins b.0) e
  where
    by : (x y : Bool) → (joiner_by x ++ pair_text kind a) ++ flat_map (joined_text kind) front ≡ (joiner_by y ++ pair_text kind b)
        ++ flat_map (joined_text kind) back
        → (bit_if x ≡ bit_if y) × (pair_text kind a ++ flat_map (joined_text kind) front ≡ pair_text kind b ++ flat_map (joined_text kind) back)
    by true true h = (refl, tail_is h)
    by true false h = let same : 38 ≡ 44 = head_is h in absurd (omega (arith, same))
    by false true h = let same : 44 ≡ 38 = head_is h in absurd (omega (arith, same))
    by false false h = (refl, tail_is h)

abbrev Texts : Kind → (a : ℕ × ℕ) (front : List (ℕ × ℕ)) (b : ℕ × ℕ) (back : List (ℕ × ℕ)) → Type 0
Texts kind a front b back = pair_text kind a ++ flat_map (joined_text kind) front ≡ pair_text kind b ++ flat_map (joined_text kind) back

record Splits (kind : Kind) (a : ℕ × ℕ) (front : List (ℕ × ℕ)) (b : ℕ × ℕ) (back : List (ℕ × ℕ)) : Type 0 where
  pub same : ends a.0 ≡ ends b.0 → a ≡ b
  pub rest : flat_map (joined_text kind) front ≡ flat_map (joined_text kind) back

splits : (kind : Kind) (a b : ℕ × ℕ) (front back : List (ℕ × ℕ)) → AreNormal (meant_bits kind) (a ∷ front) → AreNormal (meant_bits kind) (b ∷ back)
    → joined_bit a.0 ≡ joined_bit b.0 → Texts kind a front b back → Splits kind a front b back
splits kind a b front back is are joined e =
    let first : IsNormalPair (meant_bits kind) a = first_normal (meant_bits kind) a front is in
    let second : IsNormalPair (meant_bits kind) b = first_normal (meant_bits kind) b back are in
    let split = one_split is_within (pair_text kind a) (pair_text kind b) (flat_map (joined_text kind) front) (flat_map (joined_text kind) back)
    (pair_within kind a first.fits)
    (pair_within kind b second.fits) (others_end kind front) (others_end kind back) e in
    let pairs = one_pair kind a b first.fits second.fits split.0 in
    record { same = λ end. pair_is kind a b first second pairs.0 joined end pairs.1; rest = split.1 }

one_from : (kind : Kind) (a b : ℕ × ℕ) (front back : List (ℕ × ℕ)) → AreNormal (meant_bits kind) (a ∷ front) → AreNormal (meant_bits kind) (b ∷ back)
    → joined_bit a.0 ≡ joined_bit b.0 → Texts kind a front b back → a ∷ front ≡ b ∷ back
one_from kind a b [] [] is are joined e =
    let split = splits kind a b [] [] is are joined e in ap (λ (x : ℕ × ℕ). x ∷ []) (split.same (is.1 ∙ sym are.1))
one_from kind a b [] (d ∷ ds) is are joined e = joined_some kind d ds (sym (splits kind a b [] (d ∷ ds) is are joined e).rest)
one_from kind a b (c ∷ cs) [] is are joined e = joined_some kind c cs (splits kind a b (c ∷ cs) [] is are joined e).rest
one_from kind a b (c ∷ cs) (d ∷ ds) is are joined e =
    let split = splits kind a b (c ∷ cs) (d ∷ ds) is are joined e in
    let next = one_joined kind c d cs ds split.rest in
    ap (λ (x : ℕ × ℕ). x ∷ c ∷ cs) (split.same (is.1 ∙ sym are.1))
    ∙ ap (λ (l : List (ℕ × ℕ)). b ∷ l) (one_from kind c d cs ds is.2 are.2 next.0 next.1)

pub one_list : (kind : Kind) (pairs others : List (ℕ × ℕ)) → IsNormal kind pairs → IsNormal kind others → list_text kind pairs ≡ list_text kind others
    → pairs ≡ others
one_list kind [] others is are e = absurd is.normal
one_list kind (a ∷ front) [] is are e = absurd are.normal
one_list kind (a ∷ front) (b ∷ back) is are e = one_from kind a b front back is.normal are.normal (ap bit_if (is.first ∙ sym are.first)) e
