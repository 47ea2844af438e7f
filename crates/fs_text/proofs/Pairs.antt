-- The texts of pairs, cut and read.
use Rattle.fs_text.proofs.Words.{append_assoc, ◌≡◌, ℕ, ◌+◌, ◌*◌, ◌/◌, ◌^◌, ◌<◌, ◌≤◌, ◌==◌, zero, suc, List, [], ◌∷◌, ◌++◌, Option, Some, Bool, true}
use Rattle.fs_text.proofs.Words.{false, not, ◌||◌, if◌then◌else◌, length, bit_and, refl, sym, ap, subst, ◌∙◌, arith, codes, decimal, flat_map}
use Rattle.fs_text.proofs.Words.{AllByRecursion, and_le_r, nat_tests, append-nil, same_Some, some_pair_parts, big_octets, each_append, each_weaker}
use Rattle.fs_text.proofs.Words.{Kind, Numeric, Bitmask, joins, ends, meant_bits, width_code, width_of, IsNormal, first_normal, octets_text}
use Rattle.fs_text.proofs.Words.{joined_text, least_code, list_text, mask_sign, number_sign, operand_text, pair_text, sign, width_word, is_sign}
use Rattle.fs_text.proofs.Words.{is_within, joined_bit, plain_of, relation_of, Ends, is_plain}
use Rattle.fs_text.proofs.{WordParts.{IsRun, run_decimal, run_octets}, Made.{made}}
use Rattle.fs_ops.specs.OperatorList.{AreNormal}

-- a choice keeps what both have
pub chosen : {A : Type 0} (P : A → Type 0) (b : Bool) (x y : A) → P x → P y → P (if b then x else y)
chosen P true x y p q = p
chosen P false x y p q = q

-- what holds of the marks of signs
pub record OfSigns (P : ℕ → Type 0) : Type 0 where
  pub bang : P 33
  pub star : P 42
  pub less : P 60
  pub equal : P 61
  pub greater : P 62
  pub tilde : P 126

signs : (P : ℕ → Type 0) → OfSigns P → (kind : Kind) (operator : ℕ) → AllByRecursion P (sign kind operator)
signs P m Numeric operator = by (bit_and operator 7) where
  by : (n : ℕ) → AllByRecursion P (number_sign n)
  by n =
      chosen (AllByRecursion P) (n == 0) _ _ (m.bang, tt) (chosen (AllByRecursion P) (n == 1) _ _ (m.equal, tt)
      (chosen (AllByRecursion P) (n == 2) _ _ (m.greater, tt) (chosen (AllByRecursion P) (n == 3) _ _ (m.greater, (m.equal, tt))
      (chosen (AllByRecursion P) (n == 4) _ _ (m.less, tt) (chosen (AllByRecursion P) (n == 5) _ _ (m.less, (m.equal, tt))
      (chosen (AllByRecursion P) (n == 6) _ _ (m.bang, (m.equal, tt)) (m.star, tt)))))))
signs P m Bitmask operator = by (bit_and operator 3) where
  by : (n : ℕ) → AllByRecursion P (mask_sign n)
  by n =
      chosen (AllByRecursion P) (n == 0) _ _ (m.tilde, tt) (chosen (AllByRecursion P) (n == 1) _ _ (m.equal, tt)
      (chosen (AllByRecursion P) (n == 2) _ _ (m.bang, (m.tilde, tt)) (m.bang, (m.equal, tt))))

pub are_signs : (kind : Kind) (operator : ℕ) → AllByRecursion (λ o. is_sign o ≡ true) (sign kind operator)
are_signs kind operator =
    signs (λ o. is_sign o ≡ true) (record { bang = refl; star = refl; less = refl; equal = refl; greater = refl; tilde = refl }) kind operator

pub width_ends : (value code : ℕ) → Ends is_plain (width_word value code)
width_ends value code =
    chosen (Ends is_plain) (code == least_code value) _ _ tt
    (chosen (Ends is_plain) (code == 0) _ _ refl (chosen (Ends is_plain) (code == 1) _ _ refl (chosen (Ends is_plain) (code == 2) _ _ refl refl)))

abbrev pub OfPlain : (ℕ → Type 0) → Type 0
OfPlain P = (o : ℕ) → is_plain o ≡ true → P o

pub run_all : (P : ℕ → Type 0) → OfPlain P → (run : List ℕ) → AllByRecursion (λ o. is_plain o ≡ true) run → AllByRecursion P run
run_all P plain = each_weaker (λ o. is_plain o ≡ true) P plain

widths : (P : ℕ → Type 0) → OfPlain P → P 58 → (value code : ℕ) → AllByRecursion P (width_word value code)
widths P plain colon value code =
    chosen (AllByRecursion P) (code == least_code value) _ _ tt
    (chosen (AllByRecursion P) (code == 0) _ _ (colon, (plain 49 refl, tt)) (chosen (AllByRecursion P) (code == 1) _ _ (colon, (plain 50 refl, tt))
    (chosen (AllByRecursion P) (code == 2) _ _ (colon, (plain 52 refl, tt)) (colon, (plain 56 refl, tt)))))

pub code_small : (operator : ℕ) → width_code operator < 4
code_small operator = let le : bit_and (operator / 2 ^ 4) 3 ≤ 3 = and_le_r (operator / 2 ^ 4) 3 in omega arith

wide : (code value : ℕ) → code < 4 → value < 256 ^ (2 ^ code) → value < 2 ^ 64
wide zero value small h = omega (arith, h)
wide (suc zero) value small h = omega (arith, h)
wide (suc (suc zero)) value small h = omega (arith, h)
wide (suc (suc (suc zero))) value small h = omega (arith, h)
wide (suc (suc (suc (suc code)))) value small h = absurd (omega arith)

pub value_small : (operator value : ℕ) → value < 256 ^ width_of operator → value < 2 ^ 64
value_small operator value h = wide (width_code operator) value (code_small operator) h

coded_run : (code value : ℕ) → code < 4 → IsRun (octets_text (2 ^ code) value)
coded_run zero value small = run_octets _ _ (big_octets 1 value)
coded_run (suc zero) value small = run_octets _ _ (big_octets 2 value)
coded_run (suc (suc zero)) value small = run_octets _ _ (big_octets 4 value)
coded_run (suc (suc (suc zero))) value small = run_octets _ _ (big_octets 8 value)
coded_run (suc (suc (suc (suc code)))) value small = absurd (omega arith)

pub octets_run : (operator value : ℕ) → IsRun (octets_text (width_of operator) value)
octets_run operator value = coded_run (width_code operator) value (code_small operator)

operands : (P : ℕ → Type 0) → OfPlain P → P 58 → (kind : Kind) (operator value : ℕ) → value < 256 ^ width_of operator
    → AllByRecursion P (operand_text kind operator value)
operands P plain colon Numeric operator value h =
    each_append P (decimal value) (width_word value (width_code operator))
    (run_all P plain (decimal value) (run_decimal value (value_small operator value h)).1)
    (widths P plain colon value (width_code operator))
operands P plain colon Bitmask operator value h = run_all P plain (octets_text (width_of operator) value) (octets_run operator value).1

-- what holds of letters, digits and these marks holds of the text of a pair
pub pair_all : (P : ℕ → Type 0) → OfSigns P → OfPlain P → P 58 → (kind : Kind) (pair : ℕ × ℕ) → pair.1 < 256 ^ width_of pair.0
    → AllByRecursion P (pair_text kind pair)
pair_all P m plain colon kind pair h =
    each_append P (sign kind pair.0) (operand_text kind pair.0 pair.1) (signs P m kind pair.0) (operands P plain colon kind pair.0 pair.1 h)

plain_within : (o : ℕ) → is_plain o ≡ true → is_within o ≡ true
plain_within o h = by (o == 38) refl (o == 44) refl
  where
    by : (b : Bool) → (o == 38) ≡ b → (c : Bool) → (o == 44) ≡ c → not (b || c) ≡ true
    by false p false q = refl
    by true p c q = absurd (let e : o ≡ 38 = grind (arith, nat_tests, p) in let k : is_plain 38 ≡ true = subst (λ (x : ℕ). is_plain x ≡ true) e h in cc)
    by false p true q = absurd (let e : o ≡ 44 = grind (arith, nat_tests, q) in let k : is_plain 44 ≡ true = subst (λ (x : ℕ). is_plain x ≡ true) e h in cc)

pub pair_within : (kind : Kind) (pair : ℕ × ℕ) → pair.1 < 256 ^ width_of pair.0 → AllByRecursion (λ o. is_within o ≡ true) (pair_text kind pair)
pair_within kind pair h =
    pair_all (λ o. is_within o ≡ true) (record { bang = refl; star = refl; less = refl; equal = refl; greater = refl; tilde = refl }) plain_within
    refl kind pair h

abbrev pub joiner_by : Bool → List ℕ
joiner_by b = if b then codes "&" else codes ","

pub others_end : (kind : Kind) (others : List (ℕ × ℕ)) → Ends is_within (flat_map (joined_text kind) others)
others_end kind [] = tt
others_end kind (pair ∷ others) = by (joins pair.0)
  where
    by : (b : Bool) → Ends is_within ((joiner_by b ++ pair_text kind pair) ++ flat_map (joined_text kind) others)
    by true = refl
    by false = refl

-- the pairs that are still to be read
pub record IsLeft (kind : Kind) (pairs list : List (ℕ × ℕ)) (joined : ℕ) (rest : List ℕ) : Type 0 where
  pub pair : ℕ × ℕ
  pub others : List (ℕ × ℕ)
  pub normal : AreNormal (meant_bits kind) (pair ∷ others)
  pub split : pairs ≡ list ++ pair ∷ others
  pub joins : joined ≡ joined_bit pair.0
  pub spelled : rest ≡ pair_text kind pair ++ flat_map (joined_text kind) others

abbrev pub bit_if : Bool → ℕ
bit_if b = if b then 64 else 0

abbrev pub Left : Kind → List ℕ → List (ℕ × ℕ) → ℕ → List ℕ → Type 0
Left kind word list joined rest =
    (pairs : List (ℕ × ℕ)) → IsNormal kind pairs → word ≡ list_text kind pairs → IsLeft kind pairs list joined rest

made_by : (kind : Kind) (operator : ℕ) (b : Bool) → bit_and operator (meant_bits kind) ≡ operator → ends operator ≡ b
    → plain_of kind operator + joined_bit operator + (if b then 128 else 0) ≡ operator
made_by kind operator b clear e =
    sym (made kind operator clear ∙ ap (λ (c : Bool). plain_of kind operator + joined_bit operator + (if c then 128 else 0)) e)

pair_is : (pair : ℕ × ℕ) (operator value : ℕ) → operator ≡ pair.0 → value ≡ pair.1 → (operator, value) ≡ pair
pair_is pair operator value p q = ap (λ (o : ℕ). let made : ℕ × ℕ = (o, value) in made) p ∙ ap (λ (v : ℕ). let made : ℕ × ℕ = (pair.0, v) in made) q

-- behind the last pair nothing is left
pub last_read : (kind : Kind) (pairs list : List (ℕ × ℕ)) (joined : ℕ) (plain value : ℕ) (pair : ℕ × ℕ) (others : List (ℕ × ℕ))
    → AreNormal (meant_bits kind) (pair ∷ others) → pairs ≡ list ++ pair ∷ others → joined ≡ joined_bit pair.0
    → flat_map (joined_text kind) others ≡ [] → plain ≡ plain_of kind pair.0 → value ≡ pair.1
    → list ++ (plain + joined + 128, value) ∷ [] ≡ pairs
last_read kind pairs list joined plain value pair [] normal split joins none p v =
    let told : plain_of kind pair.0 + joined_bit pair.0 + 128 ≡ pair.0 = made_by kind pair.0 true normal.0.clear normal.1 in
    ap (λ (q : ℕ × ℕ). list ++ q ∷ []) (pair_is pair (plain + joined + 128) value (omega (arith, told, p, joins)) v) ∙ sym split
last_read kind pairs list joined plain value pair (next ∷ others) normal split joined_is none p v = by (joins next.0) none
  where
    by : (b : Bool) → (joiner_by b ++ pair_text kind next) ++ flat_map (joined_text kind) others ≡ []
        → list ++ (plain + joined + 128, value) ∷ [] ≡ pairs
    by true e = absurd cc
    by false e = absurd cc

-- the pair behind this one is left
pub next_left : (kind : Kind) (pairs list new : List (ℕ × ℕ)) (joined bit plain value delimiter : ℕ) (tail : List ℕ) (pair : ℕ × ℕ) (others : List (ℕ × ℕ))
    → AreNormal (meant_bits kind) (pair ∷ others) → pairs ≡ list ++ pair ∷ others → joined ≡ joined_bit pair.0
    → flat_map (joined_text kind) others ≡ delimiter ∷ tail → plain ≡ plain_of kind pair.0 → value ≡ pair.1
    → new ≡ list ++ (plain + joined, value) ∷ [] → bit ≡ bit_if (delimiter == 38)
    → IsLeft kind pairs new bit tail
next_left kind pairs list new joined bit plain value delimiter tail pair [] normal split joined_is some p v new_is bit_is = absurd cc
next_left kind pairs list new joined bit plain value delimiter tail pair (next ∷ others) normal split joined_is some p v new_is bit_is = record {
  pair = next;
  others = others;
  normal = normal.2;
  split =
      split ∙ ap (λ (q : ℕ × ℕ). list ++ q ∷ next ∷ others) (sym (pair_is pair (plain + joined) value (omega (arith, told, p, joined_is)) v))
      ∙ sym (append_assoc list ((plain + joined, value) ∷ []) (next ∷ others)) ∙ ap (λ (l : List (ℕ × ℕ)). l ++ next ∷ others) (sym new_is);
  joins = bit_is ∙ (by (joins next.0) refl some).0;
  spelled = (by (joins next.0) refl some).1;
}
  where
    told : plain_of kind pair.0 + joined_bit pair.0 + 0 ≡ pair.0
    told = made_by kind pair.0 false normal.0.clear normal.1

    by : (b : Bool) → joins next.0 ≡ b → (joiner_by b ++ pair_text kind next) ++ flat_map (joined_text kind) others ≡ delimiter ∷ tail
        → (bit_if (delimiter == 38) ≡ bit_if b) × (tail ≡ pair_text kind next ++ flat_map (joined_text kind) others)
    by true e h =
        let m : 38 ≡ delimiter = cc in (ap (λ (o : ℕ). bit_if (o == 38)) (sym m), cc)
    by false e h =
        let m : 44 ≡ delimiter = cc in (ap (λ (o : ℕ). bit_if (o == 38)) (sym m), cc)

abbrev Cuts : (text a b c : List ℕ) → Type 0
Cuts text a b c =
    (front digits behind : List ℕ) → AllByRecursion (λ o. is_sign o ≡ true) front → 0 < length digits
    → AllByRecursion (λ o. is_plain o ≡ true) digits → Ends is_plain behind → text ≡ front ++ (digits ++ behind)
    → (a ≡ front) × (b ≡ digits) × (c ≡ behind)

abbrev Numbers : (b c : List ℕ) → Option (ℕ × ℕ) → Type 0
Numbers b c r = (code value : ℕ) → code < 4 → value < 2 ^ 64 → b ≡ decimal value → c ≡ width_word value code → r ≡ Some (code, value)

abbrev Octets : List ℕ → Option (ℕ × ℕ) → Type 0
Octets b r = (code value : ℕ) → code < 4 → value < 256 ^ (2 ^ code) → b ≡ octets_text (2 ^ code) value → r ≡ Some (code, value)

pub pair_read : (kind : Kind) (text a b c : List ℕ) (s : Option ℕ) (r : Option (ℕ × ℕ)) → Cuts text a b c
    → ((operator : ℕ) → a ≡ sign kind operator → s ≡ Some (relation_of kind operator))
    → (kind ≡ Numeric → Numbers b c r) → (kind ≡ Bitmask → Octets b r)
    → (operator value : ℕ) → value < 256 ^ width_of operator → text ≡ pair_text kind (operator, value)
    → (s ≡ Some (relation_of kind operator)) × (r ≡ Some (width_code operator, value))
pair_read Numeric text a b c s r cuts signed numbers bits operator value small is =
    let run : IsRun (decimal value) = run_decimal value (value_small operator value small) in
    let t : (a ≡ sign Numeric operator) × (b ≡ decimal value) × (c ≡ width_word value (width_code operator)) =
    cuts (sign Numeric operator) (decimal value) (width_word value (width_code operator)) (are_signs Numeric operator) run.0 run.1
    (width_ends value (width_code operator)) is in
    (signed operator t.0, numbers refl (width_code operator) value (code_small operator) (value_small operator value small) t.1 t.2)
pair_read Bitmask text a b c s r cuts signed numbers bits operator value small is =
    let run : IsRun (octets_text (width_of operator) value) = octets_run operator value in
    let nothing : List ℕ = [] in
    let whole : text ≡ sign Bitmask operator ++ (octets_text (width_of operator) value ++ nothing) =
    is ∙ ap (λ (l : List ℕ). sign Bitmask operator ++ l) (sym (append-nil (octets_text (width_of operator) value))) in
    let t : (a ≡ sign Bitmask operator) × (b ≡ octets_text (width_of operator) value) × (c ≡ nothing) =
    cuts (sign Bitmask operator) (octets_text (width_of operator) value) nothing (are_signs Bitmask operator) run.0 run.1 tt whole in
    (signed operator t.0, bits refl (width_code operator) value (code_small operator) small t.1)

abbrev made_pair : (a b : ℕ) → Option (ℕ × ℕ)
made_pair a b = Some (a, b)

pub pair_made : (s : Option ℕ) (r : Option (ℕ × ℕ)) (x code value relation width number : ℕ) → s ≡ Some x → r ≡ Some (code, value)
    → (s ≡ Some relation) × (r ≡ Some (width, number)) → made_pair (16 * code + x) value ≡ made_pair (16 * width + relation) number
pair_made s r x code value relation width number p q is =
    let same : x ≡ relation = same_Some _ _ (sym p ∙ is.0) in
    let both = some_pair_parts code width value number (sym q ∙ is.1) in
    let codes_are : code ≡ width = both.0 in
    ap (λ (n : ℕ). made_pair n value) {x = 16 * code + x} {y = 16 * width + relation} (omega (arith, same, codes_are))
    ∙ ap (λ (v : ℕ). made_pair (16 * width + relation) v) both.1

abbrev FirstPair : (text a b : List ℕ) → Type 0
FirstPair text a b =
    (front behind : List ℕ) → AllByRecursion (λ o. is_within o ≡ true) front → Ends is_within behind → text ≡ front ++ behind
    → (a ≡ front) × (b ≡ behind)

abbrev Loose : Kind → List ℕ → Option (ℕ × ℕ) → Type 0
Loose kind text r =
    (operator value : ℕ) → value < 256 ^ width_of operator → text ≡ pair_text kind (operator, value) → r ≡ Some (plain_of kind operator, value)

-- the next pair is read
pub taken : (kind : Kind) (pairs list : List (ℕ × ℕ)) (joined : ℕ) (rest a b : List ℕ) (r : Option (ℕ × ℕ))
    → (left : IsLeft kind pairs list joined rest) → FirstPair rest a b → Loose kind a r
    → (b ≡ flat_map (joined_text kind) left.others) × (r ≡ Some (plain_of kind left.pair.0, left.pair.1))
taken kind pairs list joined rest a b r left split loose =
    let fits : left.pair.1 < 256 ^ width_of left.pair.0 = (first_normal (meant_bits kind) left.pair left.others left.normal).fits in
    let t : (a ≡ pair_text kind left.pair) × (b ≡ flat_map (joined_text kind) left.others) =
    split (pair_text kind left.pair) (flat_map (joined_text kind) left.others) (pair_within kind left.pair fits) (others_end kind left.others) left.spelled in
    (t.1, loose left.pair.0 left.pair.1 fits t.0)
