-- What the readers of bodies have found, at each of their ends.
use Rattle.fs_nlri.proofs.Words.{◌≡◌, ℕ, zero, suc, ◌+◌, ◌-◌, ◌*◌, ◌%◌, ◌^◌, ◌<◌, ◌≤◌, List, [], ◌∷◌, Option, length, get_or, take, drop, refl, ap}
use Rattle.fs_nlri.proofs.Words.{sym, subst, ◌∙◌, arith, take_all, length-take-le, pow-add, pow_pos, mul-lt-mul_of_pos_right, mod-eq_of_lt}
use Rattle.fs_nlri.proofs.Words.{pow-le-pow_right, pow-succ', big_number, big_from-lt, NoFront, IsCut, IsFirstFault, cleared, cut_as, fault_as, Kind}
use Rattle.fs_nlri.proofs.Words.{IsText, all_said, Form, V4Form, V6Form, ListForm, kept_bits, V6Body, ListBody, SpellsV6, IsRange, octets_for, IsBody}
use Rattle.fs_nlri.proofs.Words.{IsBodyFault, list_fault}
use Rattle.fs_nlri.proofs.Bodies.{v4_length, v4_cut, v6_length, v6_one, v6_offset, v6_cut}
use Rattle.fs_ops.specs.{Fault.{IsFault}, declared.fault.OpsFault.{OpsFault, TheVariants.{Cut, Width, Memory}}}

pub none_left : (form : Form) → NoFront (IsBody form) [] × IsCut (IsBody form) [] 0 → (octets : List ℕ) → length octets < 1
    → NoFront (IsBody form) octets × IsCut (IsBody form) octets 0
none_left form empty [] none = empty
none_left form empty (len ∷ tail) none = absurd (omega arith)

pub v4_long : (octets : List ℕ) → 1 ≤ length octets → 32 < get_or octets 0 0 → NoFront (IsBody V4Form) octets × IsFirstFault (IsBody V4Form) octets 0
    × ◌≡◌ {A = ℕ} 0 0
v4_long [] some long = absurd (omega arith)
v4_long (len ∷ tail) some long = v4_length len tail long

pub v4_few : (octets : List ℕ) (count : ℕ) → 1 ≤ length octets → get_or octets 0 0 ≤ 32 → count ≡ octets_for (get_or octets 0 0)
    → length (take (length octets - 1) (drop 1 octets)) < count → NoFront (IsBody V4Form) octets × IsCut (IsBody V4Form) octets (length octets)
v4_few [] count some short is few = absurd (omega arith)
v4_few (len ∷ tail) count some short is few =
    let whole : length (take (suc (length tail) - 1) tail) ≡ length tail = ap (λ (n : ℕ). length (take n tail)) (omega arith)
    ∙ length-take-le (length tail) tail (omega arith) in
    let lacks : length tail < octets_for len = omega (arith, whole, is, few) in
    let found = v4_cut len tail short lacks in
    let e : 1 + length tail ≡ suc (length tail) = omega arith in
    (found.0, subst (λ (place : ℕ). IsCut (IsBody V4Form) (len ∷ tail) place) e found.1)

pub v6_long : (octets : List ℕ) → 1 ≤ length octets → 128 < get_or octets 0 0 → NoFront (IsBody V6Form) octets × IsFirstFault (IsBody V6Form) octets 0
    × ◌≡◌ {A = ℕ} 0 0
v6_long [] some long = absurd (omega arith)
v6_long (len ∷ tail) some long = v6_length len tail long

pub v6_single : (octets : List ℕ) → 1 ≤ length octets → length octets < 2 → get_or octets 0 0 ≤ 128
    → NoFront (IsBody V6Form) octets × IsCut (IsBody V6Form) octets 1
v6_single [] some one short = absurd (omega arith)
v6_single (len ∷ []) some one short = v6_one len short
v6_single (len ∷ offset ∷ tail) some one short = absurd (omega arith)

pub v6_outside : (octets : List ℕ) → 2 ≤ length octets → get_or octets 0 0 ≤ 128 → (IsRange (get_or octets 0 0) (get_or octets 1 0) → ⊥)
    → NoFront (IsBody V6Form) octets × IsFirstFault (IsBody V6Form) octets 1 × ◌≡◌ {A = ℕ} 1 1
v6_outside [] some short bad = absurd (omega arith)
v6_outside (len ∷ []) some short bad = absurd (omega arith)
v6_outside (len ∷ offset ∷ tail) some short bad = v6_offset len offset tail short bad

behind_two : (len offset : ℕ) (tail : List ℕ) → take (length (len ∷ offset ∷ tail) - 2) (drop 2 (len ∷ offset ∷ tail)) ≡ tail
behind_two len offset tail = take_all (suc (suc (length tail)) - 2) tail (omega arith)

pub v6_few : (octets : List ℕ) (count : ℕ) → 2 ≤ length octets → IsRange (get_or octets 0 0) (get_or octets 1 0)
    → count ≡ octets_for (get_or octets 0 0 - get_or octets 1 0) → length (take (length octets - 2) (drop 2 octets)) < count
    → NoFront (IsBody V6Form) octets × IsCut (IsBody V6Form) octets (length octets)
v6_few [] count some range is few = absurd (omega arith)
v6_few (len ∷ []) count some range is few = absurd (omega arith)
v6_few (len ∷ offset ∷ tail) count some range is few =
    let whole : length (take (suc (suc (length tail)) - 2) tail) ≡ length tail = ap length (behind_two len offset tail) in
    let lacks : length tail < octets_for (len - offset) = omega (arith, whole, is, few) in
    let found = v6_cut len offset tail range lacks in
    let e : 2 + length tail ≡ suc (suc (length tail)) = omega arith in
    (found.0, subst (λ (place : ℕ). IsCut (IsBody V6Form) (len ∷ offset ∷ tail) place) e found.1)

pub v6_found : (octets : List ℕ) (count aligned pattern : ℕ) → 2 ≤ length octets → IsRange (get_or octets 0 0) (get_or octets 1 0)
    → count ≡ octets_for (get_or octets 0 0 - get_or octets 1 0) → count ≤ length (take (length octets - 2) (drop 2 octets))
    → aligned ≡ big_number (length (take count (take (length octets - 2) (drop 2 octets)))) (take count (take (length octets - 2) (drop 2 octets))) *
    2 ^ (128 - 8 * length (take count (take (length octets - 2) (drop 2 octets))))
    → pattern ≡ cleared 128 (get_or octets 0 0 - get_or octets 1 0) aligned
    → SpellsV6 (take (2 + count) octets) (V6Body (get_or octets 0 0) (get_or octets 1 0) pattern)
v6_found [] count aligned pattern some range is room value bits = absurd (omega arith)
v6_found (len ∷ []) count aligned pattern some range is room value bits = absurd (omega arith)
v6_found (len ∷ offset ∷ tail) count aligned pattern some range is room value bits =
    let tails : take (suc (suc (length tail)) - 2) tail ≡ tail = behind_two len offset tail in
    let fits : count ≤ length tail = subst (λ (l : List ℕ). count ≤ length l) tails room in
    let values : aligned ≡ big_number (length (take count tail)) (take count tail) * 2 ^ (128 - 8 * length (take count tail)) =
    subst (λ (l : List ℕ). aligned ≡ big_number (length (take count l)) (take count l) * 2 ^ (128 - 8 * length (take count l))) tails value in
    let e : 2 + count ≡ suc (suc count) = omega arith in
    record {
      len = len;
      offset = offset;
      pattern = take count tail;
      split = ap (λ (n : ℕ). take n (len ∷ offset ∷ tail)) e;
      range = range;
      size = length-take-le count tail fits ∙ is;
      says = ap (λ (p : ℕ). V6Body len offset p) (bits ∙ ap (λ (a : ℕ). cleared 128 (len - offset) a) values);
    }

pow_256 : (n : ℕ) → 256 ^ n ≡ 2 ^ (8 * n)
pow_256 zero = refl
pow_256 (suc n) =
    let e : 8 * suc n ≡ 8 + 8 * n = omega arith in
    pow-succ' 256 n ∙ ap (λ (p : ℕ). 256 * p) (pow_256 n) ∙ sym (ap (λ (k : ℕ). 2 ^ k) e ∙ pow-add 2 8 (8 * n))

-- a number of n octets, moved to the front of width bits, has no more than these
pub aligned_fits : (n width number : ℕ) → number < 256 ^ n → 8 * n ≤ width → width ≤ 128
    → number * 2 ^ (width - 8 * n) % 340282366920938463463374607431768211456 ≡ number * 2 ^ (width - 8 * n)
aligned_fits n width number small fits wide =
    let base : 256 ^ n ≡ 2 ^ (8 * n) = pow_256 n in
    let less : number * 2 ^ (width - 8 * n) < 256 ^ n * 2 ^ (width - 8 * n) = mul-lt-mul_of_pos_right small (pow_pos (width - 8 * n)) in
    let joined : 256 ^ n * 2 ^ (width - 8 * n) ≡ 2 ^ width =
    ap (λ (p : ℕ). p * 2 ^ (width - 8 * n)) base ∙ sym (pow-add 2 (8 * n) (width - 8 * n)) ∙ ap (λ (k : ℕ). 2 ^ k) (omega arith) in
    let two_pos : 0 < 2 = omega arith in
    let most : 2 ^ width ≤ 2 ^ 128 = pow-le-pow_right {n = 2} two_pos wide in
    mod-eq_of_lt (omega (arith, less, joined, most))

-- the octets of a slice are below 256
pub number_small : (octets : List ℕ) → ((i : ℕ) → get_or octets i 0 < 256) → big_number (length octets) octets < 256 ^ length octets
number_small octets small = big_from-lt 0 (length octets) octets small

to_body : (kind : Kind) (widths : List ℕ) (bits : Option ℕ) (octets : List ℕ) → IsText widths octets → IsBody (ListForm kind widths bits) octets
to_body kind widths bits octets whole = record {
  body = ListBody (kept_bits bits (all_said kind whole.written));
  spells = record {
    pairs = all_said kind whole.written;
    spells = record { written = whole.written; whole = whole.whole; spelled = whole.spelled; means = refl };
    says = refl;
  };
}

from_body : (kind : Kind) (widths : List ℕ) (bits : Option ℕ) (octets : List ℕ) → IsBody (ListForm kind widths bits) octets → IsText widths octets
from_body kind widths bits octets body =
    record { written = body.spells.spells.written; whole = body.spells.spells.whole; spelled = body.spells.spells.spelled }

pub list_bad : (kind : Kind) (widths : List ℕ) (bits : Option ℕ) (octets : List ℕ) (fault : OpsFault) → IsFault widths octets fault
    → IsBodyFault (ListForm kind widths bits) octets (list_fault fault)
list_bad kind widths bits octets (Cut place) bad = (
  λ n body. bad.none n (from_body kind widths bits (take n octets) body),
  cut_as (IsText widths) (IsBody (ListForm kind widths bits)) octets place (to_body kind widths bits) bad.cut,
)
list_bad kind widths bits octets (Width place) bad = (
  λ n body. bad.none n (from_body kind widths bits (take n octets) body),
  fault_as (IsText widths) (IsBody (ListForm kind widths bits)) octets place (to_body kind widths bits) (from_body kind widths bits) bad.fault,
  bad.operator,
)
list_bad kind widths bits octets Memory bad = tt
