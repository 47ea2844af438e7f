-- The canonical octets of what is in normal form spell it.
use Rattle.fs_nlri.proofs.Words.{◌≡◌, ℕ, suc, ◌+◌, ◌-◌, ◌*◌, ◌/◌, ◌%◌, ◌^◌, ◌<◌, ◌≤◌, ◌==◌, ◌↔◌, Bool, true, false, List, [], ◌∷◌, ◌++◌, Option, Some}
use Rattle.fs_nlri.proofs.Words.{None, Contains, length, nat_lt, if◌then◌else◌, refl, ap, sym, subst, ◌∙◌, arith, inl, inr, list_any, mod-eq_of_lt}
use Rattle.fs_nlri.proofs.Words.{mul_assoc, pow-add, shl-shr, append-nil, false≢true, and_parts, eqb-true, ltb-true, or_cases, big_number}
use Rattle.fs_nlri.proofs.Words.{length-bytes_high_first, big_number-reads_back, Family, V4, cleared, IsOctets, block_of, block_below, octets_right}
use Rattle.fs_nlri.proofs.Words.{width_code, AreAllowed, canonical_spells, Form, V4Form, V6Form, ListForm, form_of, all_allowed, Body, V4Body, V6Body}
use Rattle.fs_nlri.proofs.Words.{ListBody, Part, Ruled, octets_for, first_bits, SpellsBody, SpellsAt, Spells, IsLength, IsFrame, IsNormalBody}
use Rattle.fs_nlri.proofs.Words.{IsNormalAt, AreNormal, IsRule, first_octets, canonical_body, canonical_value, canonical_length, canonical_frame}
use Rattle.fs_nlri.proofs.{Writable.{high_octets_fit}, NormalForm.{kept_value}, Frames.{one_rule, length_small}}

-- a number whose low bits are 0 loses nothing where fewer low bits are dropped and put back
put_back : (j k bits : ℕ) → k ≤ j → bits ≡ bits / 2 ^ j * 2 ^ j → bits / 2 ^ k * 2 ^ k ≡ bits
put_back j k bits le whole =
    let parts : j ≡ (j - k) + k = omega arith in
    let split : bits ≡ bits / 2 ^ j * 2 ^ (j - k) * 2 ^ k =
    whole ∙ ap (λ (n : ℕ). bits / 2 ^ j * 2 ^ n) parts ∙ ap (λ (n : ℕ). bits / 2 ^ j * n) (pow-add 2 (j - k) k)
    ∙ sym (mul_assoc (bits / 2 ^ j) (2 ^ (j - k)) (2 ^ k)) in
    ap (λ (n : ℕ). n / 2 ^ k * 2 ^ k) split ∙ ap (λ (n : ℕ). n * 2 ^ k) (shl-shr (bits / 2 ^ j * 2 ^ (j - k)) k) ∙ sym split

-- the octets of a number's first bits give these bits back
pub octets_back : (width count bits : ℕ) → count ≤ width → 8 * octets_for count ≤ width → bits ≡ cleared width count bits
    → first_bits width count (first_octets width count bits) ≡ bits
octets_back width count bits short room clear =
    let size : length (first_octets width count bits) ≡ octets_for count =
    length-bytes_high_first (octets_for count) (bits / 2 ^ (width - 8 * octets_for count)) in
    let below : bits < 2 ^ width = block_below width count bits (block_of width count bits short clear) in
    let fits = high_octets_fit bits width (octets_for count) room below in
    let number : big_number (octets_for count) (first_octets width count bits) ≡ bits / 2 ^ (width - 8 * octets_for count) =
    ap (λ (l : List ℕ). big_number (octets_for count) l) (sym (append-nil (first_octets width count bits)))
    ∙ big_number-reads_back (octets_for count) (bits / 2 ^ (width - 8 * octets_for count)) [] fits in
    let whole : bits ≡ bits / 2 ^ (width - count) * 2 ^ (width - count) =
    clear ∙ ap (λ (n : ℕ). n / 2 ^ (width - count) * 2 ^ (width - count)) (mod-eq_of_lt below) in
    let back : bits / 2 ^ (width - 8 * octets_for count) * 2 ^ (width - 8 * octets_for count) ≡ bits =
    put_back (width - count) (width - 8 * octets_for count) bits (omega arith) whole in
    ap (λ (n : ℕ). cleared width count (big_number n (first_octets width count bits) * 2 ^ (width - 8 * n))) size
    ∙ ap (λ (n : ℕ). cleared width count (n * 2 ^ (width - 8 * octets_for count))) number
    ∙ ap (λ (n : ℕ). cleared width count n) back ∙ sym clear

-- widths that pass the test are allowed
has_code : (widths : List ℕ) (code : ℕ) → list_any (λ (width : ℕ). width == code) widths ≡ true → Contains widths code
has_code [] code passes = absurd (false≢true passes)
has_code (width ∷ widths) code passes = elim (or_cases (width == code) (list_any (λ (w : ℕ). w == code) widths) passes) [
  | inl same ↦ (0, omega arith, eqb-true width code same)
  | inr later ↦ next width widths code (has_code widths code later)
]
  where
    next : (width : ℕ) (widths : List ℕ) (code : ℕ) → Contains widths code → Contains (width ∷ widths) code
    next width widths code found = let inside : found.0 < length widths = found.1 in (suc found.0, omega arith, found.2)

are_allowed : (widths : List ℕ) (pairs : List (ℕ × ℕ)) → all_allowed widths pairs ≡ true → AreAllowed widths pairs
are_allowed widths [] passes = tt
are_allowed widths (pair ∷ pairs) passes =
    let parts = and_parts (list_any (λ (width : ℕ). width == width_code pair.0) widths) (all_allowed widths pairs) passes in
    (has_code widths (width_code pair.0) parts.0, are_allowed widths pairs parts.1)

again_body : (form : Form) (body : Body) → IsNormalBody form body → SpellsBody form (canonical_body body) body
again_body V4Form (V4Body family len bits) normal =
    let short : len ≤ 32 = normal.1 in
    record {
      len = len;
      address = first_octets 32 len bits;
      split = refl;
      short = normal.1;
      size = length-bytes_high_first (octets_for len) (bits / 2 ^ (32 - 8 * octets_for len));
      says =
          ap (λ (f : Family). V4Body f len bits) normal.0
          ∙ ap (λ (n : ℕ). V4Body V4 len n) (sym (octets_back 32 len bits short (omega arith) normal.2));
    }
again_body V6Form (V6Body len offset pattern) normal =
    let most : len ≤ 128 = normal.0.0 in
    record {
      len = len;
      offset = offset;
      pattern = first_octets 128 (len - offset) pattern;
      split = refl;
      range = normal.0;
      size = length-bytes_high_first (octets_for (len - offset)) (pattern / 2 ^ (128 - 8 * octets_for (len - offset)));
      says = ap (λ (n : ℕ). V6Body len offset n) (sym (octets_back 128 (len - offset) pattern (omega arith) (omega arith) normal.1));
    }
again_body (ListForm kind widths bits) (ListBody pairs) normal = record {
  pairs = pairs;
  spells = canonical_spells kind widths pairs normal.0 (are_allowed widths pairs normal.1);
  says = ap (λ (l : List (ℕ × ℕ)). ListBody l) normal.2;
}
again_body _ _ normal = absurd normal

again_at : (form : Option Form) (body : Body) → IsNormalAt form body → SpellsAt form (canonical_body body) body
again_at None body normal = absurd normal
again_at (Some form) body normal = again_body form body normal

-- the canonical value of components in normal form spells them
pub again_value : (family : Family) (last : ℕ) (parts : List Part) → AreNormal family last parts → Spells family last (canonical_value parts) parts
again_value family last [] normal = refl
again_value family last (part ∷ parts) normal = (
  canonical_body part.body,
  canonical_value parts,
  refl,
  normal.0,
  again_at (form_of family part.kind) part.body normal.1,
  again_value family part.kind parts normal.2,
)

length_again : (len : ℕ) → len ≤ 4095 → IsLength (canonical_length len) len
length_again len small = by (nat_lt len 240) refl where
  by : (short : Bool) → nat_lt len 240 ≡ short → IsLength (if short then len ∷ [] else (240 + len / 256) ∷ (len % 256) ∷ []) len
  by true is = (ltb-true len 240 is, refl)
  by false is = (omega arith, omega arith, omega arith, omega arith)

pub canonical_is_frame : (rule : Ruled) → IsRule rule → IsFrame (canonical_frame rule) rule
canonical_is_frame rule is = record {
  head = canonical_length (length (canonical_value rule.parts));
  value = canonical_value rule.parts;
  split = refl;
  size = length_again (length (canonical_value rule.parts)) is.fits;
  spells = again_value rule.family 0 rule.parts is.normal;
}

pub canonical_is_own : (rule other : Ruled) → IsRule rule → rule.family ≡ other.family → IsFrame (canonical_frame rule) other → rule ≡ other
canonical_is_own rule other is families frame =
    (one_rule rule other (canonical_frame rule) (canonical_frame rule) [] [] families (canonical_is_frame rule is) frame refl).rule

pub no_frame_goes_on : (one other : Ruled) (frame more : List ℕ) → one.family ≡ other.family → IsFrame frame one → IsFrame (frame ++ more) other → more ≡ []
no_frame_goes_on one other frame more families is longer =
    (one_rule one other frame (frame ++ more) more [] families is longer (sym (append-nil (frame ++ more)))).rest

-- what a frame of octets says is a rule
pub frame_is_rule : (frame : List ℕ) (rule : Ruled) → IsOctets frame → IsFrame frame rule → IsRule rule
frame_is_rule frame rule are is =
    let kept = kept_value rule.family 0 is.value rule.parts (octets_right is.head is.value (subst IsOctets is.split are)) is.spells in
    let size : length (canonical_value rule.parts) ≡ length is.value = kept.size in
    let most : length is.value ≤ 4095 = length_small is.head (length is.value) is.size in
    record { normal = kept.normal; fits = omega arith }

pub canonical_tells : (one other : Ruled) (frame also : List ℕ) → one.family ≡ other.family → IsOctets frame → IsOctets also → IsFrame frame one
    → IsFrame also other → (one ≡ other) ↔ (canonical_frame one ≡ canonical_frame other)
canonical_tells one other frame also families are too is and_is = (
  (λ same. ap canonical_frame same),
  (λ same. canonical_is_own one other (frame_is_rule frame one are is) families
      (subst (λ (l : List ℕ). IsFrame l other) (sym same) (canonical_is_frame other (frame_is_rule also other too and_is)))),
)
