-- That components which are the family's, by rising types, are in normal form once the bits that it clears are cleared.
use Rattle.fs_nlri.proofs.Words.{◌≡◌, ℕ, ◌-◌, ◌≤◌, ◌==◌, Bool, true, false, if◌then◌else◌, ◌&&◌, ◌||◌, List, [], ◌∷◌, Option, Some, None, map, refl}
use Rattle.fs_nlri.proofs.Words.{ap, sym, subst, ◌∙◌, arith, inl, inr, length, nat_le, nat_lt, list_any, false≢true, and_parts, or_cases, ltb-true}
use Rattle.fs_nlri.proofs.Words.{leb-true, eqb-true, Family, V4, V6, cleared_again, width_code, with_bits, kept_is_normal, NotOfFamily, Form, V4Form}
use Rattle.fs_nlri.proofs.Words.{V6Form, ListForm, form_of, all_allowed, Body, V4Body, V6Body, ListBody, Part, ruled, IsRange, IsNormalBody}
use Rattle.fs_nlri.proofs.Words.{IsNormalAt, AreNormal, IsRule, canonical_value, is_range, body_given, given_at, part_given, all_given, rises}
use Rattle.fs_nlri.proofs.Words.{cleared_body, cleared_at, cleared_parts, IsTypedBody, IsTypedAt, AreTyped, fault_in}
use Rattle.fs_nlri.proofs.NormalForm.{kept_again}
use Rattle.fs_nlri.specs.declared.fault.RuleFault.TheVariants.{Order}

range_of : (len offset : ℕ) → is_range len offset ≡ true → IsRange len offset
range_of len offset is =
    let parts = and_parts (nat_le len 128) (nat_lt offset len || ((len == 0) && (offset == 0))) is in (
      leb-true len 128 parts.0,
      elim (or_cases (nat_lt offset len) ((len == 0) && (offset == 0)) parts.1) [
        | inl below ↦ inl (ltb-true offset len below)
        | inr zeros ↦ let both = and_parts (len == 0) (offset == 0) zeros in inr (eqb-true len 0 both.0, eqb-true offset 0 both.1)
      ],
    )

allowed_kept : (widths : List ℕ) (bits : ℕ) (pairs : List (ℕ × ℕ)) → all_allowed widths (map (with_bits bits) pairs) ≡ all_allowed widths pairs
allowed_kept widths bits [] = refl
allowed_kept widths bits (pair ∷ pairs) = ap (λ (b : Bool). list_any (λ (width : ℕ). width == width_code pair.0) widths && b) (allowed_kept widths bits pairs)

normal_list : (form : Form) (pairs : List (ℕ × ℕ)) → body_given form (ListBody pairs) ≡ true → IsTypedBody form (ListBody pairs)
    → IsNormalBody form (cleared_body form (ListBody pairs))
normal_list V4Form pairs given sound = absurd (false≢true given)
normal_list V6Form pairs given sound = absurd (false≢true given)
normal_list (ListForm kind widths None) pairs given sound = (sound, given, refl)
normal_list (ListForm kind widths (Some bits)) pairs given sound =
    (kept_is_normal kind bits pairs sound, allowed_kept widths bits pairs ∙ given, kept_again (Some bits) pairs)

normal_body : (form : Form) (body : Body) → body_given form body ≡ true → IsTypedBody form body → IsNormalBody form (cleared_body form body)
normal_body form (ListBody pairs) given sound = normal_list form pairs given sound
normal_body V4Form (V4Body V4 len bits) given sound = (refl, sound.0, sound.1)
normal_body V4Form (V4Body V6 len bits) given sound = absurd (false≢true given)
normal_body V4Form (V6Body len offset pattern) given sound = absurd (false≢true given)
normal_body V6Form (V4Body family len bits) given sound = absurd (false≢true given)
normal_body V6Form (V6Body len offset pattern) given sound =
    let range = range_of len offset given in
    let whole : len ≤ 128 = range.0 in
    (range, cleared_again 128 (len - offset) pattern (omega arith))
normal_body (ListForm kind widths bits) (V4Body family len address) given sound = absurd (false≢true given)
normal_body (ListForm kind widths bits) (V6Body len offset pattern) given sound = absurd (false≢true given)

pub normal_at : (form : Option Form) (body : Body) → given_at form body ≡ true → IsTypedAt form body → IsNormalAt form (cleared_at form body)
normal_at None body given sound = absurd (false≢true given)
normal_at (Some form) body given sound = normal_body form body given sound

are_normal : (family : Family) (last : ℕ) (parts : List Part) → all_given family parts ≡ true → rises last parts ≡ true → AreTyped family parts
    → AreNormal family last (cleared_parts family parts)
are_normal family last [] given rising sound = tt
are_normal family last (part ∷ parts) given rising sound =
    let own = and_parts (part_given family part) (all_given family parts) given in
    let above = and_parts (nat_lt last part.kind) (rises part.kind parts) rising in
    (ltb-true last part.kind above.0, normal_at (form_of family part.kind) part.body own.0 sound.0, are_normal family part.kind parts own.1 above.1 sound.1)

-- what is made is a rule
pub made_rule : (family : Family) (parts made : List Part) → made ≡ cleared_parts family parts → all_given family parts ≡ true → rises 0 parts ≡ true
    → AreTyped family parts → nat_le (length (canonical_value made)) 4095 ≡ true → IsRule (ruled family made)
made_rule family parts made is given rising sound fits = record {
  normal = subst (AreNormal family 0) (sym is) (are_normal family 0 parts given rising sound);
  fits = leb-true (length (canonical_value made)) 4095 fits;
}

-- where no cause is seen, the components are the family's, by rising types
pub no_fault : (family : Family) (parts : List Part) → fault_in family parts ≡ None → (all_given family parts ≡ true) × (rises 0 parts ≡ true)
no_fault family parts is = by (all_given family parts) (rises 0 parts) is
  where
    by : (given rising : Bool) → (if given then (if rising then None else Some Order) else Some NotOfFamily) ≡ None → (given ≡ true) × (rising ≡ true)
    by true true e = (refl, refl)
    by true false e = cc
    by false rising e = cc
