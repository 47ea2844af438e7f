use Rattle.fs_nlri.proofs.Words.{◌≡◌, ℕ, ◌==◌, true, if◌then◌else◌, ◌&&◌, ◌||◌, List, [], ◌∷◌, Option, Some, None, Ok, Err, refl, ap, sym, ◌∙◌, inl}
use Rattle.fs_nlri.proofs.Words.{inr, length, nat_le, nat_lt, and_from, lt-ltb, le-leb, eq-eqb, or_first, or_second, Family, V4, V6, TooLong, Form}
use Rattle.fs_nlri.proofs.Words.{V4Form, V6Form, ListForm, form_of, Body, V4Body, V6Body, ListBody, Part, part, ruled, IsRange, IsNormalBody}
use Rattle.fs_nlri.proofs.Words.{IsNormalAt, AreNormal, canonical_value, is_range, body_given, given_at, part_given, all_given, rises, cleared_body}
use Rattle.fs_nlri.proofs.Words.{cleared_at, cleared_part, cleared_parts, rule_of}

-- Components that are in normal form are the family's, by rising types, and clearing changes nothing in them.

pub range_is : (len offset : ℕ) → IsRange len offset → is_range len offset ≡ true
range_is len offset range =
    and_from (nat_le len 128) (nat_lt offset len || ((len == 0) && (offset == 0))) (le-leb len 128 range.0)
    (elim range.1 [
      | inl below ↦ or_first (nat_lt offset len) ((len == 0) && (offset == 0)) (lt-ltb offset len below)
      | inr zeros ↦ or_second (nat_lt offset len) ((len == 0) && (offset == 0))
          (and_from (len == 0) (offset == 0) (eq-eqb len 0 zeros.0) (eq-eqb offset 0 zeros.1))
    ])

pub given_body : (form : Form) (body : Body) → IsNormalBody form body → body_given form body ≡ true
given_body V4Form (V4Body V4 len bits) normal = refl
given_body V4Form (V4Body V6 len bits) normal = absurd (cc (normal.0))
given_body V6Form (V6Body len offset pattern) normal = range_is len offset normal.0
given_body (ListForm kind widths bits) (ListBody pairs) normal = normal.1
given_body _ _ normal = absurd normal

clear_body : (form : Form) (body : Body) → IsNormalBody form body → cleared_body form body ≡ body
clear_body V4Form (V4Body family len bits) normal = refl
clear_body V6Form (V6Body len offset pattern) normal = ap (λ (n : ℕ). V6Body len offset n) (sym normal.1)
clear_body (ListForm kind widths bits) (ListBody pairs) normal = ap (λ (l : List (ℕ × ℕ)). ListBody l) (sym normal.2)
clear_body _ _ normal = absurd normal

given_form : (form : Option Form) (body : Body) → IsNormalAt form body → given_at form body ≡ true
given_form None body normal = absurd normal
given_form (Some form) body normal = given_body form body normal

clear_form : (form : Option Form) (body : Body) → IsNormalAt form body → cleared_at form body ≡ body
clear_form None body normal = absurd normal
clear_form (Some form) body normal = clear_body form body normal

-- one component
pub given_normal : (family : Family) (part : Part) → IsNormalAt (form_of family part.kind) part.body → part_given family part ≡ true
given_normal family part normal = given_form (form_of family part.kind) part.body normal

pub clear_normal : (family : Family) (own : Part) → IsNormalAt (form_of family own.kind) own.body → cleared_part family own ≡ own
clear_normal family own normal = ap (λ (body : Body). part own.kind body) (clear_form (form_of family own.kind) own.body normal)

pub all_normal : (family : Family) (last : ℕ) (parts : List Part) → AreNormal family last parts → all_given family parts ≡ true
all_normal family last [] normal = refl
all_normal family last (own ∷ parts) normal =
    and_from (part_given family own) (all_given family parts) (given_normal family own normal.1) (all_normal family own.kind parts normal.2)

pub rises_normal : (family : Family) (last : ℕ) (parts : List Part) → AreNormal family last parts → rises last parts ≡ true
rises_normal family last [] normal = refl
rises_normal family last (own ∷ parts) normal =
    and_from (nat_lt last own.kind) (rises own.kind parts) (lt-ltb last own.kind normal.0) (rises_normal family own.kind parts normal.2)

pub clears_normal : (family : Family) (last : ℕ) (parts : List Part) → AreNormal family last parts → cleared_parts family parts ≡ parts
clears_normal family last [] normal = refl
clears_normal family last (own ∷ parts) normal =
    ap (λ (first : Part). first ∷ cleared_parts family parts) (clear_normal family own normal.1)
    ∙ ap (λ (more : List Part). own ∷ more) (clears_normal family own.kind parts normal.2)

-- such components make the rule of themselves, unless they are too long
pub makes_normal : (family : Family) (parts : List Part) → AreNormal family 0 parts
    → rule_of family parts ≡ (if nat_le (length (canonical_value parts)) 4095 then Ok (ruled family parts) else Err TooLong)
makes_normal family parts normal =
    let given : all_given family parts ≡ true = all_normal family 0 parts normal in
    let rising : rises 0 parts ≡ true = rises_normal family 0 parts normal in
    let clear : cleared_parts family parts ≡ parts = clears_normal family 0 parts normal in
    rw (given, rising, clear) refl
