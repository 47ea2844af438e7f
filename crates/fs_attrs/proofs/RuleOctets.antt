-- The canonical frame of a rule is octets.
use Rattle.fs_attrs.proofs.Words.{◌≡◌, ℕ, ◌+◌, ◌-◌, ◌*◌, ◌/◌, ◌%◌, ◌^◌, ◌<◌, ◌≤◌, Bool, true, false, List, [], ◌∷◌, Option, Some, None, length}
use Rattle.fs_attrs.proofs.Words.{nat_lt, if◌then◌else◌, refl, subst, arith, inl, inr, flat_map, AllByRecursion, cases_lt, ltb-true, get_or_past}
use Rattle.fs_attrs.proofs.Words.{big_bytes, Family, V4, V6, IsOctets, octets_append, octets_cons, octets_nil, meant_bits, IsNormalPair, pair_octets}
use Rattle.fs_attrs.proofs.Words.{Form, V4Form, V6Form, ListForm, form_of, forms, Body, V4Body, V6Body, ListBody, Part, Ruled, IsRange, octets_for}
use Rattle.fs_attrs.proofs.Words.{AreNormal, IsNormalAt, IsNormalBody, IsRule, canonical_body, canonical_frame, canonical_length, canonical_part}
use Rattle.fs_attrs.proofs.Words.{canonical_value, first_octets}
use Rattle.std.{specs.Prelude.{bit_and}, proofs.lemmas.Nat.{and_le_r}}
use Rattle.fs_base.proofs.Digits.{big_octets}
use Rattle.fs_ops.{specs.{Operator.{width_of}, OperatorList.{AreNormal as AreNormalPairs, canonical as canonical_pairs}}, proofs.Canonical.{small_bits}}

-- operators and values

pair_are : (bits : ℕ) (pair : ℕ × ℕ) → bits < 256 → IsNormalPair bits pair → IsOctets (pair_octets pair)
pair_are bits pair small normal =
    let least : bit_and pair.0 bits ≤ bits = and_le_r pair.0 bits in
    let clear : bit_and pair.0 bits ≡ pair.0 = normal.clear in
    let operator : pair.0 < 256 = omega arith in
    octets_cons pair.0 (big_bytes (width_of pair.0) pair.1) operator (big_octets (width_of pair.0) pair.1)

pairs_are : (bits : ℕ) (pairs : List (ℕ × ℕ)) → bits < 256 → AreNormalPairs bits pairs → IsOctets (canonical_pairs pairs)
pairs_are bits [] small normal = absurd normal
pairs_are bits (pair ∷ []) small normal = octets_append (pair_octets pair) [] (pair_are bits pair small normal.0) octets_nil
pairs_are bits (pair ∷ next ∷ pairs) small normal =
    octets_append (pair_octets pair) (canonical_pairs (next ∷ pairs)) (pair_are bits pair small normal.0) (pairs_are bits (next ∷ pairs) small normal.2)

-- components

offset_small : (len offset : ℕ) → IsRange len offset → offset < 256
offset_small len offset (most, inl below) = omega arith
offset_small len offset (most, inr none) = let zero : offset ≡ 0 = none.1 in omega arith

body_are : (form : Form) (body : Body) → IsNormalBody form body → IsOctets (canonical_body body)
body_are V4Form (V4Body family len bits) normal =
    let short : len ≤ 32 = normal.1 in
    octets_cons len (first_octets 32 len bits) (omega arith) (big_octets (octets_for len) (bits / 2 ^ (32 - 8 * octets_for len)))
body_are V6Form (V6Body len offset pattern) normal =
    let most : len ≤ 128 = normal.0.0 in
    octets_cons len (offset ∷ first_octets 128 (len - offset) pattern) (omega arith)
    (octets_cons offset (first_octets 128 (len - offset) pattern) (offset_small len offset normal.0)
    (big_octets (octets_for (len - offset)) (pattern / 2 ^ (128 - 8 * octets_for (len - offset)))))
body_are (ListForm kind widths bits) (ListBody pairs) normal = pairs_are (meant_bits kind) pairs (small_bits kind) normal.0.normal
body_are V4Form (V6Body len offset pattern) normal = absurd normal
body_are V4Form (ListBody pairs) normal = absurd normal
body_are V6Form (V4Body family len bits) normal = absurd normal
body_are V6Form (ListBody pairs) normal = absurd normal
body_are (ListForm kind widths bits) (V4Body family len address) normal = absurd normal
body_are (ListForm kind widths bits) (V6Body len offset pattern) normal = absurd normal

at_are : (form : Option Form) (body : Body) → IsNormalAt form body → IsOctets (canonical_body body)
at_are None body normal = absurd normal
at_are (Some form) body normal = body_are form body normal

few_forms : (family : Family) → length (forms family) ≤ 14
few_forms V4 = omega arith
few_forms V6 = omega arith

kind_small : (family : Family) (kind : ℕ) (body : Body) → IsNormalAt (form_of family kind) body → kind < 256
kind_small family kind body normal =
    let few = few_forms family in
    elim (cases_lt kind 256) [
      | inl below ↦ below
      | inr past ↦ absurd (subst (λ (form : Option Form). IsNormalAt form body) (get_or_past (forms family) kind None (omega arith)) normal)
    ]

value_are : (family : Family) (last : ℕ) (parts : List Part) → AreNormal family last parts → IsOctets (canonical_value parts)
value_are family last [] normal = octets_nil
value_are family last (part ∷ parts) normal =
    octets_append (canonical_part part) (canonical_value parts)
    (octets_cons part.kind (canonical_body part.body) (kind_small family part.kind part.body normal.1) (at_are (form_of family part.kind) part.body normal.1))
    (value_are family part.kind parts normal.2)

-- frames

length_are : (len : ℕ) → len ≤ 4095 → IsOctets (canonical_length len)
length_are len small = by (nat_lt len 240) refl where
  by : (short : Bool) → nat_lt len 240 ≡ short → IsOctets (if short then len ∷ [] else (240 + len / 256) ∷ (len % 256) ∷ [])
  by true is = let below = ltb-true len 240 is in octets_cons len [] (omega arith) octets_nil
  by false is = octets_cons (240 + len / 256) (len % 256 ∷ []) (omega arith) (octets_cons (len % 256) [] (omega arith) octets_nil)

pub frame_are : (rule : Ruled) → IsRule rule → IsOctets (canonical_frame rule)
frame_are rule is =
    octets_append (canonical_length (length (canonical_value rule.parts))) (canonical_value rule.parts)
    (length_are (length (canonical_value rule.parts)) is.fits) (value_are rule.family 0 rule.parts is.normal)

pub frames_are : (rules : List Ruled) → AllByRecursion IsRule rules → IsOctets (flat_map canonical_frame rules)
frames_are [] all = octets_nil
frames_are (rule ∷ rules) all = octets_append (canonical_frame rule) (flat_map canonical_frame rules) (frame_are rule all.0) (frames_are rules all.1)
