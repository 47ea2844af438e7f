-- What octets spell is in normal form, and its canonical octets are as many as those.
use Rattle.fs_nlri.proofs.Words.{◌≡◌, ℕ, zero, suc, ◌+◌, ◌-◌, ◌*◌, ◌/◌, ◌^◌, ◌≤◌, ◌==◌, true, List, [], ◌∷◌, ◌++◌, Option, Some, None, length}
use Rattle.fs_nlri.proofs.Words.{Contains, bit_and, refl, ap, sym, subst, ◌∙◌, arith, length-append, list_any, and_self, and_assoc, eq-eqb, and_from}
use Rattle.fs_nlri.proofs.Words.{big_number, length-bytes_high_first, or_second, Family, IsOctets, cleared_again, octets_left, octets_right}
use Rattle.fs_nlri.proofs.Words.{octets_tail, Kind, width_code, IsNormal, kept_is_normal, spelled_normal, AreAllowed, spelled_allowed, canonical_size}
use Rattle.fs_nlri.proofs.Words.{kept_allowed, kept_size, Form, V4Form, V6Form, ListForm, form_of, kept_bits, all_allowed, Body, Part, SpellsV4}
use Rattle.fs_nlri.proofs.Words.{SpellsV6, SpellsList, SpellsBody, SpellsAt, Spells, octets_for, first_bits, IsNormalBody, IsNormalAt, AreNormal}
use Rattle.fs_nlri.proofs.Words.{first_octets, canonical_body, canonical_value}
use Rattle.fs_ops.specs.OperatorList.{canonical as canonical_pairs}

-- a width that the list contains passes the test
has_width : (widths : List ℕ) (code : ℕ) → Contains widths code → list_any (λ width. width == code) widths ≡ true
has_width [] code (k, inside, is) = absurd (omega arith)
has_width (width ∷ widths) code (zero, inside, is) = let e : (width == code) ≡ true = eq-eqb width code is in rw e refl
has_width (width ∷ widths) code (suc k, inside, is) =
    let rest : list_any (λ w. w == code) widths ≡ true = has_width widths code (k, omega arith, is) in
    or_second (width == code) (list_any (λ w. w == code) widths) rest

pub passes_widths : (widths : List ℕ) (pairs : List (ℕ × ℕ)) → AreAllowed widths pairs → all_allowed widths pairs ≡ true
passes_widths widths [] allowed = refl
passes_widths widths (pair ∷ pairs) allowed =
    and_from (list_any (λ width. width == width_code pair.0) widths) (all_allowed widths pairs) (has_width widths (width_code pair.0) allowed.0)
    (passes_widths widths pairs allowed.1)

-- clearing once more changes nothing
pub kept_again : (bits : Option ℕ) (pairs : List (ℕ × ℕ)) → kept_bits bits pairs ≡ kept_bits bits (kept_bits bits pairs)
kept_again None pairs = refl
kept_again (Some bits) [] = refl
kept_again (Some bits) (pair ∷ pairs) =
    let once : bit_and pair.1 bits ≡ bit_and (bit_and pair.1 bits) bits = sym (and_assoc bits pair.1 bits ∙ ap (λ (b : ℕ). bit_and pair.1 b) (and_self bits)) in
    ap (λ (value : ℕ). let first : ℕ × ℕ = (pair.0, value) in first ∷ kept_bits (Some bits) pairs) once
    ∙ ap (λ (l : List (ℕ × ℕ)). let first : ℕ × ℕ = (pair.0, bit_and (bit_and pair.1 bits) bits) in first ∷ l) (kept_again (Some bits) pairs)

kept_normal : (kind : Kind) (bits : Option ℕ) (pairs : List (ℕ × ℕ)) → IsNormal kind pairs → IsNormal kind (kept_bits bits pairs)
kept_normal kind None pairs normal = normal
kept_normal kind (Some bits) pairs normal = kept_is_normal kind bits pairs normal

kept_passes : (widths : List ℕ) (bits : Option ℕ) (pairs : List (ℕ × ℕ)) → AreAllowed widths pairs → all_allowed widths (kept_bits bits pairs) ≡ true
kept_passes widths None pairs allowed = passes_widths widths pairs allowed
kept_passes widths (Some bits) pairs allowed = passes_widths widths (kept_bits (Some bits) pairs) (kept_allowed widths bits pairs allowed)

kept_length : (bits : Option ℕ) (pairs : List (ℕ × ℕ)) → length (canonical_pairs (kept_bits bits pairs)) ≡ length (canonical_pairs pairs)
kept_length None pairs = refl
kept_length (Some bits) pairs = kept_size bits pairs

length-first_octets : (width count number : ℕ) → length (first_octets width count number) ≡ octets_for count
length-first_octets width count number = length-bytes_high_first (octets_for count) (number / 2 ^ (width - 8 * octets_for count))

-- a body in normal form whose canonical octets are as many as the octets that spell it
pub record IsKept (form : Form) (octets : List ℕ) (body : Body) : Type 0 where
  pub normal : IsNormalBody form body
  pub size : length (canonical_body body) ≡ length octets

kept_v4 : (octets : List ℕ) (body : Body) → SpellsV4 octets body → IsKept V4Form octets body
kept_v4 octets body spells =
    subst (λ (b : Body). IsKept V4Form octets b) (sym spells.says) (record {
      normal = (
        refl,
        spells.short,
        cleared_again 32 spells.len
            (big_number (length spells.address) spells.address * 2 ^ (32 - 8 * length spells.address)) spells.short,
      );
      size =
          ap (λ (n : ℕ). suc n) (length-first_octets 32 spells.len (first_bits 32 spells.len spells.address) ∙ sym spells.size)
          ∙ sym (ap length spells.split);
    })

kept_v6 : (octets : List ℕ) (body : Body) → SpellsV6 octets body → IsKept V6Form octets body
kept_v6 octets body spells =
    let short : spells.len ≤ 128 = spells.range.0 in
    let count = spells.len - spells.offset in
    let fits : count ≤ 128 = omega arith in
    subst (λ (b : Body). IsKept V6Form octets b) (sym spells.says) (record {
      normal = (spells.range, cleared_again 128 count (big_number (length spells.pattern) spells.pattern * 2 ^ (128 - 8 * length spells.pattern)) fits);
      size =
          ap (λ (n : ℕ). suc (suc n)) (length-first_octets 128 count (first_bits 128 count spells.pattern) ∙ sym spells.size)
          ∙ sym (ap length spells.split);
    })

kept_list : (kind : Kind) (widths : List ℕ) (bits : Option ℕ) (octets : List ℕ) (body : Body) → IsOctets octets
    → SpellsList kind widths bits octets body → IsKept (ListForm kind widths bits) octets body
kept_list kind widths bits octets body are spells =
    subst (λ (b : Body). IsKept (ListForm kind widths bits) octets b) (sym spells.says) (record {
      normal = (
        kept_normal kind bits spells.pairs (spelled_normal kind widths octets spells.pairs are spells.spells),
        kept_passes widths bits spells.pairs (spelled_allowed kind widths octets spells.pairs spells.spells),
        kept_again bits spells.pairs,
      );
      size = kept_length bits spells.pairs ∙ canonical_size kind widths octets spells.pairs spells.spells;
    })

kept_body : (form : Form) (octets : List ℕ) (body : Body) → IsOctets octets → SpellsBody form octets body → IsKept form octets body
kept_body V4Form octets body are spells = kept_v4 octets body spells
kept_body V6Form octets body are spells = kept_v6 octets body spells
kept_body (ListForm kind widths bits) octets body are spells = kept_list kind widths bits octets body are spells

kept_at : (form : Option Form) (octets : List ℕ) (body : Body) → IsOctets octets → SpellsAt form octets body
    → IsNormalAt form body × (length (canonical_body body) ≡ length octets)
kept_at None octets body are spells = absurd spells
kept_at (Some form) octets body are spells = let kept = kept_body form octets body are spells in (kept.normal, kept.size)

-- the components that a value spells are in normal form, and their canonical octets are as many
pub record AreKept (family : Family) (last : ℕ) (octets : List ℕ) (parts : List Part) : Type 0 where
  pub normal : AreNormal family last parts
  pub size : length (canonical_value parts) ≡ length octets

pub kept_value : (family : Family) (last : ℕ) (octets : List ℕ) (parts : List Part) → IsOctets octets → Spells family last octets parts
    → AreKept family last octets parts
kept_value family last octets [] are spells = record { normal = tt; size = sym (ap length spells) }
kept_value family last octets (part ∷ parts) are (body, rest, split, rises, spelled, spells) =
    let opened : IsOctets (body ++ rest) = octets_tail part.kind (body ++ rest) (subst IsOctets split are) in
    let first = kept_at (form_of family part.kind) body part.body (octets_left body rest opened) spelled in
    let later = kept_value family part.kind rest parts (octets_right body rest opened) spells in
    record {
      normal = (rises, first.0, later.normal);
      size =
          ap (λ (n : ℕ). suc n) (length-append (canonical_body part.body) (canonical_value parts) ∙ ap (λ (n : ℕ). n + length (canonical_value parts)) first.1
          ∙ ap (λ (n : ℕ). length body + n) later.size ∙ sym (length-append body rest))
          ∙ sym (ap length split);
    }
