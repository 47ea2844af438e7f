-- What a rule is, its canonical octets, and its destination (RFC 8955 section 4, RFC 8956 section 3).
use Rattle.std.specs.Prelude.{◌≡◌, ℕ, ◌+◌, ◌-◌, ◌*◌, ◌/◌, ◌%◌, ◌^◌, ◌<◌, ◌≤◌, List, [], ◌∷◌, ◌++◌, length, Option, option_map, Some, None, true}
use Rattle.std.specs.Prelude.{nat_lt, ◌==◌, if◌then◌else◌}
use Rattle.std.specs.List.{flat_map}
use Rattle.byteorder.specs.Endian.{big_bytes}
use Rattle.fs_base.specs.{declared.prefix.{Family.{Family, TheVariants.{V4, V6}}, Prefix.{Prefix}}, Bits.{cleared}, Prefix.{prefix_of}}
use Rattle.fs_ops.specs.OperatorList.{IsNormal, canonical as canonical_pairs}
use Rattle.fs_nlri.specs.Forms.{Form, V4Form, V6Form, ListForm, form_of, kept_bits, all_allowed}
use Rattle.fs_nlri.specs.{Parts.{Body, V4Body, V6Body, ListBody, Part, Ruled}, Spelling.{IsRange, octets_for}}

-- Normal form: what stands behind a type is of the type's form, and each bit that is ignored is 0.
abbrev pub IsNormalBody : Form → Body → Type 0
IsNormalBody V4Form (V4Body family len bits) = (family ≡ V4) × (len ≤ 32) × (bits ≡ cleared 32 len bits)
IsNormalBody V6Form (V6Body len offset pattern) = IsRange len offset × (pattern ≡ cleared 128 (len - offset) pattern)
IsNormalBody (ListForm kind widths bits) (ListBody pairs) =
    IsNormal kind pairs × (all_allowed widths pairs ≡ true) × (pairs ≡ kept_bits bits pairs)
IsNormalBody _ _ = ⊥

abbrev pub IsNormalAt : Option Form → Body → Type 0
IsNormalAt None body = ⊥
IsNormalAt (Some form) body = IsNormalBody form body

-- components in normal form, by strictly rising types
abbrev pub AreNormal : Family → ℕ → List Part → Type 0
AreNormal family last [] = Unit {0}
AreNormal family last (part ∷ parts) = (last < part.kind) × IsNormalAt (form_of family part.kind) part.body × AreNormal family part.kind parts

-- the octets of the first count bits of a number of width bits
abbrev pub first_octets : (width count : ℕ) → ℕ → List ℕ
first_octets width count number = big_bytes (octets_for count) (number / 2 ^ (width - 8 * octets_for count))

-- The canonical spelling: each bit that is ignored is 0.
abbrev pub canonical_body : Body → List ℕ
canonical_body (V4Body family len bits) = len ∷ first_octets 32 len bits
canonical_body (V6Body len offset pattern) = len ∷ offset ∷ first_octets 128 (len - offset) pattern
canonical_body (ListBody pairs) = canonical_pairs pairs

abbrev pub canonical_part : Part → List ℕ
canonical_part part = part.kind ∷ canonical_body part.body

abbrev pub canonical_value : List Part → List ℕ
canonical_value parts = flat_map canonical_part parts

-- the canonical value octets of a rule
abbrev pub canonical : Ruled → List ℕ
canonical rule = canonical_value rule.parts

-- the short form of a length exactly below 240
abbrev pub canonical_length : ℕ → List ℕ
canonical_length len = if nat_lt len 240 then len ∷ [] else (240 + len / 256) ∷ (len % 256) ∷ []

-- a length and the value of the components
abbrev pub framed : List Part → List ℕ
framed parts = canonical_length (length (canonical_value parts)) ++ canonical_value parts

abbrev pub canonical_frame : Ruled → List ℕ
canonical_frame rule = framed rule.parts

-- a family and components of that family in normal form, whose canonical value has a length that a frame can say
pub record IsRule (rule : Ruled) : Type 0 where
  pub normal : AreNormal rule.family 0 rule.parts
  pub fits : length (canonical rule) ≤ 4095

-- what a prefix shows: its family, its bits, its length
abbrev pub shown : Prefix → Family × ℕ × ℕ
shown prefix = (prefix.family, prefix.bits, prefix.length)

abbrev pub destination_body : Body → Option (Family × ℕ × ℕ)
destination_body (V4Body family len bits) = Some (family, bits, len)
destination_body (V6Body len offset pattern) = if offset == 0 then Some (V6, pattern, len) else None
destination_body (ListBody pairs) = None

-- of a component of type 1
abbrev pub destination_part : Part → Option (Family × ℕ × ℕ)
destination_part part = if part.kind == 1 then destination_body part.body else None

-- the prefix of the component of type 1, wherever it stands; of IPv6 only where its offset is 0
abbrev pub destination_in : List Part → Option (Family × ℕ × ℕ)
destination_in [] = None
destination_in (part ∷ parts) = if part.kind == 1 then destination_body part.body else destination_in parts

abbrev pub destination_of : Ruled → Option (Family × ℕ × ℕ)
destination_of rule = destination_in rule.parts

-- the same as a prefix
abbrev pub destination_prefix : Ruled → Option Prefix
destination_prefix rule = option_map (λ d. prefix_of d.0 d.1 d.2) (destination_of rule)
