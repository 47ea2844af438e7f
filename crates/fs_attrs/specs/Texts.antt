-- The texts of fields, prefixes, rules, attributes and next hops (RFC 4271, section 4.3; RFC 4760, section 3; RFC 8955, section 4).
use Rattle.std.specs.Prelude.{◌≡◌, ℕ, ◌==◌, ◌||◌, bit_or, nat_lt, if◌then◌else◌, List, ◌∷◌, ◌++◌, length, replicate, flat_map, Result, OnOk}
use Rattle.byteorder.specs.Endian.{big_bytes}
use Rattle.fs_base.specs.declared.config.Address.{Address, TheVariants.{V4 as V4Address, V6 as V6Address}}
use Rattle.fs_base.specs.declared.prefix.Family.{Family, TheVariants.{V4, V6}}
use Rattle.fs_base.specs.Bits.{width_of}
use Rattle.fs_nlri.specs.{Parts.{Ruled}, Rule.{first_octets, canonical_frame}}
use Rattle.fs_attrs.specs.{Attributes.{Attribute}, Prefixes.{Shown}}

-- a length in two octets, and then so many
abbrev pub long_text : List ℕ → List ℕ
long_text octets = big_bytes 2 (length octets) ++ octets

-- a length, and the least octets that hold so many bits
abbrev pub prefix_text : Shown → List ℕ
prefix_text prefix = prefix.2 ∷ first_octets (width_of prefix.0) prefix.2 prefix.1

abbrev pub prefixes_text : List Shown → List ℕ
prefixes_text prefixes = flat_map prefix_text prefixes

abbrev pub rules_text : List Ruled → List ℕ
rules_text rules = flat_map canonical_frame rules

-- The flags of a type: optional and transitive (192), optional (128), or well-known and transitive (64).
abbrev pub flags_of : ℕ → ℕ
flags_of kind = if kind == 16 then 192 else if (kind == 9) || ((kind == 14) || (kind == 15)) then 128 else 64

-- A value of more than 255 octets has the flag Extended Length (16) and a length in two octets.
abbrev pub attribute_text : Attribute → List ℕ
attribute_text given =
    if nat_lt 255 (length given.value)
    then bit_or (flags_of given.kind) 16 ∷ given.kind ∷ long_text given.value
    else flags_of given.kind ∷ given.kind ∷ length given.value ∷ given.value

-- The next hop is the sender's address where it is of the family, else zeros.
abbrev pub next_hop : Family → Address → List ℕ
next_hop V4 (V4Address bits) = big_bytes 4 bits
next_hop V4 (V6Address bits) = replicate 4 0
next_hop V6 (V4Address bits) = replicate 16 0
next_hop V6 (V6Address bits) = big_bytes 16 bits

-- where memory is there, these attributes are appended
abbrev pub AddsAttributes : {E : Type 0} → Result (Unit {0}) E → (old new : List ℕ) → List Attribute → Type 0
AddsAttributes result old new attributes = OnOk result (new ≡ old ++ flat_map attribute_text attributes)
