-- How octets spell a rule (RFC 8955 section 4, RFC 8956 section 3). Bits that are to be ignored are free.
use Rattle.std.specs.Prelude.{◌≡◌, ℕ, ◌+◌, ◌-◌, ◌*◌, ◌/◌, ◌^◌, ◌<◌, ◌≤◌, List, [], ◌∷◌, ◌++◌, length, Option, Some, None, ◌⊎◌}
use Rattle.byteorder.specs.Endian.{big_number}
use Rattle.fs_base.specs.{declared.prefix.Family.{Family, TheVariants.{V4}}, Bits.{cleared}}
use Rattle.fs_ops.specs.{declared.kind.Kind.{Kind}, OperatorList.{Spells as SpellsPairs}}
use Rattle.fs_nlri.specs.{Forms.{Form, V4Form, V6Form, ListForm, form_of, kept_bits}, Parts.{Body, V4Body, V6Body, ListBody, Part, Ruled}}

abbrev pub octets_for : ℕ → ℕ
octets_for bits = (bits + 7) / 8

-- the first count bits of the octets, as the highest of a number of width bits; the bits behind them are padding
abbrev pub first_bits : (width count : ℕ) → List ℕ → ℕ
first_bits width count octets = cleared width count (big_number (length octets) octets * 2 ^ (width - 8 * length octets))

-- RFC 8955 section 4.2.2.1
pub record SpellsV4 (octets : List ℕ) (body : Body) : Type 0 where
  pub len : ℕ
  pub address : List ℕ
  pub split : octets ≡ len ∷ address
  pub short : len ≤ 32
  pub size : length address ≡ octets_for len
  pub says : body ≡ V4Body V4 len (first_bits 32 len address)

-- the offset lies below the length, or both are 0
abbrev pub IsRange : (len offset : ℕ) → Type 0
IsRange len offset = (len ≤ 128) × ((offset < len) ⊎ ((len ≡ 0) × (offset ≡ 0)))

-- RFC 8956 section 3.1
pub record SpellsV6 (octets : List ℕ) (body : Body) : Type 0 where
  pub len : ℕ
  pub offset : ℕ
  pub pattern : List ℕ
  pub split : octets ≡ len ∷ offset ∷ pattern
  pub range : IsRange len offset
  pub size : length pattern ≡ octets_for (len - offset)
  pub says : body ≡ V6Body len offset (first_bits 128 (len - offset) pattern)

-- RFC 8955 section 4.2.1
pub record SpellsList (kind : Kind) (widths : List ℕ) (bits : Option ℕ) (octets : List ℕ) (body : Body) : Type 0 where
  pub pairs : List (ℕ × ℕ)
  pub spells : SpellsPairs kind widths octets pairs
  pub says : body ≡ ListBody (kept_bits bits pairs)

abbrev pub SpellsBody : Form → List ℕ → Body → Type 0
SpellsBody V4Form octets body = SpellsV4 octets body
SpellsBody V6Form octets body = SpellsV6 octets body
SpellsBody (ListForm kind widths bits) octets body = SpellsList kind widths bits octets body

abbrev pub SpellsAt : Option Form → List ℕ → Body → Type 0
SpellsAt None octets body = ⊥
SpellsAt (Some form) octets body = SpellsBody form octets body

-- components one after the other, by strictly rising types above the last one (RFC 8955 section 4.2)
abbrev pub Spells : Family → ℕ → List ℕ → List Part → Type 0
Spells family last octets [] = octets ≡ []
Spells family last octets (part ∷ parts) =
    (body : List ℕ) × (rest : List ℕ) × (octets ≡ part.kind ∷ (body ++ rest)) × (last < part.kind)
    × SpellsAt (form_of family part.kind) body part.body × Spells family part.kind rest parts

-- the octets are the value of some rule, of any length
pub record IsValue (family : Family) (last : ℕ) (octets : List ℕ) : Type 0 where
  pub parts : List Part
  pub spells : Spells family last octets parts

-- RFC 8955 section 4.1: below 240 one octet; else 240 and twelve bits in two octets. The longer form may say a small length too.
abbrev pub IsLength : List ℕ → ℕ → Type 0
IsLength [] len = ⊥
IsLength (first ∷ []) len = (first < 240) × (len ≡ first)
IsLength (first ∷ second ∷ []) len = (240 ≤ first) × (first < 256) × (second < 256) × (len ≡ (first - 240) * 256 + second)
IsLength (first ∷ second ∷ third ∷ more) len = ⊥

-- a length and then a value of so many octets
pub record IsFrame (octets : List ℕ) (rule : Ruled) : Type 0 where
  pub head : List ℕ
  pub value : List ℕ
  pub split : octets ≡ head ++ value
  pub size : IsLength head (length value)
  pub spells : Spells rule.family 0 value rule.parts
