-- Lists of operators and values (RFC 8955 section 4.2.1): their octets, what these say, and the octets that are written.
use Rattle.std.specs.{Prelude.{◌≡◌, ℕ, ◌<◌, ◌^◌, Bool, true, false, List, [], ◌∷◌, length, map, Contains, bit_and}, List.{flat_map}}
use Rattle.byteorder.specs.Endian.{big_number, big_bytes}
use Rattle.fs_ops.specs.Operator.{Kind, meant_bits, first_bits, ends, joins, width_code, width_of}

-- an operator and its value as they stand in octets, each ignored bit still in them
pub record Written : Type 0 where
  pub operator : ℕ
  pub value : List ℕ

abbrev pub octets_of : Written → List ℕ
octets_of pair = pair.operator ∷ pair.value

abbrev pub text : List Written → List ℕ
text pairs = flat_map octets_of pairs

-- the value has the length that the operator gives, which is one of those allowed
pub record IsPair (widths : List ℕ) (pair : Written) : Type 0 where
  pub allowed : Contains widths (width_code pair.operator)
  pub size : length pair.value ≡ width_of pair.operator

-- pairs of which none is the last of a list
abbrev pub AreMiddle : List ℕ → List Written → Type 0
AreMiddle widths [] = Unit {0}
AreMiddle widths (pair ∷ pairs) = IsPair widths pair × (ends pair.operator ≡ false) × AreMiddle widths pairs

-- the last pair, and it alone, has the end bit
abbrev pub IsList : List ℕ → List Written → Type 0
IsList widths [] = ⊥
IsList widths (pair ∷ []) = IsPair widths pair × (ends pair.operator ≡ true)
IsList widths (pair ∷ next ∷ pairs) = IsPair widths pair × (ends pair.operator ≡ false) × IsList widths (next ∷ pairs)

-- what a pair says: the bits of its operator that count, and its value, highest octet first
abbrev pub said : ℕ → Written → ℕ × ℕ
said bits pair = (bit_and pair.operator bits, big_number (length pair.value) pair.value)

abbrev pub all_said : Kind → List Written → List (ℕ × ℕ)
all_said kind [] = []
all_said kind (pair ∷ pairs) = said (first_bits kind) pair ∷ map (said (meant_bits kind)) pairs

-- the octets are a list, with any ignored bits, that says these operators and values
pub record Spells (kind : Kind) (widths octets : List ℕ) (pairs : List (ℕ × ℕ)) : Type 0 where
  pub written : List Written
  pub whole : IsList widths written
  pub spelled : text written ≡ octets
  pub means : pairs ≡ all_said kind written

-- the language of the lists whose values have these widths
pub record IsText (widths octets : List ℕ) : Type 0 where
  pub written : List Written
  pub whole : IsList widths written
  pub spelled : text written ≡ octets

-- the octets that are written for a pair, and for a list
abbrev pub pair_octets : ℕ × ℕ → List ℕ
pair_octets pair = pair.0 ∷ big_bytes (width_of pair.0) pair.1

abbrev pub canonical : List (ℕ × ℕ) → List ℕ
canonical pairs = flat_map pair_octets pairs

-- an operator whose ignored bits are clear, and a value of its width
pub record IsNormalPair (bits : ℕ) (pair : ℕ × ℕ) : Type 0 where
  pub clear : bit_and pair.0 bits ≡ pair.0
  pub fits : pair.1 < 256 ^ width_of pair.0

abbrev pub AreNormal : ℕ → List (ℕ × ℕ) → Type 0
AreNormal bits [] = ⊥
AreNormal bits (pair ∷ []) = IsNormalPair bits pair × (ends pair.0 ≡ true)
AreNormal bits (pair ∷ next ∷ pairs) = IsNormalPair bits pair × (ends pair.0 ≡ false) × AreNormal bits (next ∷ pairs)

abbrev pub first_joins : List (ℕ × ℕ) → Bool
first_joins [] = false
first_joins (pair ∷ pairs) = joins pair.0

-- a list in normal form: never empty, all ignored bits clear, the AND bit of its first operator among them
pub record IsNormal (kind : Kind) (pairs : List (ℕ × ℕ)) : Type 0 where
  pub normal : AreNormal (meant_bits kind) pairs
  pub first : first_joins pairs ≡ false
