-- The parts of the words of actions, and the octets of these actions.
use Rattle.std.specs.Prelude.{◌≡◌, ◌<◌, ℕ, List, [], ◌∷◌, ◌++◌, Some, Option, decimal}
use Rattle.byteorder.specs.Endian.{big_bytes}
use Rattle.hex.specs.Hex.{encode_lower}
use Rattle.fs_text.specs.{Pieces.{Part, Delimiter, Run}, PrefixParts.{address_parts}}

abbrev pub rate_parts : (id figure : ℕ) → List Part
rate_parts id figure = Run (decimal id) ∷ Delimiter 58 ∷ Run (encode_lower (big_bytes 4 figure)) ∷ []

abbrev pub plain_parts : ℕ → List Part
plain_parts last = Run (decimal last) ∷ []

abbrev pub pair_parts : (first last : ℕ) → List Part
pair_parts first last = Run (decimal first) ∷ Delimiter 58 ∷ Run (decimal last) ∷ []

abbrev pub ip4_parts : (address number : ℕ) → List Part
ip4_parts = address_parts 58

-- behind a word
abbrev pub form_parts : List ℕ → List Part → List Part
form_parts form parts = Run form ∷ Delimiter 58 ∷ parts

-- a type, sixteen bits and thirty-two
abbrev pub short_octets : (kind first last : ℕ) → List ℕ
short_octets kind first last = big_bytes 2 kind ++ (big_bytes 2 first ++ big_bytes 4 last)

-- a type, thirty-two bits and sixteen
abbrev pub long_octets : (kind first last : ℕ) → List ℕ
long_octets kind first last = big_bytes 2 kind ++ (big_bytes 4 first ++ big_bytes 2 last)

-- what is read of two numbers of so many bits that have these parts
abbrev pub Gives : (low high : ℕ) → (ℕ → ℕ → List Part) → (ℕ → ℕ → List ℕ) → List Part → Option (List ℕ) → Type 0
Gives low high parts_are octets_are parts result =
    (first last : ℕ) → first < low → last < high → parts ≡ parts_are first last → result ≡ Some (octets_are first last)

-- the same of one octet
abbrev pub GivesPlain : ℕ → List Part → Option (List ℕ) → Type 0
GivesPlain kind parts result = (last : ℕ) → last < 256 → parts ≡ plain_parts last → result ≡ Some (short_octets kind 0 last)
