-- The parts of the words of prefixes.
use Rattle.std.specs.Prelude.{◌≡◌, ◌<◌, ◌≤◌, ◌-◌, ◌/◌, ◌%◌, ◌^◌, ◌==◌, ℕ, List, [], ◌∷◌, Some, Option, if◌then◌else◌, decimal}
use Rattle.fs_base.specs.{declared.prefix.Family.TheVariants.{V4}, Bits.{cleared}}
use Rattle.fs_nlri.specs.{Parts.{Body, V4Body, V6Body}, Spelling.{IsRange}}
use Rattle.fs_words.specs.Figures.{hexadecimal}
use Rattle.fs_text.specs.Pieces.{Part, Delimiter, Run}

-- an address, a mark and a number
abbrev pub address_parts : (mark address number : ℕ) → List Part
address_parts mark address number =
    Run (decimal (address / 2 ^ 24 % 256)) ∷ Delimiter 46 ∷ Run (decimal (address / 2 ^ 16 % 256)) ∷ Delimiter 46
    ∷ Run (decimal (address / 2 ^ 8 % 256)) ∷ Delimiter 46 ∷ Run (decimal (address % 256)) ∷ Delimiter mark ∷ Run (decimal number) ∷ []

abbrev pub v4_parts : (len bits : ℕ) → List Part
v4_parts len bits = address_parts 47 bits len

-- the last four groups of an IPv6 address, and what stands behind them
abbrev pub half_parts : ℕ → List Part → List Part
half_parts address rest =
    Run (hexadecimal (address / 2 ^ 48 % 2 ^ 16)) ∷ Delimiter 58 ∷ Run (hexadecimal (address / 2 ^ 32 % 2 ^ 16)) ∷ Delimiter 58
    ∷ Run (hexadecimal (address / 2 ^ 16 % 2 ^ 16)) ∷ Delimiter 58 ∷ Run (hexadecimal (address % 2 ^ 16)) ∷ rest

abbrev pub wide_parts : ℕ → List Part → List Part
wide_parts address rest = half_parts (address / 2 ^ 64) (Delimiter 58 ∷ half_parts address rest)

-- a length, and an offset that isn't 0
abbrev pub offset_parts : ℕ → List Part
offset_parts offset = if offset == 0 then [] else Delimiter 45 ∷ Run (decimal offset) ∷ []

abbrev pub range_parts : (len offset : ℕ) → List Part
range_parts len offset = Delimiter 47 ∷ Run (decimal len) ∷ offset_parts offset

-- what is read of the parts of an IPv4 prefix
abbrev pub GivesV4 : List Part → Option Body → Type 0
GivesV4 parts result =
    (len bits : ℕ) → len ≤ 32 → bits < 2 ^ 32 → bits ≡ cleared 32 len bits → parts ≡ v4_parts len bits → result ≡ Some (V4Body V4 len bits)

-- the same of IPv6
abbrev pub GivesV6 : List Part → Option Body → Type 0
GivesV6 parts result =
    (len offset pattern : ℕ) → IsRange len offset → pattern ≡ cleared 128 (len - offset) pattern
    → parts ≡ wide_parts (pattern / 2 ^ offset) (range_parts len offset) → result ≡ Some (V6Body len offset pattern)
