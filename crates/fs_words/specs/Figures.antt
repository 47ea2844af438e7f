-- Numbers as words have them.
use Rattle.std.specs.{Prelude.{ℕ, List, false}, Fmt.{digits}}
use Rattle.hex.specs.Hex.{encode_lower}
use Rattle.byteorder.specs.Endian.{big_bytes}

-- a number in hexadecimal without leading zeros
abbrev pub hexadecimal : ℕ → List ℕ
hexadecimal number = digits 16 false number

-- a number of so many octets in hexadecimal, two digits for each
abbrev pub octets_text : ℕ → ℕ → List ℕ
octets_text width number = encode_lower (big_bytes width number)
