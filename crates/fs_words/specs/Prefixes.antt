-- The words of prefix components (RFC 8955 section 4.2.2.1, RFC 8956 section 3.1).
use Rattle.std.specs.Prelude.{ℕ, ◌/◌, ◌^◌, ◌==◌, List, [], ◌∷◌, ◌++◌, map, if◌then◌else◌, codes, decimal, flat_map}
use Rattle.std.specs.{List.{join_with_byte}, Int.{to_be_bytes, w32, w128}, Net.Addr.{segments_of}}
use Rattle.fs_words.specs.Figures.{hexadecimal}

-- an IPv4 address: its four octets in decimal with dots between them
abbrev pub address_text : ℕ → List ℕ
address_text address = join_with_byte 46 (map decimal (to_be_bytes w32 address))

-- groups of 16 bits in hexadecimal without leading zeros, with colons between them
abbrev pub next_group : ℕ → List ℕ
next_group group = codes ":" ++ hexadecimal group

abbrev pub groups_text : List ℕ → List ℕ
groups_text [] = []
groups_text (group ∷ groups) = hexadecimal group ++ flat_map next_group groups

-- an IPv6 address: its eight groups, none of them left out
abbrev pub wide_address_text : ℕ → List ℕ
wide_address_text address = groups_text (segments_of (to_be_bytes w128 address))

abbrev pub v4_text : (len bits : ℕ) → List ℕ
v4_text len bits = address_text bits ++ (codes "/" ++ decimal len)

-- the offset is written where it isn't 0
abbrev pub offset_text : ℕ → List ℕ
offset_text offset = if offset == 0 then [] else codes "-" ++ decimal offset

-- the address whose bits from the offset on are the pattern; the others are 0
abbrev pub v6_text : (len offset pattern : ℕ) → List ℕ
v6_text len offset pattern =
    wide_address_text (pattern / 2 ^ offset) ++ (codes "/" ++ (decimal len ++ offset_text offset))
