-- The headers of an IPv6 packet that stand before the upper layer's (RFC 8200 section 4).
use Rattle.std.specs.Prelude.{ℕ, ◌+◌, ◌*◌, ◌/◌, ◌==◌, Bool, ◌&&◌, ◌||◌, List, [], ◌∷◌, length, drop, slice_index, nat_le, if◌then◌else◌, Option, Some, None}
use Rattle.fs_base.specs.Parts.{parts_of}
use Rattle.fs_packet.specs.Fields.{number_at}

-- hop-by-hop options, routing, fragment, authentication, destination options
abbrev pub is_extension : ℕ → Bool
is_extension number = (number == 0) || ((number == 43) || ((number == 44) || ((number == 51) || (number == 60))))

-- the octets of such a header, by its second octet
abbrev pub extension_size : (number second : ℕ) → ℕ
extension_size number second =
    if number == 44 then 8
    else if number == 51 then (second + 2) * 4
    else (second + 1) * 8

-- what stands behind a fragment header: of a fragment that isn't the first nothing that could be a header
abbrev pub behind_fragment : (field : ℕ) → List ℕ → List ℕ
behind_fragment field octets = if field / 8 == 0 then drop 8 octets else []

-- what a header says: its offset and more-fragments field if it is a fragment header, and the number of the next
-- header before the octets of that
abbrev pub header_of : (number : ℕ) → List ℕ → Option ℕ × List ℕ
header_of number octets =
    if number == 44
    then (Some (number_at 2 octets 2), slice_index octets 0 ∷ behind_fragment (number_at 2 octets 2) octets)
    else (None, slice_index octets 0 ∷ drop (extension_size number (slice_index octets 1)) octets)

-- the header at the front of the octets, before which its number stands
abbrev pub first_header : List ℕ → Option (Option ℕ × List ℕ)
first_header [] = None
first_header (number ∷ octets) =
    if is_extension number && nat_le (extension_size number (slice_index octets 1)) (length octets)
    then Some (header_of number octets)
    else None

-- the headers behind a number, and the number and the octets that are no such header
abbrev pub chain_of : (number : ℕ) → List ℕ → List (Option ℕ) × List ℕ
chain_of number octets = parts_of first_header (number ∷ octets)

-- the field of the last fragment header, or the given one where there is none
abbrev pub last_field : ℕ → List (Option ℕ) → ℕ
last_field field [] = field
last_field field (None ∷ rest) = last_field field rest
last_field field (Some later ∷ rest) = last_field later rest

-- the number at the end of the chain is the protocol, unless a header should follow it that isn't whole
abbrev pub protocol_at : List ℕ → Option ℕ
protocol_at [] = None
protocol_at (number ∷ octets) = if is_extension number then None else Some number
