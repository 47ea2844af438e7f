-- Where the network packet begins in a frame, and the fields of a captured packet, or the first test of its headers
-- that fails (RFC 791 section 3.1, RFC 8200 sections 3 and 4).
use Rattle.std.specs.Prelude.{ℕ, zero, suc, ◌+◌, ◌*◌, ◌/◌, ◌==◌, Bool, true, false, not, ◌&&◌, ◌||◌, bit_and, List, [], length, take, drop}
use Rattle.std.specs.Prelude.{slice_index, nat_lt, if◌then◌else◌, Option, Some, None, Result, Ok, Err}
use denote.Ref.{Bor}
use Rattle.fs_base.specs.declared.prefix.Family.{Family, TheVariants.{V4, V6}}
use Rattle.fs_base.specs.declared.link.Link.{Link, TheVariants.{Ethernet, Raw, Cooked, CookedTwo, V4 as V4Link, V6 as V6Link}}
use Rattle.fs_packet.specs.declared.fields.Unread.{Unread, TheVariants.{Foreign, Short, Version, Header, Length}}
use Rattle.fs_packet.specs.{Chain.{chain_of, last_field, protocol_at}, Fields.{Viewed, number_at, viewed}}

-- EtherTypes
abbrev pub family_of_type : ℕ → Option Family
family_of_type number = if number == 0x0800 then Some V4 else if number == 0x86dd then Some V6 else None

abbrev pub is_tag : ℕ → Bool
is_tag number = (number == 0x8100) || (number == 0x88a8)

-- the network packet behind a link header of so many octets, whose EtherType stands at the place
abbrev pub behind_type : (place size : ℕ) → List ℕ → Result (Family × List ℕ) Unread
behind_type place size octets =
    if nat_lt (length octets) size then Err Short
    else
    elim (family_of_type (number_at 2 octets place)) [
      | Some family ↦ Ok (family, drop size octets)
      | None ↦ Err Foreign
    ]

-- the same behind an Ethernet header with at most so many tags of four octets, the first EtherType at the place
abbrev pub behind_tags : (tags place : ℕ) → List ℕ → Result (Family × List ℕ) Unread
behind_tags zero place octets = behind_type place (place + 2) octets
behind_tags (suc tags) place octets =
    if nat_lt (length octets) (place + 2) then Err Short
    else if is_tag (number_at 2 octets place) then behind_tags tags (place + 4) octets
    else behind_type place (place + 2) octets

-- the packet behind a link header, as the code lends it
abbrev pub found_in : Result (Family × Bor (List ℕ)) Unread → Result (Family × List ℕ) Unread
found_in (Ok found) = Ok (found.0, found.1.now)
found_in (Err unread) = Err unread

-- the fragment bits of a rule (RFC 8955 section 4.2.2.12): IsF 2, FF 4, LF 8
abbrev pub fragment_of : (at_start more : Bool) → ℕ
fragment_of true true = 4
fragment_of true false = 0
fragment_of false true = 2
fragment_of false false = 10

-- the flags and the offset of an IPv4 header (RFC 791 section 3.1); DF, 1, is of IPv4 alone
abbrev pub v4_starts : (field : ℕ) → Bool
v4_starts field = bit_and field 0x1fff == 0

abbrev pub v4_fragment : (field : ℕ) → ℕ
v4_fragment field =
    (if bit_and field 0x4000 == 0 then 0 else 1) + fragment_of (v4_starts field) (not (bit_and field 0x2000 == 0))

-- the offset and the more-fragments flag of a fragment header (RFC 8200 section 4.5)
abbrev pub v6_fragment : (field : ℕ) → ℕ
v6_fragment field = fragment_of (field / 8 == 0) (not (bit_and field 1 == 0))

-- the octets of the packet from a place on that its length holds too
abbrev pub held_from : (place len : ℕ) → List ℕ → List ℕ
held_from place len packet = drop place (take len packet)

-- the octets of an IPv4 header
abbrev pub v4_size : List ℕ → ℕ
v4_size packet = bit_and (slice_index packet 0) 0x0f * 4

-- only the first fragment has the upper layer's header
abbrev pub v4_transport : List ℕ → List ℕ
v4_transport packet =
    if v4_starts (number_at 2 packet 6) then held_from (v4_size packet) (number_at 2 packet 2) packet else []

-- the fields of an IPv4 header that passes all tests
abbrev pub v4_viewed : List ℕ → Viewed
v4_viewed packet =
    viewed V4 packet (number_at 2 packet 2) (Some (slice_index packet 9)) (v4_fragment (number_at 2 packet 6))
    (v4_transport packet)

abbrev pub v4_view : List ℕ → Result Viewed Unread
v4_view packet =
    if length packet == 0 then Err Short
    else if not (slice_index packet 0 / 16 == 4) then Err Version
    else if nat_lt (v4_size packet) 20 then Err Header
    else if nat_lt (length packet) (v4_size packet) then Err Short
    else if nat_lt (number_at 2 packet 2) (v4_size packet) then Err Length
    else Ok (v4_viewed packet)

-- the payload length doesn't count the 40 octets of the header
abbrev pub v6_length : List ℕ → ℕ
v6_length packet = 40 + number_at 2 packet 4

abbrev pub v6_chain : List ℕ → List (Option ℕ) × List ℕ
v6_chain packet = chain_of (slice_index packet 6) (held_from 40 (v6_length packet) packet)

-- the fields of an IPv6 header that passes all tests
abbrev pub v6_viewed : List ℕ → Viewed
v6_viewed packet =
    let chain = v6_chain packet in
    viewed V6 packet (v6_length packet) (protocol_at chain.1) (v6_fragment (last_field 0 chain.0)) (drop 1 chain.1)

abbrev pub v6_view : List ℕ → Result Viewed Unread
v6_view packet =
    if length packet == 0 then Err Short
    else if not (slice_index packet 0 / 16 == 6) then Err Version
    else if nat_lt (length packet) 40 then Err Short
    else if (number_at 2 packet 4 == 0) && (slice_index packet 6 == 0) then Err Length
    else Ok (v6_viewed packet)

abbrev pub packet_view : Family → List ℕ → Result Viewed Unread
packet_view V4 packet = v4_view packet
packet_view V6 packet = v6_view packet

abbrev pub behind_link : Result (Family × List ℕ) Unread → Result Viewed Unread
behind_link (Ok found) = packet_view found.0 found.1
behind_link (Err unread) = Err unread

-- a raw packet says its version itself
abbrev pub raw_view : List ℕ → Result Viewed Unread
raw_view packet = if slice_index packet 0 / 16 == 6 then v6_view packet else v4_view packet

abbrev pub view_of : Link → List ℕ → Result Viewed Unread
view_of Ethernet octets = behind_link (behind_tags 2 12 octets)
view_of Raw octets = raw_view octets
view_of Cooked octets = behind_link (behind_type 14 16 octets)
view_of CookedTwo octets = behind_link (behind_type 0 20 octets)
view_of V4Link octets = v4_view octets
view_of V6Link octets = v6_view octets
