-- When a packet matches a rule (RFC 8955 section 4.2, RFC 8956 section 3): every component matches.
use Rattle.std.specs.{Prelude.{ℕ, ◌-◌, ◌*◌, ◌%◌, ◌^◌, ◌==◌, Bool, false, ◌&&◌, ◌||◌, List, if◌then◌else◌, Option, Some, None}, List.{list_all}}
use Rattle.fs_base.specs.{declared.config.Address.{Address, TheVariants.{V4, V6}}, Bits.{afi_of, cleared}}
use Rattle.fs_ops.specs.{Operator.{width_of}, Evaluation.{holds, compares, masks}}
use Rattle.fs_nlri.specs.Parts.{Body, V4Body, V6Body, ListBody, Part, Ruled}
use Rattle.fs_packet.specs.Fields.{Viewed}

-- the first bits of an IPv4 address; the bits of an IPv6 address from the offset up to the length
abbrev pub is_prefix_of : Body → Address → Bool
is_prefix_of (V4Body family len bits) (V4 address) = cleared 32 len address == bits
is_prefix_of (V6Body len offset pattern) (V6 address) = cleared 128 (len - offset) (address * 2 ^ offset) == pattern
is_prefix_of _ _ = false

-- a datum that is absent matches no list
abbrev pub holds_of : List (ℕ × ℕ) → Option ℕ → Bool
holds_of pairs None = false
holds_of pairs (Some datum) = holds (compares datum) pairs

-- a value of one octet is compared with the octet of the flags; one of two with the octet before it too, of which the
-- four bits of the data offset count as 0 (RFC 8955 section 4.2.2.9)
abbrev pub tcp_flags : ℕ → ℕ × ℕ → ℕ
tcp_flags octets pair = if width_of pair.0 == 1 then octets % 2 ^ 8 else octets % 2 ^ 12

abbrev pub flags_hold : List (ℕ × ℕ) → Option ℕ → Bool
flags_hold pairs None = false
flags_hold pairs (Some octets) = holds (λ pair. masks (tcp_flags octets pair) pair) pairs

-- the lists by their types
abbrev pub list_matches : Viewed → (kind : ℕ) → List (ℕ × ℕ) → Bool
list_matches view kind pairs =
    if kind == 3 then holds_of pairs view.protocol
    else if kind == 4 then holds_of pairs view.source_port || holds_of pairs view.destination_port
    else if kind == 5 then holds_of pairs view.destination_port
    else if kind == 6 then holds_of pairs view.source_port
    else if kind == 7 then holds_of pairs view.icmp_type
    else if kind == 8 then holds_of pairs view.icmp_code
    else if kind == 9 then flags_hold pairs view.tcp_octets
    else if kind == 10 then holds_of pairs (Some view.length)
    else if kind == 11 then holds_of pairs (Some view.dscp)
    else if kind == 12 then holds (masks view.fragment) pairs
    else if kind == 13 then holds_of pairs view.flow_label
    else false

abbrev pub body_matches : Viewed → (kind : ℕ) → Body → Bool
body_matches view kind (ListBody pairs) = list_matches view kind pairs
body_matches view kind body = if kind == 1 then is_prefix_of body view.destination else (if kind == 2 then is_prefix_of body view.source else false)

abbrev pub part_matches : Viewed → Part → Bool
part_matches view part = body_matches view part.kind part.body

-- the families are the same, and each component matches
abbrev pub is_match : Ruled → Viewed → Bool
is_match rule view = (afi_of rule.family == afi_of view.family) && list_all (part_matches view) rule.parts
