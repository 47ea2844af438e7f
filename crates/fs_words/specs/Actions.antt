-- The words of actions (RFC 8955 section 7).
use Rattle.std.specs.{Prelude.{ℕ, ◌==◌, ◌||◌, List, ◌++◌, drop, slice_index, if◌then◌else◌, codes, decimal}, Option.{option_map_or}}
use Rattle.byteorder.specs.Endian.{big_number}
use Rattle.hex.specs.Hex.{encode_lower}
use Rattle.fs_actions.specs.{Community.{kind_of, redirect_of}, declared.community.Redirect.{Redirect, TheVariants.{As2, Ip4, As4}}}
use Rattle.fs_words.specs.Prefixes.{address_text}

-- by type and sub-type: traffic-rate in bytes and in packets, traffic-action, traffic-marking, rt-redirect
abbrev pub name_at : ℕ → List ℕ
name_at kind =
    if kind == 0x8006 then codes "bytes" else if kind == 0x800c then codes "packets"
    else if kind == 0x8007 then codes "control" else if kind == 0x8009 then codes "mark" else codes "redirect"

abbrev pub action_name : List ℕ → List ℕ
action_name action = name_at (kind_of action)

-- a route target, by the form of its community (RFC 8955 section 7.4)
abbrev pub target_text : Redirect → List ℕ
target_text (As2 asn number) = codes "as2:" ++ (decimal asn ++ (codes ":" ++ decimal number))
target_text (Ip4 address number) = codes "ip4:" ++ (address_text address ++ (codes ":" ++ decimal number))
target_text (As4 asn number) = codes "as4:" ++ (decimal asn ++ (codes ":" ++ decimal number))

-- the id of a traffic-rate in decimal, and the four octets of its figure in hexadecimal
abbrev pub rate_text : List ℕ → List ℕ
rate_text action = decimal (big_number 2 (drop 2 action)) ++ (codes ":" ++ encode_lower (drop 4 action))

-- the last octet of a traffic-action or a traffic-marking in decimal
abbrev pub plain_text : List ℕ → List ℕ
plain_text action =
    if (kind_of action == 0x8006) || (kind_of action == 0x800c) then rate_text action else decimal (slice_index action 7)

abbrev pub action_text : List ℕ → List ℕ
action_text action = option_map_or target_text (redirect_of action) (plain_text action)
