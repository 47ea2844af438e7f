-- Which extended communities are actions, which of their bits count, and what they say (RFC 8955 section 7).
use Rattle.std.specs.Prelude.{◌≡◌, ℕ, ◌^◌, ◌==◌, Bool, false, not, ◌&&◌, ◌||◌, List, [], ◌∷◌, ◌++◌, length, take, drop, find, slice_index, bit_and}
use Rattle.std.specs.Prelude.{nat_le, if◌then◌else◌, option_map, Option, Some, None}
use Rattle.std.specs.Option.{option_and_then, option_map_or}
use Rattle.byteorder.specs.Endian.{big_number}
use Rattle.fs_actions.specs.declared.community.Redirect.{Redirect, TheVariants.{As2, Ip4, As4}}
use Rattle.fs_actions.specs.declared.community.Rate.{Rate, TheVariants.{Bytes, Packets}}
use Rattle.fs_actions.specs.declared.community.Significant.{Significant, TheVariants.{EveryBit, OfLastOctet}}

-- the first two octets, a community's type and sub-type
abbrev pub kind_of : List ℕ → ℕ
kind_of community = big_number 2 community

-- the listed communities, and the significant bits of each: traffic-rate-bytes, traffic-rate-packets, traffic-action,
-- rt-redirect with a two-octet AS number, an IPv4 address and a four-octet AS number, traffic-marking (RFC 8955 sections 7.1 to 7.5)
abbrev pub listed : List (ℕ × Significant)
listed =
    (0x8006, EveryBit) ∷ (0x800c, EveryBit) ∷ (0x8007, OfLastOctet 0x03)
    ∷ (0x8008, EveryBit) ∷ (0x8108, EveryBit) ∷ (0x8208, EveryBit) ∷ (0x8009, OfLastOctet 0x3f) ∷ []

abbrev pub significant_of : ℕ → Option Significant
significant_of kind = option_map (λ row. row.1) (find (λ row. row.0 == kind) listed)

-- a community with every bit but the significant ones cleared
abbrev pub cleared : Significant → List ℕ → List ℕ
cleared EveryBit community = community
cleared (OfLastOctet bits) community = take 2 community ++ (0 ∷ 0 ∷ 0 ∷ 0 ∷ 0 ∷ bit_and (slice_index community 7) bits ∷ [])

-- the normal form of a community, if it is listed
abbrev pub normal_form : List ℕ → Option (List ℕ)
normal_form community = option_map (λ bits. cleared bits community) (significant_of (kind_of community))

-- an action: eight octets that normal form leaves as they are
pub record IsAction (action : List ℕ) : Type 0 where
  pub eight : length action ≡ 8
  pub normal : normal_form action ≡ Some action

-- a rate: its last four octets, a number of bytes or packets a second as IEEE 754 writes it (RFC 8955 sections 7.1 and 7.2)
abbrev pub rate_of : List ℕ → Option Rate
rate_of action =
    if kind_of action == 0x8006 then Some (Bytes (big_number 4 (drop 4 action)))
    else if kind_of action == 0x800c then Some (Packets (big_number 4 (drop 4 action)))
    else None

abbrev pub figure_of : Rate → ℕ
figure_of (Bytes figure) = figure
figure_of (Packets figure) = figure

-- nothing passes at a rate of zero; nor at one whose sign bit is set
abbrev pub is_nothing : Rate → Bool
is_nothing rate = (figure_of rate == 0) || nat_le (2 ^ 31) (figure_of rate)

abbrev pub is_discard : List ℕ → Bool
is_discard action = option_map_or is_nothing (rate_of action) false

-- a rate that lets something pass
abbrev pub limit_of : List ℕ → Option Rate
limit_of action = option_and_then (λ rate. if is_nothing rate then None else Some rate) (rate_of action)

-- a traffic-action with a bit of its last octet set (RFC 8955 section 7.3): 1 is T, 2 is S
abbrev pub has_flag : ℕ → List ℕ → Bool
has_flag bit action = (kind_of action == 0x8007) && not (bit_and (slice_index action 7) bit == 0)

-- the DSCP value of a traffic-marking (RFC 8955 section 7.5)
abbrev pub mark_of : List ℕ → Option ℕ
mark_of action = if kind_of action == 0x8009 then Some (slice_index action 7) else None

-- the route target of an rt-redirect (RFC 8955 section 7.4)
abbrev pub redirect_of : List ℕ → Option Redirect
redirect_of action =
    if kind_of action == 0x8008 then Some (As2 (big_number 2 (drop 2 action)) (big_number 4 (drop 4 action)))
    else if kind_of action == 0x8108 then Some (Ip4 (big_number 4 (drop 2 action)) (big_number 2 (drop 6 action)))
    else if kind_of action == 0x8208 then Some (As4 (big_number 4 (drop 2 action)) (big_number 2 (drop 6 action)))
    else None
