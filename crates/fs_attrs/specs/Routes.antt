-- The routes of MP_REACH_NLRI and MP_UNREACH_NLRI (RFC 4760, sections 3 and 4; RFC 8955, section 4), or the fault of one.
use Rattle.std.specs.Prelude.{◌≡◌, ℕ, ◌+◌, ◌==◌, Bool, false, not, ◌&&◌, ◌||◌, nat_lt, if◌then◌else◌, List, length, drop, get_or, Option, Some, None}
use Rattle.std.specs.Prelude.{Result, Ok, Err, ⊤}
use Rattle.byteorder.specs.Endian.{big_number}
use Rattle.fs_base.specs.declared.prefix.Family.{Family, TheVariants.{V4, V6}}
use Rattle.fs_nlri.specs.{declared.fault.{Reason.{Reason}, NlriFault.{NlriFault, TheVariants.{Bad, Memory as NoMemory}}}, Outcome.{AreBadFrames}}
use Rattle.fs_nlri.specs.Reading.{rules_of}
use Rattle.fs_attrs.specs.declared.update.{Routes.{Routes, TheVariants.{Unicast, Flow}}, UpdateFault.{UpdateFault, TheVariants.{Optional, Memory}}}
use Rattle.fs_attrs.specs.{Attributes.{Valued}, Prefixes.{are_prefixes, prefixes_of}}

-- a fault of MP_REACH_NLRI or MP_UNREACH_NLRI, with the reason and the place of an NLRI's own fault
abbrev pub Wrong : Type 0
Wrong = Option (Reason × ℕ)

abbrev pub unicast_routes : Family → List ℕ → Result (Option Routes) Wrong
unicast_routes family octets = if are_prefixes family octets then Ok (Some (Unicast family (prefixes_of family octets))) else Err None

abbrev pub flow_routes : Family → List ℕ → Result (Option Routes) Wrong
flow_routes family octets = elim (rules_of family octets) [ Ok rules ↦ Ok (Some (Flow family rules)) | Err bad ↦ Err (Some bad) ]

-- The four families that are read (RFC 4760, RFC 8955, RFC 8956), by AFI and SAFI; of others nothing is.
abbrev pub routes_of : ℕ → ℕ → List ℕ → Result (Option Routes) Wrong
routes_of afi safi octets =
    if (afi == 1) && (safi == 1) then unicast_routes V4 octets
    else if (afi == 2) && (safi == 1) then unicast_routes V6 octets
    else if (afi == 1) && (safi == 133) then flow_routes V4 octets
    else if (afi == 2) && (safi == 133) then flow_routes V6 octets
    else Ok None

abbrev pub is_read : ℕ → ℕ → Bool
is_read afi safi = ((afi == 1) || (afi == 2)) && ((safi == 1) || (safi == 133))

abbrev pub afi_in : List ℕ → ℕ
afi_in value = big_number 2 value

abbrev pub safi_in : List ℕ → ℕ
safi_in value = get_or value 2 0

-- MP_REACH_NLRI: AFI, SAFI, the next hop's length and octets, a reserved octet, and routes.
abbrev pub reach_of : List ℕ → Result (Option Routes) Wrong
reach_of value =
    if nat_lt (length value) 3 then Err None
    else if not (is_read (afi_in value) (safi_in value)) then Ok None
    else if nat_lt (length value) 4 then Err None
    else if nat_lt (length value) (5 + get_or value 3 0) then Err None
    else routes_of (afi_in value) (safi_in value) (drop (5 + get_or value 3 0) value)

-- MP_UNREACH_NLRI: AFI, SAFI, and routes.
abbrev pub unreach_of : List ℕ → Result (Option Routes) Wrong
unreach_of value = if nat_lt (length value) 3 then Err None else routes_of (afi_in value) (safi_in value) (drop 3 value)

abbrev pub if_there : (List ℕ → Result (Option Routes) Wrong) → Option (List ℕ) → Result (Option Routes) Wrong
if_there read (Some value) = read value
if_there read None = Ok None

-- The two, as MP_REACH_NLRI and MP_UNREACH_NLRI; the one that stands first is judged first.
abbrev pub both_of : Result (Option Routes) Wrong → Result (Option Routes) Wrong → Bool → Result (Option Routes × Option Routes) Wrong
both_of reach unreach unreach_first =
    if unreach_first
    then elim unreach [ Err wrong ↦ Err wrong | Ok out ↦ elim reach [ Err wrong ↦ Err wrong | Ok routes ↦ Ok (routes, out) ] ]
    else elim reach [ Err wrong ↦ Err wrong | Ok routes ↦ elim unreach [ Err wrong ↦ Err wrong | Ok out ↦ Ok (routes, out) ] ]

abbrev pub optional_of : Valued → Result (Option Routes × Option Routes) Wrong
optional_of values = both_of (if_there reach_of values.reach) (if_there unreach_of values.unreach) values.unreach_first

-- some route is given
abbrev pub has_routes : Option Routes → Bool
has_routes (Some (Unicast family prefixes)) = not (length prefixes == 0)
has_routes (Some (Flow family rules)) = not (length rules == 0)
has_routes None = false

-- what is answered where memory is there
abbrev pub ReadsAs : {A : Type 0} → Result A UpdateFault → Result A Wrong → Type 0
ReadsAs (Ok found) wanted = wanted ≡ Ok found
ReadsAs (Err (Optional wrong)) wanted = wanted ≡ Err wrong
ReadsAs (Err Memory) wanted = ⊤
ReadsAs (Err _) wanted = ⊥

abbrev pub field_fault : NlriFault → UpdateFault
field_fault (Bad reason place) = Optional (Some (reason, place))
field_fault NoMemory = Memory

-- the fault of a field; at want of memory anything
abbrev pub IsFieldFault : Family → List ℕ → NlriFault → Type 0
IsFieldFault family octets (Bad reason place) = AreBadFrames family octets reason place
IsFieldFault family octets NoMemory = ⊤
