-- The body of an UPDATE that is written (RFC 4271, section 4.3; RFC 4760, sections 3 and 4; RFC 4456, section 8;
-- RFC 8955, section 4), and that it is read back. The order of the attributes is the project's own choice.
use Rattle.std.specs.Prelude.{◌≡◌, ℕ, ◌+◌, ◌^◌, ◌<◌, ◌≤◌, ◌==◌, Bool, true, ◌||◌, if◌then◌else◌, List, [], ◌∷◌, ◌++◌, length, flat_map, Option, Some}
use Rattle.std.specs.Prelude.{None, Result, Ok, Err, All, IsTrue, IfSome, ⊤}
use Rattle.std.specs.List.{concat, list_all}
use Rattle.byteorder.specs.Endian.{big_bytes}
use Rattle.fs_base.specs.{declared.{config.Address.{Address}, path.{Segment.{Segment}, Path.{Path}}, prefix.Family.TheVariants.{V4}}, Bits.{afi_of}}
use Rattle.fs_nlri.specs.Rule.{IsRule}
use Rattle.fs_actions.specs.Actions.{IsActions}
use Rattle.fs_message.specs.Write.{message_text}
use Rattle.fs_attrs.specs.declared.update.{Terms.{Terms}, Routes.{Routes, TheVariants.{Unicast, Flow}}, Update.{Update}}
use Rattle.fs_attrs.specs.declared.update.WriteFault.{WriteFault, TheVariants.{TooLong, Memory}}
use Rattle.fs_attrs.specs.{Attributes.{Attribute, attribute}, Lists.{IsPrefix}, Prefixes.{Shown}, Segments.{segments_text, AreNumbers, are_low}}
use Rattle.fs_attrs.specs.Texts.{long_text, prefixes_text, rules_text, attribute_text, next_hop}
use Rattle.fs_attrs.specs.Update.{update_of}

-- Flow routes have none (RFC 8955, section 4).
abbrev pub hop_of : Address → Routes → List ℕ
hop_of address (Unicast family prefixes) = next_hop family address
hop_of address (Flow family rules) = []

-- AFI and SAFI
abbrev pub family_of : Routes → List ℕ
family_of (Unicast family prefixes) = big_bytes 2 (afi_of family) ++ (1 ∷ [])
family_of (Flow family rules) = big_bytes 2 (afi_of family) ++ (133 ∷ [])

abbrev pub routes_text : Routes → List ℕ
routes_text (Unicast family prefixes) = prefixes_text prefixes
routes_text (Flow family rules) = rules_text rules

-- the next hop behind its length
abbrev pub hop_field : Address → Routes → List ℕ
hop_field address routes = length (hop_of address routes) ∷ hop_of address routes

-- AFI, SAFI, the next hop's length and octets, a reserved octet, and the routes
abbrev pub reach_text : Address → Routes → List ℕ
reach_text address routes = family_of routes ++ (hop_field address routes ++ (0 ∷ routes_text routes))

abbrev pub unreach_text : Routes → List ℕ
unreach_text routes = family_of routes ++ routes_text routes

abbrev pub reach_in : Terms → Option Routes → List Attribute
reach_in terms (Some routes) = attribute 14 (reach_text terms.address routes) ∷ []
reach_in terms None = []

abbrev pub unreach_in : Option Routes → List Attribute
unreach_in (Some routes) = attribute 15 (unreach_text routes) ∷ []
unreach_in None = []

-- NEXT_HOP stands where IPv4 routes stand behind the attributes.
abbrev pub next_hop_in : Terms → List Shown → List Attribute
next_hop_in terms announced = if length announced == 0 then [] else attribute 3 (next_hop V4 terms.address) ∷ []

-- LOCAL_PREF stands on internal sessions.
abbrev pub local_pref_in : Terms → ℕ → List Attribute
local_pref_in terms local_pref = if terms.external then [] else attribute 5 (big_bytes 4 local_pref) ∷ []

abbrev pub originator_in : Option ℕ → List Attribute
originator_in (Some id) = attribute 9 (big_bytes 4 id) ∷ []
originator_in None = []

abbrev pub actions_in : List (List ℕ) → List Attribute
actions_in actions = if length actions == 0 then [] else attribute 16 (concat actions) ∷ []

abbrev pub as_path_in : Terms → List Segment → List Attribute
as_path_in terms segments = attribute 2 (segments_text terms.four segments) ∷ []

-- ORIGIN, AS_PATH, NEXT_HOP, LOCAL_PREF, ORIGINATOR_ID and the actions as extended communities
abbrev pub path_in : Terms → Update → Option Path → List Attribute
path_in terms update (Some path) =
    attribute 1 (path.origin ∷ []) ∷ attribute 2 (segments_text terms.four path.segments)
    ∷ (next_hop_in terms update.classic_in ++ (local_pref_in terms path.local_pref ++ (originator_in path.originator ++ actions_in update.actions)))
path_in terms update None = []

abbrev pub written_attributes : Terms → Update → List Attribute
written_attributes terms update = reach_in terms update.reach ++ (unreach_in update.unreach ++ path_in terms update update.path)

-- The body of the UPDATE that says this update.
abbrev pub update_text : Terms → Update → List ℕ
update_text terms update =
    long_text (prefixes_text update.classic_out)
    ++ (long_text (flat_map attribute_text (written_attributes terms update)) ++ prefixes_text update.classic_in)

-- The message that has this body is appended; or it would pass 4096 octets, or memory is wanting, and nothing is.
abbrev pub Writes : Result (Unit {0}) WriteFault → List ℕ → List ℕ → List ℕ → Type 0
Writes (Ok _) body old new = (19 + length body ≤ 4096) × (new ≡ old ++ message_text 2 body)
Writes (Err TooLong) body old new = (4096 < 19 + length body) × (new ≡ old)
Writes (Err Memory) body old new = new ≡ old

-- What the types of an update's parts say of their values.
abbrev pub AreRoutes : Routes → Type 0
AreRoutes (Unicast family prefixes) = All IsPrefix prefixes
AreRoutes (Flow family rules) = All IsRule rules

abbrev pub IfRoutes : Option Routes → Type 0
IfRoutes (Some routes) = AreRoutes routes
IfRoutes None = ⊤

-- a path, and the actions beside it
pub record IsPath (beside : List (List ℕ)) (path : Path) : Type 0 where
  pub segments : All AreNumbers path.segments
  pub local_pref : path.local_pref < 2 ^ 32
  pub originator : IfSome path.originator (λ id. id < 2 ^ 32)
  pub actions : IsActions beside

pub record IsSound (update : Update) : Type 0 where
  pub classic_out : All IsPrefix update.classic_out
  pub classic_in : All IsPrefix update.classic_in
  pub reach : IfRoutes update.reach
  pub unreach : IfRoutes update.unreach
  pub path : IfSome update.path (IsPath update.actions)

-- AS numbers keep their values: AS_PATH has four octets for each, or none needs more than two.
abbrev pub path_kept : Option Path → Bool
path_kept (Some path) = list_all are_low path.segments
path_kept None = true

abbrev pub keeps_numbers : Terms → Update → Bool
keeps_numbers terms update = terms.four || path_kept update.path

-- What is written is read as the same update.
abbrev pub ReadsBack : Terms → Update → Type 0
ReadsBack terms update = IsTrue (keeps_numbers terms update) → update_of terms (update_text terms update) ≡ Ok update
