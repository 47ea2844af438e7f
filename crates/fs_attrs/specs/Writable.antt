-- The updates that can be written.
use Rattle.std.specs.Prelude.{◌==◌, Bool, true, false, not, ◌&&◌, ◌||◌, nat_le, if◌then◌else◌, List, length, Option, Some, None}
use Rattle.std.specs.{List.{list_all}, Option.{is_some, is_none}}
use Rattle.fs_base.specs.{declared.{path.Path.{Path}, prefix.Family.{Family, TheVariants.{V4, V6}}}, Bits.{afi_of}}
use Rattle.fs_nlri.specs.Parts.{Ruled}
use Rattle.fs_attrs.specs.declared.update.{Terms.{Terms}, Routes.{Routes, TheVariants.{Unicast, Flow}}, Update.{Update}}
use Rattle.fs_attrs.specs.{Prefixes.{Shown}, Segments.{is_written_segment}}

abbrev pub are_prefixes_of : Family → List Shown → Bool
are_prefixes_of family prefixes = list_all (λ prefix. afi_of prefix.0 == afi_of family) prefixes

abbrev pub are_rules_of : Family → List Ruled → Bool
are_rules_of family rules = list_all (λ rule. afi_of rule.family == afi_of family) rules

-- Routes of their family, at least one; IPv4 unicast routes stand outside the attributes.
abbrev pub are_attribute_routes : Routes → Bool
are_attribute_routes (Unicast V4 prefixes) = false
are_attribute_routes (Unicast V6 prefixes) = not (length prefixes == 0) && are_prefixes_of V6 prefixes
are_attribute_routes (Flow family rules) = not (length rules == 0) && are_rules_of family rules

abbrev pub if_routes : Option Routes → Bool
if_routes (Some routes) = are_attribute_routes routes
if_routes None = true

-- An external peer is told no LOCAL_PREF and no ORIGINATOR_ID.
abbrev pub is_path_of_session : Terms → Path → Bool
is_path_of_session terms path =
    if terms.external then (path.external && (path.local_pref == 100)) && is_none path.originator else not path.external

abbrev pub is_written_path : Terms → Path → Bool
is_written_path terms path =
    (is_path_of_session terms path && nat_le path.origin 2) && list_all (is_written_segment terms.external) path.segments

abbrev pub announces : Update → Bool
announces update = is_some update.reach || not (length update.classic_in == 0)

-- A path stands exactly where routes are announced, and actions only beside it.
abbrev pub has_its_path : Terms → Update → Option Path → Bool
has_its_path terms update (Some path) = announces update && is_written_path terms path
has_its_path terms update None = not (announces update) && (length update.actions == 0)

-- The updates that can be written on these terms.
abbrev pub is_writable : Terms → Update → Bool
is_writable terms update =
    ((((not update.as_withdraw && are_prefixes_of V4 update.classic_out) && are_prefixes_of V4 update.classic_in)
    && if_routes update.reach) && if_routes update.unreach) && has_its_path terms update update.path
