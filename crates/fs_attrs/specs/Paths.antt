-- The path attributes of routes (RFC 4271, section 4.3; RFC 4456, section 8).
use Rattle.std.specs.Prelude.{ℕ, ◌==◌, Bool, false, not, ◌&&◌, ◌||◌, nat_le, if◌then◌else◌, List, [], length, get_or, Option, Some, None}
use Rattle.std.specs.Prelude.{option_and_then, unwrap_or}
use Rattle.std.specs.{Option.{is_none, option_map_or}, List.{list_any}}
use Rattle.byteorder.specs.Endian.{big_number}
use Rattle.fs_base.specs.declared.path.Path.{Path}
use Rattle.fs_actions.specs.Actions.{are_communities}
use Rattle.fs_attrs.specs.{Attributes.{Valued}, Segments.{segments_of, are_segments, is_confederation}, declared.update.Terms.{Terms}}

-- ORIGIN is one octet 0, 1 or 2.
abbrev pub origin_wrong : List ℕ → Bool
origin_wrong value = not ((length value == 1) && nat_le (get_or value 0 0) 2)

-- AS_PATH is segments; an external peer gives none of a confederation.
abbrev pub path_wrong : Terms → List ℕ → Bool
path_wrong terms value =
    not (are_segments terms.four value) || (terms.external && list_any is_confederation (segments_of terms.four value))

-- LOCAL_PREF and ORIGINATOR_ID have four octets; of an external peer they are not read.
abbrev pub number_wrong : Terms → List ℕ → Bool
number_wrong terms value = not terms.external && not (length value == 4)

-- the attribute of a type is there and wrong
abbrev pub is_wrong : (List ℕ → Bool) → Option (List ℕ) → Bool
is_wrong wrong value = option_map_or wrong value false

-- ORIGIN 1, AS_PATH 2, LOCAL_PREF 5, ORIGINATOR_ID 9 or extended communities 16 are malformed; or ORIGIN or
-- AS_PATH is missing where routes are given. Then the given routes are withdrawn (RFC 7606, sections 2 and 7).
abbrev pub withdraws : Terms → Valued → Bool → Bool
withdraws terms values gives =
    is_wrong origin_wrong values.origin || (is_wrong (path_wrong terms) values.as_path
    || (is_wrong (number_wrong terms) values.local_pref || (is_wrong (number_wrong terms) values.originator
    || (is_wrong (λ value. not (are_communities value)) values.communities
    || (gives && (is_none values.origin || is_none values.as_path))))))

abbrev pub four_octets : List ℕ → Option ℕ
four_octets value = if length value == 4 then Some (big_number 4 value) else None

abbrev pub number_of : Terms → Option (List ℕ) → Option ℕ
number_of terms value = if terms.external then None else option_and_then four_octets value

abbrev pub origin_of : Option (List ℕ) → ℕ
origin_of value = get_or (unwrap_or value []) 0 0

-- The path of the routes. A missing LOCAL_PREF counts as 100.
abbrev pub path_of : Terms → Valued → Path
path_of terms values = record {
  origin = origin_of values.origin;
  segments = segments_of terms.four (unwrap_or values.as_path []);
  local_pref = unwrap_or (number_of terms values.local_pref) 100;
  originator = number_of terms values.originator;
  external = terms.external;
}
