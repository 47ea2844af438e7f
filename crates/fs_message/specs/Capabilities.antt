-- The parameters of an OPEN, their capabilities, and what these say (RFC 5492; RFC 4760, section 8; RFC 6793, section 3).
use Rattle.std.specs.Prelude.{ℕ, Bool, true, ◌&&◌, ◌||◌, ◌==◌, nat_le, if◌then◌else◌, List, [], ◌∷◌, length, take, drop, get_or, Option, Some, None}
use Rattle.std.specs.Prelude.{option_map, find, flat_map}
use Rattle.std.specs.List.{list_any, list_all}
use Rattle.byteorder.specs.Endian.{big_number}
use Rattle.fs_base.specs.Parts.{parts_of}
use Rattle.fs_message.specs.declared.capabilities.{Found.{Found}, Field.{Field as Lent}}

-- A type, a length and a value of that length: a parameter, or a capability.
pub record Field : Type 0 where
  pub kind : ℕ
  pub value : List ℕ

abbrev pub field : ℕ → List ℕ → Field
field kind value = record { kind = kind; value = value }

abbrev pub first_field : List ℕ → Option (Field × List ℕ)
first_field (kind ∷ size ∷ rest) = if nat_le size (length rest) then Some (field kind (take size rest), drop size rest) else None
first_field _ = None

-- The fields of the octets, and whether these are fields and nothing else.
abbrev pub fields_of : List ℕ → List Field
fields_of octets = (parts_of first_field octets).0

abbrev pub are_fields : List ℕ → Bool
are_fields octets = length (parts_of first_field octets).1 == 0

-- Capability 1 names a family, 65 a four-octet AS: each has four octets.
abbrev pub is_capability : Field → Bool
is_capability capability = if capability.kind == 1 || capability.kind == 65 then length capability.value == 4 else true

-- A parameter is a list of capabilities, type 2 (RFC 5492, section 4).
abbrev pub is_parameter : Field → Bool
is_parameter parameter = (parameter.kind == 2) && (are_fields parameter.value && list_all is_capability (fields_of parameter.value))

abbrev pub are_parameters : List ℕ → Bool
are_parameters octets = are_fields octets && list_all is_parameter (fields_of octets)

abbrev pub capabilities_of : List ℕ → List Field
capabilities_of octets = flat_map (λ parameter. fields_of parameter.value) (fields_of octets)

-- The four-octet AS of the first capability 65 (RFC 6793).
abbrev pub four_octet_as : List Field → Option ℕ
four_octet_as capabilities = option_map (λ capability. big_number 4 capability.value) (find (λ capability. capability.kind == 65) capabilities)

-- A capability names the family: AFI in two octets, one octet unread, and SAFI (RFC 4760, section 8).
abbrev pub names_family : ℕ → ℕ → Field → Bool
names_family afi safi capability =
    (capability.kind == 1) && ((big_number 2 capability.value == afi) && (get_or capability.value 3 0 == safi))

-- a field that is lent
abbrev pub field_of : Lent → Field
field_of given = field given.kind given.value.now

-- what a list of capabilities says
abbrev pub found_in : List Field → Found
found_in capabilities = record {
  asn = four_octet_as capabilities;
  v4_unicast = list_any (names_family 1 1) capabilities;
  v4_flow = list_any (names_family 1 133) capabilities;
  v6_unicast = list_any (names_family 2 1) capabilities;
  v6_flow = list_any (names_family 2 133) capabilities;
}

abbrev pub first_of_two : Option ℕ → Option ℕ → Option ℕ
first_of_two (Some asn) later = Some asn
first_of_two None later = later

-- what earlier capabilities say, and then later ones
abbrev pub with_later : Found → Found → Found
with_later found later = record {
  asn = first_of_two found.asn later.asn;
  v4_unicast = found.v4_unicast || later.v4_unicast;
  v4_flow = found.v4_flow || later.v4_flow;
  v6_unicast = found.v6_unicast || later.v6_unicast;
  v6_flow = found.v6_flow || later.v6_flow;
}

-- what is found, with one more capability
abbrev pub added : Found → Field → Option Found
added found capability = if is_capability capability then Some (with_later found (found_in (capability ∷ []))) else None

-- a parameter's capabilities, behind those found
abbrev pub gathered : Found → List ℕ → Option Found
gathered found octets =
    if are_fields octets && list_all is_capability (fields_of octets) then Some (with_later found (found_in (fields_of octets))) else None

-- all parameters' capabilities, behind those found
abbrev pub all_gathered : Found → List ℕ → Option Found
all_gathered found octets =
    if are_parameters octets then Some (with_later found (found_in (capabilities_of octets))) else None
