-- The fields of an UPDATE's body and its path attributes (RFC 4271, section 4.3).
use Rattle.std.specs.Prelude.{ℕ, ◌==◌, Bool, false, ◌&&◌, ◌||◌, not, bit_and, nat_le, nat_lt, if◌then◌else◌, List, [], ◌∷◌, length, take, drop}
use Rattle.std.specs.Prelude.{Option, Some, None, option_map, option_and_then, find, filter}
use Rattle.std.specs.{Option.{option_or, is_some, is_none}, Borrow.{Bor}}
use Rattle.byteorder.specs.Endian.{big_number}
use Rattle.fs_base.specs.Parts.{parts_of}
use Rattle.fs_attrs.specs.declared.attributes.{Fields.{Fields}, Lent.{Lent}, Values.{Values}}

-- A path attribute: its type and its value. Of its flags only that of the longer length is read.
pub record Attribute : Type 0 where
  pub kind : ℕ
  pub value : List ℕ

abbrev pub attribute : ℕ → List ℕ → Attribute
attribute kind value = record { kind = kind; value = value }

-- so many octets, and what follows them
abbrev pub sized : ℕ → List ℕ → Option (List ℕ × List ℕ)
sized size octets = if nat_le size (length octets) then Some (take size octets, drop size octets) else None

-- a length in one octet, then so many octets
abbrev pub short_field : List ℕ → Option (List ℕ × List ℕ)
short_field [] = None
short_field (size ∷ rest) = sized size rest

-- a length in two octets, then so many octets
abbrev pub long_field : List ℕ → Option (List ℕ × List ℕ)
long_field octets = if nat_lt (length octets) 2 then None else sized (big_number 2 octets) (drop 2 octets)

-- Flags, type, length and value; the Extended Length bit of the flags says that the length has two octets.
abbrev pub first_attribute : List ℕ → Option (Attribute × List ℕ)
first_attribute (flags ∷ kind ∷ rest) =
    option_map (λ found. (attribute kind found.0, found.1)) (if bit_and flags 16 == 0 then short_field rest else long_field rest)
first_attribute _ = None

abbrev pub attributes_of : List ℕ → List Attribute
attributes_of octets = (parts_of first_attribute octets).0

abbrev pub are_attributes : List ℕ → Bool
are_attributes octets = length (parts_of first_attribute octets).1 == 0

-- the value of the first attribute of a type; later ones of it are not read (RFC 7606, section 3(g))
abbrev pub value_of : ℕ → List Attribute → Option (List ℕ)
value_of kind attributes = option_map (λ found. found.value) (find (λ attribute. attribute.kind == kind) attributes)

abbrev pub is_doubled : ℕ → List Attribute → Bool
is_doubled kind attributes = nat_lt 1 (length (filter (λ attribute. attribute.kind == kind) attributes))

-- an attribute of type a stands before all of type b
abbrev pub stands_before : ℕ → ℕ → List Attribute → Bool
stands_before a b attributes =
    elim (find (λ attribute. (attribute.kind == a) || (attribute.kind == b)) attributes) [ Some first ↦ first.kind == a | None ↦ false ]

-- of the two attributes with routes, MP_REACH_NLRI 14 and MP_UNREACH_NLRI 15, one stands twice
abbrev pub routes_doubled : List Attribute → Bool
routes_doubled attributes = is_doubled 14 attributes || is_doubled 15 attributes

-- The values that are read, each that of the first attribute of its type; and whether MP_UNREACH_NLRI stands
-- before MP_REACH_NLRI.
pub record Valued : Type 0 where
  pub origin : Option (List ℕ)
  pub as_path : Option (List ℕ)
  pub local_pref : Option (List ℕ)
  pub originator : Option (List ℕ)
  pub reach : Option (List ℕ)
  pub unreach : Option (List ℕ)
  pub communities : Option (List ℕ)
  pub unreach_first : Bool

abbrev pub values_of : List Attribute → Valued
values_of attributes = record {
  origin = value_of 1 attributes;
  as_path = value_of 2 attributes;
  local_pref = value_of 5 attributes;
  originator = value_of 9 attributes;
  reach = value_of 14 attributes;
  unreach = value_of 15 attributes;
  communities = value_of 16 attributes;
  unreach_first = stands_before 15 14 attributes;
}

-- None where the octets are not whole attributes, or an attribute with routes stands twice
abbrev pub values_in : List ℕ → Option Valued
values_in octets =
    if are_attributes octets && not (routes_doubled (attributes_of octets)) then Some (values_of (attributes_of octets)) else None

-- A body: withdrawn IPv4 routes, path attributes, and IPv4 routes to the end.
pub record Body : Type 0 where
  pub withdrawn : List ℕ
  pub values : Valued
  pub announced : List ℕ

abbrev pub body : List ℕ → Valued → List ℕ → Body
body withdrawn values announced = record { withdrawn = withdrawn; values = values; announced = announced }

abbrev pub body_with : List ℕ → List ℕ × List ℕ → Option Body
body_with withdrawn rest = option_map (λ values. body withdrawn values rest.1) (values_in rest.0)

-- None where a length or an attribute passes the end of what holds it, or an attribute with routes stands twice
abbrev pub body_of : List ℕ → Option Body
body_of octets = option_and_then (λ first. option_and_then (λ rest. body_with first.0 rest) (long_field first.1)) (long_field octets)

-- an attribute, values and a body that are lent
abbrev pub lent : Lent → Attribute
lent given = attribute given.kind given.value.now

abbrev pub lent_value : Option (Bor (List ℕ)) → Option (List ℕ)
lent_value value = option_map (λ octets. octets.now) value

abbrev pub lent_values : Values → Valued
lent_values values = record {
  origin = lent_value values.origin;
  as_path = lent_value values.as_path;
  local_pref = lent_value values.local_pref;
  originator = lent_value values.originator;
  reach = lent_value values.reach;
  unreach = lent_value values.unreach;
  communities = lent_value values.communities;
  unreach_first = values.unreach_first;
}

abbrev pub lent_body : Fields → Body
lent_body fields = body fields.withdrawn.now (lent_values fields.values) fields.announced.now

-- what is kept of a type behind one attribute more, which is of the type or not
abbrev pub kept_of : Bool → Option (List ℕ) → List ℕ → Option (List ℕ)
kept_of here kept value = if here then option_or kept (Some value) else kept

-- the values behind one attribute more
abbrev pub values_with : Valued → Attribute → Valued
values_with values next = record {
  origin = kept_of (next.kind == 1) values.origin next.value;
  as_path = kept_of (next.kind == 2) values.as_path next.value;
  local_pref = kept_of (next.kind == 5) values.local_pref next.value;
  originator = kept_of (next.kind == 9) values.originator next.value;
  reach = kept_of (next.kind == 14) values.reach next.value;
  unreach = kept_of (next.kind == 15) values.unreach next.value;
  communities = kept_of (next.kind == 16) values.communities next.value;
  unreach_first = if next.kind == 15 then is_none values.reach else values.unreach_first;
}

-- an attribute of this type with routes has been kept
abbrev pub has_kept : Valued → ℕ → Bool
has_kept values kind = ((kind == 14) && is_some values.reach) || ((kind == 15) && is_some values.unreach)
