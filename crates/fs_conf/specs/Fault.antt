-- The first fault of a configuration file, in the order in which it is judged. First, whether it is a document of TOML.
-- Then its keys: one that it doesn't have, the first by their octets; then those that it has, in the order of FORMATS. Of
-- the peers, how many there are; then each in turn, by its keys likewise; then whether two have one number.
use Rattle.std.specs.Prelude.{ℕ, suc, ◌+◌, ◌≡◌, ◌≤◌, ◌==◌, nat_le, nat_lt, Bool, true, false, not, ◌&&◌, ◌||◌, ⊤, if◌then◌else◌, List, [], ◌∷◌, ◌++◌}
use Rattle.std.specs.Prelude.{length, take, codes, decimal, Option, Some, None, option_map, option_and_then, is_some, string_bytes}
use Rattle.std.specs.{List.{list_all, list_any}, Option.{option_or}, Str.{bytes_eq, is_utf8, Lossy.{utf8_valid_len}}}
use Rattle.hex.specs.Hex.{encode_lower}
use Rattle.toml.specs.Data.{Data, as_array, as_bool, as_integer, as_str, as_table, Items, no_items, item, Members, no_members, member, get_member}
use Rattle.fs_conf.specs.Address.{address_of}
use Rattle.fs_conf.specs.Config.{as_number, config_keys, hold_time_in, identifier, limit_in, peer_keys, written}
use Rattle.fs_conf.specs.{Document.{document_of}, Fields.{flag_or, number_in}}
use Rattle.fs_conf.specs.declared.fault.ConfigFault.{ConfigFault, TheVariants.{Key, Memory, Text as NoDocument}}
use Rattle.fs_conf.specs.declared.fault.Unread.{Unread, TheVariants.{At, Memory as NoneLeft}}
use Rattle.fs_conf.specs.declared.fault.KeyReason.{KeyReason, TheVariants.{Kind as OtherKind, Missing, Repeated, Unknown, Value}}
use Rattle.fs_conf.specs.declared.faults.{Kind.{Kind, TheVariants.{Array, Boolean, Integer, Text}}, Spot.{Spot}, Unfit.{Unfit}}

-- where a document breaks off

-- an octet inside a character (RFC 3629, section 3)
abbrev pub is_inner : ℕ → Bool
is_inner octet = nat_le 128 octet && nat_lt octet 192

-- a line, and a character in it, both counted from 1, behind one more octet
abbrev pub advance : ℕ × ℕ → ℕ → ℕ × ℕ
advance at octet =
    if octet == 10 then (at.0 + 1, 1) else if is_inner octet then at else (at.0, at.1 + 1)

abbrev pub position_from : ℕ × ℕ → List ℕ → ℕ × ℕ
position_from at [] = at
position_from at (octet ∷ octets) = position_from (advance at octet) octets

-- the line and the character of the place behind these octets
abbrev pub position_of : List ℕ → ℕ × ℕ
position_of before = position_from (1, 1) before

-- The octets are no document, and this is a place in them: where they aren't UTF-8, the first that isn't.
pub record IsNoDocument (octets : List ℕ) (line column : ℕ) : Type 0 where
  pub place : ℕ
  pub within : place ≤ length octets
  pub utf8 : is_utf8 octets ≡ false → place ≡ utf8_valid_len octets
  pub position_is : position_of (take place octets) ≡ (line, column)
  pub none : document_of octets ≡ None

-- why octets aren't read as a document; want of memory says nothing of them
abbrev pub IsUnread : List ℕ → Unread → Type 0
IsUnread octets (At line column) = IsNoDocument octets line column
IsUnread octets NoneLeft = ⊤

abbrev pub unread_config : Unread → ConfigFault
unread_config (At line column) = NoDocument line column
unread_config NoneLeft = Memory

-- what is wrong at a key

abbrev pub is_kind : Kind → Data → Bool
is_kind Integer value = is_some (as_integer value)
is_kind Boolean value = is_some (as_bool value)
is_kind Text value = is_some (as_str value)
is_kind Array value = is_some (as_array value)

-- why what stands there isn't accepted: it is missing, or of another kind, or no value that is taken
abbrev pub reason_at : Kind → (accepted : Bool) → Option Data → Option KeyReason
reason_at kind true found = None
reason_at kind false None = Some Missing
reason_at kind false (Some value) = Some (if is_kind kind value then Value else OtherKind)

-- a key, and what is wrong with it
pub record KeyUnfit : Type 0 where
  pub key : List ℕ
  pub reason : KeyReason

abbrev pub unfit : List ℕ → KeyReason → KeyUnfit
unfit key reason = record { key = key; reason = reason }

-- a test of a table's keys
abbrev pub Check : Type 0
Check = Members → Option KeyUnfit

-- the first key, by the order of octets, that is none of these
abbrev pub first_other : List (List ℕ) → Members → Option (List ℕ)
first_other names no_members = None
first_other names (member key value rest) =
    if list_any (λ name. bytes_eq name key) names then first_other names rest else Some key

abbrev pub unknown : List (List ℕ) → Check
unknown names members = option_map (λ key. unfit key Unknown) (first_other names members)

-- what stands at a key is accepted
abbrev pub judged : {A : Type 0} → (key : List ℕ) → Kind → (Option Data → Option A) → Check
judged key kind read members =
    option_map (unfit key) (reason_at kind (is_some (read (get_member key members))) (get_member key members))

-- the first of these tests that finds something
abbrev pub first_of : List Check → Check
first_of [] _ = None
first_of (check ∷ checks) members = option_or (check members) (first_of checks members)

abbrev pub document_checks : List Check
document_checks =
    unknown config_keys
    ∷ judged (codes "local_as") Integer as_number
    ∷ judged (codes "local_id") Text identifier
    ∷ judged (codes "allow_no_destination") Boolean (flag_or false)
    ∷ judged (codes "empty_path_valid") Boolean (flag_or true)
    ∷ judged (codes "hold_time") Integer hold_time_in
    ∷ []

abbrev pub peer_checks : List Check
peer_checks =
    unknown peer_keys
    ∷ judged (codes "number") Integer (number_in 1 65535)
    ∷ judged (codes "address") Text (written address_of)
    ∷ judged (codes "as") Integer as_number
    ∷ judged (codes "max_routes") Integer limit_in
    ∷ []

-- where in a document: at a key, at an item of the array there, counted from 1, or at a key of this item
pub record KeyFault : Type 0 where
  pub key : List ℕ
  pub item : Option ℕ
  pub inner : Option (List ℕ)
  pub reason : KeyReason

abbrev pub own_fault : KeyUnfit → KeyFault
own_fault found = record { key = found.key; item = None; inner = None; reason = found.reason }

-- a fault of the item at this place of the array at a key, or at a key of the item
abbrev pub item_fault : List ℕ → (place : ℕ) → Option (List ℕ) → KeyReason → KeyFault
item_fault key place inner reason = record { key = key; item = Some place; inner = inner; reason = reason }

-- the item is a table, and its keys are right
abbrev pub table_fault : (key : List ℕ) → Check → (place : ℕ) → Option Members → Option KeyFault
table_fault key check place None = Some (item_fault key place None OtherKind)
table_fault key check place (Some members) =
    option_map (λ (found : KeyUnfit). item_fault key place (Some found.key) found.reason) (check members)

-- the first of the items from this place on that has a fault
abbrev pub each_fault : (ℕ → Data → Option KeyFault) → (place : ℕ) → Items → Option KeyFault
each_fault judge place no_items = None
each_fault judge place (item value rest) = option_or (judge place value) (each_fault judge (suc place) rest)

abbrev pub peer_fault : (place : ℕ) → Data → Option KeyFault
peer_fault place value = table_fault (codes "peer") (first_of peer_checks) place (as_table value)

-- a peer's number, 0 where it has none
abbrev pub some_number : Option ℕ → ℕ
some_number None = 0
some_number (Some n) = n

abbrev pub number_of_peer : Data → ℕ
number_of_peer value =
    some_number (option_and_then (λ members. number_in 1 65535 (get_member (codes "number") members)) (as_table value))

abbrev pub numbers_of_peers : Items → List ℕ
numbers_of_peers no_items = []
numbers_of_peers (item value rest) = number_of_peer value ∷ numbers_of_peers rest

-- the place of the first number that stands before it too
abbrev pub first_again : (before : List ℕ) → List ℕ → Option ℕ
first_again before [] = None
first_again before (number ∷ numbers) =
    if list_any (λ earlier. number == earlier) before then Some (suc (length before))
    else first_again (before ++ number ∷ []) numbers

abbrev pub repeated : Items → Option KeyFault
repeated items =
    option_map (λ place. item_fault (codes "peer") place (Some (codes "number")) Repeated) (first_again [] (numbers_of_peers items))

abbrev pub item_count : Items → ℕ
item_count no_items = 0
item_count (item value rest) = suc (item_count rest)

abbrev pub items_fault : Items → Option KeyFault
items_fault items =
    if nat_le 1 (item_count items) && nat_le (item_count items) 1024
    then option_or (each_fault peer_fault 1 items) (repeated items)
    else Some (own_fault (unfit (codes "peer") Value))

-- what stands at `peer` is an array, of 1 to 1024 peers
abbrev pub array_in : Option Data → Option Items
array_in found = option_and_then as_array found

abbrev pub array_fault : Option Items → Option KeyFault
array_fault None = None
array_fault (Some items) = items_fault items

abbrev pub peers_fault : Members → Option KeyFault
peers_fault members =
    option_or (option_map own_fault (judged (codes "peer") Array array_in members))
    (array_fault (array_in (get_member (codes "peer") members)))

-- the first fault of a document as a configuration
abbrev pub config_fault : Members → Option KeyFault
config_fault members = option_or (option_map own_fault (first_of document_checks members)) (peers_fault members)

-- what is told of a fault

-- the letters, digits, `-` and `_` of a bare key
abbrev pub is_bare_octet : ℕ → Bool
is_bare_octet octet =
    (nat_le 97 octet && nat_le octet 122) || (nat_le 65 octet && nat_le octet 90) || (nat_le 48 octet && nat_le octet 57)
    || octet == 45 || octet == 95

abbrev pub is_bare : List ℕ → Bool
is_bare key = list_all is_bare_octet key && not (length key == 0)

-- no octet that has to be written otherwise between quotes
abbrev pub is_plain_octet : ℕ → Bool
is_plain_octet octet = nat_le 32 octet && not (octet == 34) && not (octet == 92) && not (octet == 127)

-- a key as it is written: bare, or between quotes; or, where that wants escapes, in hexadecimal
abbrev pub key_text : List ℕ → List ℕ
key_text key =
    if is_bare key then key
    else if list_all is_plain_octet key then codes "\"" ++ (key ++ codes "\"")
    else codes "0x" ++ encode_lower key

abbrev pub item_text : Option ℕ → List ℕ
item_text None = []
item_text (Some place) = codes " " ++ decimal place

abbrev pub inner_text : Option (List ℕ) → List ℕ
inner_text None = []
inner_text (Some key) = codes " " ++ key_text key

abbrev pub place_text : KeyFault → List ℕ
place_text fault = key_text fault.key ++ (item_text fault.item ++ inner_text fault.inner)

abbrev pub reason_name : KeyReason → List ℕ
reason_name Unknown = codes "Unknown"
reason_name Missing = codes "Missing"
reason_name OtherKind = codes "Kind"
reason_name Value = codes "Value"
reason_name Repeated = codes "Repeated"

abbrev pub fault_text : ConfigFault → List ℕ
fault_text (NoDocument line column) = codes "line " ++ (decimal line ++ (codes " column " ++ decimal column))
fault_text (Key place reason) = string_bytes place ++ (codes " " ++ reason_name reason)
fault_text Memory = codes "out of memory"

-- It is the first fault of these octets; want of memory says nothing of them.
abbrev pub IsFirstFault : List ℕ → ConfigFault → Type 0
IsFirstFault octets (NoDocument line column) = IsNoDocument octets line column
IsFirstFault octets (Key place reason) =
    (members : Members) × (document_of octets ≡ Some members) × (fault : KeyFault) × (config_fault members ≡ Some fault)
    × (string_bytes place ≡ place_text fault) × (reason ≡ fault.reason)
IsFirstFault octets Memory = ⊤

-- as the code lends them

abbrev pub unfit_shown : Unfit → KeyUnfit
unfit_shown found = unfit found.key.now found.reason

abbrev pub spot_shown : Spot → KeyFault
spot_shown spot =
    record { key = spot.key.now; item = spot.item; inner = option_map (λ key. key.now) spot.inner; reason = spot.reason }
