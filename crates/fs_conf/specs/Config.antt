-- The configuration file: a TOML document with these keys and no others.
use Rattle.std.specs.Prelude.{ℕ, ◌==◌, nat_le, Bool, true, false, not, ◌&&◌, ◌||◌, if◌then◌else◌, List, [], ◌∷◌, length, codes, Option, Some, None}
use Rattle.std.specs.Prelude.{option_map, option_and_then}
use Rattle.std.specs.List.{list_any}
use Rattle.toml.specs.Data.{Data, as_str, as_array, as_table, Items, Members, get_member}
use Rattle.fs_base.specs.declared.config.{Config.{Config}, Peer.{Peer}}
use Rattle.fs_conf.specs.{Address.{ipv4_of, address_of}, Document.{document_of, each_item}, Fields.{flag_or, keys_among, number_in, number_or}}

infixl 10 ◌>>=◌
abbrev ◌>>=◌ : {A B : Type 0} → Option A → (A → Option B) → Option B
o >>= f = option_and_then f o

-- the value, where the test holds of it
abbrev pub kept_if : {A : Type 0} → (A → Bool) → A → Option A
kept_if test value = if test value then Some value else None

-- what a string writes
abbrev pub written : {A : Type 0} → (List ℕ → Option A) → Option Data → Option A
written read found = (found >>= as_str) >>= read

-- an AS number, which isn't 0 (RFC 7607)
abbrev pub as_number : Option Data → Option ℕ
as_number = number_in 1 4294967295

-- a BGP identifier: dotted IPv4, not 0.0.0.0 (RFC 4271, section 4.2)
abbrev pub identifier : Option Data → Option ℕ
identifier value = written ipv4_of value >>= kept_if (λ id. not (id == 0))

-- a hold time in seconds: 0, or at least 3 (RFC 4271, section 4.2)
abbrev pub hold_time_in : Option Data → Option ℕ
hold_time_in found = number_or 0 0 65535 found >>= kept_if (λ n. n == 0 || nat_le 3 n)

-- how many routes a peer may hold, which isn't bounded where the key is missing
abbrev pub limit_in : Option Data → Option (Option ℕ)
limit_in None = Some None
limit_in (Some value) = option_map Some (number_in 1 4294967295 (Some value))

-- a peer is a table with these keys, of which the last may be missing, and no others
abbrev pub peer_keys : List (List ℕ)
peer_keys = codes "number" ∷ codes "address" ∷ codes "as" ∷ codes "max_routes" ∷ []

abbrev pub peer_of_members : Members → Option Peer
peer_of_members members = do
  number ← number_in 1 65535 (get_member (codes "number") members)
  address ← written address_of (get_member (codes "address") members)
  asn ← as_number (get_member (codes "as") members)
  max_routes ← limit_in (get_member (codes "max_routes") members)
  Some (record { number = number; address = address; asn = asn; max_routes = max_routes })

abbrev pub peer_of_table : Members → Option Peer
peer_of_table members = if keys_among peer_keys members then peer_of_members members else None

abbrev pub peer_of_data : Data → Option Peer
peer_of_data value = as_table value >>= peer_of_table

-- a peer for each item
abbrev pub peers_of_items : Items → Option (List Peer)
peers_of_items items = each_item peer_of_data items

-- no two peers have one number
abbrev pub are_distinct : List Peer → Bool
are_distinct [] = true
are_distinct (peer ∷ peers) =
    not (list_any (λ other. other.number == peer.number) peers) && are_distinct peers

-- 1 to 1024 peers, no two of one number
abbrev pub are_peers : List Peer → Bool
are_peers peers = (nat_le 1 (length peers) && nat_le (length peers) 1024) && are_distinct peers

abbrev pub peers_in : Option Data → Option (List Peer)
peers_in found = ((found >>= as_array) >>= peers_of_items) >>= kept_if are_peers

abbrev pub config_keys : List (List ℕ)
config_keys =
    codes "local_as" ∷ codes "local_id" ∷ codes "allow_no_destination" ∷ codes "empty_path_valid"
    ∷ codes "hold_time" ∷ codes "peer" ∷ []

abbrev pub config_of_members : Members → Option Config
config_of_members members = do
  local_as ← as_number (get_member (codes "local_as") members)
  local_id ← identifier (get_member (codes "local_id") members)
  allow_no_destination ← flag_or false (get_member (codes "allow_no_destination") members)
  empty_path_valid ← flag_or true (get_member (codes "empty_path_valid") members)
  hold_time ← hold_time_in (get_member (codes "hold_time") members)
  peers ← peers_in (get_member (codes "peer") members)
  Some (record {
    local_as = local_as;
    local_id = local_id;
    allow_no_destination = allow_no_destination;
    empty_path_valid = empty_path_valid;
    hold_time = hold_time;
    peers = peers;
  })

abbrev pub config_of_document : Members → Option Config
config_of_document members = if keys_among config_keys members then config_of_members members else None

-- the configuration that the octets write
abbrev pub config_of : List ℕ → Option Config
config_of octets = document_of octets >>= config_of_document
