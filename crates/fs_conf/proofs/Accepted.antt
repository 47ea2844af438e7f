-- What the numbers of an accepted configuration are.
use Rattle.fs_conf.proofs.Words.{◌≡◌, ℕ, ◌⊎◌, ◌<◌, ◌≤◌, ◌==◌, ◌^◌, nat_le, true, false, not, ◌&&◌, ◌||◌, List, [], ◌∷◌, Option, Some, None, subst}
use Rattle.fs_conf.proofs.Words.{arith, ◌≢◌, codes, pos, negsuc, option_and_then, AllByRecursion, and_parts, leb-true, same_Some, and_then_some}
use Rattle.fs_conf.proofs.Words.{cond_some, map_some, Data, string, integer, float, boolean, datetime, array, table, as_array, as_str, as_table}
use Rattle.fs_conf.proofs.Words.{Items, no_items, item, Members, get_member, Config, Peer, address_of, ipv4_octets_of, ipv4_of, are_peers, as_number}
use Rattle.fs_conf.proofs.Words.{config_keys, config_of_document, config_of_members, hold_time_in, identifier, limit_in, peer_keys, peer_of_data}
use Rattle.fs_conf.proofs.Words.{peer_of_members, peer_of_table, peers_in, peers_of_items, written, document_of, flag_or, keys_among, number_in}
use Rattle.fs_conf.proofs.Words.{number_or, AcceptsNumbers, HasNumbers, HasPeerNumbers}
use Rattle.fs_conf.proofs.{DottedText.{ipv4_octets_of_sound}, Found.{cond_within}}
use Rattle.std.{specs.Int.{w32, from_be_bytes}, proofs.lemmas.Bool.Decides.{nat_tests}}

-- numbers

pub number_within : (low high : ℕ) (found : Option Data) (n : ℕ) → number_in low high found ≡ Some n → (low ≤ n) × (n ≤ high)
number_within low high (Some (integer (pos m))) n e =
    let (test, same) = cond_some (nat_le low m && nat_le m high) m n e in
    let (over, under) = and_parts (nat_le low m) (nat_le m high) test in
    let a = leb-true low m over in
    let b = leb-true m high under in
    (omega arith, omega arith)
number_within low high (Some (integer (negsuc m))) n e = absurd cc
number_within low high (Some (string s)) n e = absurd cc
number_within low high (Some (float x)) n e = absurd cc
number_within low high (Some (boolean b)) n e = absurd cc
number_within low high (Some (datetime d)) n e = absurd cc
number_within low high (Some (array items)) n e = absurd cc
number_within low high (Some (table keys)) n e = absurd cc
number_within low high None n e = absurd cc

pub number_or_within : (default low high : ℕ) (found : Option Data) (n : ℕ) → default ≤ high → number_or default low high found ≡ Some n → n ≤ high
number_or_within default low high None n small e = let same = same_Some default n e in omega arith
number_or_within default low high (Some value) n small e = (number_within low high (Some value) n e).1

-- four octets are a number below 2^32

four_octets : (a b c d : ℕ) → (a < 256) × (b < 256) × (c < 256) × (d < 256) → from_be_bytes w32 (a ∷ b ∷ c ∷ d ∷ []) < 2 ^ 32
four_octets a b c d fit = omega arith

pub ipv4_small : (text : List ℕ) (id : ℕ) → ipv4_of text ≡ Some id → id < 2 ^ 32
ipv4_small text id e =
    map_some (from_be_bytes w32) (ipv4_octets_of text) id e λ octets read same.
    let dotted = ipv4_octets_of_sound text octets read in
    rw (← same, dotted.value) (four_octets dotted.a dotted.b dotted.c dotted.d dotted.fit)

-- what stands at a key

pub written_reads : {A : Type 0} (read : List ℕ → Option A) (found : Option Data) (value : A) → written read found ≡ Some value
    → (text : List ℕ) × (read text ≡ Some value)
written_reads read found value e = and_then_some read (option_and_then as_str found) value e λ text is same. (text, same)

pub written_small : (found : Option Data) (id : ℕ) → written ipv4_of found ≡ Some id → id < 2 ^ 32
written_small found id e = let (text, same) = written_reads ipv4_of found id e in ipv4_small text id same

pub as_within : (found : Option Data) (asn : ℕ) → as_number found ≡ Some asn → (asn < 2 ^ 32) × (0 < asn)
as_within found asn e = let within = number_within 1 4294967295 found asn e in (omega arith, omega arith)

identifier_within : (found : Option Data) (id : ℕ) → identifier found ≡ Some id → (id < 2 ^ 32) × (0 < id)
identifier_within found id e =
    and_then_some _ (written ipv4_of found) id e λ read is kept.
    let (test, same) = cond_some (not (read == 0)) read id kept in
    let small = written_small found read is in
    let some : 0 < read = grind (arith, nat_tests) in
    (omega arith, omega arith)

hold_within : (found : Option Data) (hold : ℕ) → hold_time_in found ≡ Some hold → (hold < 2 ^ 16) × (hold ≢ 1) × (hold ≢ 2)
hold_within found hold e =
    and_then_some _ (number_or 0 0 65535 found) hold e λ read is kept.
    let (test, same) = cond_some (read == 0 || nat_le 3 read) read hold kept in
    let small = number_or_within 0 0 65535 found read (omega arith) is in
    let apart : (read ≡ 0) ⊎ (3 ≤ read) = grind (arith, nat_tests) in
    (omega arith, λ one. omega arith, λ two. omega arith)

-- peers

members_peer : (members : Members) (peer : Peer) → peer_of_members members ≡ Some peer → HasPeerNumbers peer
members_peer members peer e =
    and_then_some _ (number_in 1 65535 (get_member (codes "number") members)) peer e λ number number_is e1.
    and_then_some _ (written address_of (get_member (codes "address") members)) peer e1 λ address address_is e2.
    and_then_some _ (as_number (get_member (codes "as") members)) peer e2 λ asn asn_is e3.
    and_then_some _ (limit_in (get_member (codes "max_routes") members)) peer e3 λ limit limit_is e4.
    let number_small = number_within 1 65535 (get_member (codes "number") members) number number_is in
    let as_small = as_within (get_member (codes "as") members) asn asn_is in
    subst HasPeerNumbers (same_Some _ peer e4)
    (record { number = omega arith; some_number = omega arith; asn = record { small = as_small.0; some = as_small.1 } })

data_peer : (value : Data) (peer : Peer) → peer_of_data value ≡ Some peer → HasPeerNumbers peer
data_peer value peer e =
    and_then_some peer_of_table (as_table value) peer e λ members is read.
    let (keys, same) = cond_within (keys_among peer_keys members) (peer_of_members members) peer read in
    members_peer members peer same

items_peers : (items : Items) (peers : List Peer) → peers_of_items items ≡ Some peers → AllByRecursion HasPeerNumbers peers
items_peers no_items peers e = subst (AllByRecursion HasPeerNumbers) (same_Some [] peers e) tt
items_peers (item value rest) peers e =
    and_then_some _ (peer_of_data value) peers e λ peer first more.
    map_some (λ (found : List Peer). peer ∷ found) (peers_of_items rest) peers more λ others later same.
    subst (AllByRecursion HasPeerNumbers) same (data_peer value peer first, items_peers rest others later)

found_peers : (found : Option Data) (peers : List Peer) → peers_in found ≡ Some peers → AllByRecursion HasPeerNumbers peers
found_peers found peers e =
    and_then_some _ (option_and_then peers_of_items (option_and_then as_array found)) peers e λ read is kept.
    let (test, same) = cond_some (are_peers read) read peers kept in
    and_then_some peers_of_items (option_and_then as_array found) read is λ items array_is items_are.
    subst (AllByRecursion HasPeerNumbers) same (items_peers items read items_are)

-- the whole

members_numbers : (members : Members) (config : Config) → config_of_members members ≡ Some config → HasNumbers config
members_numbers members config e =
    and_then_some _ (as_number (get_member (codes "local_as") members)) config e λ local_as as_is e1.
    and_then_some _ (identifier (get_member (codes "local_id") members)) config e1 λ local_id id_is e2.
    and_then_some _ (flag_or false (get_member (codes "allow_no_destination") members)) config e2 λ allows allows_is e3.
    and_then_some _ (flag_or true (get_member (codes "empty_path_valid") members)) config e3 λ valid valid_is e4.
    and_then_some _ (hold_time_in (get_member (codes "hold_time") members)) config e4 λ hold hold_is e5.
    and_then_some _ (peers_in (get_member (codes "peer") members)) config e5 λ peers peers_are e6.
    let as_small = as_within (get_member (codes "local_as") members) local_as as_is in
    let id_small = identifier_within (get_member (codes "local_id") members) local_id id_is in
    let hold_small = hold_within (get_member (codes "hold_time") members) hold hold_is in
    subst HasNumbers (same_Some _ config e6)
    (record {
      own = record {
        asn = record { small = as_small.0; some = as_small.1 };
        id = record { small = id_small.0; some = id_small.1 };
        hold_time = record { small = hold_small.0; not_one = hold_small.1; not_two = hold_small.2 };
      };
      peers = found_peers (get_member (codes "peer") members) peers peers_are;
    })

pub accepts_numbers : AcceptsNumbers
accepts_numbers octets config e =
    and_then_some config_of_document (document_of octets) config e λ members is read.
    let (keys, same) = cond_within (keys_among config_keys members) (config_of_members members) config read in
    members_numbers members config same
