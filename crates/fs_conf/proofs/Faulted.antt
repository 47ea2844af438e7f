-- A document has a fault exactly where it is no configuration.
use Rattle.fs_conf.proofs.Words.{◌≡◌, ◌≢◌, ℕ, suc, ◌==◌, nat_le, Bool, true, false, not, ◌&&◌, ◌||◌, if◌then◌else◌, List, [], ◌∷◌, ◌++◌, map, length}
use Rattle.fs_conf.proofs.Words.{Option, Some, None, refl, sym, ap, ◌∙◌, codes, option_map, option_and_then, is_some, list_any, bytes_eq, Data, Items}
use Rattle.fs_conf.proofs.Words.{no_items, item, Members, no_members, as_table, get_member, Peer, address_of, are_distinct, are_peers, as_number}
use Rattle.fs_conf.proofs.Words.{config_keys, config_of_document, config_of_members, hold_time_in, identifier, kept_if, limit_in, peer_keys}
use Rattle.fs_conf.proofs.Words.{peer_of_data, peer_of_members, peer_of_table, peers_in, peers_of_items, written, flag_or, keys_among, number_in}
use Rattle.fs_conf.proofs.Words.{and_then_some, map_some, same_Some}
use Rattle.fs_conf.proofs.Found.{cond_within}
use Rattle.std.specs.{Option.{option_or}, Prelude.{◌↔◌}}
use Rattle.toml.specs.Data.{member}
use Rattle.fs_conf.specs.{Config.{config_of}, Document.{each_item}}
use Rattle.fs_conf.specs.declared.fault.ConfigFault.{ConfigFault, TheVariants.{Key, Memory as NoMemory, Text as NoDocument}}
use Rattle.fs_conf.specs.declared.fault.KeyReason.TheVariants.{Unknown, Value}
use Rattle.fs_conf.specs.declared.faults.Kind.{Kind, TheVariants.{Array, Boolean, Integer, Text}}
use Rattle.fs_conf.specs.Fault.{Check, IsFirstFault, KeyFault, KeyUnfit, array_fault, array_in, config_fault, document_checks, each_fault, first_again}
use Rattle.fs_conf.specs.Fault.{first_of, first_other, item_count, item_fault, items_fault, judged, number_of_peer, numbers_of_peers, own_fault}
use Rattle.fs_conf.specs.Fault.{peer_checks, peer_fault, peers_fault, reason_at, repeated, table_fault, unfit, unknown}
use Rattle.fs_conf.specs.Laws.{NamesTheFault}

-- nothing was found
abbrev pub is_clear : {A : Type 0} → Option A → Bool
is_clear found = not (is_some found)

pub clear_or : {A : Type 0} (a b : Option A) → is_clear (option_or a b) ≡ (is_clear a && is_clear b)
clear_or None b = refl
clear_or (Some x) b = refl

pub clear_map : {A B : Type 0} (f : A → B) (a : Option A) → is_clear (option_map f a) ≡ is_clear a
clear_map f None = refl
clear_map f (Some x) = refl

pub some_map : {A B : Type 0} (f : A → B) (a : Option A) → is_some (option_map f a) ≡ is_some a
some_map f None = refl
some_map f (Some x) = refl

pub then_some : {A B : Type 0} (f : A → Option B) (o : Option A) (p : Bool) → ((x : A) → is_some (f x) ≡ p) → is_some (option_and_then f o) ≡ (is_some o && p)
then_some f None p h = refl
then_some f (Some x) p h = h x

-- at a key

pub clear_reason : (kind : Kind) (accepted : Bool) (found : Option Data) → is_clear (reason_at kind accepted found) ≡ accepted
clear_reason kind true found = refl
clear_reason kind false None = refl
clear_reason kind false (Some value) = refl

pub clear_judged : {A : Type 0} (key : List ℕ) (kind : Kind) (read : Option Data → Option A) (members : Members)
    → is_clear (judged key kind read members) ≡ is_some (read (get_member key members))
clear_judged key kind read members =
    clear_map (unfit key) (reason_at kind (is_some (read (get_member key members))) (get_member key members))
    ∙ clear_reason kind (is_some (read (get_member key members))) (get_member key members)

pub clear_other : (names : List (List ℕ)) (members : Members) → is_clear (first_other names members) ≡ keys_among names members
clear_other names no_members = refl
clear_other names (member key value rest) = by (list_any (λ name. bytes_eq name key) names) (clear_other names rest)
  where
    by : (b : Bool) → is_clear (first_other names rest) ≡ keys_among names rest
        → is_clear (if b then first_other names rest else Some key) ≡ (b && keys_among names rest)
    by true more = more
    by false more = refl

pub clear_unknown : (names : List (List ℕ)) (members : Members) → is_clear (unknown names members) ≡ keys_among names members
clear_unknown names members = clear_map (λ key. unfit key Unknown) (first_other names members) ∙ clear_other names members

-- one test more
pub clear_first : (check : Check) (checks : List Check) (members : Members) (a b : Bool) → is_clear (check members) ≡ a → is_clear (first_of checks members) ≡ b
    → is_clear (first_of (check ∷ checks) members) ≡ (a && b)
clear_first check checks members a b here behind = clear_or (check members) (first_of checks members) ∙ rw (here, behind) refl

-- of a table

pub if_keys : {A : Type 0} (keys : Bool) (found : Option A) (p : Bool) → is_some found ≡ p → is_some (if keys then found else None) ≡ (keys && p)
if_keys true found p e = e
if_keys false found p e = refl

peer_clear : (members : Members) → is_clear (first_of peer_checks members) ≡ is_some (peer_of_table members)
peer_clear members =
    clear_first (unknown peer_keys)
    (judged (codes "number") Integer (number_in 1 65535) ∷ judged (codes "address") Text (written address_of) ∷ judged
    (codes "as") Integer as_number ∷ judged (codes "max_routes") Integer limit_in ∷ []) members _ _ (clear_unknown peer_keys members)
    (clear_first (judged (codes "number") Integer (number_in 1 65535))
    (judged (codes "address") Text (written address_of) ∷ judged (codes "as") Integer as_number ∷ judged (codes "max_routes") Integer limit_in ∷ [])
    members _ _ (clear_judged (codes "number") Integer (number_in 1 65535) members)
    (clear_first (judged (codes "address") Text (written address_of))
    (judged (codes "as") Integer as_number ∷ judged (codes "max_routes") Integer limit_in ∷ []) members _ _
    (clear_judged (codes "address") Text (written address_of) members)
    (clear_first (judged (codes "as") Integer as_number) (judged (codes "max_routes") Integer limit_in ∷ []) members _ _
    (clear_judged (codes "as") Integer as_number members)
    (clear_first (judged (codes "max_routes") Integer limit_in) [] members _ _ (clear_judged (codes "max_routes") Integer limit_in members) refl))))
    ∙ sym (if_keys (keys_among peer_keys members) (peer_of_members members) _
    (then_some _ (number_in 1 65535 (get_member (codes "number") members)) _ λ number.
    then_some _ (written address_of (get_member (codes "address") members)) _ λ address.
    then_some _ (as_number (get_member (codes "as") members)) _ λ asn.
    then_some _ (limit_in (get_member (codes "max_routes") members)) true λ limit. refl))

-- of the items of an array

pub item_clear : {A : Type 0} (key : List ℕ) (check : Check) (read : Members → Option A)
    → ((members : Members) → is_clear (check members) ≡ is_some (read members))
    → (place : ℕ) (table : Option Members) → is_clear (table_fault key check place table) ≡ is_some (option_and_then read table)
item_clear key check read h place None = refl
item_clear key check read h place (Some members) =
    clear_map (λ (found : KeyUnfit). item_fault key place (Some found.key) found.reason) (check members) ∙ h members

pub each_clear : {A : Type 0} (judge : ℕ → Data → Option KeyFault) (read : Data → Option A)
    → ((place : ℕ) (value : Data) → is_clear (judge place value) ≡ is_some (read value))
    → (place : ℕ) (items : Items) → is_clear (each_fault judge place items) ≡ is_some (each_item read items)
each_clear judge read h place no_items = refl
each_clear {A} judge read h place (item value rest) =
    clear_or (judge place value) (each_fault judge (suc place) rest)
    ∙ rw (h place value, each_clear judge read h (suc place) rest) refl
    ∙ sym (then_some (λ (found : A). option_map (λ more. found ∷ more) (each_item read rest)) (read value) (is_some (each_item read rest))
    (λ found. some_map (λ (more : List A). found ∷ more) (each_item read rest)))

-- of the peers

each_peer_clear : (items : Items) → is_clear (each_fault peer_fault 1 items) ≡ is_some (peers_of_items items)
each_peer_clear items =
    each_clear peer_fault peer_of_data (λ place value. item_clear (codes "peer") (first_of peer_checks) peer_of_table peer_clear place (as_table value)) 1 items

-- the peers that the items are, where each is one

peer_number : (value : Data) (peer : Peer) → peer_of_data value ≡ Some peer → number_of_peer value ≡ peer.number
peer_number value peer e =
    and_then_some peer_of_table (as_table value) peer e λ members is read.
    let (keys, same) = cond_within (keys_among peer_keys members) (peer_of_members members) peer read in
    and_then_some _ (number_in 1 65535 (get_member (codes "number") members)) peer same λ number number_is e1.
    and_then_some _ (written address_of (get_member (codes "address") members)) peer e1 λ address address_is e2.
    and_then_some _ (as_number (get_member (codes "as") members)) peer e2 λ asn asn_is e3.
    and_then_some _ (limit_in (get_member (codes "max_routes") members)) peer e3 λ limit limit_is e4.
    rw (is, number_is) (ap (λ (made : Peer). made.number) (same_Some _ peer e4))

peers_are : (items : Items) (peers : List Peer) → peers_of_items items ≡ Some peers
    → (item_count items ≡ length peers) × (numbers_of_peers items ≡ map (λ peer. peer.number) peers)
peers_are no_items peers e = rw (← same_Some [] peers e) (refl, refl)
peers_are (item value rest) peers e =
    and_then_some _ (peer_of_data value) peers e λ peer first more.
    map_some (λ (found : List Peer). peer ∷ found) (peers_of_items rest) peers more λ others later same.
    let (count, numbers) = peers_are rest others later in
    rw (← same) (ap suc count, rw (peer_number value peer first, numbers) refl)

-- no number stands twice

abbrev apart : List ℕ → List Peer → Bool
apart before [] = true
apart before (peer ∷ peers) = not (list_any (λ earlier. peer.number == earlier) before) && apart before peers

apart_none : (peers : List Peer) → apart [] peers ≡ true
apart_none [] = refl
apart_none (peer ∷ peers) = apart_none peers

any_last : (p : ℕ → Bool) (xs : List ℕ) (x : ℕ) → list_any p (xs ++ x ∷ []) ≡ (list_any p xs || p x)
any_last p [] x = by (p x)
  where
    by : (b : Bool) → (b || false) ≡ b
    by true = refl
    by false = refl
any_last p (y ∷ xs) x = by (p y) (any_last p xs x)
  where
    by : (b : Bool) → list_any p (xs ++ x ∷ []) ≡ (list_any p xs || p x) → (b || list_any p (xs ++ x ∷ [])) ≡ ((b || list_any p xs) || p x)
    by true e = refl
    by false e = e

moved : (a e others any : Bool) → (not (a || e) && (others && not any)) ≡ ((not a && others) && not (e || any))
moved true e others any = refl
moved false true true any = refl
moved false true false any = refl
moved false false others any = refl

joined : (a b c : Bool) → ((a && b) && c) ≡ (a && (b && c))
joined true b c = refl
joined false b c = refl

apart_more : (before : List ℕ) (n : ℕ) (peers : List Peer)
    → apart (before ++ n ∷ []) peers ≡ (apart before peers && not (list_any (λ other. other.number == n) peers))
apart_more before n [] = refl
apart_more before n (peer ∷ peers) =
    rw (any_last (λ earlier. peer.number == earlier) before n, apart_more before n peers)
    (moved (list_any (λ earlier. peer.number == earlier) before) (peer.number == n) (apart before peers) (list_any (λ (other : Peer). other.number == n) peers))

again_clear : (before : List ℕ) (peers : List Peer)
    → is_clear (first_again before (map (λ peer. peer.number) peers)) ≡ (apart before peers && are_distinct peers)
again_clear before [] = refl
again_clear before (peer ∷ peers) =
    by (list_any (λ earlier. peer.number == earlier) before) (again_clear (before ++ peer.number ∷ []) peers)
  where
    by : (b : Bool) → is_clear (first_again (before ++ peer.number ∷ []) (map (λ other. other.number) peers))
        ≡ (apart (before ++ peer.number ∷ []) peers && are_distinct peers)
        → is_clear (if b then Some (suc (length before)) else first_again (before ++ peer.number ∷ []) (map (λ other. other.number) peers))
        ≡ ((not b && apart before peers) && (not (list_any (λ other. other.number == peer.number) peers) && are_distinct peers))
    by true h = refl
    by false h =
        h ∙ ap (λ b. b && are_distinct peers) (apart_more before peer.number peers)
        ∙ joined (apart before peers) (not (list_any (λ (other : Peer). other.number == peer.number) peers)) (are_distinct peers)

repeated_clear : (items : Items) (peers : List Peer) → peers_of_items items ≡ Some peers → is_clear (repeated items) ≡ are_distinct peers
repeated_clear items peers e =
    clear_map _ (first_again [] (numbers_of_peers items))
    ∙ ap (λ (numbers : List ℕ). is_clear (first_again [] numbers)) (peers_are items peers e).1
    ∙ again_clear [] peers
    ∙ ap (λ b. b && are_distinct peers) (apart_none peers)

-- the array

some_kept : (test : Bool) (peers : List Peer) → is_some (if test then Some peers else None) ≡ test
some_kept true peers = refl
some_kept false peers = refl

items_by : (items : Items) (found : Option (List Peer)) → peers_of_items items ≡ found
    → is_clear (items_fault items) ≡ is_some (option_and_then (kept_if are_peers) found)
items_by items None e = by (nat_le 1 (item_count items) && nat_le (item_count items) 1024)
  where
    by : (c : Bool) → is_clear (if c then option_or (each_fault peer_fault 1 items) (repeated items) else Some (own_fault (unfit (codes "peer") Value))) ≡ false
    by true = clear_or (each_fault peer_fault 1 items) (repeated items) ∙ rw (each_peer_clear items, e) refl
    by false = refl
items_by items (Some peers) e =
    by (nat_le 1 (item_count items) && nat_le (item_count items) 1024) ∙ rw ((peers_are items peers e).0) refl ∙ sym (some_kept (are_peers peers) peers)
  where
    by : (c : Bool) → is_clear (if c then option_or (each_fault peer_fault 1 items) (repeated items) else Some (own_fault (unfit (codes "peer") Value)))
        ≡ (c && are_distinct peers)
    by true = clear_or (each_fault peer_fault 1 items) (repeated items) ∙ rw (each_peer_clear items, e, repeated_clear items peers e) refl
    by false = refl

peers_clear : (members : Members) → is_clear (peers_fault members) ≡ is_some (peers_in (get_member (codes "peer") members))
peers_clear members =
    clear_or (option_map own_fault (judged (codes "peer") Array array_in members)) (array_fault (array_in (get_member (codes "peer") members)))
    ∙ rw (clear_map own_fault (judged (codes "peer") Array array_in members), clear_judged (codes "peer") Array array_in members)
    (by (array_in (get_member (codes "peer") members)))
  where
    by : (found : Option Items) → (is_some found && is_clear (array_fault found))
        ≡ is_some (option_and_then (kept_if are_peers) (option_and_then peers_of_items found))
    by None = refl
    by (Some items) = items_by items (peers_of_items items) refl

-- the whole

document_clear : (members : Members) → is_clear (first_of document_checks members)
    ≡ (keys_among config_keys members
    && (is_some (as_number (get_member (codes "local_as") members))
    && (is_some (identifier (get_member (codes "local_id") members))
    && (is_some (flag_or false (get_member (codes "allow_no_destination") members))
    && (is_some (flag_or true (get_member (codes "empty_path_valid") members))
    && (is_some (hold_time_in (get_member (codes "hold_time") members)) && true))))))
document_clear members =
    clear_first (unknown config_keys)
    (judged (codes "local_as") Integer as_number ∷ judged (codes "local_id") Text identifier ∷ judged (codes "allow_no_destination") Boolean
    (flag_or false) ∷ judged (codes "empty_path_valid") Boolean (flag_or true) ∷ judged (codes "hold_time") Integer hold_time_in ∷ []) members _ _
    (clear_unknown config_keys members)
    (clear_first (judged (codes "local_as") Integer as_number)
    (judged (codes "local_id") Text identifier ∷ judged (codes "allow_no_destination") Boolean (flag_or false) ∷ judged
    (codes "empty_path_valid") Boolean (flag_or true) ∷ judged (codes "hold_time") Integer hold_time_in ∷ []) members _ _
    (clear_judged (codes "local_as") Integer as_number members)
    (clear_first (judged (codes "local_id") Text identifier)
    (judged (codes "allow_no_destination") Boolean (flag_or false) ∷ judged (codes "empty_path_valid") Boolean (flag_or true) ∷ judged
    (codes "hold_time") Integer hold_time_in ∷ []) members _ _ (clear_judged (codes "local_id") Text identifier members)
    (clear_first (judged (codes "allow_no_destination") Boolean (flag_or false))
    (judged (codes "empty_path_valid") Boolean (flag_or true) ∷ judged (codes "hold_time") Integer hold_time_in ∷ []) members _ _
    (clear_judged (codes "allow_no_destination") Boolean (flag_or false) members)
    (clear_first (judged (codes "empty_path_valid") Boolean (flag_or true)) (judged (codes "hold_time") Integer hold_time_in ∷ []) members _ _
    (clear_judged (codes "empty_path_valid") Boolean (flag_or true) members)
    (clear_first (judged (codes "hold_time") Integer hold_time_in) [] members _ _ (clear_judged (codes "hold_time") Integer hold_time_in members) refl)))))

config_some : (members : Members) → is_some (config_of_document members)
    ≡ (keys_among config_keys members
    && (is_some (as_number (get_member (codes "local_as") members))
    && (is_some (identifier (get_member (codes "local_id") members))
    && (is_some (flag_or false (get_member (codes "allow_no_destination") members))
    && (is_some (flag_or true (get_member (codes "empty_path_valid") members))
    && (is_some (hold_time_in (get_member (codes "hold_time") members))
    && (is_some (peers_in (get_member (codes "peer") members)) && true)))))))
config_some members =
    if_keys (keys_among config_keys members) (config_of_members members) _
    (then_some _ (as_number (get_member (codes "local_as") members)) _ λ local_as.
    then_some _ (identifier (get_member (codes "local_id") members)) _ λ local_id.
    then_some _ (flag_or false (get_member (codes "allow_no_destination") members)) _ λ allows.
    then_some _ (flag_or true (get_member (codes "empty_path_valid") members)) _ λ valid.
    then_some _ (hold_time_in (get_member (codes "hold_time") members)) _ λ hold_time.
    then_some _ (peers_in (get_member (codes "peer") members)) true λ peers. refl)

behind : (a x p y : Bool) → (x && p) ≡ y → ((a && x) && p) ≡ (a && y)
behind true x p y e = e
behind false x p y e = refl

last_true : (p : Bool) → (true && p) ≡ (p && true)
last_true true = refl
last_true false = refl

config_clear : (members : Members) → is_clear (config_fault members) ≡ is_some (config_of_document members)
config_clear members =
    clear_or (option_map own_fault (first_of document_checks members)) (peers_fault members)
    ∙ rw (clear_map own_fault (first_of document_checks members), document_clear members, peers_clear members)
    (behind (keys_among config_keys members) _ _ _
    (behind (is_some (as_number (get_member (codes "local_as") members))) _ _ _
    (behind (is_some (identifier (get_member (codes "local_id") members))) _ _ _
    (behind (is_some (flag_or false (get_member (codes "allow_no_destination") members))) _ _ _
    (behind (is_some (flag_or true (get_member (codes "empty_path_valid") members))) _ _ _
    (behind (is_some (hold_time_in (get_member (codes "hold_time") members))) _ _ _
    (last_true (is_some (peers_in (get_member (codes "peer") members))))))))))
    ∙ sym (config_some members)

pub none_clear : {A : Type 0} (found : Option A) → (found ≡ None) ↔ (is_clear found ≡ true)
none_clear None = (λ e. refl, λ e. refl)
none_clear (Some x) = (λ e. absurd cc, λ e. absurd cc)

pub no_value : {A : Type 0} (o : Option A) → is_some o ≡ false → o ≡ None
no_value None e = refl
no_value (Some x) e = absurd cc

refused_by : (octets : List ℕ) (fault : ConfigFault) → IsFirstFault octets fault → fault ≢ NoMemory → config_of octets ≡ None
refused_by octets (NoDocument line column) first some = ap (option_and_then config_of_document) first.none
refused_by octets (Key place reason) first some =
    ap (option_and_then config_of_document) first.1
    ∙ no_value (config_of_document first.0) (sym (config_clear first.0) ∙ ap (λ (found : Option KeyFault). is_clear found) first.3)
refused_by octets NoMemory first some = absurd (some refl)

pub names_the_fault : NamesTheFault
names_the_fault = record {
  exact = λ members.
      let same : is_clear (config_fault members) ≡ is_some (config_of_document members) = config_clear members in
      (λ none. sym same ∙ (none_clear (config_fault members)).0 none, λ some. (none_clear (config_fault members)).1 (same ∙ some));
  refused = refused_by;
  other_first = λ members key is. rw is refl;
}
