-- What an accepted rules file says is to be sent.
use Rattle.fs_conf.proofs.Words.{◌≡◌, ℕ, ◌<◌, ◌^◌, nat_le, nat_lt, Bool, ◌&&◌, true, false, if◌then◌else◌, List, [], Option, Some, None, Result, Ok}
use Rattle.fs_conf.proofs.Words.{Err, length, refl, sym, ap, subst, ◌∙◌, arith, codes, option_and_then, AllByRecursion, list_all, and_parts, leb-true}
use Rattle.fs_conf.proofs.Words.{none-some, same_Some, and_then_some, cond_some, map_some, Data, Items, Members, as_array, as_str, as_table}
use Rattle.fs_conf.proofs.Words.{get_member, item, no_items, Config, Peer, Family, IsOctets, each_weaker, octets_from, Ruled, IsRule, Sent, ipv4_of}
use Rattle.fs_conf.proofs.Words.{kept_if, written, document_of, each_item, keys_among, AcceptsRules, HasRules, are_single, as_path_in, file_keys}
use Rattle.fs_conf.proofs.Words.{number_of, rules_in, sendable, sending_of_document, sending_of_members, actions_in, actions_written, family_of}
use Rattle.fs_conf.proofs.Words.{if_ok, listed_actions, octets_of, rule_keys, rule_of, rule_written, sent_of_data, sent_of_members, sent_of_table}
use Rattle.fs_conf.proofs.Words.{sent_of_text, text_keys, all_each}
use Rattle.fs_conf.proofs.{Accepted.{as_within, written_reads, written_small}, Found.{cond_within}, ListedActions.{listed_are}}
use Rattle.fs_conf.proofs.TextSought.{rule_is, text_found}
use Rattle.hex.{specs.{Hex.{decode_of}, declared.error.FromHexError.{FromHexError}}, proofs.HexLemmas.{decode_of-ok}}
use Rattle.fs_nlri.proofs.Reading.{field_is}
use Rattle.fs_speaker.specs.{declared.Sending.{Sending}, Laws.{IsSent}, Sending.{is_sending, is_short, sender_of}, Transition.{terms_of}}

-- hexadecimal

decoded : (found : Result (List ℕ) FromHexError) (octets : List ℕ) → if_ok found ≡ Some octets → found ≡ Ok octets
decoded (Ok one) octets is = ap Ok (same_Some one octets is)
decoded (Err bad) octets is = absurd (none-some octets is)

pub text_octets : (text octets : List ℕ) → octets_of text ≡ Some octets → IsOctets octets
text_octets text octets is = octets_from octets (decode_of-ok text octets (decoded (decode_of text) octets is)).3

-- the rule of octets that are one frame

pub rule_sound : (family : Family) (octets : List ℕ) (rule : Ruled) → IsOctets octets → rule_of family octets ≡ Some rule → IsRule rule
rule_sound = rule_is field_is

-- a rule with its actions

pub sent_sound : (family : Family) (octets communities : List ℕ) (rule : Ruled) (actions : List (List ℕ)) → IsOctets octets → IsOctets communities
    → rule_of family octets ≡ Some rule → listed_actions communities ≡ Some actions → IsSent (record { rule = rule; actions = actions })
sent_sound family octets communities rule actions are also is listed =
    let sound = listed_are communities actions also listed in
    record { rule = rule_sound family octets rule are is; actions = sound.rising; octets = sound.octets }

-- the octets that the actions at a key are of
record AreOf (actions : List (List ℕ)) : Type 0 where
  pub octets : List ℕ
  pub are : IsOctets octets
  pub listed : listed_actions octets ≡ Some actions

found_actions : (found : Option Data) (actions : List (List ℕ)) → actions_in found ≡ Some actions → AreOf actions
found_actions None actions is = record { octets = []; are = octets_from [] (λ i. omega arith); listed = is }
found_actions (Some value) actions is =
    and_then_some actions_written (as_str value) actions is λ text str said.
    and_then_some listed_actions (octets_of text) actions said λ octets read listed.
    record { octets = octets; are = text_octets text octets read; listed = listed }

members_sent : (members : Members) (sent : Sent) → sent_of_members members ≡ Some sent → IsSent sent
members_sent members sent is =
    and_then_some _ (written family_of (get_member (codes "family") members)) sent is λ family family_is is1.
    and_then_some _ (written (rule_written family) (get_member (codes "nlri") members)) sent is1 λ rule rule_is is2.
    and_then_some _ (actions_in (get_member (codes "actions") members)) sent is2 λ actions actions_are is3.
    let (text, said) = written_reads (rule_written family) (get_member (codes "nlri") members) rule rule_is in
    let of = found_actions (get_member (codes "actions") members) actions actions_are in
    and_then_some (rule_of family) (octets_of text) rule said λ octets read found.
    subst IsSent (same_Some _ sent is3)
    (sent_sound family octets of.octets rule actions (text_octets text octets read) of.are found of.listed)

text_sent : (text : List ℕ) (sent : Sent) → sent_of_text text ≡ Some sent → IsSent sent
text_sent text sent is =
    let own = text_found field_is text sent is in
    record { rule = own.rule; actions = own.actions.rising; octets = own.actions.octets }

table_sent : (members : Members) (sent : Sent) → sent_of_table members ≡ Some sent → IsSent sent
table_sent members sent = by (keys_among rule_keys members) (keys_among text_keys members) where
  by : (frame worded : Bool)
      → (if frame then sent_of_members members else if worded then written sent_of_text (get_member (codes "text") members) else None) ≡ Some sent
      → IsSent sent
  by true worded is = members_sent members sent is
  by false true is = let (text, said) = written_reads sent_of_text (get_member (codes "text") members) sent is in text_sent text sent said
  by false false is = absurd (none-some sent is)

data_sent : (value : Data) (sent : Sent) → sent_of_data value ≡ Some sent → IsSent sent
data_sent value sent is =
    and_then_some sent_of_table (as_table value) sent is λ members table read.
    table_sent members sent read

-- arrays

each_read : {A : Type 0} (P : A → Type 0) (read : Data → Option A) → ((value : Data) (found : A) → read value ≡ Some found → P found)
    → (items : Items) (all : List A) → each_item read items ≡ Some all → AllByRecursion P all
each_read P read h no_items all is = subst (AllByRecursion P) (same_Some [] all is) tt
each_read P read h (item value rest) all is =
    and_then_some _ (read value) all is λ found first more.
    map_some _ (each_item read rest) all more λ others later same.
    subst (AllByRecursion P) same (h value found first, each_read P read h rest others later)

found_rules : (found : Option Data) (rules : List Sent) → rules_in found ≡ Some rules → AllByRecursion IsSent rules
found_rules None rules is = subst (AllByRecursion IsSent) (same_Some [] rules is) tt
found_rules (Some value) rules is =
    and_then_some (kept_if are_single) (option_and_then (each_item sent_of_data) (as_array value)) rules is λ read all kept.
    let (test, same) = cond_some (are_single read) read rules kept in
    and_then_some (each_item sent_of_data) (as_array value) read all λ items array_is items_are.
    subst (AllByRecursion IsSent) same (each_read IsSent sent_of_data data_sent items read items_are)

abbrev IsAs : ℕ → Type 0
IsAs asn = (asn < 2 ^ 32) × (0 < asn)

pub found_numbers : (found : Option Data) (numbers : List ℕ) → as_path_in found ≡ Some numbers → AllByRecursion IsAs numbers
found_numbers found numbers is =
    and_then_some (each_item number_of) (option_and_then as_array found) numbers is λ items array_is items_are.
    each_read IsAs number_of (λ value asn read. as_within (Some value) asn read) items numbers items_are

-- what may be sent for the peer with the lowest number

-- the peer that the rules are sent for, where it is known
abbrev SendsFor : Config → Peer → Sending → Sending → Type 0
SendsFor config peer given sending = (sender_of config.peers ≡ Some peer) × (is_sending config peer given ≡ true) × (given ≡ sending)

sends_for : (config : Config) (given sending : Sending) → sendable config given ≡ Some sending → (peer : Peer) × SendsFor config peer given sending
sends_for config given sending = by (sender_of config.peers) refl where
  by : (found : Option Peer) → sender_of config.peers ≡ found
      → elim found [ None ↦ None | Some peer ↦ kept_if (is_sending config peer) given ] ≡ Some sending → (peer : Peer) × SendsFor config peer given sending
  by None e is = absurd (none-some sending is)
  by (Some peer) e is = let (test, same) = cond_some (is_sending config peer given) given sending is in (peer, (e, test, same))

members_rules : (config : Config) (members : Members) (sending : Sending) → sending_of_members config members ≡ Some sending → HasRules config sending
members_rules config members sending is =
    and_then_some _ (written ipv4_of (get_member (codes "id") members)) sending is λ id id_is is1.
    and_then_some _ (as_path_in (get_member (codes "as_path") members)) sending is1 λ numbers numbers_are is2.
    and_then_some _ (rules_in (get_member (codes "rule") members)) sending is2 λ rules rules_are is3.
    let given : Sending = record { id = id; as_path = numbers; rules = rules } in
    let (peer, sends) = sends_for config given sending is3 in
    let short : Bool = list_all (is_short (terms_of config peer true) numbers) rules in
    let both = and_parts (nat_le (length numbers) 255 && list_all (λ asn. nat_lt 0 asn) numbers) short sends.1 in
    let few = and_parts (nat_le (length numbers) 255) (list_all (λ asn. nat_lt 0 asn) numbers) both.0 in
    subst (HasRules config) sends.2
    (record {
      id = written_small (get_member (codes "id") members) id id_is;
      numbers = record {
        few = leb-true (length numbers) 255 few.0;
        each = each_weaker IsAs (λ (asn : ℕ). asn < 2 ^ 32) (λ asn is_as. is_as.0) numbers
            (found_numbers (get_member (codes "as_path") members) numbers numbers_are);
      };
      rules = found_rules (get_member (codes "rule") members) rules rules_are;
      short = λ other is_other.
          let one : peer ≡ other = same_Some peer other (sym sends.0 ∙ is_other) in
          subst (λ (p : Peer). AllByRecursion (λ (sent : Sent). is_short (terms_of config p true) numbers sent ≡ true) rules) one
          (all_each (is_short (terms_of config peer true) numbers) rules both.1);
    })

pub accepts_rules : AcceptsRules
accepts_rules octets config sending is =
    and_then_some (sending_of_document config) (document_of octets) sending is λ members is_document read.
    let (keys, same) = cond_within (keys_among file_keys members) (sending_of_members config members) sending read in
    members_rules config members sending same
