-- The first fault of a rules file, in the order in which it is judged. First, whether it is a document of TOML. Then its
-- keys: one that it doesn't have, `id` and `as_path`. Then its rules: each in turn, by its keys likewise; whether two are
-- one; whether the UPDATE of each fits a message.
use Rattle.std.specs.Prelude.{ℕ, zero, suc, ◌-◌, ◌≡◌, nat_le, Bool, true, false, not, ◌&&◌, ◌||◌, ⊤, if◌then◌else◌, List, [], ◌∷◌, ◌++◌, codes}
use Rattle.std.specs.Prelude.{decimal, Option, Some, None, option_map, option_and_then, is_some, string_bytes}
use Rattle.std.specs.{Option.{option_or}, Ordering.{is_eq}, Str.{bytes_eq}}
use Rattle.toml.specs.Data.{Data, as_array, as_str, as_table, Items, no_items, item, Members, get_member}
use Rattle.fs_base.specs.declared.{config.{Config.{Config}, Peer.{Peer}}, prefix.Family.{Family}}
use Rattle.fs_nlri.specs.{Fault.{IsFrameBad}, Parts.{Ruled}, Spelling.{IsFrame}}
use Rattle.fs_nlri.specs.declared.fault.Reason.{Reason, TheVariants.{Cut, NoType, Order, PrefixLength, Offset, Width, Length}}
use Rattle.fs_order.specs.Comparison.{rule_cmp}
use Rattle.fs_speaker.specs.{Sending.{is_sending, sender_of}, declared.{Sending.{Sending}, Sent.{Sent}}}
use Rattle.fs_text.specs.{Text.{IsTextFault}, declared.fault.TextFault.TheVariants.{Bad, TooLong as LongText}}
use Rattle.fs_conf.specs.{Address.{ipv4_of}, Config.{kept_if, written}, Document.{document_of, each_item}}
use Rattle.fs_conf.specs.Fault.{Check, IsNoDocument, KeyFault, array_in, each_fault, first_of, item_count, item_fault, judged, own_fault, place_text}
use Rattle.fs_conf.specs.Fault.{reason_at, reason_name, table_fault, unfit, unknown}
use Rattle.fs_conf.specs.Rules.{as_path_in, file_keys, number_of}
use Rattle.fs_conf.specs.Sent.{actions_in, family_of, octets_of, rule_keys, rule_written, sent_of_data, sent_of_text, text_keys}
use Rattle.fs_conf.specs.declared.fault.KeyReason.{KeyReason, TheVariants.{Missing, Repeated, Value}}
use Rattle.fs_conf.specs.declared.fault.RulesFault.{RulesFault, TheVariants.{Key, Memory, Nlri, Text as NoDocument, TooLong, Word}}
use Rattle.fs_conf.specs.declared.fault.Unread.{Unread, TheVariants.{At, Memory as NoneLeft}}
use Rattle.fs_conf.specs.declared.faults.Kind.TheVariants.{Array, Integer, Text}

infixl 10 ◌>>=◌
abbrev ◌>>=◌ : {A B : Type 0} → Option A → (A → Option B) → Option B
o >>= f = option_and_then f o

-- the keys of the document, but for the path and the rules
abbrev pub file_checks : List Check
file_checks = unknown file_keys ∷ judged (codes "id") Text (written ipv4_of) ∷ []

-- the path: an array of at most 255 AS numbers

abbrev pub number_fault : (place : ℕ) → Data → Option KeyFault
number_fault place value =
    option_map (item_fault (codes "as_path") place None) (reason_at Integer (is_some (number_of value)) (Some value))

abbrev pub numbers_fault : Option Items → Option KeyFault
numbers_fault None = None
numbers_fault (Some items) =
    if nat_le (item_count items) 255 then each_fault number_fault 1 items else Some (own_fault (unfit (codes "as_path") Value))

abbrev pub path_fault : Members → Option KeyFault
path_fault members =
    option_or (option_map own_fault (judged (codes "as_path") Array array_in members))
    (numbers_fault (array_in (get_member (codes "as_path") members)))

-- the rules

-- a rule that is told by its octets: the octets are judged by the family
abbrev pub rule_in : Option Family → Option Data → Option Ruled
rule_in None found = None
rule_in (Some family) found = written (rule_written family) found

abbrev pub nlri_check : Check
nlri_check members = judged (codes "nlri") Text (rule_in (written family_of (get_member (codes "family") members))) members

abbrev pub octet_checks : List Check
octet_checks =
    unknown rule_keys ∷ judged (codes "family") Text (written family_of) ∷ nlri_check ∷ judged (codes "actions") Text actions_in ∷ []

-- a rule in words
abbrev pub text_checks : List Check
text_checks = unknown text_keys ∷ judged (codes "text") Text (written sent_of_text) ∷ []

-- a rule with the key `text` is one in words
abbrev pub rule_check : Check
rule_check members = if is_some (get_member (codes "text") members) then first_of text_checks members else first_of octet_checks members

abbrev pub rule_fault : (place : ℕ) → Data → Option KeyFault
rule_fault place value = table_fault (codes "rule") rule_check place (as_table value)

-- the place of the first rule that is one of those, or of those before it
abbrev pub first_same : (Ruled → Bool) → (place : ℕ) → List Sent → Option ℕ
first_same has place [] = None
first_same has place (sent ∷ rules) =
    if has sent.rule then Some place else first_same (λ rule. is_eq (rule_cmp sent.rule rule) || has rule) (suc place) rules

-- the place of the first rule that isn't taken
abbrev pub first_but : (Sent → Bool) → (place : ℕ) → List Sent → Option ℕ
first_but test place [] = None
first_but test place (sent ∷ rules) = if test sent then first_but test (suc place) rules else Some place

-- a rule may be sent, under this path, for the peer
abbrev pub alone : List ℕ → Sent → Sending
alone path sent = record { id = 0; as_path = path; rules = sent ∷ [] }

abbrev pub may_go : Config → Peer → List ℕ → Sent → Bool
may_go config peer path sent = is_sending config peer (alone path sent)

-- there is a peer that they are sent for, and each may be sent for it
abbrev pub unsent : Config → Option Peer → List ℕ → List Sent → Option KeyFault
unsent config None path rules = Some (own_fault (unfit (codes "peer") Missing))
unsent config (Some peer) path rules =
    option_map (λ place. item_fault (codes "rule") place None Value) (first_but (may_go config peer path) 1 rules)

abbrev pub sents_fault : Config → Option (List ℕ) → Option (List Sent) → Option KeyFault
sents_fault config (Some path) (Some rules) =
    option_or (option_map (λ place. item_fault (codes "rule") place None Repeated) (first_same (λ rule. false) 1 rules))
    (unsent config (sender_of config.peers) path rules)
sents_fault config path rules = None

-- what stands at `rule`, where it isn't missing, is an array
abbrev pub listed : Option Data → Option Items
listed None = Some no_items
listed (Some value) = as_array value

abbrev pub listed_fault : Config → Option (List ℕ) → Option Items → Option KeyFault
listed_fault config path None = None
listed_fault config path (Some items) = option_or (each_fault rule_fault 1 items) (sents_fault config path (each_item sent_of_data items))

abbrev pub list_fault : Config → Members → Option KeyFault
list_fault config members =
    option_or (option_map own_fault (judged (codes "rule") Array listed members))
    (listed_fault config (as_path_in (get_member (codes "as_path") members)) (listed (get_member (codes "rule") members)))

-- the first fault of a document as a rules file beside this configuration
abbrev pub rules_fault : Config → Members → Option KeyFault
rules_fault config members =
    option_or (option_map own_fault (first_of file_checks members)) (option_or (path_fault members) (list_fault config members))

-- what is told of a fault

-- the fault is the value at this key of a rule
abbrev pub is_value : KeyReason → Bool
is_value Value = true
is_value reason = false

abbrev pub is_at : (key : List ℕ) → Option (List ℕ) → Bool
is_at key None = false
is_at key (Some inner) = bytes_eq inner key

-- an item, counted from 0
abbrev pub item_at : ℕ → Items → Option Data
item_at place no_items = None
item_at zero (item value rest) = Some value
item_at (suc place) (item value rest) = item_at place rest

-- the table of a rule, counted from 1
abbrev pub rule_at : Members → (place : ℕ) → Option Members
rule_at members place = ((get_member (codes "rule") members >>= as_array) >>= item_at (place - 1)) >>= as_table

-- the rule whose value at this key is the fault
abbrev pub judged_rule : (key : List ℕ) → Members → KeyFault → Option Members
judged_rule key members fault =
    elim fault.item [ None ↦ None | Some place ↦ if is_at key fault.inner && is_value fault.reason then rule_at members place else None ]

-- the text that is none of a rule, where that is the fault
abbrev pub untold : List ℕ → Bool
untold text = not (is_some (sent_of_text text))

abbrev pub text_at : Members → Option (List ℕ)
text_at rule = (get_member (codes "text") rule >>= as_str) >>= kept_if untold

abbrev pub bad_text : Members → KeyFault → Option (List ℕ)
bad_text members fault = judged_rule (codes "text") members fault >>= text_at

-- the octets that aren't one frame, where that is the fault
abbrev pub nlri_at : Members → Option (Family × List ℕ)
nlri_at rule =
    written family_of (get_member (codes "family") rule) >>= (λ family.
    option_map (λ octets. (family, octets)) (written octets_of (get_member (codes "nlri") rule)))

abbrev pub bad_nlri : Members → KeyFault → Option (Family × List ℕ)
bad_nlri members fault = judged_rule (codes "nlri") members fault >>= nlri_at

-- the octets begin with a frame
pub record BeginsFrame (family : Family) (octets : List ℕ) : Type 0 where
  pub front : List ℕ
  pub rest : List ℕ
  pub rule : Ruled
  pub split : octets ≡ front ++ rest
  pub family_is : rule.family ≡ family
  pub frame : IsFrame front rule

-- It is told by its place and its reason: it is no text, and no octets that don't begin with a frame.
pub record ToldByKey (members : Members) (fault : KeyFault) (place : List ℕ) (reason : KeyReason) : Type 0 where
  pub place_is : place ≡ place_text fault
  pub reason_is : reason ≡ fault.reason
  pub no_text : bad_text members fault ≡ None
  pub framed : (given : Family × List ℕ) → bad_nlri members fault ≡ Some given → BeginsFrame given.0 given.1

-- It is a text, and no text goes on with this word, counted from 1.
pub record ToldByWord (members : Members) (fault : KeyFault) (rule word : ℕ) : Type 0 where
  pub rule_is : fault.item ≡ Some rule
  pub text : List ℕ
  pub text_is : bad_text members fault ≡ Some text
  pub before : ℕ
  pub word_is : word ≡ suc before
  pub bad : IsTextFault text (Bad before)

-- It is the text of a rule in all but that the rule is too long.
pub record ToldTooLong (members : Members) (fault : KeyFault) (rule : ℕ) : Type 0 where
  pub rule_is : fault.item ≡ Some rule
  pub text : List ℕ
  pub text_is : bad_text members fault ≡ Some text
  pub long : IsTextFault text LongText

-- It is octets, and their frame has this fault.
pub record ToldByOctet (members : Members) (fault : KeyFault) (rule : ℕ) (reason : Reason) (place : ℕ) : Type 0 where
  pub rule_is : fault.item ≡ Some rule
  pub given : Family × List ℕ
  pub given_is : bad_nlri members fault ≡ Some given
  pub bad : IsFrameBad given.0 given.1 reason place

abbrev pub IsTold : Members → KeyFault → RulesFault → Type 0
IsTold tree fault (NoDocument line column) = ⊥
IsTold tree fault (Key place reason) = ToldByKey tree fault (string_bytes place) reason
IsTold tree fault (Word rule word) = ToldByWord tree fault rule word
IsTold tree fault (TooLong rule) = ToldTooLong tree fault rule
IsTold tree fault (Nlri rule reason place) = ToldByOctet tree fault rule reason place
IsTold tree fault Memory = ⊤

-- in steps

-- the fault is a text, and told so
abbrev pub SaysWord : Members → KeyFault → Option RulesFault → Type 0
SaysWord tree fault None = bad_text tree fault ≡ None
SaysWord tree fault (Some told) = IsTold tree fault told

-- octets begin with no frame
abbrev pub SaysFrame : Family → List ℕ → Option (Reason × ℕ) → Type 0
SaysFrame family octets None = BeginsFrame family octets
SaysFrame family octets (Some bad) = IsFrameBad family octets bad.0 bad.1

-- the fault is octets, and told so
abbrev pub SaysOctet : Members → KeyFault → Option RulesFault → Type 0
SaysOctet tree fault None = (given : Family × List ℕ) → bad_nlri tree fault ≡ Some given → BeginsFrame given.0 given.1
SaysOctet tree fault (Some told) = IsTold tree fault told

-- it is one of both
abbrev pub SaysValue : Members → KeyFault → Option RulesFault → Type 0
SaysValue tree fault None = SaysWord tree fault None × SaysOctet tree fault None
SaysValue tree fault (Some told) = IsTold tree fault told

-- the first fault of a document; want of memory says nothing of it
abbrev pub IsOfDocument : Config → Members → RulesFault → Type 0
IsOfDocument config tree Memory = ⊤
IsOfDocument config tree told = (fault : KeyFault) × (rules_fault config tree ≡ Some fault) × IsTold tree fault told

-- It is the first fault of these octets; want of memory says nothing of them.
abbrev pub IsFirstRulesFault : Config → List ℕ → RulesFault → Type 0
IsFirstRulesFault config octets (NoDocument line column) = IsNoDocument octets line column
IsFirstRulesFault config octets Memory = ⊤
IsFirstRulesFault config octets told = (members : Members) × (document_of octets ≡ Some members) × IsOfDocument config members told

abbrev pub unread_rules : Unread → RulesFault
unread_rules (At line column) = NoDocument line column
unread_rules NoneLeft = Memory

abbrev pub octet_reason_name : Reason → List ℕ
octet_reason_name Cut = codes "Cut"
octet_reason_name NoType = codes "Type"
octet_reason_name Order = codes "Order"
octet_reason_name PrefixLength = codes "PrefixLength"
octet_reason_name Offset = codes "Offset"
octet_reason_name Width = codes "Width"
octet_reason_name Length = codes "Length"

abbrev pub rules_fault_text : RulesFault → List ℕ
rules_fault_text (NoDocument line column) = codes "line " ++ (decimal line ++ (codes " column " ++ decimal column))
rules_fault_text (Key place reason) = string_bytes place ++ (codes " " ++ reason_name reason)
rules_fault_text (Word rule word) = codes "rule " ++ (decimal rule ++ (codes " text at word " ++ decimal word))
rules_fault_text (TooLong rule) = codes "rule " ++ (decimal rule ++ codes " text too long")
rules_fault_text (Nlri rule reason place) =
    codes "rule " ++ (decimal rule ++ (codes " nlri " ++ (octet_reason_name reason ++ (codes " at " ++ decimal place))))
rules_fault_text Memory = codes "out of memory"
