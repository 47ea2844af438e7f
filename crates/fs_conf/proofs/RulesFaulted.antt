-- A document has a fault as a rules file exactly where it is none.
use Rattle.fs_conf.proofs.Words.{◌≡◌, ◌≢◌, ℕ, suc, ◌<◌, ◌^◌, nat_le, nat_lt, Bool, true, false, not, ◌&&◌, ◌||◌, if◌then◌else◌, List, [], ◌∷◌, length}
use Rattle.fs_conf.proofs.Words.{Option, Some, None, refl, sym, ap, ◌∙◌, codes, option_map, option_and_then, is_some, list_all, list_any, bytes_eq}
use Rattle.fs_conf.proofs.Words.{is_eq, lt-ltb, AllByRecursion, Data, Items, no_items, item, Members, no_members, as_array, as_table, get_member}
use Rattle.fs_conf.proofs.Words.{Config, Peer, Ruled, rule_cmp, Sent, kept_if, written, each_item, keys_among, ipv4_of, are_single, as_path_in}
use Rattle.fs_conf.proofs.Words.{file_keys, number_of, rules_in, sendable, sending_of_document, sending_of_members, actions_in, family_of, rule_keys}
use Rattle.fs_conf.proofs.Words.{rule_written, sent_of_data, sent_of_members, sent_of_table, sent_of_text, text_keys}
use Rattle.fs_conf.proofs.Announced.{found_numbers}
use Rattle.fs_conf.proofs.Faulted.{clear_first, clear_judged, clear_map, clear_or, clear_reason, clear_unknown, each_clear, if_keys, is_clear}
use Rattle.fs_conf.proofs.Faulted.{item_clear, no_value, none_clear, then_some}
use Rattle.fs_conf.proofs.Single.{are_fresh, fresh_more, fresh_none, not_fresh}
use Rattle.std.specs.{Cmp.Lexicographic.{slice_cmp}, Option.{option_or}, Ordering.{match_ordering}}
use Rattle.std.proofs.{Common.{Ordering, Less, Equal, Greater, nat_cmp}, lemmas.Map.Lookups.{exact_bytes}}
use Rattle.toml.specs.Data.{member}
use Rattle.fs_base.specs.declared.prefix.Family.{Family}
use Rattle.fs_speaker.specs.{declared.Sending.{Sending}, Sending.{is_sending, is_short, sender_of}, Transition.{terms_of}}
use Rattle.fs_conf.specs.Document.{document_of}
use Rattle.fs_conf.specs.Fault.{KeyFault, array_in, each_fault, first_of, item_count, item_fault, judged, own_fault, reason_at, unfit, unknown}
use Rattle.fs_conf.specs.{Laws.{NamesTheRulesFault}, Rules.{rules_of}, Worded.{sent}}
use Rattle.fs_conf.specs.declared.fault.KeyReason.TheVariants.{Repeated, Value}
use Rattle.fs_conf.specs.declared.fault.RulesFault.{RulesFault, TheVariants.{Key, Memory as NoMemory, Nlri, Text as NoDocument, TooLong, Word}}
use Rattle.fs_conf.specs.declared.faults.Kind.TheVariants.{Array, Integer, Text}
use Rattle.fs_conf.specs.RuleFault.{IsFirstRulesFault, IsOfDocument, file_checks, first_but, first_same}
use Rattle.fs_conf.specs.RuleFault.{list_fault, listed, listed_fault, may_go, nlri_check, number_fault, numbers_fault, octet_checks, path_fault}
use Rattle.fs_conf.specs.RuleFault.{rule_check, rule_fault, rule_in, rules_fault, sents_fault, text_checks, unsent}

-- of each item

counted : {A : Type 0} (read : Data → Option A) (items : Items) (all : List A) → each_item read items ≡ Some all → item_count items ≡ length all
counted read no_items [] e = refl
counted read no_items (x ∷ xs) e = absurd cc
counted {A} read (item value rest) all e = by (read value) (each_item read rest) (counted read rest) e
  where
    by : (first : Option A) (more : Option (List A)) → ((later : List A) → more ≡ Some later → item_count rest ≡ length later)
        → option_and_then (λ found. option_map (λ m. found ∷ m) more) first ≡ Some all → suc (item_count rest) ≡ length all
    by None more behind e = absurd cc
    by (Some found) None behind e = absurd cc
    by (Some found) (Some later) behind e = let same : found ∷ later ≡ all = cc in ap suc (behind later refl) ∙ ap (λ (xs : List A). length xs) same

-- of the path

number_clear : (place : ℕ) (value : Data) → is_clear (number_fault place value) ≡ is_some (number_of value)
number_clear place value =
    clear_map (item_fault (codes "as_path") place None) (reason_at Integer (is_some (number_of value)) (Some value))
    ∙ clear_reason Integer (is_some (number_of value)) (Some value)

abbrev path_ok : Option (List ℕ) → Bool
path_ok None = false
path_ok (Some path) = nat_le (length path) 255

numbers_by : (items : Items) (found : Option (List ℕ)) → each_item number_of items ≡ found → is_clear (numbers_fault (Some items)) ≡ path_ok found
numbers_by items None e = by (nat_le (item_count items) 255) (each_clear number_fault number_of number_clear 1 items
    ∙ ap (λ (o : Option (List ℕ)). is_some o) e)
  where
    by : (c : Bool) → is_clear (each_fault number_fault 1 items) ≡ false
        → is_clear (if c then each_fault number_fault 1 items else Some (own_fault (unfit (codes "as_path") Value))) ≡ false
    by true each = each
    by false each = refl
numbers_by items (Some path) e =
    by (nat_le (item_count items) 255) (each_clear number_fault number_of number_clear 1 items ∙ ap (λ (o : Option (List ℕ)). is_some o) e)
    ∙ ap (λ n. nat_le n 255) (counted number_of items path e)
  where
    by : (c : Bool) → is_clear (each_fault number_fault 1 items) ≡ true
        → is_clear (if c then each_fault number_fault 1 items else Some (own_fault (unfit (codes "as_path") Value))) ≡ c
    by true each = each
    by false each = refl

path_clear : (members : Members) → is_clear (path_fault members) ≡ path_ok (as_path_in (get_member (codes "as_path") members))
path_clear members =
    clear_or (option_map own_fault (judged (codes "as_path") Array array_in members)) (numbers_fault (array_in (get_member (codes "as_path") members)))
    ∙ rw (clear_map own_fault (judged (codes "as_path") Array array_in members), clear_judged (codes "as_path") Array array_in members)
    (by (array_in (get_member (codes "as_path") members)))
  where
    by : (found : Option Items) → (is_some found && is_clear (numbers_fault found)) ≡ path_ok (option_and_then (each_item number_of) found)
    by None = refl
    by (Some items) = numbers_by items (each_item number_of items) refl

-- of a rule

-- a key that a table has isn't among names that it isn't
absent : (names : List (List ℕ)) (key : List ℕ) (members : Members) → list_any (λ name. bytes_eq name key) names ≡ false
    → is_some (get_member key members) ≡ true
    → keys_among names members ≡ false
absent names key no_members none there = absurd cc
absent names key (member own value rest) none there = by (slice_cmp nat_cmp key own) (exact_bytes key own) (absent names key rest none) there
  where
    never : (b : Bool) → (b && false) ≡ false
    never true = refl
    never false = refl

    by : (order : Ordering) → (order ≡ Equal → key ≡ own) → (is_some (get_member key rest) ≡ true → keys_among names rest ≡ false)
        → is_some (match_ordering order (get_member key rest) (Some value) (get_member key rest)) ≡ true
        → (list_any (λ name. bytes_eq name own) names && keys_among names rest) ≡ false
    by Less same later there = rw (later there) (never (list_any (λ name. bytes_eq name own) names))
    by Equal same later there = rw (← same refl, none) refl
    by Greater same later there = rw (later there) (never (list_any (λ name. bytes_eq name own) names))

words_clear : (members : Members)
    → is_clear (first_of text_checks members)
    ≡ (keys_among text_keys members && (is_some (written sent_of_text (get_member (codes "text") members)) && true))
words_clear members =
    clear_first (unknown text_keys) (judged (codes "text") Text (written sent_of_text) ∷ []) members _ _ (clear_unknown text_keys members)
    (clear_first (judged (codes "text") Text (written sent_of_text)) [] members _ _ (clear_judged (codes "text") Text (written sent_of_text) members) refl)

octets_clear : (members : Members) → is_clear (first_of octet_checks members)
    ≡ (keys_among rule_keys members
    && (is_some (written family_of (get_member (codes "family") members))
    && (is_some (rule_in (written family_of (get_member (codes "family") members)) (get_member (codes "nlri") members))
    && (is_some (actions_in (get_member (codes "actions") members)) && true))))
octets_clear members =
    clear_first (unknown rule_keys) (judged (codes "family") Text (written family_of) ∷ nlri_check ∷ judged (codes "actions") Text actions_in ∷ [])
    members _ _ (clear_unknown rule_keys members)
    (clear_first (judged (codes "family") Text (written family_of)) (nlri_check ∷ judged (codes "actions") Text actions_in ∷ []) members _ _
    (clear_judged (codes "family") Text (written family_of) members)
    (clear_first nlri_check (judged (codes "actions") Text actions_in ∷ []) members _ _
    (clear_judged (codes "nlri") Text (rule_in (written family_of (get_member (codes "family") members))) members)
    (clear_first (judged (codes "actions") Text actions_in) [] members _ _ (clear_judged (codes "actions") Text actions_in members) refl)))

octets_some : (members : Members) → is_some (sent_of_members members)
    ≡ (is_some (written family_of (get_member (codes "family") members))
    && (is_some (rule_in (written family_of (get_member (codes "family") members)) (get_member (codes "nlri") members))
    && (is_some (actions_in (get_member (codes "actions") members)) && true)))
octets_some members = by (written family_of (get_member (codes "family") members))
  where
    by : (family : Option Family)
        → is_some (option_and_then (λ own. option_and_then
        (λ rule. option_and_then (λ actions. Some (sent rule actions)) (actions_in (get_member (codes "actions") members)))
        (written (rule_written own) (get_member (codes "nlri") members))) family)
        ≡ (is_some family && (is_some (rule_in family (get_member (codes "nlri") members))
        && (is_some (actions_in (get_member (codes "actions") members)) && true)))
    by None = refl
    by (Some own) =
        then_some _ (written (rule_written own) (get_member (codes "nlri") members)) _ λ rule.
        then_some _ (actions_in (get_member (codes "actions") members)) true λ actions. refl

table_clear : (members : Members) → is_clear (rule_check members) ≡ is_some (sent_of_table members)
table_clear members = by (get_member (codes "text") members) refl
  where
    with_true : (b : Bool) → (b && true) ≡ b
    with_true true = refl
    with_true false = refl

    worded : (keys : Bool) (found : Option Sent) → (keys && (is_some found && true)) ≡ is_some (if keys then found else None)
    worded true found = with_true (is_some found)
    worded false found = refl

    framed : (keys other : Bool) (found : Option Sent) (all : Bool) → is_some found ≡ all
        → (keys && all) ≡ is_some (if keys then found else if other then None else None)
    framed true other found all e = sym e
    framed false true found all e = refl
    framed false false found all e = refl

    by : (text : Option Data) → get_member (codes "text") members ≡ text
        → is_clear (if is_some text then first_of text_checks members else first_of octet_checks members)
        ≡ is_some (if keys_among rule_keys members then sent_of_members members else if keys_among text_keys members then written sent_of_text text else None)
    by (Some value) e =
        words_clear members ∙ rw (absent rule_keys (codes "text") members refl (ap (λ (o : Option Data). is_some o) e), e)
        (worded (keys_among text_keys members) (written sent_of_text (Some value)))
    by None e = octets_clear members ∙ framed (keys_among rule_keys members) (keys_among text_keys members) (sent_of_members members) _ (octets_some members)

rule_clear : (place : ℕ) (value : Data) → is_clear (rule_fault place value) ≡ is_some (sent_of_data value)
rule_clear place value = item_clear (codes "rule") rule_check sent_of_table table_clear place (as_table value)

-- of the rules

same_clear : (has : Ruled → Bool) (place : ℕ) (rules : List Sent) → is_clear (first_same has place rules) ≡ are_fresh has rules
same_clear has place [] = refl
same_clear has place (own ∷ rules) = by (has own.rule) refl (same_clear (λ rule. is_eq (rule_cmp own.rule rule) || has rule) (suc place) rules)
  where
    by : (b : Bool) → has own.rule ≡ b
        → is_clear (first_same (λ rule. is_eq (rule_cmp own.rule rule) || has rule) (suc place) rules)
        ≡ are_fresh (λ rule. is_eq (rule_cmp own.rule rule) || has rule) rules
        → is_clear (if b then Some place else first_same (λ rule. is_eq (rule_cmp own.rule rule) || has rule) (suc place) rules) ≡ are_fresh has (own ∷ rules)
    by true e more = sym (not_fresh has own rules (ap not (sym e)))
    by false e more = more ∙ sym (fresh_more has (λ rule. is_eq (rule_cmp own.rule rule) || has rule) own rules (ap not (sym e)) (λ rule. refl))

but_clear : (test : Sent → Bool) (place : ℕ) (rules : List Sent) → is_clear (first_but test place rules) ≡ list_all test rules
but_clear test place [] = refl
but_clear test place (sent ∷ rules) = by (test sent) (but_clear test (suc place) rules)
  where
    by : (b : Bool) → is_clear (first_but test (suc place) rules) ≡ list_all test rules
        → is_clear (if b then first_but test (suc place) rules else Some place) ≡ (b && list_all test rules)
    by true more = more
    by false more = refl

abbrev rules_ok : Config → List ℕ → Option (List Sent) → Bool
rules_ok config path None = false
rules_ok config path (Some rules) = is_clear (unsent config (sender_of config.peers) path rules)

sents_clear : (config : Config) (path : List ℕ) (found : Option (List Sent))
    → (is_some found && is_clear (sents_fault config (Some path) found)) ≡ rules_ok config path (option_and_then (kept_if are_single) found)
sents_clear config path None = refl
sents_clear config path (Some rules) =
    clear_or (option_map (λ place. item_fault (codes "rule") place None Repeated) (first_same (λ rule. false) 1 rules))
    (unsent config (sender_of config.peers) path rules)
    ∙ rw (
      clear_map (λ place. item_fault (codes "rule") place None Repeated) (first_same (λ rule. false) 1 rules),
      same_clear (λ rule. false) 1 rules,
      ← fresh_none (λ rule. false) rules (λ rule. refl),
    ) (by (are_single rules))
  where
    by : (b : Bool) → (b && is_clear (unsent config (sender_of config.peers) path rules)) ≡ rules_ok config path (if b then Some rules else None)
    by true = refl
    by false = refl

list_clear : (config : Config) (members : Members) (path : List ℕ) → as_path_in (get_member (codes "as_path") members) ≡ Some path
    → is_clear (list_fault config members) ≡ rules_ok config path (rules_in (get_member (codes "rule") members))
list_clear config members path e =
    clear_or (option_map own_fault (judged (codes "rule") Array listed members))
    (listed_fault config (as_path_in (get_member (codes "as_path") members)) (listed (get_member (codes "rule") members)))
    ∙ rw (clear_map own_fault (judged (codes "rule") Array listed members), clear_judged (codes "rule") Array listed members, e)
    (by (get_member (codes "rule") members))
  where
    items_by : (items : Items) → is_clear (listed_fault config (Some path) (Some items))
        ≡ rules_ok config path (option_and_then (kept_if are_single) (each_item sent_of_data items))
    items_by items =
        clear_or (each_fault rule_fault 1 items) (sents_fault config (Some path) (each_item sent_of_data items))
        ∙ rw (each_clear rule_fault sent_of_data rule_clear 1 items) (sents_clear config path (each_item sent_of_data items))

    value_by : (found : Option Items)
        → (is_some found && is_clear (listed_fault config (Some path) found))
        ≡ rules_ok config path (option_and_then (kept_if are_single) (option_and_then (each_item sent_of_data) found))
    value_by None = refl
    value_by (Some items) = items_by items

    by : (found : Option Data) → (is_some (listed found) && is_clear (listed_fault config (Some path) (listed found))) ≡ rules_ok config path (rules_in found)
    by None = items_by no_items
    by (Some value) = value_by (as_array value)

-- of what may be sent

positive : (path : List ℕ) → AllByRecursion (λ asn. (asn < 2 ^ 32) × (0 < asn)) path → list_all (λ asn. nat_lt 0 asn) path ≡ true
positive [] all = refl
positive (asn ∷ path) all = rw (lt-ltb 0 asn all.0.1) (positive path all.1)

each_alone : (config : Config) (peer : Peer) (path : List ℕ) (rules : List Sent) (few some : Bool) → nat_le (length path) 255 ≡ few
    → list_all (λ asn. nat_lt 0 asn) path ≡ some
    → (few && some) ≡ true → list_all (may_go config peer path) rules ≡ list_all (is_short (terms_of config peer true) path) rules
each_alone config peer path [] few some e1 e2 both = refl
each_alone config peer path (sent ∷ rules) few some e1 e2 both =
    let rest = each_alone config peer path rules few some e1 e2 both in
    let one : may_go config peer path sent ≡ is_short (terms_of config peer true) path sent =
    ap (λ b. (b && list_all (λ asn. nat_lt 0 asn) path) && (is_short (terms_of config peer true) path sent && true)) e1
    ∙ ap (λ b. (few && b) && (is_short (terms_of config peer true) path sent && true)) e2
    ∙ ap (λ b. b && (is_short (terms_of config peer true) path sent && true)) both
    ∙ with_true (is_short (terms_of config peer true) path sent) in
    rw (one, rest) refl
  where
    with_true : (b : Bool) → (b && true) ≡ b
    with_true true = refl
    with_true false = refl

kept_some : {A : Type 0} (test : Bool) (value : A) → is_some (if test then Some value else None) ≡ test
kept_some true value = refl
kept_some false value = refl

sendable_clear : (config : Config) (id : ℕ) (path : List ℕ) (rules : List Sent) → list_all (λ asn. nat_lt 0 asn) path ≡ true
    → (nat_le (length path) 255 && is_clear (unsent config (sender_of config.peers) path rules))
    ≡ is_some (sendable config (record { id = id; as_path = path; rules = rules }))
sendable_clear config id path rules some = by (sender_of config.peers)
  where
    sending : Sending
    sending = record { id = id; as_path = path; rules = rules }

    never : (b : Bool) → (b && false) ≡ false
    never true = refl
    never false = refl

    few_by : (peer : Peer) (few : Bool) → nat_le (length path) 255 ≡ few
        → (few && list_all (may_go config peer path) rules)
        ≡ ((few && list_all (λ asn. nat_lt 0 asn) path) && list_all (is_short (terms_of config peer true) path) rules)
    few_by peer false e = refl
    few_by peer true e = each_alone config peer path rules true true e some refl
        ∙ ap (λ b. b && list_all (is_short (terms_of config peer true) path) rules) (sym some)

    by : (sender : Option Peer) → (nat_le (length path) 255 && is_clear (unsent config sender path rules))
        ≡ is_some (elim sender [ None ↦ None | Some peer ↦ kept_if (is_sending config peer) sending ])
    by None = never (nat_le (length path) 255)
    by (Some peer) =
        ap (λ b. nat_le (length path) 255 && b)
        (clear_map (λ place. item_fault (codes "rule") place None Value) (first_but (may_go config peer path) 1 rules)
        ∙ but_clear (may_go config peer path) 1 rules)
        ∙ few_by peer (nat_le (length path) 255) refl
        ∙ sym (kept_some (is_sending config peer sending) sending)

-- the whole

tail_clear : (config : Config) (members : Members) (id : ℕ)
    → (is_clear (path_fault members) && is_clear (list_fault config members))
    ≡ is_some (option_and_then (λ path. option_and_then (λ rules. sendable config (record { id = id; as_path = path; rules = rules }))
    (rules_in (get_member (codes "rule") members))) (as_path_in (get_member (codes "as_path") members)))
tail_clear config members id = ap (λ b. b && is_clear (list_fault config members)) (path_clear members)
    ∙ by (as_path_in (get_member (codes "as_path") members)) refl
  where
    never : (b : Bool) → (b && false) ≡ false
    never true = refl
    never false = refl

    rules_by : (path : List ℕ) → list_all (λ asn. nat_lt 0 asn) path ≡ true → (found : Option (List Sent))
        → (nat_le (length path) 255 && rules_ok config path found)
        ≡ is_some (option_and_then (λ rules. sendable config (record { id = id; as_path = path; rules = rules })) found)
    rules_by path some None = never (nat_le (length path) 255)
    rules_by path some (Some rules) = sendable_clear config id path rules some

    by : (found : Option (List ℕ)) → as_path_in (get_member (codes "as_path") members) ≡ found
        → (path_ok found && is_clear (list_fault config members))
        ≡ is_some (option_and_then (λ path. option_and_then (λ rules. sendable config (record { id = id; as_path = path; rules = rules }))
        (rules_in (get_member (codes "rule") members))) found)
    by None e = refl
    by (Some path) e =
        ap (λ b. nat_le (length path) 255 && b) (list_clear config members path e)
        ∙ rules_by path (positive path (found_numbers (get_member (codes "as_path") members) path e)) (rules_in (get_member (codes "rule") members))

file_clear : (members : Members)
    → is_clear (first_of file_checks members) ≡ (keys_among file_keys members && (is_some (written ipv4_of (get_member (codes "id") members)) && true))
file_clear members =
    clear_first (unknown file_keys) (judged (codes "id") Text (written ipv4_of) ∷ []) members _ _ (clear_unknown file_keys members)
    (clear_first (judged (codes "id") Text (written ipv4_of)) [] members _ _ (clear_judged (codes "id") Text (written ipv4_of) members) refl)

rules_clear : (config : Config) (members : Members) → is_clear (rules_fault config members) ≡ is_some (sending_of_document config members)
rules_clear config members =
    let tail : Bool = is_clear (path_fault members) && is_clear (list_fault config members) in
    clear_or (option_map own_fault (first_of file_checks members)) (option_or (path_fault members) (list_fault config members))
    ∙ rw (clear_map own_fault (first_of file_checks members), file_clear members, clear_or (path_fault members) (list_fault config members))
    (joined (keys_among file_keys members) (is_some (written ipv4_of (get_member (codes "id") members))) tail)
    ∙ sym (if_keys (keys_among file_keys members) (sending_of_members config members) (is_some (written ipv4_of (get_member (codes "id") members)) && tail)
    (then_some _ (written ipv4_of (get_member (codes "id") members)) tail λ id. sym (tail_clear config members id)))
  where
    joined : (keys id tail : Bool) → ((keys && (id && true)) && tail) ≡ (keys && (id && tail))
    joined true true tail = refl
    joined true false tail = refl
    joined false id tail = refl

refused_here : (config : Config) (members : Members) (fault : KeyFault) → rules_fault config members ≡ Some fault → sending_of_document config members ≡ None
refused_here config members fault e =
    no_value (sending_of_document config members) (sym (rules_clear config members) ∙ ap (λ (found : Option KeyFault). is_clear found) e)

refused_by : (config : Config) (octets : List ℕ) (fault : RulesFault) → IsFirstRulesFault config octets fault → fault ≢ NoMemory → rules_of config octets ≡ None
refused_by config octets (NoDocument line column) first some = ap (option_and_then (sending_of_document config)) first.none
refused_by config octets (Key place reason) first some = ap (option_and_then (sending_of_document config)) first.1
    ∙ refused_here config first.0 first.2.0 first.2.1
refused_by config octets (Word rule word) first some = ap (option_and_then (sending_of_document config)) first.1
    ∙ refused_here config first.0 first.2.0 first.2.1
refused_by config octets (TooLong rule) first some = ap (option_and_then (sending_of_document config)) first.1 ∙ refused_here config first.0 first.2.0 first.2.1
refused_by config octets (Nlri rule reason place) first some = ap (option_and_then (sending_of_document config)) first.1
    ∙ refused_here config first.0 first.2.0 first.2.1
refused_by config octets NoMemory first some = absurd (some refl)

pub names_the_rules_fault : NamesTheRulesFault
names_the_rules_fault = record {
  exact = λ config members.
      let same : is_clear (rules_fault config members) ≡ is_some (sending_of_document config members) = rules_clear config members in
      (λ none. sym same ∙ (none_clear (rules_fault config members)).0 none, λ some. (none_clear (rules_fault config members)).1 (same ∙ some));
  refused = refused_by;
  other_first = λ config members key is. rw is refl;
}

pub of_document : (config : Config) (octets : List ℕ) (tree : Members) (told : RulesFault) → document_of octets ≡ Some tree
    → IsOfDocument config tree told → IsFirstRulesFault config octets told
of_document config octets tree (NoDocument line column) e of = absurd of.2
of_document config octets tree (Key place reason) e of = (tree, e, of)
of_document config octets tree (Word rule word) e of = (tree, e, of)
of_document config octets tree (TooLong rule) e of = (tree, e, of)
of_document config octets tree (Nlri rule reason place) e of = (tree, e, of)
of_document config octets tree NoMemory e of = tt
