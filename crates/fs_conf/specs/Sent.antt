-- A rule of the rules file: a table with the keys of its octets, or with the one key of its text, and no others.
use Rattle.std.specs.Prelude.{ℕ, ◌*◌, ◌&&◌, Bool, if◌then◌else◌, List, [], ◌∷◌, ◌++◌, codes, filter_map, find, length, Option, Some, None}
use Rattle.std.specs.Prelude.{option_and_then, is_some, Result, Ok, Err}
use Rattle.std.specs.{List.{list_all}, Str.{bytes_eq}}
use Rattle.hex.specs.Hex.{decode_of}
use Rattle.toml.specs.Data.{Data, as_str, as_table, Members, get_member}
use Rattle.fs_base.specs.declared.prefix.Family.{Family, TheVariants.{V4, V6}}
use Rattle.fs_nlri.specs.{Parts.{Ruled}, Reading.{rules_of}}
use Rattle.fs_actions.specs.{Actions.{actions_of, are_communities, communities}, Community.{normal_form}}
use Rattle.fs_speaker.specs.declared.Sent.{Sent}
use Rattle.fs_conf.specs.{Config.{written}, Fields.{keys_among}, Worded.{has_text, octet_lists, with_each}}

infixl 10 ◌>>=◌
abbrev ◌>>=◌ : {A B : Type 0} → Option A → (A → Option B) → Option B
o >>= f = option_and_then f o

abbrev pub family_of : List ℕ → Option Family
family_of word = if bytes_eq word (codes "v4") then Some V4 else if bytes_eq word (codes "v6") then Some V6 else None

abbrev pub if_ok : {A E : Type 0} → Result A E → Option A
if_ok (Ok a) = Some a
if_ok (Err e) = None

-- the octets that a text writes in hexadecimal
abbrev pub octets_of : List ℕ → Option (List ℕ)
octets_of text = if_ok (decode_of text)

abbrev pub only : {A : Type 0} → List A → Option A
only (a ∷ []) = Some a
only _ = None

-- the rule of octets that are exactly one frame
abbrev pub rule_of : Family → List ℕ → Option Ruled
rule_of family octets = if_ok (rules_of family octets) >>= only

abbrev pub rule_written : Family → List ℕ → Option Ruled
rule_written family text = octets_of text >>= rule_of family

-- communities each of which is an action
abbrev pub are_listed : List ℕ → Bool
are_listed octets = list_all (λ community. is_some (normal_form community)) (communities octets)

-- the actions of octets that are such communities, or none
abbrev pub listed_actions : List ℕ → Option (List (List ℕ))
listed_actions [] = Some []
listed_actions octets = if are_communities octets && are_listed octets then Some (actions_of octets) else None

abbrev pub actions_written : List ℕ → Option (List (List ℕ))
actions_written text = octets_of text >>= listed_actions

-- no actions where the key is missing
abbrev pub actions_in : Option Data → Option (List (List ℕ))
actions_in None = Some []
actions_in (Some value) = as_str value >>= actions_written

-- the keys of a rule's octets
abbrev pub rule_keys : List (List ℕ)
rule_keys = codes "family" ∷ codes "nlri" ∷ codes "actions" ∷ []

abbrev pub sent_of_members : Members → Option Sent
sent_of_members members = do
  family ← written family_of (get_member (codes "family") members)
  rule ← written (rule_written family) (get_member (codes "nlri") members)
  actions ← actions_in (get_member (codes "actions") members)
  Some (record { rule = rule; actions = actions })

-- The rules of a family, from all frames of at most 4097 octets: two that say a length, and the 4095 that they can say.
abbrev pub rules_among : Family → List Ruled
rules_among family = filter_map (rule_of family) (octet_lists 4097)

-- the actions of at most so many octets
abbrev pub actions_among : ℕ → List (List (List ℕ))
actions_among most = filter_map listed_actions (octet_lists most)

-- rules of either family, each with the actions of at most so many octets
abbrev pub sents_among : ℕ → List Sent
sents_among most = with_each (actions_among most) (rules_among V4 ++ rules_among V6)

-- The rule and the actions whose text it is; each action has eight octets, and a word of its own in the text.
unfoldable pub sent_of_text : List ℕ → Option Sent
sent_of_text text = find (has_text text) (sents_among (8 * length text))

-- the key of a rule's text
abbrev pub text_keys : List (List ℕ)
text_keys = codes "text" ∷ []

-- a rule is a table with keys of the first kind alone, or with that of the second alone
abbrev pub sent_of_table : Members → Option Sent
sent_of_table members =
    if keys_among rule_keys members then sent_of_members members
    else if keys_among text_keys members then written sent_of_text (get_member (codes "text") members)
    else None

abbrev pub sent_of_data : Data → Option Sent
sent_of_data value = as_table value >>= sent_of_table
