-- The rules file: a TOML document with these keys and no others.
use Rattle.std.specs.Prelude.{ℕ, Bool, true, not, ◌&&◌, ◌||◌, ◌≡◌, if◌then◌else◌, List, [], ◌∷◌, codes, Option, Some, None, option_and_then}
use Rattle.std.specs.{BTreeSet.{BTreeSet}, List.{list_any}, Ordering.{is_eq}}
use Rattle.toml.specs.Data.{Data, as_array, Members, get_member}
use Rattle.fs_base.specs.declared.config.Config.{Config}
use Rattle.fs_nlri.specs.Parts.{Ruled}
use Rattle.fs_order.specs.{Comparison.{rule_cmp}, declared.ranked.Ranked.{Ranked}}
use Rattle.fs_speaker.specs.{Sending.{is_sending, sender_of}, declared.{Sending.{Sending}, Sent.{Sent}}}
use Rattle.fs_conf.specs.{Address.{ipv4_of}, Config.{as_number, kept_if, written}, Document.{document_of, each_item}, Fields.{keys_among}, Sent.{sent_of_data}}

infixl 10 ◌>>=◌
abbrev ◌>>=◌ : {A B : Type 0} → Option A → (A → Option B) → Option B
o >>= f = option_and_then f o

-- no two of them are one rule
abbrev pub is_same : Sent → Sent → Bool
is_same sent other = is_eq (rule_cmp sent.rule other.rule)

-- a rule is among those that were noted
abbrev pub has_seen : BTreeSet Ranked → Ruled → Bool
has_seen seen rule = list_any (λ other. is_eq (rule_cmp rule other.rule)) seen.keys

-- a rule is noted beside the others, and is new where it wasn't among them
pub record Sees (old new : BTreeSet Ranked) (sent : Sent) (is_new : Bool) : Type 0 where
  pub fresh : is_new ≡ not (has_seen old sent.rule)
  pub seen : (rule : Ruled) → has_seen new rule ≡ (is_eq (rule_cmp sent.rule rule) || has_seen old rule)

abbrev pub are_single : List Sent → Bool
are_single [] = true
are_single (sent ∷ rules) = not (list_any (is_same sent) rules) && are_single rules

-- none where the key is missing
abbrev pub rules_in : Option Data → Option (List Sent)
rules_in None = Some []
rules_in (Some value) = (as_array value >>= each_item sent_of_data) >>= kept_if are_single

abbrev pub number_of : Data → Option ℕ
number_of value = as_number (Some value)

abbrev pub as_path_in : Option Data → Option (List ℕ)
as_path_in found = (found >>= as_array) >>= each_item number_of

-- what may be sent for the peer with the lowest number
abbrev pub sendable : Config → Sending → Option Sending
sendable config sending = elim (sender_of config.peers) [ None ↦ None | Some peer ↦ kept_if (is_sending config peer) sending ]

abbrev pub file_keys : List (List ℕ)
file_keys = codes "id" ∷ codes "as_path" ∷ codes "rule" ∷ []

abbrev pub sending_of_members : Config → Members → Option Sending
sending_of_members config members = do
  id ← written ipv4_of (get_member (codes "id") members)
  as_path ← as_path_in (get_member (codes "as_path") members)
  rules ← rules_in (get_member (codes "rule") members)
  sendable config (record { id = id; as_path = as_path; rules = rules })

abbrev pub sending_of_document : Config → Members → Option Sending
sending_of_document config members = if keys_among file_keys members then sending_of_members config members else None

-- what the octets of a rules file say is to be sent
abbrev pub rules_of : Config → List ℕ → Option Sending
rules_of config octets = document_of octets >>= sending_of_document config
