-- What the code that writes a change of rules looks up: the rules that are kept, and the messages that were said.
use Rattle.std.specs.Prelude.{ℕ, Bool, ◌||◌, ◌≡◌, not, nat_le, List, filter, flat_map, length}
use Rattle.std.specs.{BTreeSet.{BTreeSet}, List.{list_any}, Ordering.{is_eq, nat_cmp}, Cmp.Lexicographic.{slice_cmp}, Str.{bytes_eq}, Global.{Vec}}
use Rattle.fs_nlri.specs.{Parts.{Ruled}, Rule.{canonical_frame}}
use Rattle.fs_order.specs.{Comparison.{rule_cmp}, declared.ranked.Ranked.{Ranked}}
use Rattle.fs_speaker.specs.declared.Sent.{Sent}
use Rattle.fs_peering.specs.Keeper.{room_for_rules}

-- a rule is among those that are kept
abbrev pub has_rule : BTreeSet Ranked → Ruled → Bool
has_rule kept rule = list_any (λ other. is_eq (rule_cmp rule other.rule)) kept.keys

-- these rules are kept, and no others
abbrev pub Keeps : BTreeSet Ranked → List Sent → Type 0
Keeps kept rules = (rule : Ruled) → has_rule kept rule ≡ list_any (λ other. is_eq (rule_cmp rule other.rule)) rules

-- a rule is kept beside the others
abbrev pub Notes : (old new : BTreeSet Ranked) → Sent → Type 0
Notes old new sent = (rule : Ruled) → has_rule new rule ≡ (is_eq (rule_cmp rule sent.rule) || has_rule old rule)

-- those that aren't kept
abbrev pub unkept : BTreeSet Ranked → List Sent → List Sent
unkept kept rules = filter (λ sent. not (has_rule kept sent.rule)) rules

-- a message is among those that were said
abbrev pub has_text : BTreeSet (Vec ℕ) → List ℕ → Bool
has_text said text = list_any (λ other. is_eq (slice_cmp nat_cmp text other.items)) said.keys

-- these messages were said, and no others
abbrev pub AreSaid : BTreeSet (Vec ℕ) → List (List ℕ) → Type 0
AreSaid said texts = (text : List ℕ) → has_text said text ≡ list_any (bytes_eq text) texts

-- a message was said beside the others
abbrev pub Adds : (old new : BTreeSet (Vec ℕ)) → List ℕ → Type 0
Adds old new added = (text : List ℕ) → has_text new text ≡ (bytes_eq text added || has_text old text)

-- those that weren't said, and messages one behind the other
abbrev pub unsaid : BTreeSet (Vec ℕ) → List (List ℕ) → List (List ℕ)
unsaid said texts = filter (λ text. not (has_text said text)) texts

abbrev pub joined : List (List ℕ) → List ℕ
joined texts = flat_map (λ (text : List ℕ). text) texts

-- a rule that an UPDATE has room for
abbrev pub fits_alone : Ruled → Bool
fits_alone rule = nat_le (length (canonical_frame rule)) room_for_rules
