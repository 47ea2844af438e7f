-- The lines of a family's rules.
use Rattle.std.specs.{Prelude.{ℕ, ◌+◌, List, [], ◌∷◌, ◌++◌, flat_map, map, Option, Some, None, codes, decimal}, Option.{option_map_or}, List.{concat}}
use Rattle.hex.specs.Hex.{encode_lower}
use Rattle.fs_base.specs.declared.prefix.Family.{Family}
use Rattle.fs_nlri.specs.{Parts.{Ruled}, Rule.{canonical_frame}}
use Rattle.fs_validate.specs.declared.validity.Validity.{Validity, TheVariants.{Valid, NoDestination, Originator, MoreSpecific, LeftAs}}
use Rattle.fs_rules.specs.{Table.{Held, admitted}, Lent.{Listed, listed, Judged, held_flows}}
use Rattle.fs_line.specs.Pieces.{family_name}

-- a rule's canonical octets, and the peer that gave it
abbrev pub head_text : Ruled → ℕ → List ℕ
head_text rule peer = codes " " ++ (encode_lower (canonical_frame rule) ++ (codes " peer " ++ decimal peer))

-- the communities of a rule's actions
abbrev pub actions_text : List (List ℕ) → List ℕ
actions_text [] = codes "-"
actions_text (action ∷ actions) = encode_lower (concat (action ∷ actions))

abbrev pub number_text : Family → ℕ → List ℕ
number_text family number = family_name family ++ (codes " " ++ decimal number)

abbrev pub tail_text : List (List ℕ) → List ℕ
tail_text actions = codes " actions " ++ (actions_text actions ++ codes "\n")

abbrev pub admitted_line : Family → ℕ → Listed → List ℕ
admitted_line family number rule =
    number_text family number ++ (head_text rule.rule rule.peer ++ tail_text rule.actions)

-- the lines of admitted rules, numbered from this number on
abbrev pub admitted_lines : Family → ℕ → List Listed → List ℕ
admitted_lines family number [] = []
admitted_lines family number (rule ∷ rules) =
    admitted_line family number rule ++ admitted_lines family (number + 1) rules

-- the rule of validation that is broken (RFC 9117 section 4)
abbrev pub reason_of : Validity → Option (List ℕ)
reason_of Valid = None
reason_of NoDestination = Some (codes "NoDestination")
reason_of Originator = Some (codes "Originator")
reason_of MoreSpecific = Some (codes "MoreSpecific")
reason_of LeftAs = Some (codes "LeftAs")

abbrev pub invalid_line : Family → Judged → List ℕ → List ℕ
invalid_line family route reason =
    family_name family
    ++ (codes " invalid" ++ (head_text route.rule route.peer ++ (codes " " ++ (reason ++ codes "\n"))))

-- a valid route has no such line
abbrev pub invalid_text : Family → Judged → List ℕ
invalid_text family route = option_map_or (invalid_line family route) (reason_of route.validity) []

abbrev pub invalid_lines : Family → List Judged → List ℕ
invalid_lines family routes = flat_map (invalid_text family) routes

-- the admitted rules of a family in order, and then the routes that aren't valid
abbrev pub family_text : Family → Held → List ℕ
family_text family held =
    admitted_lines family 1 (map listed (admitted family held)) ++ invalid_lines family (held_flows family held)
