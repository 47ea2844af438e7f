-- The rules that a packet has walked, as its line is told of them.
use Rattle.std.specs.Prelude.{ℕ, List, map, flat_map}
use Rattle.fs_line.specs.declared.walked.Walked.{Walked}

-- a rule walked: its number and its actions
abbrev pub entry_of : Walked → ℕ × List (List ℕ)
entry_of walked = (walked.number, walked.actions.now)

abbrev pub entries : List Walked → List (ℕ × List (List ℕ))
entries walked = map entry_of walked

-- all actions of the rules walked, in the order of the walk and within a rule in list order
abbrev pub actions_walked : List (ℕ × List (List ℕ)) → List (List ℕ)
actions_walked rules = flat_map (λ rule. rule.1) rules

-- the numbers of the rules walked
abbrev pub numbers_walked : List (ℕ × List (List ℕ)) → List ℕ
numbers_walked rules = map (λ rule. rule.0) rules
