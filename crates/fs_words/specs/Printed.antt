-- The text of a rule and its actions: words joined by single spaces.
use Rattle.std.specs.{Prelude.{ℕ, List, [], ◌∷◌, ◌++◌, codes}, List.{join_with_byte}}
use Rattle.fs_base.specs.declared.prefix.Family.{Family, TheVariants.{V4, V6}}
use Rattle.fs_nlri.specs.Parts.{Part, Ruled}
use Rattle.fs_words.specs.{Actions.{action_name, action_text}, Values.{component_name, value_text}}

abbrev pub family_word : Family → List ℕ
family_word V4 = codes "v4"
family_word V6 = codes "v6"

-- of each component its name and its value
abbrev pub component_words : List Part → List (List ℕ)
component_words [] = []
component_words (part ∷ parts) = component_name part.kind ∷ value_text part ∷ component_words parts

-- of each action its name and what it says
abbrev pub action_words : List (List ℕ) → List (List ℕ)
action_words [] = []
action_words (action ∷ actions) = action_name action ∷ action_text action ∷ action_words actions

-- where there are actions, a word stands before them
abbrev pub then_words : List (List ℕ) → List (List ℕ)
then_words [] = []
then_words (action ∷ actions) = codes "then" ∷ action_words (action ∷ actions)

abbrev pub words_of : Ruled → List (List ℕ) → List (List ℕ)
words_of rule actions = family_word rule.family ∷ (component_words rule.parts ++ then_words actions)

-- the text of a rule and its actions
abbrev pub text_of : Ruled → List (List ℕ) → List ℕ
text_of rule actions = join_with_byte 32 (words_of rule actions)

-- words, each with a space before it
abbrev pub spaced : List (List ℕ) → List ℕ
spaced [] = []
spaced (word ∷ words) = codes " " ++ (word ++ spaced words)
