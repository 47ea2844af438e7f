-- An action by its name and its word.
use Rattle.std.specs.Prelude.{◌≡◌, ℕ, List, Option, Some, None}
use Rattle.fs_base.specs.Language.{IsOctets}
use Rattle.fs_actions.specs.Community.{IsAction}
use Rattle.fs_words.specs.Actions.{action_name, action_text}

-- an action of this name
pub record IsNamed (name action : List ℕ) : Type 0 where
  pub normal : IsAction action
  pub octets : IsOctets action
  pub named : action_name action ≡ name

-- whether these octets are the action of this name and this word
abbrev pub Compared : (name word octets : List ℕ) → Option (List ℕ) → Type 0
Compared name word octets None = IsNamed name octets → word ≡ action_text octets → ⊥
Compared name word octets (Some action) = IsNamed name action × (word ≡ action_text action)
