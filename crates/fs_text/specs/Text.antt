-- Whole texts: the words of a rule and its actions, and the first word with which no text goes on.
use Rattle.std.specs.{Prelude.{◌≡◌, ◌<◌, ◌≤◌, ◌+◌, ◌==◌, ◌⊎◌, ℕ, List, ◌++◌, length, take, Result, Ok, Err, IfErr, IfOk}, List.{AllByRecursion, slice_split}}
use Rattle.fs_base.specs.{declared.prefix.Family.{Family}, Language.{IsOctets}}
use Rattle.fs_nlri.specs.{Parts.{Part, Ruled, ruled}, Rule.{AreNormal, IsRule, canonical_value}}
use Rattle.fs_actions.specs.Actions.{IsActions}
use Rattle.fs_words.specs.Printed.{words_of}
use Rattle.fs_text.specs.declared.fault.TextFault.{TextFault, TheVariants.{Bad, TooLong, Memory}}

-- actions by rising octets, each once
pub record AreActions (actions : List (List ℕ)) : Type 0 where
  pub rising : IsActions actions
  pub octets : AllByRecursion IsOctets actions

-- these are the words of a rule and its actions, whatever the length of the rule's value
pub record AreWords (words : List (List ℕ)) : Type 0 where
  pub family : Family
  pub parts : List Part
  pub actions : List (List ℕ)
  pub normal : AreNormal family 0 parts
  pub actions_are : AreActions actions
  pub words_are : words ≡ words_of (ruled family parts) actions

-- the first words of some
pub record Begin (words : List (List ℕ)) : Type 0 where
  pub more : List (List ℕ)
  pub whole : AreWords (words ++ more)

-- the words before this one begin a text, and with it they begin none; or all begin one, and are none
pub record IsBadWord (words : List (List ℕ)) (place : ℕ) : Type 0 where
  pub before : Begin (take place words)
  pub at : ((place < length words) × (Begin (take (place + 1) words) → ⊥)) ⊎ ((place ≡ length words) × (AreWords words → ⊥))

-- the words of a rule whose value no frame can hold
pub record AreTooLong (words : List (List ℕ)) : Type 0 where
  pub family : Family
  pub parts : List Part
  pub actions : List (List ℕ)
  pub normal : AreNormal family 0 parts
  pub actions_are : AreActions actions
  pub words_are : words ≡ words_of (ruled family parts) actions
  pub long : 4095 < length (canonical_value parts)

-- while words are read
abbrev pub IsWordFault : List (List ℕ) → TextFault → Type 0
IsWordFault words (Bad place) = IsBadWord words place
IsWordFault words TooLong = ⊥
IsWordFault words Memory = Unit {0}

abbrev pub IsWordsFault : List (List ℕ) → TextFault → Type 0
IsWordsFault words (Bad place) = IsBadWord words place
IsWordsFault words TooLong = AreTooLong words
IsWordsFault words Memory = Unit {0}

-- a text, cut at each space
abbrev pub words_in : List ℕ → List (List ℕ)
words_in text = slice_split (λ octet. octet == 32) text

abbrev pub IsTextFault : List ℕ → TextFault → Type 0
IsTextFault text fault = IsWordsFault (words_in text) fault

-- what is answered where memory is there
abbrev pub ReadsAs : Ruled → List (List ℕ) → Result (Ruled × List (List ℕ)) TextFault → Type 0
ReadsAs rule actions (Ok read) = (read.0 ≡ rule) × (read.1 ≡ actions)
ReadsAs rule actions (Err Memory) = Unit {0}
ReadsAs rule actions (Err (Bad place)) = ⊥
ReadsAs rule actions (Err TooLong) = ⊥

-- the words are these, of nothing else, and nothing is left
pub record IsWhole (words : List (List ℕ)) (family : Family) (parts : List Part) (actions : List (List ℕ)) : Type 0 where
  pub normal : AreNormal family 0 parts
  pub actions_are : AreActions actions
  pub words_are : words ≡ words_of (ruled family parts) actions
  pub only :
      (f : Family) (ps : List Part) (said : List (List ℕ)) → AreNormal f 0 ps → AreActions said → words ≡ words_of (ruled f ps) said
      → (f ≡ family) × (ps ≡ parts) × (said ≡ actions)

-- the rule of these components, if a frame can hold its value; where it is too long, that
abbrev pub Makes : Family → List Part → Result Ruled TextFault → Type 0
Makes family parts (Ok rule) = (rule ≡ ruled family parts) × (length (canonical_value parts) ≤ 4095)
Makes family parts (Err TooLong) = 4095 < length (canonical_value parts)
Makes family parts (Err Memory) = Unit {0}
Makes family parts (Err (Bad place)) = ⊥

-- what is answered of words
pub record ReadsWords (words : List (List ℕ)) (result : Result (Ruled × List (List ℕ)) TextFault) : Type 0 where
  pub found : IfOk result (λ read. IsRule read.0 × AreActions read.1 × (words ≡ words_of read.0 read.1))
  pub exact : (rule : Ruled) (actions : List (List ℕ)) → IsRule rule → AreActions actions → words ≡ words_of rule actions → ReadsAs rule actions result
  pub fault : IfErr result (IsWordsFault words)
