-- How far the words of a text are read, and that whatever text begins so goes on from there.
use Rattle.std.specs.Prelude.{◌≡◌, ℕ, List, [], ◌∷◌, ◌++◌, length, drop, codes}
use Rattle.fs_base.specs.declared.prefix.Family.{Family}
use Rattle.fs_nlri.specs.{Parts.{Part, ruled}, Rule.{AreNormal}}
use Rattle.fs_words.specs.Printed.{action_words, component_words, family_word, then_words, words_of}
use Rattle.fs_text.specs.{Steps.{IsEnd}, Text.{AreActions}}

abbrev pub last_kind : ℕ → List Part → ℕ
last_kind last [] = last
last_kind last (part ∷ parts) = last_kind part.kind parts

abbrev pub front : Family → List Part → List (List ℕ)
front family parts = family_word family ∷ component_words parts

-- whatever text begins so, these components are its first
pub record Continues (family : Family) (parts : List Part) (tail : List (List ℕ)) (f : Family) (ps : List Part) (said : List (List ℕ)) : Type 0 where
  pub same : f ≡ family
  pub others : List Part
  pub split : ps ≡ parts ++ others
  pub normal : AreNormal family (last_kind 0 parts) others
  pub behind : tail ≡ component_words others ++ then_words said

abbrev pub Goes : Family → List Part → Type 0
Goes family parts =
    (tail : List (List ℕ)) (f : Family) (ps : List Part) (said : List (List ℕ)) → AreNormal f 0 ps → front family parts ++ tail ≡ words_of (ruled f ps) said
    → Continues family parts tail f ps said

pub record Led (words : List (List ℕ)) (family : Family) (parts : List Part) (last place : ℕ) : Type 0 where
  pub split : words ≡ front family parts ++ drop place words
  pub here : place ≡ length (front family parts)
  pub normal : AreNormal family 0 parts
  pub last_is : last ≡ last_kind 0 parts
  pub goes : Goes family parts

-- these are all components: nothing stands behind them, or the word before actions
pub record AreAll (words : List (List ℕ)) (family : Family) (parts : List Part) (place : ℕ) : Type 0 where
  pub last : ℕ
  pub led : Led words family parts last place
  pub end : IsEnd (drop place words)

abbrev pub ahead : Family → List Part → List (List ℕ) → List (List ℕ)
ahead family parts actions = front family parts ++ codes "then" ∷ action_words actions

-- whatever text begins so, these are its components, and these actions its first
pub record Rests (family : Family) (parts : List Part) (actions tail : List (List ℕ)) (f : Family) (ps : List Part) (said : List (List ℕ)) : Type 0 where
  pub same : f ≡ family
  pub all : ps ≡ parts
  pub others : List (List ℕ)
  pub split : said ≡ actions ++ others
  pub behind : tail ≡ action_words others
  pub some : said ≡ [] → ⊥

abbrev pub RestsOf : Family → List Part → List (List ℕ) → Type 0
RestsOf family parts actions =
    (tail : List (List ℕ)) (f : Family) (ps : List Part) (said : List (List ℕ)) → AreNormal f 0 ps → AreActions said
    → ahead family parts actions ++ tail ≡ words_of (ruled f ps) said
    → Rests family parts actions tail f ps said

pub record Acts (words : List (List ℕ)) (family : Family) (parts : List Part) (actions : List (List ℕ)) (place : ℕ) : Type 0 where
  pub split : words ≡ ahead family parts actions ++ drop place words
  pub here : place ≡ length (ahead family parts actions)
  pub normal : AreNormal family 0 parts
  pub actions_are : AreActions actions
  pub goes : RestsOf family parts actions
