-- What a text is the text of.
use Rattle.std.specs.Prelude.{◌≡◌, ℕ, List}
use Rattle.fs_nlri.specs.{Parts.{Ruled}, Rule.{IsRule}}
use Rattle.fs_words.specs.Printed.{text_of}
use Rattle.fs_text.specs.Text.{AreActions}

-- no text is that of two rules, or of one rule with two lists of actions
abbrev pub EachHasOnePair : Type 0
EachHasOnePair =
    (rule other : Ruled) (actions also : List (List ℕ)) → IsRule rule → AreActions actions → IsRule other → AreActions also
    → text_of rule actions ≡ text_of other also → (rule ≡ other) × (actions ≡ also)
