-- The parts of an input, read one by one, where what a part says depends on those before it: the reader has a state.
use Rattle.std.specs.Prelude.{ℕ, Bool, List, [], ◌∷◌, ◌++◌, Option, Some, ◌≡◌, ◌+◌, ◌-◌, length, ⊤}
use Rattle.fs_base.specs.{Language.{IsOctets}, Parts.{ShrinksBy, at_limit, parts_within, window}}

-- where a reader stands: its state, and the octets that it has before it
pub record At (S : Type 0) : Type 0 where
  pub state : S
  pub octets : List ℕ

abbrev pub at : {S : Type 0} → S → List ℕ → At S
at state octets = record { state = state; octets = octets }

-- a reader reads one part, and stands behind it then; it reads none where no whole part stands before it
abbrev pub Reader : Type 0 → Type 0 → Type 0
Reader S A = At S → Option (A × At S)

-- all parts from here on, and where the reader stands behind the last whole one
unfoldable pub parts_from : {S A : Type 0} → Reader S A → At S → List A × At S
parts_from next now = parts_within next (length now.octets) now

abbrev pub octets_before : {S : Type 0} → At S → ℕ
octets_before now = length now.octets

-- a part has at least one octet
abbrev pub Shrinks : {S A : Type 0} → Reader S A → Type 0
Shrinks next = ShrinksBy octets_before next

-- The text of these parts, where `after` tells the state behind a part.
abbrev pub text_from : {S A : Type 0} → (S → A → List ℕ) → (S → A → S) → S → List A → List ℕ
text_from text after state [] = []
text_from text after state (part ∷ parts) = text state part ++ text_from text after (after state part) parts

-- each part fits the state that those before it leave
abbrev pub AllFrom : {S A : Type 0} → (S → A → Type 0) → (S → A → S) → S → List A → Type 0
AllFrom Fits after state [] = ⊤
AllFrom Fits after state (part ∷ parts) = Fits state part × AllFrom Fits after (after state part) parts

-- what was written of a part that fits is read back as that part
abbrev pub ReadsText : {S A : Type 0} → Reader S A → (S → A → List ℕ) → (S → A → Type 0) → (S → A → S) → Type 0
ReadsText {S} {A} next text Fits after =
    (state : S) (part : A) (rest : List ℕ) → Fits state part
    → next (at state (text state part ++ rest)) ≡ Some (part, at (after state part) rest)

-- each part that is read of octets fits, and its text is what was read
abbrev pub SpellsText : {S A : Type 0} → Reader S A → (S → A → List ℕ) → (S → A → Type 0) → (S → A → S) → Type 0
SpellsText {S} {A} next text Fits after =
    (now : At S) (found : A × At S) → IsOctets now.octets → next now ≡ Some found
    → (now.octets ≡ text now.state found.0 ++ found.1.octets)
    × Fits now.state found.0
    × (found.1.state ≡ after now.state found.0)

-- each part that is read fits
abbrev pub Fitting : {S A : Type 0} → Reader S A → (S → A → Type 0) → (S → A → S) → Type 0
Fitting {S} {A} next Fits after =
    (now : At S) (found : A × At S) → next now ≡ Some found
    → Fits now.state found.0 × (found.1.state ≡ after now.state found.0)

-- of what stands behind the first `taken` octets of an input, those that are judged
abbrev pub judged : {S : Type 0} → ℕ → ℕ → At S → At S
judged limit taken now = at now.state (window limit taken now.octets)

-- What a limited input is still to give: its parts, and an end that is judged by whether the limit was met, by the
-- place where no whole part stands, counted from the input's front, and by where the reader stands then.
unfoldable pub to_come : {S A E : Type 0} → Reader S A → (Bool → ℕ → At S → E) → ℕ → ℕ → At S → List A × E
to_come next stop limit taken now = (
  (parts_from next (judged limit taken now)).0,
  stop
      (at_limit limit taken now.octets)
      (taken + length (window limit taken now.octets) - length (parts_from next (judged limit taken now)).1.octets)
      (parts_from next (judged limit taken now)).1,
)
