-- A name and a value behind what was read: of components by rising types, of actions by rising octets.
use Rattle.std.specs.Prelude.{◌≡◌, ◌<◌, ◌+◌, ◌⊎◌, ℕ, List, [], ◌∷◌, Option, Some, None, drop, codes}
use Rattle.std.specs.{List.{last_or}, Cmp.Lexicographic.{slice_cmp}, Ordering.{nat_cmp}, declared.cmp.Ordering.TheVariants.{Greater}}
use Rattle.fs_base.specs.{declared.prefix.Family.{Family}, Language.{IsOctets}}
use Rattle.fs_nlri.specs.{Forms.{form_of}, Parts.{Part}, Rule.{IsNormalAt}}
use Rattle.fs_actions.specs.{Community.{IsAction}, Actions.{IsAbove}}
use Rattle.fs_words.specs.{Actions.{action_name, action_text}, Values.{component_name, value_text}}
use Rattle.fs_text.specs.{ActionWord.{IsNamed}, Components.{IsPart}, declared.fault.TextFault.{TextFault, TheVariants.{Bad, TooLong, Memory}}}

-- the first two words are the name and the value of this one alone
pub record IsNext {A : Type 0} (Fits : A → Type 0) (name value : A → List ℕ) (rest tail : List (List ℕ)) (item : A) : Type 0 where
  pub fits : Fits item
  pub split : rest ≡ name item ∷ value item ∷ tail
  pub only : (other : A) → Fits other → name other ≡ name item → value other ≡ value item → other ≡ item

-- the first word is no name of one that fits
pub record IsBadName {A : Type 0} (Fits : A → Type 0) (name : A → List ℕ) (rest : List (List ℕ)) : Type 0 where
  pub word : List ℕ
  pub tail : List (List ℕ)
  pub split : rest ≡ word ∷ tail
  pub none : (item : A) → Fits item → name item ≡ word → ⊥

-- the first word is a name, and behind it stands no value of one that fits and has it
pub record IsBadValue {A : Type 0} (Fits : A → Type 0) (name value : A → List ℕ) (rest : List (List ℕ)) : Type 0 where
  pub item : A
  pub fits : Fits item
  pub tail : List (List ℕ)
  pub split : rest ≡ name item ∷ tail
  pub none : (word : List ℕ) (more : List (List ℕ)) → tail ≡ word ∷ more → (other : A) → Fits other → name other ≡ name item → word ≡ value other → ⊥

abbrev pub IsStepFault : {A : Type 0} → (A → Type 0) → (name value : A → List ℕ) → (rest : List (List ℕ)) → (place : ℕ) → TextFault → Type 0
IsStepFault Fits name value rest place (Bad word) =
    ((word ≡ place) × ((rest ≡ []) ⊎ IsBadName Fits name rest)) ⊎ ((word ≡ place + 1) × IsBadValue Fits name value rest)
IsStepFault Fits name value rest place TooLong = ⊥
IsStepFault Fits name value rest place Memory = Unit {0}

-- a component behind one of this type
abbrev pub FitsBehind : Family → (last : ℕ) → Part → Type 0
FitsBehind family last part = (last < part.kind) × IsNormalAt (form_of family part.kind) part.body

abbrev pub part_name : Part → List ℕ
part_name part = component_name part.kind

abbrev pub IsNextPart : Family → (last : ℕ) → (rest tail : List (List ℕ)) → Part → Type 0
IsNextPart family last rest tail part = IsNext (FitsBehind family last) part_name value_text rest tail part

abbrev pub IsPartFault : Family → (last : ℕ) → (rest : List (List ℕ)) → (place : ℕ) → TextFault → Type 0
IsPartFault family last rest place fault = IsStepFault (FitsBehind family last) part_name value_text rest place fault

-- components of this name can stand behind one of this type
pub record GoesOn (family : Family) (last : ℕ) (name : List ℕ) : Type 0 where
  pub given : Part
  pub part : IsPart family name given
  pub above : (own : Part) → IsPart family name own → last < own.kind

-- in the order of actions it stands behind these
abbrev pub StandsBehind : (actions : List (List ℕ)) → (action : List ℕ) → Type 0
StandsBehind actions action = IsAbove (last_or None actions) action

-- an action behind these
pub record FitsAbove (actions : List (List ℕ)) (action : List ℕ) : Type 0 where
  pub normal : IsAction action
  pub octets : IsOctets action
  pub above : StandsBehind actions action

-- actions of this name can stand behind these
pub record CanStand (actions : List (List ℕ)) (name : List ℕ) : Type 0 where
  pub given : List ℕ
  pub fits : FitsAbove actions given
  pub named : action_name given ≡ name

abbrev pub IsNextAction : (actions rest tail : List (List ℕ)) → List ℕ → Type 0
IsNextAction actions rest tail action = IsNext (FitsAbove actions) action_name action_text rest tail action

abbrev pub IsActionFault : (actions rest : List (List ℕ)) → (place : ℕ) → TextFault → Type 0
IsActionFault actions rest place fault = IsStepFault (FitsAbove actions) action_name action_text rest place fault

-- the action of this name whose octets are the highest
pub record IsGreatest (name greatest : List ℕ) : Type 0 where
  pub named : IsNamed name greatest
  pub highest : (action : List ℕ) → IsNamed name action → slice_cmp nat_cmp action greatest ≡ Greater → ⊥

abbrev pub HasGreatest : (name : List ℕ) → Option (List ℕ) → Type 0
HasGreatest name None = (action : List ℕ) → IsNamed name action → ⊥
HasGreatest name (Some greatest) = IsGreatest name greatest

-- whether this is the name and this the word of one action that can stand behind these
abbrev pub ReadsAbove : (actions : List (List ℕ)) → (name word : List ℕ) → Option (List ℕ) → Type 0
ReadsAbove actions name word None = (action : List ℕ) → FitsAbove actions action → action_name action ≡ name → word ≡ action_text action → ⊥
ReadsAbove actions name word (Some action) =
    FitsAbove actions action × (action_name action ≡ name) × (word ≡ action_text action)
    × ((other : List ℕ) → IsNamed name other → word ≡ action_text other → other ≡ action)

-- nothing stands there, or the word behind the components
abbrev pub IsEnd : List (List ℕ) → Type 0
IsEnd rest = (rest ≡ []) ⊎ (rest ≡ codes "then" ∷ drop 1 rest)

abbrev pub IsNoEnd : List (List ℕ) → Type 0
IsNoEnd rest = (rest ≡ [] → ⊥) × ((more : List (List ℕ)) → rest ≡ codes "then" ∷ more → ⊥)
