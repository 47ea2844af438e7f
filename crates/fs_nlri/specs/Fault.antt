-- The first fault of octets that spell no rule, with its place.
use Rattle.std.specs.Prelude.{◌≡◌, ℕ, ◌+◌, List, ◌∷◌, ◌++◌, length, Some, Result, Ok, Err, IsSome, IsNone}
use Rattle.fs_base.specs.{declared.prefix.Family.{Family}, Language.{IsCut, IsFirstFault}}
use Rattle.fs_ops.specs.{declared.fault.OpsFault.{OpsFault, TheVariants.{Cut as ListCut, Width as ListWidth, Memory as ListMemory}}, Fault.{IsOperatorPlace}}
use Rattle.fs_nlri.specs.declared.fault.Reason.{Reason, TheVariants.{Cut, NoType, Order, PrefixLength, Offset, Width, Length}}
use Rattle.fs_nlri.specs.declared.fault.NlriFault.{NlriFault, TheVariants.{Bad, Memory}}
use Rattle.fs_nlri.specs.{Forms.{Form, V4Form, V6Form, ListForm, form_of}, Parts.{Part, Ruled}, Spelling.{Spells, IsValue, IsLength, IsFrame}}

-- at the place stands the type of a component: whole components before it
pub record IsTypePlace (family : Family) (octets : List ℕ) (place kind : ℕ) : Type 0 where
  pub before : List Part
  pub front : List ℕ
  pub tail : List ℕ
  pub whole : Spells family 0 front before
  pub split : octets ≡ front ++ kind ∷ tail
  pub here : place ≡ length front

-- the role of the octet at an offset in what stands behind a type
abbrev pub IsRole : Reason → Form → List ℕ → ℕ → Type 0
IsRole PrefixLength V4Form tail offset = offset ≡ 0
IsRole PrefixLength V6Form tail offset = offset ≡ 0
IsRole Offset V6Form tail offset = offset ≡ 1
IsRole Width (ListForm kind widths bits) tail offset = IsOperatorPlace widths tail offset
IsRole _ _ tail offset = ⊥

-- at the place stands an octet of that role in a component of this form
pub record IsBodyPlace (reason : Reason) (family : Family) (octets : List ℕ) (place : ℕ) : Type 0 where
  pub kind : ℕ
  pub start : ℕ
  pub component : IsTypePlace family octets start kind
  pub form : Form
  pub form_is : form_of family kind ≡ Some form
  pub offset : ℕ
  pub here : place ≡ start + 1 + offset
  pub role : IsRole reason form component.tail offset

-- the reason of a first fault by the role of its octet
abbrev pub HasRole : Reason → Family → List ℕ → ℕ → Type 0
HasRole NoType family octets place = (kind : ℕ) × IsTypePlace family octets place kind × IsNone (form_of family kind)
HasRole Order family octets place = (kind : ℕ) × IsTypePlace family octets place kind × IsSome (form_of family kind)
HasRole PrefixLength family octets place = IsBodyPlace PrefixLength family octets place
HasRole Offset family octets place = IsBodyPlace Offset family octets place
HasRole Width family octets place = IsBodyPlace Width family octets place
HasRole _ family octets place = ⊥

-- the value ends within a longer one, or an octet is the first with which no value goes on
abbrev pub IsValueBad : Family → List ℕ → Reason → ℕ → Type 0
IsValueBad family octets Cut place = IsCut (IsValue family 0) octets place × (IsValue family 0 octets → ⊥)
IsValueBad family octets Length place = ⊥
IsValueBad family octets reason place = IsFirstFault (IsValue family 0) octets place × HasRole reason family octets place

abbrev pub IsValueFault : Family → List ℕ → NlriFault → Type 0
IsValueFault family octets (Bad reason place) = IsValueBad family octets reason place
IsValueFault family octets Memory = Unit {0}

-- the frame that the octets begin doesn't end in them
abbrev pub IsOpen : List ℕ → Type 0
IsOpen octets = (head value rest : List ℕ) → IsLength head (length value) → octets ≡ head ++ (value ++ rest) → ⊥

-- the octets begin with a frame whose value has this fault
pub record IsBadFrame (family : Family) (octets : List ℕ) (reason : Reason) (place : ℕ) : Type 0 where
  pub head : List ℕ
  pub value : List ℕ
  pub rest : List ℕ
  pub split : octets ≡ head ++ (value ++ rest)
  pub size : IsLength head (length value)
  pub bad : IsValueBad family value reason place

abbrev pub IsFrameBad : Family → List ℕ → Reason → ℕ → Type 0
IsFrameBad family octets Length place = IsOpen octets × (place ≡ length octets)
IsFrameBad family octets reason place = IsBadFrame family octets reason place

abbrev pub IsFrameFault : Family → List ℕ → NlriFault → Type 0
IsFrameFault family octets (Bad reason place) = IsFrameBad family octets reason place
IsFrameFault family octets Memory = Unit {0}

-- a frame of the rule is read as the rule and its length, where memory is there
abbrev pub ReadsAs : List ℕ → Ruled → Result (Ruled × ℕ) NlriFault → Type 0
ReadsAs frame rule (Ok read) = (read.0 ≡ rule) × (read.1 ≡ length frame)
ReadsAs frame rule (Err Memory) = Unit {0}
ReadsAs frame rule (Err (Bad reason place)) = ⊥

-- whatever follows a frame of a rule of the family, the frame is read so
abbrev pub ReadsItsFrame : Family → List ℕ → Result (Ruled × ℕ) NlriFault → Type 0
ReadsItsFrame family octets result =
    (frame rest : List ℕ) (rule : Ruled) → octets ≡ frame ++ rest → rule.family ≡ family → IsFrame frame rule → ReadsAs frame rule result

-- a fault of a list as one of the component
abbrev pub list_fault : OpsFault → NlriFault
list_fault (ListCut place) = Bad Cut place
list_fault (ListWidth place) = Bad Width place
list_fault ListMemory = Memory

-- the same fault where count octets stand before
abbrev pub moved : ℕ → NlriFault → NlriFault
moved count (Bad reason place) = Bad reason (count + place)
moved count Memory = Memory

abbrev pub place_of : NlriFault → ℕ
place_of (Bad reason place) = place
place_of Memory = 0
