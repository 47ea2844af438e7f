-- When octets aren't the front of a list of operators and values, and where.
use Rattle.std.specs.Prelude.{◌≡◌, ℕ, ◌<◌, List, [], ◌∷◌, ◌++◌, length, Any}
use Rattle.fs_base.specs.Language.{NoFront, IsCut, IsFirstFault}
use Rattle.fs_ops.specs.{OperatorList.{Written, AreMiddle, IsText, text}, declared.fault.OpsFault.{OpsFault, TheVariants.{Cut, Width, Memory}}}

-- all codes of a value's length: 1, 2, 4 and 8 octets
abbrev pub all_widths : List ℕ
all_widths = 0 ∷ 1 ∷ 2 ∷ 3 ∷ []

-- some code among them is that of a length
abbrev pub CanBeWide : List ℕ → Type 0
CanBeWide widths = Any (λ code. code < 4) widths

-- the fault of octets where no value may have any length
abbrev pub barred_at : List ℕ → OpsFault
barred_at [] = Cut 0
barred_at (operator ∷ tail) = Width 0

-- whole pairs, none the last of the list, stand before the place, and an operator in it
pub record IsOperatorPlace (widths octets : List ℕ) (place : ℕ) : Type 0 where
  pub before : List Written
  pub middle : AreMiddle widths before
  pub operator : ℕ
  pub tail : List ℕ
  pub split : octets ≡ text before ++ operator ∷ tail
  pub here : place ≡ length (text before)

pub record IsCutList (widths octets : List ℕ) (place : ℕ) : Type 0 where
  pub none : NoFront (IsText widths) octets
  pub cut : IsCut (IsText widths) octets place

pub record IsBadWidth (widths octets : List ℕ) (place : ℕ) : Type 0 where
  pub none : NoFront (IsText widths) octets
  pub fault : IsFirstFault (IsText widths) octets place
  pub operator : IsOperatorPlace widths octets place

-- Cut where the octets end within a list, Width at an operator whose length isn't allowed; want of memory may come at any time
abbrev pub IsFault : List ℕ → List ℕ → OpsFault → Type 0
IsFault widths octets (Cut place) = IsCutList widths octets place
IsFault widths octets (Width place) = IsBadWidth widths octets place
IsFault widths octets Memory = Unit {0}
