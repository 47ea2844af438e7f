-- A component by its name and its word.
use Rattle.std.specs.{Prelude.{◌≡◌, ℕ, List, Option, Some, None}, Option.{option_map}}
use Rattle.fs_base.specs.declared.prefix.Family.{Family, TheVariants.{V4, V6}}
use Rattle.fs_nlri.specs.{declared.component.Component.{Component}, Component.{part_of}, Forms.{form_of}, Parts.{Body, Part, part}, Rule.{IsNormalAt}}
use Rattle.fs_words.specs.Values.{component_name, value_text}

-- what stands behind the type is of the family's form for it, and the type has this name
pub record IsPart (family : Family) (name : List ℕ) (part : Part) : Type 0 where
  pub normal : IsNormalAt (form_of family part.kind) part.body
  pub named : component_name part.kind ≡ name

-- whether this is the name and this the word
abbrev pub Matched : (name word : List ℕ) → Part → Option Component → Type 0
Matched name word part None = component_name part.kind ≡ name → word ≡ value_text part → ⊥
Matched name word part (Some own) = (part_of own ≡ part) × (component_name part.kind ≡ name) × (word ≡ value_text part)

-- the same, and whether the component is the family's and in normal form
abbrev pub Compared : Family → (name word : List ℕ) → Part → Option Component → Type 0
Compared family name word part None = IsPart family name part → word ≡ value_text part → ⊥
Compared family name word part (Some own) = IsPart family name (part_of own) × (word ≡ value_text (part_of own))

-- what is read loosely: of the word of a component of this type, the component
abbrev pub Loosely : Family → (kind : ℕ) → (word : List ℕ) → Option Component → Type 0
Loosely family kind word read =
    (own : Part) → own.kind ≡ kind → IsNormalAt (form_of family own.kind) own.body → word ≡ value_text own → option_map part_of read ≡ Some own

-- the types are those from 1 up to this one (RFC 8955 section 4.2.2, RFC 8956 section 3)
abbrev pub last_type : Family → ℕ
last_type V4 = 12
last_type V6 = 13

-- all components of this name have this type, and there is one
pub record HasType (family : Family) (name : List ℕ) (kind : ℕ) : Type 0 where
  pub body : Body
  pub named : IsPart family name (part kind body)
  pub only : (own : Part) → IsPart family name own → own.kind ≡ kind

abbrev pub IsTypeNamed : Family → (name : List ℕ) → Option ℕ → Type 0
IsTypeNamed family name None = (own : Part) → IsPart family name own → ⊥
IsTypeNamed family name (Some kind) = HasType family name kind
