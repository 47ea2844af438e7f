-- A word as runs of letters and digits, and single octets of other kinds between them.
use Rattle.std.specs.{Prelude.{◌≡◌, ℕ, List, [], ◌∷◌, Bool, false, if◌then◌else◌}, Char.{is_digit}}

-- a letter or a digit
abbrev pub is_plain : ℕ → Bool
is_plain octet = is_digit octet 36

pub data Part : Type 0 where
  Run : List ℕ → Part
  Delimiter : ℕ → Part

-- an octet before these joins the run that stands first
abbrev pub with_octet : ℕ → List Part → List Part
with_octet octet [] = Run (octet ∷ []) ∷ []
with_octet octet (Run run ∷ parts) = Run (octet ∷ run) ∷ parts
with_octet octet (Delimiter mark ∷ parts) = Run (octet ∷ []) ∷ Delimiter mark ∷ parts

abbrev pub parts_by : (ℕ → Bool) → List ℕ → List Part
parts_by p [] = []
parts_by p (octet ∷ text) = if p octet then with_octet octet (parts_by p text) else Delimiter octet ∷ parts_by p text

abbrev pub parts_of : List ℕ → List Part
parts_of text = parts_by is_plain text

-- nothing, or a text that goes on with another octet
abbrev pub Ends : (ℕ → Bool) → List ℕ → Type 0
Ends p [] = Unit {0}
Ends p (octet ∷ text) = p octet ≡ false
