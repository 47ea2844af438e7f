-- The octets that a tape begins with, which tell its version, and where other octets first differ from them.
use Rattle.std.specs.Prelude.{ℕ, List, [], ◌∷◌, Option, Some, None, ◌+◌, ◌==◌, length, max, nat_lt, if◌then◌else◌}
use Rattle.fs_input.specs.declared.head.Head.{Head, TheVariants.{Whole, Wrong, Partial}}
use Rattle.fs_tape.specs.declared.{fault.TapeReason.{TapeReason, TheVariants.{Magic}}, magic.Version.{Version, TheVariants.{One, Two}}}

abbrev pub version_number : Version → ℕ
version_number One = 1
version_number Two = 2

-- the octets "FSTAPE1" or "FSTAPE2", and a newline
abbrev pub magic_of : Version → List ℕ
magic_of One = 70 ∷ 83 ∷ 84 ∷ 65 ∷ 80 ∷ 69 ∷ 49 ∷ 10 ∷ []
magic_of Two = 70 ∷ 83 ∷ 84 ∷ 65 ∷ 80 ∷ 69 ∷ 50 ∷ 10 ∷ []

-- the first place at which two lists differ, where their fronts have this place
abbrev pub difference_from : ℕ → List ℕ → List ℕ → Option ℕ
difference_from place [] ys = None
difference_from place (x ∷ xs) [] = Some place
difference_from place (x ∷ xs) (y ∷ ys) = if x == y then difference_from (place + 1) xs ys else Some place

abbrev pub first_difference : List ℕ → List ℕ → Option ℕ
first_difference xs ys = difference_from 0 xs ys

-- The version, by the first places at which octets differ from each magic. Where they differ from both, they begin
-- neither up to the later of the two places.
abbrev pub version_by : Option ℕ → Option ℕ → Head Version TapeReason
version_by None two = Whole One 0
version_by (Some one) None = Whole Two 0
version_by (Some one) (Some two) = Wrong Magic (max one two)

-- the magic is judged once its eight octets are there
abbrev pub magic_field : List ℕ → Head Version TapeReason
magic_field front =
    if nat_lt (length front) 8
    then Partial
    else version_by (first_difference (magic_of One) front) (first_difference (magic_of Two) front)
