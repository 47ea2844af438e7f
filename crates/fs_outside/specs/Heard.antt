-- What a connection gave fits where it was read.
use Rattle.std.specs.Prelude.{ℕ, List, ◌<◌, ◌≤◌, ⊤, length}
use Rattle.fs_outside.specs.declared.line.Heard.{Heard, TheVariants.{Octets, Nothing, End}}

abbrev pub FitsHeard : Heard → List ℕ → Type 0
FitsHeard (Octets count) into = (0 < count) × (count ≤ length into)
FitsHeard Nothing into = ⊤
FitsHeard End into = ⊤
