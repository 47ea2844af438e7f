-- What is said next, where two lists have rules left.
use Rattle.std.specs.Prelude.{◌≡◌, ℕ, ◌+◌, true, false, Option, Some, None, List, [], ◌∷◌}
use Rattle.fs_changes.specs.{Difference.{gone, come}, Changes.{Act, changes, is_before, is_same}}
use Rattle.fs_changes.specs.declared.difference.Step.{Step, TheVariants.{Gone, Come, Stays}}

-- what becomes of the first of an old and of a new list
abbrev pub Tells : Step → Act → Act → Type 0
Tells Come o n = is_before n o ≡ true
Tells Gone o n = (is_before n o ≡ false) × (is_same o n ≡ false)
Tells Stays o n = (is_before n o ≡ false) × (is_same o n ≡ true)

-- the lines that lead on are that of the step, and those after it
abbrev pub StepsOn : Option Step → (old new : List Act) → Type 0
StepsOn None [] [] = Unit {0}
StepsOn (Some Gone) (o ∷ os) new = (k : ℕ) → changes k (o ∷ os) new ≡ gone k o ∷ changes k os new
StepsOn (Some Come) old (n ∷ ns) = (k : ℕ) → changes k old (n ∷ ns) ≡ come k n ∷ changes (k + 1) old ns
StepsOn (Some Stays) (o ∷ os) (n ∷ ns) = (k : ℕ) → changes k (o ∷ os) (n ∷ ns) ≡ changes (k + 1) os ns
StepsOn _ _ _ = ⊥
