-- The lines that lead from one list to another, and what they do.
use Rattle.std.specs.{Prelude.{◌≡◌, ℕ, ◌+◌, ◌≤◌, Bool, true, Some, List, [], ◌∷◌, ◌++◌, length, take, drop, if◌then◌else◌}, List.{slice_get}}

-- after so many elements this one goes; or this one comes
pub data Line (T : Type 0) : Type 0 where
  gone : ℕ → T → Line T
  come : ℕ → T → Line T

-- a line fits a list that has its place; and what goes stands there
abbrev pub Fits : {T : Type 0} → Line T → List T → Type 0
Fits (gone k x) xs = slice_get xs k ≡ Some x
Fits (come k x) xs = k ≤ length xs

abbrev pub apply : {T : Type 0} → Line T → List T → List T
apply (gone k x) xs = take k xs ++ drop (k + 1) xs
apply (come k x) xs = take k xs ++ (x ∷ drop k xs)

-- Each line fits the list that those before it make, and the last list is this one.
abbrev pub Make : {T : Type 0} → List (Line T) → (old new : List T) → Type 0
Make [] old new = old ≡ new
Make (l ∷ ls) old new = Fits l old × Make ls (apply l old) new

-- those at the front that pass the test come, each after the one before; then what is said of the rest
abbrev pub come_while : {T : Type 0} → (T → Bool) → ℕ → List T → (ℕ → List T → List (Line T)) → List (Line T)
come_while test k [] rest = rest k []
come_while test k (n ∷ ns) rest = if test n then come k n ∷ come_while test (k + 1) ns rest else rest k (n ∷ ns)

-- the first of an old list goes, unless it is the first of this one; then what is said of both rests
abbrev pub go_unless : {T : Type 0} → (T → T → Bool) → T → (ℕ → List T → List (Line T)) → ℕ → List T → List (Line T)
go_unless same o rest k [] = gone k o ∷ rest k []
go_unless same o rest k (n ∷ ns) = if same o n then rest (k + 1) ns else gone k o ∷ rest k (n ∷ ns)

-- The lines that lead from an old list to a new one, both in order, after so many elements that both have: in one pass,
-- each with its place as the list stands then. Those of the new list come that are before the first of the old one; that
-- one goes, unless it is the next of the new list.
abbrev pub difference : {T : Type 0} → (before same : T → T → Bool) → ℕ → (old new : List T) → List (Line T)
difference before same k [] new = come_while (λ _. true) k new (λ _ _. [])
difference before same k (o ∷ os) new =
    come_while (λ n. before n o) k new (go_unless same o (λ j rest. difference before same j os rest))
