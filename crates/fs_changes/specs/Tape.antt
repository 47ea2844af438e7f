-- What changes of the admitted rules along a tape.
use Rattle.std.specs.Prelude.{ℕ, ◌+◌, ◌<◌, List, [], ◌∷◌, ◌++◌, length, map, take}
use Rattle.fs_base.specs.declared.config.Config.{Config}
use Rattle.fs_rules.specs.Table.{Held}
use Rattle.fs_tape.specs.Tape.{Timed}
use Rattle.fs_desk.specs.Leaves.{Leaves}
use Rattle.fs_changes.specs.Changes.{ActingRules, acting_in, none_act, told}

-- After each item of the tape these routes are held: those that the items up to it leave.
abbrev pub HoldAfter : Config → List Timed → (ℕ → Held) → Type 0
HoldAfter config items held =
    (k : ℕ) → k < length items → Leaves config (map (λ timed. timed.item) (take (k + 1) items)) (held (k + 1))

-- after so many items and these rules, what each further item changes of the admitted rules
abbrev pub changes_from : (ℕ → Held) → ℕ → ActingRules → List Timed → List ℕ
changes_from held k old [] = []
changes_from held k old (t ∷ ts) =
    told t.moment old (acting_in (held (k + 1))) ++ changes_from held (k + 1) (acting_in (held (k + 1))) ts

-- What each item changes of the admitted rules, where at first none acts.
abbrev pub changes_of : (ℕ → Held) → List Timed → List ℕ
changes_of held items = changes_from held 0 none_act items
