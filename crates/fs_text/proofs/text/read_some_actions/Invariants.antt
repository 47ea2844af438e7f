use Rattle.fs_text.proofs.Words.{◌≡◌, ◌≤◌, ◌-◌, ◌⊎◌, [], List, drop, length, map, Family, Part, Acts}
use Rattle.fs_text.proofs.text.read_some_actions.Given as goal

-- the actions so far are the first of any text that begins so, and another one follows where some stand there
abbrev pub invariant-loop-actions : goal.invariant-loop-actions
invariant-loop-actions l =
    (l.place ≤ length l.words)
    × ((family : Family) (parts : List Part) → Acts (map (λ w. w.now) l.words) family parts [] l.initial.place
    → Acts (map (λ w. w.now) l.words) family parts l.actions l.place)
    × ((l.actions ≡ []) ⊎ (drop l.place (map (λ w. w.now) l.words) ≡ [] → ⊥))

abbrev pub decreases-loop-actions : goal.decreases-loop-actions
decreases-loop-actions l = length l.words - l.place
