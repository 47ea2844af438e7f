use Rattle.fs_text.proofs.Words.{◌≤◌, ◌-◌, length, map, Led}
use Rattle.fs_nlri.specs.Component.{parts_of}
use Rattle.fs_text.proofs.text.read_components.Given as goal

-- the components so far are the first of any text that begins so
abbrev pub invariant-loop-alloc : goal.invariant-loop-alloc
invariant-loop-alloc l = (l.place ≤ length l.words) × Led (map (λ w. w.now) l.words) l.family (parts_of l.components.items) l.last l.place

abbrev pub decreases-loop-alloc : goal.decreases-loop-alloc
decreases-loop-alloc l = length l.words - l.place
