use Rattle.fs_changes.proofs.Words.{◌≡◌, ◌+◌, ◌<◌, ◌^◌, ◌++◌, length, string_bytes, acts_of, changes, lines_text}
use Rattle.fs_changes.proofs.difference.append_difference.Given as goal

-- what is told, and what is still to be told, is the whole
abbrev pub invariant-steps : goal.invariant-steps
invariant-steps l =
    (string_bytes l.text ++ lines_text l.moment (changes l.place (acts_of l.left) (acts_of l.right)) ≡ string_bytes l.fn.text
    ++ lines_text l.moment (changes l.before (acts_of l.old) (acts_of l.new)))
    × (l.place + length l.right + 1 < 2 ^ 64)

abbrev pub decreases-steps : goal.decreases-steps
decreases-steps l = length l.left + length l.right
