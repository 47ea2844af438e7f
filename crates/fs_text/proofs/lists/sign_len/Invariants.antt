use Rattle.fs_text.proofs.Words.{◌≡◌, ◌+◌, ◌-◌, ◌≤◌, length, drop, prefix_len, is_sign}
use Rattle.fs_text.proofs.lists.sign_len.Given as goal

abbrev pub invariant-loop-place : goal.invariant-loop-place
invariant-loop-place l = (l.place ≤ length l.text) × (prefix_len is_sign l.text ≡ l.place + prefix_len is_sign (drop l.place l.text))

abbrev pub decreases-loop-place : goal.decreases-loop-place
decreases-loop-place l = length l.text - l.place
