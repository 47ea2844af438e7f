use Rattle.fs_tape.proofs.Words.{◌≡◌, drop, difference_from}
use Rattle.fs_tape.proofs.magic.wrong_octet.Given as goal

abbrev pub invariant-loop-place : goal.invariant-loop-place
invariant-loop-place l =
    difference_from 0 l.magic l.front ≡ difference_from l.place (drop l.place l.magic) (drop l.place l.front)
