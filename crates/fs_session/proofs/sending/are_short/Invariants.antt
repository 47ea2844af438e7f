use Rattle.fs_session.proofs.Words.{◌≡◌, length, list_all, is_short}
use Rattle.fs_session.proofs.sending.are_short.Given as goal

-- what holds of all rules holds of those left
abbrev pub invariant-loop-rest : goal.invariant-loop-rest
invariant-loop-rest l =
    list_all (is_short l.terms l.numbers) l.initial.rest ≡ list_all (is_short l.terms l.numbers) l.rest

abbrev pub decreases-loop-rest : goal.decreases-loop-rest
decreases-loop-rest l = length l.rest
