use Rattle.cmd_convert.proofs.{Words.{[], append-nil, magic_of, rules, sends_as, sends_stopped, sends_then, Two}, Converting.{sends_from}}
use Rattle.cmd_convert.proofs.making.Making.begin.Goals as goal

pub returns-in_err-write_magic-clause-sends : goal.returns-in_err-write_magic-clause-sends
returns-in_err-write_magic-clause-sends g c =
    sends_as (append-nil (magic_of Two))
    (sends_stopped [] _ c.from_residual.result c.from_residual.ensures.1 (sends_from (search rules) c.in_err-write_magic.ensures))

pub returns-clause-sends : goal.returns-clause-sends
returns-clause-sends g c =
    sends_as (append-nil (magic_of Two)) (sends_then (sends_from (search rules) c.in_ok-write_magic.ensures) c.leave.ensures.sends)
