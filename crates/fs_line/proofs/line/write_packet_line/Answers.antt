use Rattle.std.proofs.Common.{arith, refl}
use Rattle.fs_line.proofs.{Discarding.{one_discards}, Outputs.{sends_as}}
use Rattle.fs_line.proofs.line.write_packet_line.Goals as goal

pub returns-in-len1 : goal.returns-in-len1
returns-in-len1 g c =
    sends_as
    (one_discards c.args.number c.args.walked.now c.rule-item.result (omega (arith, c.in-len1.len_at_least, c.in-len1.len_below)) c.rule-item.is
    (c.if-discards_alone.ensures refl))
    c.write_discarded.ensures
