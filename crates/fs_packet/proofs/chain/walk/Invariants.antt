use Rattle.std.proofs.Common.{length}
use Rattle.fs_packet.proofs.Walks.{Walking}
use Rattle.fs_packet.proofs.chain.walk.Given as goal

abbrev pub invariant-loop-header : goal.invariant-loop-header
invariant-loop-header l = Walking l.number l.octets l.next l.rest l.field

abbrev pub decreases-loop-header : goal.decreases-loop-header
decreases-loop-header l = length l.rest
