use Rattle.fs_nlri.proofs.{Words.{V4Form}, Bodies.{v4_empty}, BodyReaders.{none_left, v4_long, v4_few}}
use Rattle.fs_nlri.proofs.body.read_v4.Goals as goal

pub returns-in_default-clause-fault : goal.returns-in_default-clause-fault
returns-in_default-clause-fault c = rw c.bad.ensures (none_left V4Form v4_empty c.args.octets.now c.in_default.len_below)

pub returns-then-length-gt32-clause-fault : goal.returns-then-length-gt32-clause-fault
returns-then-length-gt32-clause-fault c = rw c.bad-then-length-gt32.ensures (v4_long c.args.octets.now c.in-len1-up.len_at_least c.if-length-gt32.true)

pub returns-then-tail-count-clause-fault : goal.returns-then-tail-count-clause-fault
returns-then-tail-count-clause-fault c =
    rw c.bad-then-tail-count.ensures
    (v4_few c.args.octets.now c.octets_for_bits-count.result c.in-len1-up.len_at_least c.if-length-gt32.false c.octets_for_bits-count.ensures
    c.if-tail-count.true)
