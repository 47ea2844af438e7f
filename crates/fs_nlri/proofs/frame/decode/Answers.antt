use Rattle.fs_nlri.proofs.{Words.{arith, octets_from}, Frames.{only_read, is_read}}
use Rattle.fs_nlri.proofs.frame.decode.Goals as goal

pub returns-clause-only : goal.returns-clause-only
returns-clause-only c =
    only_read c.args.family c.args.octets.now c.read_frame.result (octets_from c.args.octets.now (λ i. omega (arith, c.type_inv.octets i)))
    (is_read c.args.family c.args.octets.now c.read_frame.result c.read_frame.ensures.taken c.read_frame.ensures.family c.read_frame.ensures.found
    c.read_frame.ensures.fault)
