use Rattle.fs_nlri.proofs.{Words.{length, arith, big_number}, BodyReaders.{aligned_fits, number_small}}
use Rattle.fs_nlri.proofs.body.left_aligned.Goals as goal

pub returns : goal.returns
returns c = rw c.read_uint128.ensures
    (aligned_fits (length c.args.octets.now) c.args.width (big_number (length c.args.octets.now) c.args.octets.now)
    (number_small c.args.octets.now (λ i. omega (arith, c.type_inv.octets i))) c.requires.fits c.requires.width)
