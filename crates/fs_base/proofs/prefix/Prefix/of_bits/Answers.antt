use Rattle.fs_base.{proofs.Blocks.{cleared_again}, specs.Bits.{width_of}}
use Rattle.fs_base.proofs.prefix.Prefix.of_bits.Goals as goal

pub invariant_of-result-clause-clear : goal.invariant_of-result-clause-clear
invariant_of-result-clause-clear c =
    rw c.first_bits.ensures (cleared_again (width_of c.args.family) c.args.length c.args.bits c.requires)
