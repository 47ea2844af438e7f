use Rattle.fs_base.{specs.Bits.{width_of}, proofs.{Blocks.{host_block}, Covers.{block}}}
use Rattle.fs_base.proofs.prefix.Prefix.lowest.Goals as goal

pub invariant_of-result-clause-clear : goal.invariant_of-result-clause-clear
invariant_of-result-clause-clear c =
    rw c.width.ensures (host_block (width_of c.args.self.now.family) c.args.self.now.length c.args.self.now.bits (block c.args.self.now))
