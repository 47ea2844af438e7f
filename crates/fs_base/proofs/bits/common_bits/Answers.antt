use Rattle.fs_base.proofs.{Words.{width_of, xor_lt}, CommonBits.{zeros_enough, common_there, common_back}, Blocks.{width_least}}
use Rattle.fs_base.proofs.bits.common_bits.Goals as goal

pub overflow_sub-result-2 : goal.overflow_sub-result-2
overflow_sub-result-2 c = rw c.width.ensures
    (zeros_enough (width_of c.args.family) _ (width_least c.args.family) (xor_lt (width_of c.args.family) c.args.a c.args.b c.requires.a c.requires.b))

pub returns-clause-same : goal.returns-clause-same
returns-clause-same c = rw c.width.ensures (λ n h. (
  common_there (width_of c.args.family) n c.args.a c.args.b (width_least c.args.family) c.requires.a c.requires.b h,
  common_back (width_of c.args.family) n c.args.a c.args.b (width_least c.args.family) c.requires.a c.requires.b h,
))
