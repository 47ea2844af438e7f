use Rattle.fs_base.proofs.Covers.{range_law}
use Rattle.fs_base.proofs.prefix.Prefix.first_under.Goals as goal

pub returns : goal.returns
returns c = λ q. range_law c.args.self.now c.lowest.result q c.lowest.ensures.family c.lowest.ensures.bits c.lowest.ensures.length
