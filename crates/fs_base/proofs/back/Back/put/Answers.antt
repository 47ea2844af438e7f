use Rattle.std.proofs.Common.{rules, arith}
use Rattle.fs_base.proofs.Backs.{put_is_back}
use Rattle.fs_base.proofs.back.Back.put.Goals as goal

pub invariant_of-self : goal.invariant_of-self
invariant_of-self c = put_is_back _ _ c.self.inside.from _ _ c.self.invariant (omega arith) (search rules)
