use Rattle.std.proofs.Common.{rules, ◌<◌, length}
use Rattle.fs_base.proofs.Drawing.{given_back}
use Rattle.fs_base.proofs.counted.Counted.read.Goals as goal

pub returns-then-not-is_empty-clause-left : goal.returns-then-not-is_empty-clause-left
returns-then-not-is_empty-clause-left g c = λ told.
    let some : 0 < length c.args.self.now.back = search rules in
    given_back _ _ _ _ _ c.take-count.ensures.count c.take-count.ensures.copied c.take-count.ensures.left some
