use Rattle.std.proofs.Common.{◌∙◌, get_or, sym}
use Rattle.fs_shadow.proofs.Probing.{one_holds}
use Rattle.fs_shadow.proofs.extents.is_single.Goals as goal

pub returns-in-len1 : goal.returns-in-len1
returns-in-len1 c = λ is n k one other.
    c.is_equality.ensures is n (get_or c.args.pairs.now 0 (0, 0)).1 (one_holds n c.args.pairs.now c.in-len1.len_at_least c.in-len1.len_below one)
    ∙ sym (c.is_equality.ensures is k (get_or c.args.pairs.now 0 (0, 0)).1 (one_holds k c.args.pairs.now c.in-len1.len_at_least c.in-len1.len_below other))
