use Rattle.fs_base.proofs.{Words.{arith, width_of}, Blocks.{block_of, last_below}}
use Rattle.fs_base.proofs.prefix.Prefix.last.Goals as goal

pub overflow_add-result : goal.overflow_add-result
overflow_add-result c =
    let self = c.args.self.now in
    let own = block_of (width_of self.family) self.length self.bits self.short self.clear in
    let below = last_below self.family c.width.result self.length self.bits c.ones.result own c.width.ensures c.ones.ensures in
    omega (arith, below)
