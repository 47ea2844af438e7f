use Rattle.fs_ops.proofs.{Words.{◌<◌, length, get_or, arith, get_or_default}, Normal.{with_bits}}
use Rattle.std.proofs.lemmas.List.Edits.{map_over_more}
use Rattle.fs_ops.proofs.pairs.keep_bits.Goals as goal

pub loop-value-preserved : goal.loop-value-preserved
loop-value-preserved c =
    let within : c.loop-value.value-index < length c.args.pairs.now = omega arith in
    map_over_more (with_bits c.args.bits) c.args.pairs.now c.loop-value.pairs c.loop-value.value-index
    (get_or c.loop-value.pairs c.loop-value.value-index (0, 0)) within c.loop-value.invariant
    (get_or_default c.loop-value.pairs c.loop-value.value-index (0, 0) (get_or c.loop-value.pairs c.loop-value.value-index (0, 0)) (omega arith))
