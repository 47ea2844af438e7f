use Rattle.fs_shadow.proofs.{Words.{arith, length, refl, slice_get_read}, Entries.{taken_at}}
use Rattle.fs_shadow.proofs.keys.takes_before.Goals as goal

pub returns : goal.returns
returns c =
    taken_at c.args.outlines.now c.args.later.now c.args.key c.args.end c.args.entry c.index-outlines-entry.result c.takes_all.result
    c.if-entry-key.false c.if-end-entry.false
    (slice_get_read c.args.outlines.now (length c.args.outlines.now) c.args.entry.1 c.index-outlines-entry.result refl
    (omega (arith, c.if-end-entry.false, c.requires)) c.index-outlines-entry.is) c.takes_all.ensures
