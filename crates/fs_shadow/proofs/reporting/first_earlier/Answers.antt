use Rattle.std.proofs.Common.{sym}
use Rattle.fs_shadow.proofs.Probing.{first_found, first_none}
use Rattle.fs_shadow.proofs.reporting.first_earlier.Goals as goal

pub returns-then-place-number : goal.returns-then-place-number
returns-then-place-number c =
    sym (first_found c.args.outlines.now c.args.later.now c.args.start c.args.number c.first_by_keys-place.result c.requires.told c.requires.later
    (sym c.if-not-is_probed.ensures) c.first_by_keys-place.ensures c.if-place-number.true)

pub returns-else-place-number : goal.returns-else-place-number
returns-else-place-number c =
    sym (first_none c.args.outlines.now c.args.later.now c.args.start c.args.number c.first_by_keys-place.result c.requires.told c.requires.later
    (sym c.if-not-is_probed.ensures) c.first_by_keys-place.ensures c.if-place-number.false)
