use Rattle.fs_nlri.{specs.Spelling.{octets_for}, proofs.Writable.{high_octets_fit}}
use Rattle.fs_attrs.proofs.texts.append_bits.Goals as goal

pub write_uint128-requires-clause-fits : goal.write_uint128-requires-clause-fits
write_uint128-requires-clause-fits c =
    rw (c.from-2.ensures, c.from.ensures) (high_octets_fit c.args.number c.args.width (octets_for c.args.length) c.requires.room c.requires.fits)
