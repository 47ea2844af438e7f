use Rattle.std.proofs.Common.{◌≤◌, ◌*◌, subst, sym, ℕ}
use Rattle.fs_nlri.proofs.Writable.{high_octets_fit}
use Rattle.fs_nlri.proofs.writing.append_bits.Goals as goal

pub write_uint128-requires-clause-fits : goal.write_uint128-requires-clause-fits
write_uint128-requires-clause-fits c =
    high_octets_fit c.args.number c.args.width c.octets_for_bits-count.result
    (subst (λ (n : ℕ). 8 * n ≤ c.args.width) (sym c.octets_for_bits-count.ensures) c.requires.room) c.requires.fits
