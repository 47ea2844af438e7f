use Rattle.fs_nlri.proofs.Words.{◌≡◌, drop, length, nat_le, parts_of, canonical_value}
use Rattle.fs_nlri.proofs.size.fits.Given as goal

abbrev pub invariant-loop-component : goal.invariant-loop-component
invariant-loop-component l =
    nat_le (length (canonical_value (parts_of (drop l.component-index l.components)))) l.room ≡ nat_le (length (canonical_value (parts_of l.components))) 4095
