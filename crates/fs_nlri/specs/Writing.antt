-- What the writer asks of components.
use Rattle.std.specs.Prelude.{◌<◌, ◌≤◌, ◌^◌}
use Rattle.fs_nlri.specs.Parts.{Body, V4Body, V6Body, ListBody}

-- the bits are no more than an address has
abbrev pub IsWritable : Body → Type 0
IsWritable (V4Body family len bits) = (len ≤ 32) × (bits < 2 ^ 32)
IsWritable (V6Body len offset pattern) = len ≤ 128
IsWritable (ListBody pairs) = Unit {0}
