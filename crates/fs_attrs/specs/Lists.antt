-- What each prefix of a list is.
use Rattle.std.specs.Prelude.{◌≡◌, ◌≤◌}
use Rattle.fs_base.specs.Bits.{width_of, cleared}
use Rattle.fs_attrs.specs.Prefixes.{Shown}

-- a prefix: no longer than an address, and no bits past its length
pub record IsPrefix (prefix : Shown) : Type 0 where
  pub short : prefix.2 ≤ width_of prefix.0
  pub clear : prefix.1 ≡ cleared (width_of prefix.0) prefix.2 prefix.1
