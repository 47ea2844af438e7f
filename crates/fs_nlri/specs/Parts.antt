-- A rule as contracts see it.
use Rattle.std.specs.Prelude.{ℕ, List}
use Rattle.fs_base.specs.declared.prefix.Family.{Family}

-- V4Body: the length and the address of a prefix, and the family that it says it is of.
-- V6Body: length, offset, and the bits between them from the highest of 128 on.
-- ListBody: pairs of an operator octet and a value.
pub data Body : Type 0 where
  V4Body : (family : Family) (length bits : ℕ) → Body
  V6Body : (length offset pattern : ℕ) → Body
  ListBody : (pairs : List (ℕ × ℕ)) → Body

-- a component: its type and what stands behind it
pub record Part : Type 0 where
  pub kind : ℕ
  pub body : Body

pub record Ruled : Type 0 where
  pub family : Family
  pub parts : List Part

abbrev pub part : ℕ → Body → Part
part kind body = record { kind = kind; body = body }

abbrev pub ruled : Family → List Part → Ruled
ruled family parts = record { family = family; parts = parts }
