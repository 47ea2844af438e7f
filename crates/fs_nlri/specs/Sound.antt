-- What each component of a rule has, whatever its family and its type: what stands behind the type is in normal form.
use Rattle.std.specs.Prelude.{◌≡◌, ◌-◌, ◌≤◌, List, [], ◌∷◌}
use Rattle.fs_base.specs.{declared.prefix.Family.TheVariants.{V4}, Bits.{cleared}}
use Rattle.fs_ops.specs.{declared.kind.Kind.{Kind}, OperatorList.{IsNormal}}
use Rattle.fs_nlri.specs.{Parts.{Body, V4Body, V6Body, ListBody, Part}, Spelling.{IsRange}}

abbrev pub IsSoundBody : Body → Type 0
IsSoundBody (V4Body family len bits) = (family ≡ V4) × (len ≤ 32) × (bits ≡ cleared 32 len bits)
IsSoundBody (V6Body len offset pattern) = IsRange len offset × (pattern ≡ cleared 128 (len - offset) pattern)
IsSoundBody (ListBody pairs) = (kind : Kind) × IsNormal kind pairs

abbrev pub AreSound : List Part → Type 0
AreSound [] = Unit {0}
AreSound (part ∷ parts) = IsSoundBody part.body × AreSound parts
