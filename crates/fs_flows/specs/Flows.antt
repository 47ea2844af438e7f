-- The flow routes of both families.
use Rattle.std.specs.{Prelude.{List}, List.{AllByRecursion}}
use Rattle.fs_base.specs.declared.prefix.Family.TheVariants.{V4, V6}
use Rattle.fs_flows.specs.{Kept.{Kept}, Groups.{IsSound}}

pub record AreOfFamilies (v4 v6 : List Kept) : Type 0 where
  pub first : AllByRecursion (IsSound V4) v4
  pub second : AllByRecursion (IsSound V6) v6
