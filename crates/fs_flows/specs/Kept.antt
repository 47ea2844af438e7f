-- A flow route and its validity.
use Rattle.fs_validate.specs.declared.{route.FlowRoute.{FlowRoute}, validity.Validity.{Validity}}

pub record Kept : Type 0 where
  pub route : FlowRoute
  pub validity : Validity
