-- The components of a rule are tested one by one.
use Rattle.fs_packet.proofs.Words.{◌≡◌, ℕ, List, drop, list_all, AreSound, Viewed, part_matches}
use Rattle.fs_nlri.specs.{declared.component.Component.{Component}, Component.{parts_of}}

-- the components before the index match
pub record Matching (view : Viewed) (components : List Component) (index : ℕ) : Type 0 where
  pub same : list_all (part_matches view) (parts_of (drop index components)) ≡ list_all (part_matches view) (parts_of components)
  pub sound : AreSound (parts_of (drop index components))
