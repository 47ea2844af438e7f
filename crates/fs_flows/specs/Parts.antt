-- The blocks of a group as they are kept: one in itself, or a vector of them.
use Rattle.std.specs.Prelude.{List}
use Rattle.fs_flows.specs.{Kept.{Kept}, Blocks.{IsCut, flat}, declared.group.Blocks.{Blocks, TheVariants.{One, Many}}}

abbrev pub routes_in : Blocks → List Kept
routes_in (One block) = block
routes_in (Many blocks) = flat blocks.items

abbrev pub AreWell : Blocks → Type 0
AreWell (One block) = Unit {0}
AreWell (Many blocks) = IsCut blocks.items
