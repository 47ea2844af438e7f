-- The pieces that lines are made of.
use Rattle.std.specs.Prelude.{ℕ, List, codes}
use Rattle.fs_base.specs.declared.prefix.Family.{Family, TheVariants.{V4, V6}}

-- the printed name of a family
abbrev pub family_name : Family → List ℕ
family_name V4 = codes "v4"
family_name V6 = codes "v6"
