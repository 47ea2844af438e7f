-- Inputs that are read whole, up to a limit.
use Rattle.std.specs.Prelude.{ℕ, List, ◌≡◌, ◌<◌, ◌≤◌, length}
use Rattle.fs_base.specs.declared.whole.Whole.{Whole, TheVariants.{Content, AtLimit}}

-- an input of fewer octets than the limit is its content; any other is at the limit
abbrev pub IsWhole : ℕ → List ℕ → Whole → Type 0
IsWhole limit octets (Content content) = (content.items ≡ octets) × (length octets < limit)
IsWhole limit octets AtLimit = limit ≤ length octets
