-- A document of TOML in UTF-8, as the tree of its table.
use Rattle.std.specs.{Prelude.{ℕ, if◌then◌else◌, List, [], ◌∷◌, Option, Some, None, option_map, option_and_then}, Str.{is_utf8}}
use Rattle.toml.specs.{Data.{Data, Items, no_items, item, Members}, Parse.{parse_document}}

abbrev pub document_of : List ℕ → Option Members
document_of octets = if is_utf8 octets then parse_document octets else None

-- what each item of an array says, where each says something
abbrev pub each_item : {A : Type 0} → (Data → Option A) → Items → Option (List A)
each_item read no_items = Some []
each_item read (item value rest) =
    option_and_then (λ found. option_map (λ more. found ∷ more) (each_item read rest)) (read value)
