-- What stands at the keys of a TOML table.
use Rattle.std.specs.Prelude.{ℕ, pos, nat_le, Bool, true, ◌&&◌, if◌then◌else◌, List, Option, Some, None}
use denote.Ref.{Bor}
use Rattle.std.specs.{List.{list_any}, Str.{bytes_eq}}
use Rattle.toml.specs.Data.{Data, integer, boolean, Members, no_members, member}

-- an integer from low to high
abbrev pub number_in : ℕ → ℕ → Option Data → Option ℕ
number_in low high (Some (integer (pos n))) = if nat_le low n && nat_le n high then Some n else None
number_in low high _ = None

-- an integer from low to high, and this one where the key is missing
abbrev pub number_or : ℕ → ℕ → ℕ → Option Data → Option ℕ
number_or default low high None = Some default
number_or default low high (Some value) = number_in low high (Some value)

-- a boolean, and this one where the key is missing
abbrev pub flag_or : Bool → Option Data → Option Bool
flag_or default None = Some default
flag_or default (Some (boolean flag)) = Some flag
flag_or default (Some _) = None

-- each key of the members is one of these
abbrev pub keys_among : List (List ℕ) → Members → Bool
keys_among names no_members = true
keys_among names (member key value rest) =
    list_any (λ name. bytes_eq name key) names && keys_among names rest

-- the key is one of these names, as the code lends them
abbrev pub is_named : List (Bor (List ℕ)) → List ℕ → Bool
is_named names key = list_any (λ name. bytes_eq name.now key) names
