-- The configured peer of an address.
use Rattle.std.specs.Prelude.{ℕ, List, [], ◌∷◌, Option, Some, None, Bool, false, ◌==◌, min, if◌then◌else◌}
use Rattle.fs_base.specs.declared.config.{Address.{Address, TheVariants.{V4, V6}}, Peer.{Peer}}

abbrev pub is_same : Address → Address → Bool
is_same (V4 one) (V4 other) = one == other
is_same (V6 one) (V6 other) = one == other
is_same (V4 one) (V6 other) = false
is_same (V6 one) (V4 other) = false

abbrev pub lesser : Option ℕ → ℕ → ℕ
lesser (Some other) number = min number other
lesser None number = number

-- the lowest of a number and those of the peers of that address
abbrev pub lowest : Address → Option ℕ → List Peer → Option ℕ
lowest address found [] = found
lowest address found (peer ∷ peers) =
    lowest address (if is_same peer.address address then Some (lesser found peer.number) else found) peers

-- the lowest number of a peer of that address
abbrev pub number_at : Address → List Peer → Option ℕ
number_at address peers = lowest address None peers
