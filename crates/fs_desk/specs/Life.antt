-- What a tape says of one peer.
use Rattle.std.specs.{Prelude.{◌==◌, ℕ, List, [], ◌∷◌, Bool, false, Option, Some, None, if◌then◌else◌}, List.{list_any, flat_map}}
use Rattle.fs_tape.specs.Tape.{Item, came_up, received, was_lost}

-- the peer came up or was lost
abbrev pub bounds_life : ℕ → Item → Bool
bounds_life peer (came_up other) = other == peer
bounds_life peer (was_lost other) = other == peer
bounds_life peer (received other octets) = false

-- what the peer sent
abbrev pub sent_in : ℕ → Item → List ℕ
sent_in peer (received other octets) = if other == peer then octets else []
sent_in peer _ = []

abbrev pub sent_by : ℕ → List Item → List ℕ
sent_by peer items = flat_map (sent_in peer) items

-- the peer came up
abbrev pub begins_life : ℕ → Item → Bool
begins_life peer (came_up other) = other == peer
begins_life peer _ = false

-- The octets of a peer's present life: what it sent behind its last up, if no loss of it follows. Where
-- it comes up or is lost again later, that decides.
abbrev pub life : ℕ → List Item → Option (List ℕ)
life peer [] = None
life peer (item ∷ items) =
    if list_any (bounds_life peer) items then life peer items
    else if begins_life peer item then Some (sent_by peer items)
    else None
