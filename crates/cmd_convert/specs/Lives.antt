-- The lives of the peers, as a tape so far tells.
use Rattle.std.specs.Prelude.{ℕ, Bool, true, false, not, List, Option, Some, None, ◌==◌, get_or, if◌then◌else◌}

-- a peer is down, or it has a life whose OPEN told whether AS numbers have four octets
abbrev pub Life : Type 0
Life = Option Bool

-- by the peer's number
abbrev pub Lives : Type 0
Lives = ℕ → Life

abbrev pub no_lives : Lives
no_lives peer = None

abbrev pub with_life : ℕ → Life → Lives → Lives
with_life peer life lives other = if other == peer then life else lives other

-- as they are listed, from number 0 on
abbrev pub lives_of : List Life → Lives
lives_of listed peer = get_or listed peer None

abbrev pub has_width : Life → Bool → Bool
has_width None wide = false
has_width (Some told) true = told
has_width (Some told) false = not told
