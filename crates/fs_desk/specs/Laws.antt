-- When two tapes leave the same routes.
use Rattle.std.specs.Prelude.{◌≡◌, ℕ, List}
use Rattle.fs_base.specs.declared.config.Config.{Config}
use Rattle.fs_nlri.specs.Parts.{Ruled}
use Rattle.fs_unicast.specs.declared.unicast.Place.{Place}
use Rattle.fs_tape.specs.Tape.{Item}
use Rattle.fs_desk.specs.{Leaves.{updates_of}, Updates.{unicast_left, flow_left}}

-- at each key of each peer both tapes leave the same
pub record LeaveSame (config : Config) (items other : List Item) : Type 0 where
  pub unicast : (place : Place)
      → unicast_left place.prefix (updates_of config items place.peer)
      ≡ unicast_left place.prefix (updates_of config other place.peer)
  pub flows : (rule : Ruled) (peer : ℕ)
      → flow_left rule (updates_of config items peer) ≡ flow_left rule (updates_of config other peer)
