-- A tape that is played up to moments, by a player that holds one item ahead.
use Rattle.std.specs.{Prelude.{ℕ, List, [], ◌≡◌, ◌≤◌, ◌++◌, ◌⊎◌, Option, Some, None, IfSome, if◌then◌else◌, nat_le}, List.{AllByRecursion}}
use Rattle.fs_base.specs.{Parts.{with_part}, declared.config.Config.{Config}}
use Rattle.fs_input.specs.{Records.{End, done}, declared.fault.Ended.TheVariants.{Done}}
use Rattle.fs_tape.specs.Tape.{IsItem, TapeState, Timed, coming, item_from, timed}
use Rattle.fs_tape.specs.declared.{fault.TapeReason.{TapeReason}, item.TapeItem.{TapeItem}, magic.Version.TheVariants.{Two}}
use Rattle.fs_desk.specs.Desk.{Desked, Played}
use Rattle.cmd_stages.specs.{Load.{Names}, Play.{HasVersion, tape_stage, untimed}, Refusal.{Found}}
use Rattle.cmd_stages.specs.declared.refusal.Refusal.{Refusal, TheVariants.{Outside, Memory}}

-- the tape, the item that was read ahead, if the tape isn't done, the buffer at whose front its octets stand, and the desk
pub record PlayerState : Type 0 where
  pub tape : TapeState
  pub ahead : Option TapeItem
  pub into : List ℕ
  pub desk : Desked

-- an item that was read ahead is of a configured peer, and the tape goes on behind it
abbrev pub IsReady : TapeState → Config → TapeItem → Type 0
IsReady tape config item = IsItem config item × (tape.end ≡ None) × (tape.place ≤ tape.limit)

-- the item ahead, of this moment, and those to come behind it; where none is ahead the tape is done
abbrev pub items_ahead : Option TapeItem → (moment : ℕ) → List ℕ → List Timed × End TapeReason → List Timed × End TapeReason
items_ahead None moment into rest = ([], done)
items_ahead (Some item) moment into rest = with_part (timed moment (item_from item into)) rest

-- what is still to be played, of what the tape's slot has left
abbrev pub to_play : PlayerState → List ℕ → List Timed × End TapeReason
to_play player left =
    items_ahead player.ahead player.tape.moment player.into (coming player.desk.config player.tape left)

-- the item ahead, where its moment has come
abbrev pub due_item : Option TapeItem → (at moment : ℕ) → Option TapeItem
due_item None at moment = None
due_item (Some item) at moment = if nat_le at moment then Some item else None

-- Of a tape with these items some were played, none of them with a moment above t, and the desk stands as these leave
-- it. The others are still to be played, and where there are any the tape has moments.
pub record Stands (items : List Timed) (t : ℕ) (player : PlayerState) (left : List ℕ) : Type 0 where
  pub gone : List Timed
  pub parts : items ≡ gone ++ (to_play player left).0
  pub ends : (to_play player left).1 ≡ done
  pub early : AllByRecursion (λ (timed : Timed). timed.moment ≤ t) gone
  pub played : Played player.desk.config (untimed gone) player.desk
  pub version_is : IfSome player.ahead (λ _. player.tape.version ≡ Two)

-- of a tape without a fault that was read before: memory was wanting, or a call on the files failed
abbrev pub IsUnplayed : Type 0 → Refusal → Type 0
IsUnplayed failed refusal = (refusal ≡ Memory) ⊎ ((refusal ≡ Outside) × failed)

-- a tape was played to its end, from this slot and under this configuration: nothing of it is ahead
pub record IsEnded (slot : ℕ) (config : Config) (player : PlayerState) : Type 0 where
  pub slot_is : player.tape.slot ≡ slot
  pub config_is : player.desk.config ≡ config
  pub none_ahead : player.ahead ≡ None
  pub done_is : player.tape.end ≡ Some Done

-- the items stand played, whatever the slot has left; or the tape is of the second version
abbrev pub StandsOrWaits : ℕ → Names → List ℕ → List Timed → Option PlayerState → Type 0
StandsOrWaits limit holds name items (Some player) = (left : List ℕ) → Stands items 0 player left
StandsOrWaits limit holds name items None = HasVersion limit holds name Two

-- A tape was read whole and has no fault. One of the first version was played.
pub record IsReadWhole (config : Config) (limit : ℕ) (holds : Names) (name : List ℕ) (whole : Option PlayerState) : Type 0 where
  pub items : List Timed
  pub found : tape_stage config limit holds name ≡ Found items
  pub stands : StandsOrWaits limit holds name items whole
