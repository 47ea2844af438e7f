-- The stage of the tape, and a tape as the program plays it.
use Rattle.std.specs.{Prelude.{ℕ, List, ◌≡◌, ◌⊎◌, [], map, filter, nat_le, Option, Some, None, Ok, option_map}, List.{AllByRecursion}}
use Rattle.fs_input.specs.{Records.{End, done, limited, bad}, declared.fault.{Ended.TheVariants.{Done, Stopped}, Fault.{Fault, TheVariants.{Read, Limit, Bad}}}}
use Rattle.fs_base.specs.{declared.config.Config.{Config}, Parts.{with_part}}
use Rattle.fs_tape.specs.Tape.{Item, TapeState, Timed, coming, item_from, tape_of, timed, version_of}
use Rattle.fs_tape.specs.declared.{fault.TapeReason.{TapeReason}, item.TapeItem.{TapeItem}, magic.Version.{Version, TheVariants.{One}}}
use Rattle.cmd_stages.specs.Refusal.{Stage, Found, Stopped, and_then, or_stop}
use Rattle.cmd_stages.specs.declared.refusal.Refusal.{Refusal, TheVariants.{Outside, Tape as TapeRefusal, Limit as AtLimit, Memory}}
use Rattle.cmd_stages.specs.Load.{Names, config_stage}
use Rattle.fs_desk.specs.Desk.{Desked, Played}

-- the items alone
abbrev pub untimed : List Timed → List Item
untimed items = map (λ timed. timed.item) items

-- the items with a moment of at most t, in nanoseconds since the start of 1970
abbrev pub until : ℕ → List Timed → List Item
until t items = untimed (filter (λ timed. nat_le timed.moment t) items)

-- a tape of the first version has no moments: each is 0
abbrev pub HaveNoMoments : Version → List Timed → Type 0
HaveNoMoments version items = AllByRecursion (λ (timed : Timed). version ≡ One → timed.moment ≡ 0) items

-- a tape without a fault
abbrev pub played_to : List Timed × End TapeReason → Stage (List Timed)
played_to (items, done) = Found items
played_to (items, limited) = Stopped AtLimit
played_to (items, bad reason place) = Stopped (TapeRefusal reason place)

abbrev pub tape_stage : Config → ℕ → Names → List ℕ → Stage (List Timed)
tape_stage config limit holds name = and_then (or_stop Outside (holds name)) (λ octets. played_to (tape_of config limit octets))

-- the tape of this name has these items, no fault, and fewer octets than the limit
pub record HoldsTape (limit : ℕ) (holds : Names) (name : List ℕ) (config : Config) (items : List Timed) : Type 0 where
  pub octets : List ℕ
  pub there : holds name ≡ Some octets
  pub read : tape_of config limit octets ≡ (items, done)

-- the version that the magic of the tape tells
abbrev pub HasVersion : ℕ → Names → List ℕ → Version → Type 0
HasVersion limit holds name version = option_map (version_of limit) (holds name) ≡ Some (Ok version)

-- a tape was opened of which this is to come, whatever the configuration
pub record IsOpened (limit : ℕ) (holds : Names) (name left : List ℕ) (tape : TapeState) : Type 0 where
  pub comes : (config : Config) → tape_stage config limit holds name ≡ played_to (coming config tape left)
  pub has_version : HasVersion limit holds name tape.version

-- the configuration and the tape are accepted
abbrev pub accepted_stage : ℕ → Names → (config tape : List ℕ) → Stage (Config × List Timed)
accepted_stage limit holds config tape =
    and_then (config_stage limit holds config) (λ accepted.
    and_then (tape_stage accepted limit holds tape) (λ items.
    Found (accepted, items)))

-- the refusal for a fault of a tape
abbrev pub refused_by : Fault TapeReason → Refusal
refused_by Read = Outside
refused_by Limit = AtLimit
refused_by (Bad reason place) = TapeRefusal reason place

-- a tape is open where an item was given, and done where none was
abbrev pub IsOpenOrDone : TapeState → Option TapeItem → Type 0
IsOpenOrDone tape None = tape.end ≡ Some Done
IsOpenOrDone tape (Some item) = tape.end ≡ None

-- a tape ended by the fault that is refused so; or memory was wanting
abbrev pub EndsBy : TapeState → Refusal → Type 0
EndsBy tape refusal =
    (refusal ≡ Memory) ⊎ ((fault : Fault TapeReason) × (tape.end ≡ Some (Stopped fault)) × (refusal ≡ refused_by fault))

-- the items of a tape without a fault were played
pub record IsPlayed (config : Config) (stage : Stage (List Timed)) (desk : Desked) : Type 0 where
  pub items : List Timed
  pub found : stage ≡ Found items
  pub played : Played config (untimed items) desk

-- an item was given, of this moment, and these are the items to come behind it; or the tape is done
abbrev pub Gives : (before now : List Timed × End TapeReason) → (moment : ℕ) → List ℕ → Option TapeItem → Type 0
Gives before now moment into (Some item) = before ≡ with_part (timed moment (item_from item into)) now
Gives before now moment into None = before ≡ ([], done)

-- what was to come was all played, up to the end
pub record PlaysOn (config : Config) (version : Version) (coming : List Timed × End TapeReason) (desk : Desked) : Type 0 where
  pub done_is : coming.1 ≡ done
  pub moments : HaveNoMoments version coming.0
  pub played : Played config (untimed coming.0) desk
