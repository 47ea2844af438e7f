-- A tape that is read up to its end, whatever that is, and played item by item.
use Rattle.std.specs.Prelude.{ℕ, List, [], Option, Some, None, ◌≡◌, ◌⊎◌}
use Rattle.fs_base.specs.{Parts.{with_part}, declared.config.Config.{Config}}
use Rattle.fs_input.specs.Records.{End, done}
use Rattle.fs_tape.specs.{Tape.{Item, TapeState, Timed, coming, tape_of, timed}, declared.fault.TapeReason.{TapeReason}}
use Rattle.fs_desk.specs.Desk.{Desked, Plays}
use Rattle.cmd_stages.specs.Refusal.{Stage, Found, Stopped, and_then, or_stop}
use Rattle.cmd_stages.specs.declared.refusal.Refusal.{Refusal, TheVariants.{Outside, Memory}}
use Rattle.cmd_stages.specs.{Load.{Names}, Play.{played_to}}

-- the items of a tape, and how it ends
abbrev pub read_stage : Config → ℕ → Names → List ℕ → Stage (List Timed × End TapeReason)
read_stage config limit holds name = and_then (or_stop Outside (holds name)) (λ octets. Found (tape_of config limit octets))

-- a tape gives no item: it isn't there, or ends so
abbrev pub GivesNone : Stage (List Timed × End TapeReason) → Refusal → Type 0
GivesNone (Stopped other) refusal = other ≡ refusal
GivesNone (Found all) refusal = (all.0 ≡ []) × (played_to all ≡ Stopped refusal)

-- why an item isn't played: the tape gives none, or memory was wanting, or a call on the outside failed
abbrev pub Ceases : Stage (List Timed × End TapeReason) → Type 0 → Refusal → Type 0
Ceases stage failed refusal = GivesNone stage refusal ⊎ (refusal ≡ Memory) ⊎ ((refusal ≡ Outside) × failed)

-- the tape, and the desk as the items that were played leave it
pub record ItemState : Type 0 where
  pub tape : TapeState
  pub desk : Desked

-- what the tape is still to give, of what its slot has left
abbrev pub to_give : ItemState → List ℕ → List Timed × End TapeReason
to_give player left = coming player.desk.config player.tape left

-- An item of this moment was played, and these are to come after it; or the tape is done, and the desk stays.
abbrev pub PlaysNext : Option ℕ → (before now : List Timed × End TapeReason) → (old new : ItemState) → Type 0
PlaysNext (Some moment) before now old new =
    (item : Item) × (before ≡ with_part (timed moment item) now) × Plays item old.desk new.desk
PlaysNext None before now old new = (before ≡ ([], done)) × (new.desk ≡ old.desk)
