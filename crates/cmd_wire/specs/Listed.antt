-- What is answered and written where a desk was to be listed.
use Rattle.std.specs.Prelude.{◌≡◌, ◌⊎◌, ℕ, List, [], Option}
use Rattle.fs_base.specs.{Sink.{Grew}, declared.config.Config.{Config}}
use Rattle.fs_rules.specs.Table.{Held}
use Rattle.fs_tape.specs.Tape.{Item}
use Rattle.fs_desk.specs.{Desk.{Desked, Played}, Leaves.{Leaves}}
use Rattle.fs_peering.specs.declared.tell.Ending.{Ending, TheVariants.{Done, Closed as HasClosed, Ended, AtLimit}}
use Rattle.fs_reports.specs.Listing.{listing}
use Rattle.cmd_stages.specs.Refusal.{Answers, Verdict, verdict_with}
use Rattle.cmd_wire.specs.Lines.{closing_line, ended_line}

-- what is answered and written at an end, of a text that is due where all is done
abbrev pub verdict_by : Ending → List ℕ → Verdict
verdict_by Done text = verdict_with 0 text
verdict_by (HasClosed why) text = verdict_with 8 (closing_line why)
verdict_by Ended text = verdict_with 8 ended_line
verdict_by AtLimit text = verdict_with 7 []

-- the text lists what a desk holds that was played to these items
abbrev pub ListsDesk : Ending → Desked → List ℕ → Type 0
ListsDesk ending desk text =
    ending ≡ Done → (config : Config) (items : List Item) → Played config items desk → text ≡ listing config items desk.held

-- That was answered and written of such a text; or memory was wanting, and nothing was.
abbrev pub TellsListing : Ending → Desked → Type 0 → (before now : Option (List ℕ)) → ℕ → Type 0
TellsListing ending desk failed before now answer =
    ((answer ≡ 6) × Grew before now [])
    ⊎ ((text : List ℕ) × (ListsDesk ending desk text × Answers (verdict_by ending text) failed before now answer))

-- The text is the listing behind these items, of exactly the routes that they leave held.
pub record IsListing (config : Config) (items : List Item) (text : List ℕ) : Type 0 where
  pub held : Held
  pub leaves : Leaves config items held
  pub text_is : text ≡ listing config items held
