-- What events that come one after another call for.
use Rattle.cmd_wire.proofs.Words.{◌≡◌, ◌∙◌, List, [], ◌∷◌, ◌++◌, append-nil, append_assoc, ap, refl, sym, Config}
use Rattle.std.specs.Prelude.{max}
use Rattle.fs_base.specs.Gate.{Turn, came}
use Rattle.fs_tape.specs.Tape.{Timed}
use Rattle.fs_recorder.specs.{Deeds.{asked_in, items_of, told_at}, Steps.{Between, Happening, behind, recorded_from, stands_from, step_at, turns_from}}

-- the turns that an event calls for, and what is told at it
abbrev pub turns_at : Config → Between → Happening → List Turn
turns_at config now event = came event.moment event.time event.what ∷ asked_in (step_at config now event).deeds

abbrev pub timed_at : Config → Between → Happening → List Timed
timed_at config now event = told_at (max now.moment event.moment) (items_of (step_at config now event).deeds)

pub stands_more : (config : Config) (now : Between) (events : List Happening) (event : Happening)
    → stands_from config now (events ++ event ∷ []) ≡ behind config (stands_from config now events) event
stands_more config now [] event = refl
stands_more config now (first ∷ later) event = stands_more config (behind config now first) later event

pub turns_more : (config : Config) (now : Between) (events : List Happening) (event : Happening)
    → turns_from config now (events ++ event ∷ []) ≡ turns_from config now events ++ turns_at config (stands_from config now events) event
turns_more config now [] event = append-nil (turns_at config now event)
turns_more config now (first ∷ later) event =
    ap (λ (rest : List Turn). turns_at config now first ++ rest) (turns_more config (behind config now first) later event)
    ∙ sym (append_assoc (turns_at config now first) (turns_from config (behind config now first) later)
    (turns_at config (stands_from config (behind config now first) later) event))

pub recorded_more : (config : Config) (now : Between) (events : List Happening) (event : Happening)
    → recorded_from config now (events ++ event ∷ []) ≡ recorded_from config now events ++ timed_at config (stands_from config now events) event
recorded_more config now [] event = append-nil (timed_at config now event)
recorded_more config now (first ∷ later) event =
    ap (λ (rest : List Timed). timed_at config now first ++ rest) (recorded_more config (behind config now first) later event)
    ∙ sym (append_assoc (timed_at config now first) (recorded_from config (behind config now first) later)
    (timed_at config (stands_from config (behind config now first) later) event))
