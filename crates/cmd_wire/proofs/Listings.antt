-- A listing that was written in one piece, as the answer of a run.
use Rattle.cmd_wire.proofs.Words.{Answers, Desked, Done, Played, Refusal, answered, verdict_with, ◌≡◌, ◌∙◌, inr, ℕ, List, Option, Result, Ok, Err}
use Rattle.cmd_wire.proofs.Words.{Config, said_partly, said_whole, TellsListing}
use Rattle.fs_tape.specs.Tape.{Item}
use Rattle.fs_reports.specs.Listing.{listing}
use Rattle.cmd_stages.specs.Writing.{Writes}

pub told_listing : {T : Type 0} (desk : Desked) (text written : List ℕ) (failed : Type 0) (before now : Option (List ℕ)) (result : Result T Refusal)
    → written ≡ text → ((config : Config) (items : List Item) → Played config items desk → text ≡ listing config items desk.held)
    → Writes written failed before now result → TellsListing Done desk failed before now (answered result)
told_listing {T} desk text written failed before now result e lists w =
    inr (written, ((λ done config items played. e ∙ lists config items played), by result w))
  where
    by : (r : Result T Refusal) → Writes written failed before now r → Answers (verdict_with 0 written) failed before now (answered r)
    by (Ok t) g = said_whole 0 written failed before now g
    by (Err refusal) h = said_partly 0 written failed before now refusal h
