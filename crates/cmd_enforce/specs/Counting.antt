-- What counting the packets of a capture answers, and what is said of it.
use Rattle.std.specs.Prelude.{List, Result, Ok, Err, ◌≡◌, MatchResult}
use Rattle.fs_input.specs.{Records.{End, done, limited, bad}, declared.fault.Fault.{Fault, TheVariants.{Read, Limit, Bad}}}
use Rattle.cmd_enforce.specs.{Capture.{Captured}, Survey.{Surveyed, Tallied, all_noted, capture_fault_line, nothing_noted}}
use Rattle.cmd_enforce.specs.declared.{fault.CaptureReason.{CaptureReason}, survey.Survey.{Survey}}
use Rattle.cmd_stages.specs.{Refusal.{verdict_with}, Said.{said_shown}}
use Rattle.cmd_stages.specs.declared.{refusal.Refusal.{Refusal, TheVariants.{Outside, Memory, Limit as LimitReached}}, said.Said.{Said}}

-- All packets were counted, up to the capture's end; or the capture has a fault, or a call on the outside failed.
abbrev pub Counts : (now now' : Tallied) → List Captured × End CaptureReason → Type 0 → Result Unit (Fault CaptureReason) → Type 0
Counts now now' coming failed (Ok _) = (coming.1 ≡ done) × (now' ≡ all_noted now coming.0)
Counts now now' coming failed (Err Read) = failed
Counts now now' coming failed (Err Limit) = coming.1 ≡ limited
Counts now now' coming failed (Err (Bad reason place)) = coming.1 ≡ bad reason place

-- The packets of the capture were counted; or it has a fault, or a call on the outside failed.
abbrev pub Surveys : Surveyed → Type 0 → Result Survey (Fault CaptureReason) → Type 0
Surveys all failed (Ok survey) = (all.end ≡ done) × (survey.link ≡ all.link) × (survey.tally ≡ all_noted nothing_noted all.packets)
Surveys all failed (Err Read) = failed
Surveys all failed (Err Limit) = all.end ≡ limited
Surveys all failed (Err (Bad reason place)) = all.end ≡ bad reason place

-- what is said of a capture with this fault
abbrev pub SaysFault : Fault CaptureReason → Result Said Refusal → Type 0
SaysFault Read result = result ≡ Err Outside
SaysFault Limit result = result ≡ Err LimitReached
SaysFault (Bad reason place) result =
    MatchResult result (λ said. said_shown said ≡ verdict_with 5 (capture_fault_line reason place)) (λ refusal. refusal ≡ Memory)
