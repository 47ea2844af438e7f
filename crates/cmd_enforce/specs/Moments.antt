-- The lines of a capture's packets, each under the routes that a tape holds at its moment, and what becomes of them.
use Rattle.std.specs.{Prelude.{ℕ, List, [], ◌∷◌, ◌++◌, Option, Result, ◌≡◌, ◌≢◌, ◌⊎◌, MatchResult, length}, List.{AllByRecursion}}
use Rattle.fs_base.specs.{Sink.{Grew}, declared.config.Config.{Config}}
use Rattle.fs_input.specs.Records.{End, done}
use Rattle.cmd_enforce.specs.{Capture.{Captured, CaptureState, Recorded, coming, recorded}, declared.fault.CaptureReason.{CaptureReason}}
use Rattle.cmd_enforce.specs.Judge.{capture_stage, lines_from, rules_by, status_at}
use Rattle.fs_rules.specs.Table.{Held}
use Rattle.fs_tape.specs.Tape.{Timed}
use Rattle.fs_desk.specs.{Laws.{LeaveSame}, Leaves.{Leaves}}
use Rattle.fs_line.specs.Output.{Goes, Partly}
use Rattle.cmd_stages.specs.{Play.{until}, Load.{Names}}
use Rattle.cmd_stages.specs.Refusal.{Answers, Stage, Found, Stopped, Verdict, status_of, verdict_with}
use Rattle.cmd_stages.specs.declared.refusal.Refusal.{Refusal, TheVariants.{Outside, Memory}}

-- At the moment of each of these packets the items up to that moment leave these routes held.
abbrev pub HoldAt : Config → List Timed → (ℕ → Held) → List Captured → Type 0
HoldAt config items held packets =
    AllByRecursion (λ (packet : Captured). Leaves config (until packet.moment items) (held packet.moment)) packets

-- at the moment of each of these packets both tapes leave the same
abbrev pub LeaveSameAt : Config → (items other : List Timed) → List Captured → Type 0
LeaveSameAt config items other packets =
    AllByRecursion (λ (packet : Captured). LeaveSame config (until packet.moment items) (until packet.moment other)) packets

-- The packets that judging came to, the rest, and the routes that are held at the moments of those.
pub record CameTo (config : Config) (items : List Timed) (packets : List Captured) : Type 0 where
  pub held : ℕ → Held
  pub judged : List Captured
  pub rest : List Captured
  pub parts : packets ≡ judged ++ rest
  pub leaves : HoldAt config items held judged

-- the lines of the packets that judging came to
abbrev pub came_lines : {config : Config} {items : List Timed} {packets : List Captured} → CameTo config items packets → List ℕ
came_lines came = lines_from 0 (rules_by came.held) came.judged

-- What is judged: packets, under the items of a tape; and what the sink and the output held before the first line.
pub record Judging : Type 0 where
  pub config : Config
  pub items : List Timed
  pub all : List Captured × End CaptureReason
  pub before : Option (List ℕ)
  pub pending : List ℕ

abbrev pub judging : Config → List Timed → List Captured × End CaptureReason → (before : Option (List ℕ)) → (pending : List ℕ) → Judging
judging config items all before pending = record { config = config; items = items; all = all; before = before; pending = pending }

-- How far it is: what is to come, what the sink and the output hold, and the number of the last line.
pub record Progress : Type 0 where
  pub rest : List Captured × End CaptureReason
  pub written : Option (List ℕ)
  pub pending : List ℕ
  pub number : ℕ

abbrev pub progress : List Captured × End CaptureReason → (written : Option (List ℕ)) → (pending : List ℕ) → (number : ℕ) → Progress
progress rest written pending number = record { rest = rest; written = written; pending = pending; number = number }

-- Of all packets some were judged, under the routes that are held at their moments, and the rest is to come.
pub record Follows (work : Judging) (now : Progress) : Type 0 where
  pub held : ℕ → Held
  pub gone : List Captured
  pub parts : work.all.0 ≡ gone ++ now.rest.0
  pub end_is : work.all.1 ≡ now.rest.1
  pub count : now.number ≡ length gone
  pub leaves : HoldAt work.config work.items held gone
  pub goes : Goes work.before now.written work.pending now.pending (lines_from 0 (rules_by held) gone)

-- nothing but what is left, or one packet before it, which was read
abbrev pub IsUnjudged : (rest left : List Captured) → Type 0
IsUnjudged rest left = (rest ≡ left) ⊎ ((packet : Captured) × (rest ≡ packet ∷ left))

-- What judging leaves: the packets that the capture is still to give, and what the sink and the output hold.
pub record Outcome : Type 0 where
  pub left : List Captured
  pub written : Option (List ℕ)
  pub pending : List ℕ

abbrev pub outcome : (left : List Captured) → (written : Option (List ℕ)) → (pending : List ℕ) → Outcome
outcome left written pending = record { left = left; written = written; pending = pending }

-- Why judging ended early: the capture ends so, after all its packets; or memory was wanting, after the lines of all
-- packets that were judged, and the rest is what the capture is still to give, with the packet that was read last; or a
-- call on the outside failed, and a front of these lines went on.
abbrev pub BreaksBehind : (work : Judging) → Outcome → CameTo work.config work.items work.all.0 → Type 0 → Refusal → Type 0
BreaksBehind work now came failed refusal =
    ((status_at work.all.1 ≡ status_of refusal) × (came.rest ≡ []) × Goes work.before now.written work.pending now.pending (came_lines came))
    ⊎ ((refusal ≡ Memory) × IsUnjudged came.rest now.left × Goes work.before now.written work.pending now.pending (came_lines came))
    ⊎ ((refusal ≡ Outside) × failed × Partly work.before now.written work.pending now.pending (came_lines came))

abbrev pub BreaksOff : Judging → Outcome → Type 0 → Refusal → Type 0
BreaksOff work now failed refusal = (came : CameTo work.config work.items work.all.0) × BreaksBehind work now came failed refusal

-- The packets to come were all judged, up to the capture's end; or judging broke off.
abbrev pub Judged : {T : Type 0} → Judging → Outcome → Type 0 → Result T Refusal → Type 0
Judged work now failed result =
    MatchResult result
    (λ _. (came : CameTo work.config work.items work.all.0) × (came.rest ≡ []) × (work.all.1 ≡ done)
    × Goes work.before now.written work.pending now.pending (came_lines came))
    (BreaksOff work now failed)

abbrev pub packets_of : Stage Recorded → List Captured
packets_of (Found capture) = capture.packets
packets_of (Stopped refusal) = []

-- of a capture of which judging came to these packets
abbrev pub verdict_at : (ℕ → Held) → List Captured → Stage Recorded → Verdict
verdict_at held judged (Found capture) = verdict_with (status_at capture.end) (lines_from 0 (rules_by held) judged)
verdict_at held judged (Stopped refusal) = verdict_with (status_of refusal) []

-- The packets of a capture were judged under the routes that the tape holds at their moments. All of them were, but for
-- want of memory and for a call on the outside that failed.
pub record AnswersAt (config : Config) (items : List Timed) (stage : Stage Recorded) (failed : Type 0) (before now : Option (List ℕ)) (answer : ℕ) :
    Type 0 where
  pub came : CameTo config items (packets_of stage)
  pub answers : Answers (verdict_at came.held came.judged stage) failed before now answer
  pub all : answer ≢ 6 → answer ≢ 1 → came.rest ≡ []

-- The lines of all packets that were judged were written. The others are left, but for at most one that was read.
pub record WroteJudged (config : Config) (items : List Timed) (packets left : List Captured) (before now : Option (List ℕ)) : Type 0 where
  pub came : CameTo config items packets
  pub unjudged : IsUnjudged came.rest left
  pub wrote : Grew before now (came_lines came)

-- a capture was opened of which this is to come
abbrev pub IsCaptureOpened : ℕ → Names → List ℕ → List ℕ → CaptureState → Type 0
IsCaptureOpened limit holds name left capture =
    capture_stage limit holds name ≡ Found (recorded (coming capture left))

-- no packet was judged: the capture has none, and ends so; or memory was wanting, or a call on the outside failed
abbrev pub EndsBefore : Stage Recorded → Type 0 → Refusal → Type 0
EndsBefore stage failed refusal =
    ((packets_of stage ≡ []) × ((held : ℕ → Held) → (verdict_at held [] stage).status ≡ status_of refusal))
    ⊎ (refusal ≡ Memory) ⊎ ((refusal ≡ Outside) × failed)
