-- What a command that speaks over the wire comes to, and what it promises: `announce`, `listen` and `pair` alike. `Says`
-- has what was said over the wire, of what the files are accepted as, of an end of the session, and of the text that is due
-- where all is done.
use Rattle.std.specs.Prelude.{◌≡◌, ◌⊎◌, ℕ, List, Some}
use Rattle.fs_base.specs.{Happened.{Happened, FilesFailed, FilesStood, SinkFailed, SinkStood, WireFailed, WireStood, Wrote}, Wire.{WireEnds}}
use Rattle.fs_peering.specs.declared.tell.Ending.{Ending, TheVariants.{Done}}
use Rattle.cmd_stages.specs.Refusal.{Answers, EndsEarly, Found, Stage, Stopped, status_of}
use Rattle.cmd_wire.specs.{Conversation.{Conversation}, Listed.{verdict_by}}

-- a call on the files, the sink or the wire failed
abbrev pub AnyFailed : Happened → Type 0
AnyFailed call = FilesFailed call ⊎ (SinkFailed call ⊎ WireFailed call)

-- The files are accepted, and the session ended so.
pub record Spoken {A : Type 0} (stage : Stage A) (Says : A → Ending → List ℕ → Type 0) (ending : Ending) : Type 0 where
  pub accepted : A
  pub found : stage ≡ Found accepted
  pub text : List ℕ
  pub says : Says accepted ending text

-- And that was answered.
pub record Concluded {A : Type 0} (stage : Stage A) (Says : A → Ending → List ℕ → Type 0) (call : Happened) (answer : ℕ)
    : Type 0 where
  pub ending : Ending
  pub spoken : Spoken stage Says ending
  pub answers : Answers (verdict_by ending spoken.text) (AnyFailed call) call.before.written call.now.written answer

-- Or the run ended before anything was written.
abbrev pub Concludes : {A : Type 0} → Stage A → (A → Ending → List ℕ → Type 0) → Happened → ℕ → Type 0
Concludes stage Says call answer =
    EndsEarly stage (AnyFailed call) call.before.written call.now.written answer ⊎ Concluded stage Says call answer

-- the status that the files call for, and what was said over the wire
abbrev pub HasStatusBy : {A : Type 0} → (A → Ending → List ℕ → Type 0) → Stage A → ℕ → Type 0
HasStatusBy Says (Stopped refusal) answer = answer ≡ status_of refusal
HasStatusBy Says (Found accepted) answer =
    (ending : Ending) × (text : List ℕ) × (Says accepted ending text × (answer ≡ (verdict_by ending text).status))

-- The session ended so that this is answered, and its text or its line alone was written.
pub record Ends {A : Type 0} (stage : Stage A) (Says : A → Ending → List ℕ → Type 0) (call : Happened) (answer : ℕ)
    (ending : Ending) : Type 0 where
  pub spoken : Spoken stage Says ending
  pub status_is : answer ≡ (verdict_by ending spoken.text).status
  pub wrote : Wrote call (verdict_by ending spoken.text).text

-- The files are accepted, and the wire tells.
pub record IsSetUp {A : Type 0} (stage : Stage A) (talk : Conversation) : Type 0 where
  pub accepted : A
  pub found : stage ≡ Found accepted
  pub ends : WireEnds
  pub ends_now : WireEnds
  pub told : talk.ends ≡ Some ends
  pub told_now : talk.ends_now ≡ Some ends_now

pub record SessionPromises {A : Type 0} (stage : Stage A) (Says : A → Ending → List ℕ → Type 0) (Served : Type 0)
    (call : Happened) (answer : ℕ) : Type 0 where
  -- At 0 all was done, and its text was written.
  pub done : answer ≡ 0 → Ends stage Says call answer Done
  -- At 8 octets that an end read closed its session, or ended before it was established, or a hold time expired, and the
  -- line of that was written.
  pub session : answer ≡ 8 → (ending : Ending) × Ends stage Says call answer ending
  -- Where no call failed and this is so, only want of memory prevents 0.
  pub served : Served → FilesStood call → SinkStood call → WireStood call → (answer ≡ 0) ⊎ (answer ≡ 6)
