-- What `gen` writes and answers: the counts of the admitted rules and of the lines, over the generator's tape and packets.
use Rattle.std.specs.{Prelude.{◌≡◌, ◌⊎◌, ℕ, List, ◌++◌, [], Bool, false, not, if◌then◌else◌, Option, Result, Ok, Err, codes, length}, List.{count_by, list_any}}
use Rattle.fs_actions.specs.Community.{is_discard}
use Rattle.fs_base.specs.{Happened.{Happened, SinkFailed, Wrote}, Sink.{Grew}, declared.{prefix.Family.TheVariants.{V4}, link.Link.TheVariants.{Raw}}}
use Rattle.fs_desk.specs.Leaves.{Leaves}
use Rattle.cmd_gen.specs.{Configuration.{three_peers}, Generator.{packets_of_seed, tape_of_seed}}
use Rattle.fs_line.specs.{Line.{numbered}, Walked.{actions_walked}}
use Rattle.fs_packet.specs.{Fields.{Viewed}, Reading.{view_of}, declared.fields.Unread.{Unread}}
use Rattle.fs_rules.specs.{Table.{admitted, Held}, Walk.{walk_of}}
use Rattle.cmd_enforce.specs.Judge.{AdmittedRules, admitted_rules, rules_for}
use Rattle.cmd_stages.specs.Refusal.{Verdict, Answers}

-- some rule that the packet walks drops it: the test by which its line says so
abbrev pub walks_to_drop : AdmittedRules → Viewed → Bool
walks_to_drop rules view = list_any is_discard (actions_walked (walk_of view (rules_for view.family rules)))

-- what a packet's line says: that it is dropped, or that it passes. Of a packet that can't be read it says neither.
abbrev pub is_dropped : AdmittedRules → Result Viewed Unread → Bool
is_dropped rules (Ok view) = walks_to_drop rules view
is_dropped rules (Err unread) = false

abbrev pub is_passed : AdmittedRules → Result Viewed Unread → Bool
is_passed rules (Ok view) = not (walks_to_drop rules view)
is_passed rules (Err unread) = false

-- what a packet adds to a count
abbrev pub one_if : Bool → ℕ
one_if counted = if counted then 1 else 0

-- how many of these packets, which have no link header, pass, and how many are dropped
abbrev pub passed_of : AdmittedRules → List (List ℕ) → ℕ
passed_of rules packets = count_by (λ octets. is_passed rules (view_of Raw octets)) packets

abbrev pub dropped_of : AdmittedRules → List (List ℕ) → ℕ
dropped_of rules packets = count_by (λ octets. is_dropped rules (view_of Raw octets)) packets

abbrev pub gen_line : (count rules passed dropped : ℕ) → List ℕ
gen_line count rules passed dropped =
    numbered (codes "gen ") count ++ (numbered (codes " rules ") rules
    ++ (numbered (codes " pass ") passed ++ (numbered (codes " discard ") dropped ++ codes "\n")))

-- the line, under the routes that the tape leaves held
abbrev pub gen_text : ℕ → Held → List ℕ
gen_text count held =
    gen_line count (length (admitted V4 held))
    (passed_of (admitted_rules held) (packets_of_seed count))
    (dropped_of (admitted_rules held) (packets_of_seed count))

abbrev pub gen_verdict : List ℕ → Verdict
gen_verdict text = record { status = 0; text = text }

-- the tape leaves these routes held, and the line under them was written
pub record Counts (count : ℕ) (failed : Type 0) (before now : Option (List ℕ)) (answer : ℕ) : Type 0 where
  pub held : Held
  pub leaves : Leaves three_peers (tape_of_seed count) held
  pub answers : Answers (gen_verdict (gen_text count held)) failed before now answer

-- or memory was wanting, and nothing was
abbrev pub GeneratesSo : (count : ℕ) → Type 0 → (before now : Option (List ℕ)) → ℕ → Type 0
GeneratesSo count failed before now answer =
    ((answer ≡ 6) × Grew before now []) ⊎ Counts count failed before now answer

abbrev pub Generates : (count : ℕ) → Happened → ℕ → Type 0
Generates count call answer =
    GeneratesSo count (SinkFailed call) call.before.written call.now.written answer

-- Of the generator's tape and packets, so many of each, the counts were written: of the rules that validation admits
-- from the routes that the tape leaves held, and of the lines that the ordered walk gives for the packets.
pub record Generated (count : ℕ) (call : Happened) : Type 0 where
  pub held : Held
  pub leaves : Leaves three_peers (tape_of_seed count) held
  pub wrote : Wrote call (gen_text count held)
