-- The words of the crates below, and of the specs, that lemmas here speak of.
pub use Rattle.std.proofs.Common.{Bool, Err, IsTrue, List, None, Ok, Option, Result, Some, [], ap, append-nil, arith, decimal, false, filter}
pub use Rattle.std.proofs.Common.{if◌then◌else◌, inl, inr, length, nat_le, not, refl, rules, subst, sym, true, ℕ, ◌&&◌, ◌++◌, ◌<◌, ◌==◌, ◌∙◌, ◌∷◌}
pub use Rattle.std.proofs.Common.{◌≡◌, ◌≢◌, ◌≤◌, ◌⊎◌}
pub use Rattle.std.proofs.lemmas.Slice.Eq.{bytes_eq-Decides}
pub use Rattle.std.specs.Str.{bytes_eq}
pub use Rattle.fs_base.proofs.{Grew.{Grew-refl, Grew-trans}, Drawing.{rose_earlier}}
pub use Rattle.fs_base.specs.Happened.{FilesStood, Happened, SinkStood, WireStood, happened, with_wire}
pub use Rattle.fs_base.specs.{Outside.{Rose}, Sink.{Grew, GrewPart}, declared.config.Config.{Config}, Files.{Opened}}
pub use Rattle.fs_tape.specs.Tape.{Timed, tape_of}
pub use Rattle.cmd_stages.proofs.Stages.{accepted_with, answered_err, take_nothing}
pub use Rattle.cmd_stages.proofs.Texts.{fails_for, said_by, said_partly, said_so, said_whole}
pub use Rattle.cmd_stages.proofs.Openings.{never_zero, opened_due, refused_at}
pub use Rattle.cmd_stages.specs.Load.{HoldsConfig, Names, Openings, OpensFront, config_stage, config_then, fetch, sending_stage}
pub use Rattle.cmd_stages.specs.Play.{HasVersion, HoldsTape, IsPlayed, accepted_stage, tape_stage, untimed}
pub use Rattle.cmd_stages.specs.Refusal.{Answers, Found, HasReason, Stage, Stopped, Verdict, and_then, answered, or_stop, status_of, verdict_with}
pub use Rattle.cmd_stages.specs.Writing.{Fails, Writes}
pub use Rattle.cmd_stages.specs.declared.refusal.Refusal.{Refusal, TheVariants.{Capture, Dump, Limit, Memory, Outside, Rejected, Session, Tape}}
pub use Rattle.cmd_enforce.specs.Command.{Enforced, EnforcesSo, Inputs, Unopened, Wants, inputs, inputs_stage, shown, status_for}
pub use Rattle.cmd_wire.proofs.Statuses.{Caused, due_status, early_status, late_status, never_early, not_rose, same_found}
pub use Rattle.cmd_wire.specs.Conversation.{Conversation, conversation}
pub use Rattle.fs_cli.specs.Changes.{Changed, TellsSo}
pub use Rattle.fs_cli.specs.Command.{Announce, Changes, Check, Converts, Enforce, Form, Gen, Listen, Pair, Surveys, count_of, form_of, form_shown}
pub use Rattle.fs_cli.specs.Command.{CheckFile}
pub use Rattle.fs_cli.specs.Program.{AreTold, ChecksSo, ClockKept, Completes, Does, FailedOver, FilesKept, HasCauses, HasNoMoments, HasStatus}
pub use Rattle.fs_cli.specs.Program.{IsOneOf, Objects, OutsideFailed, Promises, Runs, SinkKept, StopsSo, WireKept, WireServed, checked, happened_in}
pub use Rattle.fs_cli.specs.Program.{names_in, objects, openings, shown_in, speaks, statuses, talk_in, tells_changes}
pub use Rattle.fs_cli.specs.Survey.{ListsSo, SaysOf, Surveyed, Text, listed_status, stopped_text, text_for}
