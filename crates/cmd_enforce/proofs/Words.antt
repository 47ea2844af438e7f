-- The words of the crates below, and of the specs, that lemmas here speak of.
pub use Rattle.std.proofs.Common.{Bool, Err, IfSome, IsTrue, List, None, Ok, Option, Result, Some, [], ap, append-nil, append_assoc, arith, drop}
pub use Rattle.std.proofs.Common.{false, get_or, if◌then◌else◌, inl, inr, le_refl, le_trans, length, length-append, refl, rules, subst, suc, sym}
pub use Rattle.std.proofs.Common.{take, take-append-drop, true, zero, ℕ, ◌++◌, ◌+◌, ◌-◌, ◌<◌, ◌==◌, ◌^◌, ◌∙◌, ◌∷◌, ◌≡◌, ◌≢◌, ◌≤◌, ◌⊎◌}
pub use Rattle.std.proofs.lemmas.List.{length-drop, length-map, length-take, map-append, take-take}
pub use Rattle.std.specs.{Prelude.{vec_capacity, vec_len}, Result.{IsErrAnd}}
pub use Rattle.fs_base.proofs.{Grew.{Grew-refl, Grew-trans, part_none, part_whole}, Drawing.{rose_earlier}}
pub use Rattle.fs_base.specs.{Outside.{Rose}, Parts.{window, with_part}, Sink.{Grew, GrewPart}, declared.config.Config.{Config}}
pub use Rattle.fs_input.specs.Records.{End, bad, done, limited}
pub use Rattle.fs_tape.specs.Tape.{Item, Timed}
pub use Rattle.fs_rules.specs.{Lent.{Listed}, Table.{Held}, Walk.{first_from, goes_on, walk_from, walk_of}}
pub use Rattle.fs_compile.specs.{Matcher.{StandsForLists, WalksOn, admitted_in}, Matches.{AreMatchesOf, Matching, behind}}
pub use Rattle.fs_compile.specs.Reach.{reaching, reaching_behind, reaching_from}
pub use Rattle.fs_line.proofs.Outputs.{goes_as, goes_flush, goes_flush_part, goes_none, goes_stops, goes_then, partly_flushed, sends_as}
pub use Rattle.fs_line.proofs.Outputs.{stops_as}
pub use Rattle.fs_line.specs.{Line.{line_of, unread_line_of}, Output.{Goes, Partly, Stops}, Walked.{actions_walked, entries, entry_of}}
pub use Rattle.fs_line.specs.declared.walked.Walked.{Walked}
pub use Rattle.cmd_stages.proofs.Stages.{accepted_with, answered_err, answers_for, either_rose, ends_early, finished_by, match_err, outside_one}
pub use Rattle.cmd_stages.proofs.Stages.{reason_then, rose_later}
pub use Rattle.cmd_stages.proofs.Openings.{opened_due, refused_at}
pub use Rattle.cmd_stages.specs.Load.{Names, config_stage}
pub use Rattle.cmd_stages.specs.Play.{HasVersion, IsOpenOrDone, accepted_stage, tape_stage, until}
pub use Rattle.cmd_stages.specs.Player.{IsReadWhole, IsUnplayed, PlayerState, Stands, StandsOrWaits, due_item}
pub use Rattle.cmd_stages.specs.Refusal.{Found, HasReason, Stage, Stopped, and_then, answered, status_of}
pub use Rattle.cmd_stages.specs.declared.refusal.Refusal.{Refusal, TheVariants.{Memory, Outside}}
pub use Rattle.cmd_enforce.specs.Capture.{CaptureState, Captured, IsRead, Recorded, captured_by, captured_in, coming, is_section, packet_from}
pub use Rattle.cmd_enforce.specs.Capture.{recorded}
pub use Rattle.cmd_enforce.specs.Command.{EnforcesSo, Unfinished, openings_of}
pub use Rattle.cmd_enforce.specs.Judge.{AdmittedRules, Ceases, IsAtPacket, IsOfCapture, IsOfPackets, admitted_rules, always, capture_stage}
pub use Rattle.cmd_enforce.specs.Judge.{lines_from, output_of, packet_text, rules_by, rules_for, seen_of, status_at, text_by}
pub use Rattle.cmd_enforce.specs.Matcher.{HasRoom, IsCompiled, StandsFor, WalksWith}
pub use Rattle.cmd_enforce.specs.Moments.{AnswersAt, BreaksBehind, BreaksOff, CameTo, EndsBefore, Follows, HoldAt, IsUnjudged, Judged, Judging}
pub use Rattle.cmd_enforce.specs.Moments.{LeaveSameAt, Outcome, Progress, WroteJudged, came_lines, judging, outcome, packets_of, progress, verdict_at}
pub use Rattle.cmd_enforce.specs.declared.fault.CaptureReason.{CaptureReason}
