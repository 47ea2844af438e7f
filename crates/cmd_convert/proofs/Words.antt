-- The words of the crates below, and of the specs, that lemmas here speak of.
pub use Rattle.byteorder.specs.Endian.{big_bytes}
pub use Rattle.std.proofs.Common.{Bool, Err, IsTrue, List, None, Ok, OnOk, Option, Result, Some, [], ap, append-nil, append_assoc, arith, false}
pub use Rattle.std.proofs.Common.{get_or, inl, inr, le_trans, length, refl, rules, subst, sym, true, ℕ, ◌++◌, ◌+◌, ◌-◌, ◌<◌, ◌==◌, ◌^◌, ◌∙◌, ◌∷◌}
pub use Rattle.std.proofs.Common.{◌≡◌, ◌≢◌, ◌≤◌, ◌⊎◌}
pub use Rattle.std.specs.Prelude.{IsSome, find, flat_map, if◌then◌else◌, replicate}
pub use Rattle.fs_base.{specs.{Outside.{Rose}, declared.config.Config.{Config}}, proofs.{Grew.{Grew-trans}, Drawing.{rose_earlier}}}
pub use Rattle.fs_input.specs.Records.{End, done}
pub use Rattle.fs_tape.specs.Laws.{Fits, IsNumbered, IsWritable, after, item_text, item_text_at, record_text, tape_text}
pub use Rattle.fs_tape.specs.Magic.{magic_of}
pub use Rattle.fs_tape.specs.Tape.{Item, Timed, came_up, received, stands, timed, was_lost}
pub use Rattle.fs_tape.specs.declared.magic.Version.TheVariants.{Two}
pub use Rattle.fs_mrt.specs.Dump.{DumpState, IsBegun, coming, dump_of, heard_to_come, said_from, spoken_from}
pub use Rattle.fs_mrt.specs.{Record.{Said, Spoken, change, message}, declared.{fault.DumpReason.{DumpReason}, heard.What.{What}}}
pub use Rattle.fs_line.proofs.Outputs.{goes_as, goes_flush, goes_flush_part, goes_stops, goes_then, partly_flushed, sends_as, sends_stopped}
pub use Rattle.fs_line.proofs.Outputs.{sends_then, stops_as, stops_more}
pub use Rattle.fs_line.specs.Output.{Goes, Sent, Stops}
pub use Rattle.cmd_stages.proofs.Stages.{answered_err, answers_for, answers_memory, answers_outside, finished_by, match_err, outside_one}
pub use Rattle.cmd_stages.proofs.Stages.{rose_later}
pub use Rattle.cmd_stages.proofs.Openings.{opened_due, refused_at}
pub use Rattle.cmd_stages.specs.{declared.refusal.Refusal.{Refusal, TheVariants.{Outside}}, Load.{config_then}}
pub use Rattle.cmd_convert.specs.Command.{Breaks, ConvertsSo, IsAtRecord, IsOfDump, dump_stage, status_at, text_from, verdict_of}
pub use Rattle.cmd_convert.specs.Greeting.{greeting, made_open, parameters}
pub use Rattle.cmd_convert.specs.Lives.{Life, Lives, has_width, lives_of, no_lives, with_life}
pub use Rattle.cmd_convert.specs.Making.{asn_of, ended, is_established, is_taken, items_from, made, made_by, opening, remade, text_at, timed_at}
