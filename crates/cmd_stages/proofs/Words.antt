-- The words of the crates below, and of the specs, that lemmas here speak of.
pub use Rattle.std.proofs.Common.{Bool, Err, IsTrue, List, None, Ok, Option, Result, Some, [], ap, append-nil, append_assoc, arith, drop, false}
pub use Rattle.std.proofs.Common.{filter, inl, inr, length, option_map, refl, rules, subst, suc, sym, take, true, ℕ, ◌++◌, ◌-◌, ◌<◌, ◌∙◌, ◌∷◌, ◌≡◌}
pub use Rattle.std.proofs.Common.{◌≤◌, ◌⊎◌}
pub use Rattle.std.proofs.lemmas.List.{map-append, with_items_is}
pub use Rattle.std.specs.{Prelude.{IfSome, MatchResult, codes, if◌then◌else◌, nat_le, option_and_then}, Vec.{with_items}}
pub use Rattle.fs_base.proofs.Grew.{Grew-refl, part_none, part_whole}
pub use Rattle.fs_base.proofs.Lists.{each_append, each_weaker, filter-append, filter_all, filter_none}
pub use Rattle.fs_base.proofs.Drawing.{rose_earlier}
pub use Rattle.fs_base.specs.{Files.{OnlySlot, Opened}, Outside.{Rose}, Parts.{with_part}, Sink.{Grew}, declared.config.Config.{Config}}
pub use Rattle.fs_input.specs.Records.{End, bad, done, limited}
pub use Rattle.fs_tape.specs.Header.{IsTimed, longest_payload}
pub use Rattle.fs_tape.specs.Tape.{IsBegun, IsItem, Item, TapeState, Timed, coming, item_from, items_to_come, tape_of, timed, version_of}
pub use Rattle.fs_tape.specs.declared.{fault.TapeReason.{TapeReason}, magic.Version.{Version, TheVariants.{One, Two}}}
pub use Rattle.fs_rules.specs.Changes.{Covers, Noted}
pub use Rattle.fs_desk.specs.{Desk.{Desked, Played, Plays}, Leaves.{Leaves, nobody}}
pub use Rattle.cmd_stages.specs.{Items.{Ceases, GivesNone, read_stage}, Load.{Names, Openings, OpensFront, config_stage}}
pub use Rattle.cmd_stages.specs.Play.{Gives, HasVersion, HaveNoMoments, IsOpenOrDone, IsOpened, IsPlayed, PlaysOn, accepted_stage, played_to}
pub use Rattle.cmd_stages.specs.Play.{tape_stage, until, untimed}
pub use Rattle.cmd_stages.specs.Player.{IsReadWhole, IsReady, IsUnplayed, PlayerState, Stands, due_item, items_ahead, to_play}
pub use Rattle.cmd_stages.specs.Refusal.{Answers, EndsEarly, Found, HasReason, Stage, Stopped, Verdict, and_then, answered, or_stop, status_of}
pub use Rattle.cmd_stages.specs.Refusal.{verdict_with}
pub use Rattle.cmd_stages.specs.Writing.{Fails, Finishes, Writes}
pub use Rattle.cmd_stages.specs.declared.refusal.Refusal.{Refusal, TheVariants.{Capture, Dump, Limit, Memory, Outside, Rejected, Session, Tape}}
unfoldable pub use Rattle.std.specs.List.Sorted.{IsStrictlySortedBy}
