-- The words of the crates below, and of the specs, that lemmas here speak of.
pub use Rattle.std.proofs.Common.{Bool, Err, List, None, Ok, Option, Result, Some, [], add-one, ap, arith, drop, drop-cons, eqb-true, false, get_or}
pub use Rattle.std.proofs.Common.{inl, inr, length, length-append, refl, rules, subst, sym, take, take-append-drop, true, ℕ, ◌++◌, ◌+◌, ◌-◌, ◌<◌}
pub use Rattle.std.proofs.Common.{◌==◌, ◌^◌, ◌∙◌, ◌∷◌, ◌≡◌, ◌≢◌, ◌≤◌, ◌⊎◌}
pub use Rattle.std.proofs.lemmas.Bool.{cases_lt, Decides.{nat_tests}}
pub use Rattle.std.proofs.lemmas.List.{drop-append-le, drop-drop, drop_at, length-drop, length-take, take-append-le, take-take}
pub use Rattle.std.specs.Prelude.{IsSome, flat_map, if◌then◌else◌, is_none, nat_le, nat_lt}
pub use Rattle.fs_base.proofs.Octets.{octets_drop, octets_tail, octets_take, overlap, take-append-add, take_of_none}
pub use Rattle.fs_base.specs.{Language.{IsOctets}, Parts.{at_limit, window, with_part}, declared.config.Config.{Config}}
pub use Rattle.fs_input.proofs.{Done.{all_taken, done_text, nothing, text_done}, Fronts.{none_back, opened_whole, opens_not, opens_so}}
pub use Rattle.fs_input.proofs.{PartsOfRecords.{to_come_end, to_come_step}, Records.{HasHead, record_found, records_shrink}}
pub use Rattle.fs_input.specs.Opening.{IsFrontWithin, opened_answer, opened_by}
pub use Rattle.fs_input.specs.Parts.{AllFrom, At, Fitting, ReadsText, SpellsText, at, text_from}
pub use Rattle.fs_input.specs.Records.{End, bad, done, ends_short, first_record, head_at, records_to_come, stop}
pub use Rattle.fs_input.specs.declared.head.Head.TheVariants.{Partial, Whole, Wrong}
pub use Rattle.fs_tape.specs.Header.{IsTimed, Stands, allows, behind_peer, head_from, head_size, kind_of, peer_field, size_field}
pub use Rattle.fs_tape.specs.Laws.{AreFrom, Fits, FrontReads, IsFrontOf, IsNumbered, IsTapeOf, IsWritable, MomentsRise, ReadsBack, after, item_text}
pub use Rattle.fs_tape.specs.Laws.{item_text_at, moment_text, record_text}
pub use Rattle.fs_tape.specs.Magic.{difference_from, first_difference, magic_field, magic_of, version_by}
pub use Rattle.fs_tape.specs.Tape.{Item, TapeState, Timed, came_up, item_of, items_to_come, received, records, stands, tape_of, timed, version_of}
pub use Rattle.fs_tape.specs.Tape.{was_lost}
pub use Rattle.fs_tape.specs.declared.fault.TapeReason.TheVariants.{Cut, Kind, Length, Moment, Peer}
pub use Rattle.fs_tape.specs.declared.{item.Kind.TheVariants.{Lost, Received, Up}, magic.Version.{Version, TheVariants.{One, Two}}}
