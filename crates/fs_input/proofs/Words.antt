-- The words of the crates below, and of the specs, that lemmas here speak of.
pub use Rattle.std.proofs.Common.{Bool, Err, IsTrue, List, None, Ok, Option, Result, Some, [], ap, append-nil, append_assoc, arith, drop, eqb-true}
pub use Rattle.std.proofs.Common.{false, inl, inr, length, length-append, min, not, refl, rules, subst, suc, sym, take, true, zero, ℕ, ◌&&◌, ◌++◌}
pub use Rattle.std.proofs.Common.{◌+◌, ◌-◌, ◌<◌, ◌==◌, ◌↔◌, ◌∙◌, ◌∷◌, ◌≡◌, ◌≢◌, ◌≤◌, ◌⊎◌}
pub use Rattle.std.proofs.lemmas.{Bool.Decides.{nat_tests}, Grind.{common_steps}}
pub use Rattle.std.proofs.lemmas.List.{drop-drop, drop-take, drop_all, drop_at, length-drop, length-take, take-append-drop, take-append-le, take-take}
pub use Rattle.std.proofs.lemmas.List.{take_all, take_at}
pub use Rattle.std.specs.Prelude.{IfErr, flat_map, if◌then◌else◌, nat_le, unwrap_or, ⊤}
pub use Rattle.fs_base.proofs.{Drawing.{draws_ahead, rose_earlier, straight_draws}, Octets.{octets_right, take_longer, take_of_none}}
pub use Rattle.fs_base.proofs.Parts.{all_end, all_parts, all_step, limit_behind, window_behind}
pub use Rattle.fs_base.proofs.Passing.{passes_as, passes_in, passes_none, passes_then}
pub use Rattle.fs_base.specs.{Filling.{Fills}, Language.{IsOctets}, Outside.{Rose}, Parts.{at_limit, window, with_part}}
pub use Rattle.fs_base.specs.declared.counted.Counted.{Counted}
pub use Rattle.fs_input.specs.Coming.{Chain, IsTextOf, Placed, Takes, all_given, all_told, first_part, only_told, part_in, part_of, parts_ahead}
pub use Rattle.fs_input.specs.Coming.{parts_to_come, placed, stop, told_ahead, told_to_come}
pub use Rattle.fs_input.specs.NextRecord.{Advances, short_answer, short_fault}
pub use Rattle.fs_input.specs.Parts.{AllFrom, At, Fitting, Reader, ReadsText, Shrinks, SpellsText, at, judged, octets_before, text_from}
pub use Rattle.fs_input.specs.Reads.{Calls, Fails, HasMore, IsOver, Moment, Passes, PassesIn, PassesOn, PassesTo, Reads, Scanned, Starts}
pub use Rattle.fs_input.specs.Reads.{Took, again, ahead, end_of, ends_by, whole}
pub use Rattle.fs_input.specs.Records.{End, Format, bad, done, end_by, ends_short, first_record, head_at, limited, record_in, records_to_come}
pub use Rattle.fs_input.specs.Scan.{Scan, Scanner, and, and_then, behind, fails, field, gives, got, needs, partial, skips, wrong}
pub use Rattle.fs_input.specs.declared.{fault.Fault.{Fault, TheVariants.{Bad, Limit, Read}}, head.Head.{Head, TheVariants.{Partial, Whole, Wrong}}}
unfoldable pub use Rattle.fs_input.specs.Parts.{parts_from, to_come}
