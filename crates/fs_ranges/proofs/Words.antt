-- The words of the crates below, and of the specs, that lemmas here speak of.
pub use Rattle.std.proofs.Common.{Bool, List, None, Option, Some, [], ap, append_assoc, arith, bit_and, drop, drop-cons, false, get_or, if◌then◌else◌}
pub use Rattle.std.proofs.Common.{inl, inr, length, map, max, min, nat_le, nat_lt, not, of_calls, refl, rules, subst, suc, sym, take, true}
pub use Rattle.std.proofs.Common.{true≢false, zero, ℕ, ◌%◌, ◌&&◌, ◌*◌, ◌++◌, ◌+◌, ◌-◌, ◌/◌, ◌<◌, ◌==◌, ◌^◌, ◌||◌, ◌∙◌, ◌∷◌, ◌≡◌, ◌≤◌, ◌⊎◌}
pub use Rattle.std.proofs.Math.{Bool.{and_assoc, and_comm}, Seq.{take-length}}
pub use Rattle.std.proofs.lemmas.Bool.{and_left, and_right, cases_lt, eq-eqb, eqb-false, eqb-true, le-leb, le-ltb, leb-false, leb-true, lt-leb}
pub use Rattle.std.proofs.lemmas.Bool.{lt-ltb, ltb-false, ltb-true, or_parts, Decides.{nat_tests}}
pub use Rattle.std.proofs.lemmas.List.{at_drop_all, at_drop_more, drop_all}
pub use Rattle.std.proofs.lemmas.List.Elements.{All-append, All-cons, All-head, All-nil, All-tail, recursion_from_All}
pub use Rattle.std.proofs.lemmas.List.Folds.{list_all-append, list_all_at, list_any-append, list_any_more}
pub use Rattle.std.proofs.lemmas.List.Sorted.{All-permutation, IsNonDecreasingBy-from_sort_by_key, IsPartitionPoint-from_clause}
pub use Rattle.std.proofs.lemmas.List.Sorted.{list_any-IsPermutation}
pub use Rattle.std.proofs.lemmas.{Nat.{div-add-mod', pow_pos}, Result.{on_ok_weaker}}
pub use Rattle.std.specs.List.{All, AllByRecursion, list_all, list_any, Sorted.{IsNonDecreasingBy, IsPartitionPoint, IsPartitionedBy}}
pub use Rattle.std.specs.Prelude.{IsTrue, ◌↔◌}
pub use Rattle.fs_base.proofs.Bools.{and_both, and_first, and_parts, and_second, and_true, false_of_not, or_first, or_second, same_tests}
pub use Rattle.fs_base.specs.{Bits.{IsBlock, afi_of, block_of, cleared, width_of}, declared.prefix.Family.{Family}}
pub use Rattle.fs_ops.{proofs.Groups.{answers, answers_all}, specs.Evaluation.{compares, groups_of, has_bit, holds, masks, onto_group}}
pub use Rattle.fs_nlri.specs.{Component.{body_of, part_of, parts_of}, Parts.{ListBody, V4Body, V6Body, part}, Sound.{AreSound, IsSoundBody}}
pub use Rattle.fs_nlri.specs.declared.component.Component.{Component}
pub use Rattle.fs_packet.specs.{Fields.{Viewed, family_of}, Matching.{flags_hold, holds_of, is_prefix_of, list_matches, part_matches}}
pub use Rattle.fs_ranges.specs.Facts.{AreFacts, Facts, IsSmall, IsSmallAddress, IsSmallField, address_number, facts_of, field_number, key_of}
pub use Rattle.fs_ranges.specs.Facts.{kind_of, number_of, syn_number}
pub use Rattle.fs_ranges.specs.{Fast.{AreFree, AreTestsOf, IsPut, all_pass}, Flags.{is_match, is_syn}, Gaps.{gap, gaps_from}}
pub use Rattle.fs_ranges.specs.Numbers.{AreNumbersOf, IsOnlyRange, are_singles, has_field, is_equality, is_single, lone}
pub use Rattle.fs_ranges.specs.Ranges.{bounds_at, field_at, free_ranges, is_in_range, range, range_at, range_holds, ranges_hold, with_range}
pub use Rattle.fs_ranges.specs.Spans.{AreApart, IsRange, clipped, contains, encloses, field_range, is_in}
pub use Rattle.fs_ranges.specs.Tests.{IsFieldTest, IsPatternOf, IsTestOf, asks_one, flags_pass, is_under, passes, test_range}
pub use Rattle.fs_ranges.specs.declared.field.Field.{Field, TheVariants.{DestinationAddress, SourceAddress, Zero}}
pub use Rattle.fs_ranges.specs.declared.{pattern.Pattern.{Pattern}, ranges.{Range.{Range}, Ranges.{Ranges}}}
pub use Rattle.fs_ranges.specs.declared.tests.Test.{Test, TheVariants.{Destination, Fragment, OneOf, PortWithin, Ports, Source, TcpFlags, Within}}
unfoldable pub use Rattle.fs_ranges.specs.Fast.{facts_hold, fast_holds}
