-- The words of the crates below, and of the specs, that lemmas here speak of.
pub use Rattle.std.proofs.Common.{Bool, IfOk, List, None, Option, Some, [], ap, append_assoc, arith, bit_or, cond, drop, false, flat_map, get_or}
pub use Rattle.std.proofs.Common.{if◌then◌else◌, inl, inr, length, max, min, nat_le, nat_lt, not, of_calls, refl, rules, subst, suc, sym, take, true}
pub use Rattle.std.proofs.Common.{zero, ℕ, ◌%◌, ◌&&◌, ◌*◌, ◌++◌, ◌+◌, ◌-◌, ◌/◌, ◌<◌, ◌==◌, ◌^◌, ◌||◌, ◌∙◌, ◌∷◌, ◌≡◌, ◌≢◌, ◌≤◌, ◌⊎◌}
pub use Rattle.std.proofs.Math.Nat.{add-mul, div-eq_of_lt, mod-eq_of_lt, mod-mod, mod-one, mul-le-mul_right, mul-mod_left, mul_assoc}
pub use Rattle.std.proofs.Math.Nat.{pow-le-pow_right, zero-div}
pub use Rattle.std.proofs.lemmas.Bool.{and_from, and_parts, and_right, cases_Bool, cases_eq, cases_lt, eq-eqb, eqb-false, eqb-true, le-leb, leb-true}
pub use Rattle.std.proofs.lemmas.Bool.{lt-leb, lt-ltb, ltb-false, ltb-true, not-true, or_cases, or_left, or_parts, or_right, true≢false}
pub use Rattle.std.proofs.lemmas.List.{append-nil, drop_all, drop_more, get_or-map, length-drop, length-map, length-take-le, take_all, take_more}
pub use Rattle.std.proofs.lemmas.List.Sorted.{IsNonDecreasingBy-from_sort_by_key, IsPartitionPoint-from_clause, IsPartitionedBy-ltb}
pub use Rattle.std.proofs.lemmas.List.Sorted.{list_any-IsPermutation}
pub use Rattle.std.proofs.lemmas.Nat.{and_le_r, field_of, mod_below, mod_low, or_comm, or_shifted, pow-add, pow_pos, shl-shr, shl_below, shr-shr}
pub use Rattle.std.proofs.lemmas.Nat.{shr_high}
pub use Rattle.std.proofs.lemmas.Option.{get_or_from_slice_get, none-some, same_Some, slice_get_read, slice_get_within}
pub use Rattle.std.specs.List.{AllByRecursion, list_all, list_any, range_with_len, slice_get}
pub use Rattle.fs_base.proofs.Bools.{and_both, or_false, or_first, or_second, or_weaker, same_tests}
pub use Rattle.fs_base.specs.{Bits.{afi_of, cleared, width_of}, Prefix.{covers}}
pub use Rattle.fs_base.specs.declared.{config.Address.TheVariants.{V4, V6}, prefix.{Family.{Family}, Prefix.{Prefix}}}
pub use Rattle.fs_ops.specs.Evaluation.{compares, has_bit, holds}
pub use Rattle.fs_nlri.specs.{Component.{body_of, part_of, parts_of}, Parts.{Body, ListBody, Part, V4Body, V6Body}, Sound.{AreSound, IsSoundBody}}
pub use Rattle.fs_packet.specs.{Fields.{Viewed}, Matching.{body_matches, holds_of, is_match, is_prefix_of, list_matches, part_matches}}
pub use Rattle.fs_rules.specs.Lent.{Listed, all_admitted, shown_lent}
pub use Rattle.fs_ranges.specs.{Facts.{IsSmall, IsSmallAddress, IsSmallField}, Spans.{contains}}
pub use Rattle.fs_buckets.proofs.{Pairing.{each_dropped, each_pushed, each_size, each_taken}, Splicing.{each_got}}
pub use Rattle.fs_buckets.specs.Destinations.{IsOfFamily, span_by, span_of, spans_of}
pub use Rattle.fs_shadow.specs.Contains.{are_same_pairs, body_lies_in, implies, is_same_pair, list_lies_in, may_lie_in, numbers_lie_in, part_lies_in}
pub use Rattle.fs_shadow.specs.Contains.{tests_bits}
pub use Rattle.fs_shadow.specs.Ends.{highest_with, lowest_with}
pub use Rattle.fs_shadow.specs.Extents.{AreMeasuresOf, AreSpansOf, IsExtentOf, IsMeasureOf, IsTold, TakesIn, TakesOne, bits_lie_in, extent_lies_in}
pub use Rattle.fs_shadow.specs.Extents.{has_probe, is_probed, key_in, measure_lies_in, number_or_none}
pub use Rattle.fs_shadow.specs.Laws.{ConfirmedNeverWalks, ContainedMatches, CoveredNeverWalks, NeverWalks}
pub use Rattle.fs_shadow.specs.Outlines.{AreInOrder, AreOutlinesOf, IsFirst, IsIndexOf, IsOutlineOf, begins_anew, entries_from, first_entry}
pub use Rattle.fs_shadow.specs.Outlines.{first_taker, is_asked, is_entry, is_number, key_of, lie_apart, outline_takes_all, probes, rank, takes_as}
pub use Rattle.fs_shadow.specs.Outlines.{takes_before}
pub use Rattle.fs_shadow.specs.Points.{are_implied}
pub use Rattle.fs_shadow.specs.Reporting.{covered_by, first_taking, report_behind, report_of, takes_all}
pub use Rattle.fs_shadow.specs.Text.{covered_line}
pub use Rattle.fs_shadow.specs.declared.extents.{Extent.{Extent, TheVariants.{Bits, Numbers}}, Measure.{Measure}}
pub use Rattle.fs_shadow.specs.declared.{outlines.Outline.{Outline}, prefixes.Known.{Known}}
unfoldable pub use Rattle.fs_shadow.specs.{Contains.{all_below}, Points.{implied_around, implied_at}}
