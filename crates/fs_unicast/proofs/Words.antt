-- The words of the crates below, and of the specs, that lemmas here speak of.
pub use Rattle.std.proofs.Common.{Bool, Equal, Greater, Less, List, None, Option, Ordering, Some, [], ap, arith, cond, drop, false, filter, find}
pub use Rattle.std.proofs.Common.{fold, inl, inr, is_eq, is_le, is_lt, length, map, map-id, min, nat_cmp, nat_le, not, option_map, refl, slice_get}
pub use Rattle.std.proofs.Common.{subst, suc, sym, true, true≢false, zero, ℕ, ◌%◌, ◌&&◌, ◌*◌, ◌++◌, ◌+◌, ◌-◌, ◌/◌, ◌<◌, ◌==◌, ◌^◌, ◌||◌, ◌∙◌, ◌∷◌}
pub use Rattle.std.proofs.Common.{◌≡◌, ◌≤◌, ◌⊎◌}
pub use Rattle.std.proofs.Math.Path.{ap₂}
pub use Rattle.std.proofs.lemmas.{Bool.Decides.{nat_tests}, Map.Keys.{sorted_head, sorted_tail}, Option.{same_Some}}
pub use Rattle.std.specs.BTreeMap.{insert_entry, is_at, Range.{entries_between, range_contains}}
pub use Rattle.std.specs.Cmp.{IsTotalOrder, alike_right, bool_cmp_total, nat_cmp_total, on_total, then_total, tied_itself}
pub use Rattle.std.specs.List.{AllByRecursion, Contains, last_or, list_all, list_any, Sorted.{IsStrictlySortedBy}}
pub use Rattle.std.specs.{Map.{keys_of, lookup, remove_entry}, Option.{option_copied}, Ordering.{match_ordering, ordering_reverse, ordering_then}}
pub use Rattle.std.specs.{Prelude.{IfSome, MatchOption, ◌↔◌}, declared.ops.Bound.TheVariants.{Excluded, Included, Unbounded}}
pub use Rattle.fs_base.proofs.Bools.{and_both, and_false, and_first, and_parts, and_second, and_true, false_from, false_of_not, or_first, or_implied}
pub use Rattle.fs_base.proofs.Bools.{or_implies, or_second, same_tests, true_of_not}
pub use Rattle.fs_base.proofs.Covers.{covered_before}
pub use Rattle.fs_base.proofs.Lists.{IsLeast, all_each, all_on, any_each, any_on, any_weaker, each, each_all, each_both, each_filtered, each_insert}
pub use Rattle.fs_base.proofs.Lists.{each_none, each_of_map, each_remove, each_weaker, filter_empty, filter_filtered, filter_first, filter_none}
pub use Rattle.fs_base.proofs.Lists.{filter_on, find_filter, find_on, none_each}
pub use Rattle.fs_base.proofs.Nesting.{alike, alike_covers, covers_nested, covers_same_length, covers_self}
pub use Rattle.fs_base.proofs.{Orderings.{equal_of_is_eq, is_eq_of_first, less_of_is_lt}, SamePrefix.{same_from_cmp, same_prefix}}
pub use Rattle.fs_base.proofs.Seeking.{Seeking, seeking_apart, seeking_ends, seeking_found, seeking_more, seeking_shorter, seeking_starts}
pub use Rattle.fs_base.specs.Bits.{cleared, width_of}
pub use Rattle.fs_base.specs.Prefix.{covers, last_address, prefix_cmp, prefix_of, prefix_total}
pub use Rattle.fs_base.specs.{Search.{IsFirst, IsFirstFrom, IsLongest}, declared.{path.Path.{Path}, prefix.Prefix.{Prefix}}}
pub use Rattle.fs_unicast.specs.Key.{IsKey, bit_of, family_of, high_of, last_of, least, low_of, shown}
pub use Rattle.fs_unicast.specs.Neighbour.{neighbour}
pub use Rattle.fs_unicast.specs.Preference.{best_of, better, path_length, peer_path, preference_cmp, preferred}
pub use Rattle.fs_unicast.specs.Search.{AreCoversOver, IsFront, best_at, best_match_of, candidate, held_by, is_from, is_longest, is_other}
pub use Rattle.fs_unicast.specs.Search.{is_other_route, is_same_prefix, is_strictly_under, others_under, start_of}
pub use Rattle.fs_unicast.specs.Turns.{IsLastUpto, IsParted, IsPartedAfter, IsPartedAt, IsPartedBefore, IsPartedFrom, IsPartedTo, PartsAt}
pub use Rattle.fs_unicast.specs.Turns.{StaysParted, are_alike, are_parted, entry_now, find_last, is_after, is_alike, is_alone, is_at_or_after}
pub use Rattle.fs_unicast.specs.Turns.{is_before, is_inside, is_same, is_within, later, lies_between, names, neighbour_of, stands_at, without}
pub use Rattle.fs_unicast.specs.{Unicast.{Route, place_cmp}, declared.unicast.Place.{Place}}
