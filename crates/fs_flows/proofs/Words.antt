-- The words of the crates below, and of the specs, that lemmas here speak of.
pub use Rattle.std.proofs.Common.{Bool, Equal, Err, Greater, IfOk, IfSome, Less, List, None, Ok, OnErr, OnOk, Option, Ordering, Result, Some, [], ap}
pub use Rattle.std.proofs.Common.{ap₂, arith, cond, drop, false, filter, get_or, inl, inr, insert, is_eq, is_le, is_some, length, length-append}
pub use Rattle.std.proofs.Common.{length-drop, map, nat_cmp, nat_le, not, of_calls, option_map, refl, remove, rules, set, slice_get, subst, suc, sym}
pub use Rattle.std.proofs.Common.{take, true, true≢false, zero, zero-add, ℕ, ◌&&◌, ◌++◌, ◌+◌, ◌-◌, ◌/◌, ◌<◌, ◌==◌, ◌^◌, ◌||◌, ◌↔◌, ◌∙◌, ◌∷◌, ◌≡◌, ◌≤◌}
pub use Rattle.std.proofs.Common.{◌⊎◌}
pub use Rattle.std.proofs.lemmas.Bool.{eqb-true, leb-true, Decides.{Decides-eqb, nat_tests}}
pub use Rattle.std.proofs.lemmas.Grind.{common_steps}
pub use Rattle.std.proofs.lemmas.List.{append-nil, append_assoc, get_or_default, length-map, map-append, take-append-drop, take_all, take_more}
pub use Rattle.std.proofs.lemmas.List.{Edits.{map_over_more}, Folds.{list_any-append}, Sorted.{IsPartitionPoint-from_clause}}
pub use Rattle.std.proofs.lemmas.{Map.Keys.{sorted_head, sorted_tail}, Option.{none-some, same_Some}}
pub use Rattle.std.specs.BTreeMap.{ContainsKey, get, get_key, insert_entry, is_at, Range.{entries_between, range_contains}}
pub use Rattle.std.specs.Cmp.{IsTotalOrder, nat_cmp_total, on_total, then_total, tied_itself}
pub use Rattle.std.specs.List.{AllByRecursion, AllWithin, list_any, Sorted.{IsPartitionedBy}}
pub use Rattle.std.specs.{Map.{keys_of, lookup, remove_entry, set_value}, Option.{MatchOption, unwrap_or}}
pub use Rattle.std.specs.Ordering.{is_gt, is_lt, match_ordering, ordering_reverse, ordering_then}
pub use Rattle.std.specs.declared.ops.Bound.TheVariants.{Excluded, Included, Unbounded}
unfoldable pub use Rattle.std.specs.List.Sorted.{IsStrictlySortedBy}
pub use Rattle.fs_base.proofs.Bools.{and_both, and_first, and_second, and_true, false_from, false_of_not, or_either, or_false, or_first, or_none}
pub use Rattle.fs_base.proofs.Bools.{or_second, same_tests, true_of_not}
pub use Rattle.fs_base.proofs.Covers.{between_covered, covered_before, covers_fact, family_itself, same_family, same_family_of}
pub use Rattle.fs_base.proofs.Lists.{IsLeast, each, each_append, each_both, each_filtered, each_mapped, each_none, each_of_map, each_weaker}
pub use Rattle.fs_base.proofs.Lists.{filter-append, filter-insert_other, filter-remove_other, filter_all, filter_empty, filter_first, filter_none}
pub use Rattle.fs_base.proofs.Lists.{filter_on, none_each}
pub use Rattle.fs_base.proofs.Nesting.{alike_covers, covers_alike, covers_same_length, covers_self}
pub use Rattle.fs_base.proofs.{Orderings.{is_eq_of_first, less_of_is_lt}, SamePrefix.{same_from_cmp}}
pub use Rattle.fs_base.specs.{Bits.{afi_of}, Prefix.{covers, prefix_cmp, prefix_of, prefix_total}}
pub use Rattle.fs_base.specs.declared.{config.Config.{Config}, path.Path.{Path}, prefix.{Family.{Family, TheVariants.{V4, V6}}, Prefix.{Prefix}}}
pub use Rattle.fs_nlri.proofs.Destination.{destination_first, destination_shown}
pub use Rattle.fs_nlri.specs.Parts.{Body, ListBody, Part, Ruled, V4Body, V6Body}
pub use Rattle.fs_nlri.specs.Rule.{AreNormal, IsNormalAt, IsRule, destination_body, destination_in, destination_of, destination_prefix, shown}
pub use Rattle.fs_order.specs.{Comparison.{parts_cmp, rule_cmp}, Laws.{destination_cmp}, Ranked.{rule_total}}
pub use Rattle.fs_unicast.specs.{Preference.{peer_path, preferred}, Unicast.{IsSwap, Route, place_cmp}, declared.unicast.Swap.{Swap}}
pub use Rattle.fs_validate.specs.{Laws.{is_related, related}, Validity.{flow_route, judged, validity, validity_to}, declared.route.FlowRoute.{FlowRoute}}
pub use Rattle.fs_flows.specs.Blocks.{AllBefore, AreCut, AreEachSorted, AreFilled, CanCut, IsCut, RuleBefore, begins_by, begun, block_of, cut_list}
pub use Rattle.fs_flows.specs.Blocks.{flat, is_filled, keep_blocks, with_block}
pub use Rattle.fs_flows.specs.Changes.{AdmitsElsewhere, Covers, IsNotedAt, IsOwn, Noted, StaysNoted, is_noted, is_to, touched_by}
pub use Rattle.fs_flows.specs.Group.{AreJudged, AreRight, AreRightTo, AreSorted, HaveRules, IsJudged, IsMarked, IsRight, IsRightAt, Keeps, chosen}
pub use Rattle.fs_flows.specs.Group.{has_key, has_key_at, is_beaten, is_chosen, is_of_other, is_other_key, is_related_kept, mended, of_family}
pub use Rattle.fs_flows.specs.Group.{place_in, put_kept, rejudged, retested, retested_to, routes_of}
pub use Rattle.fs_flows.specs.Groups.{AreInOrder, AreNoShorter, ArePlaced, Entry, HasSortedGroups, IsGrouped, IsSound, IsTo, keep_at, keep_each}
pub use Rattle.fs_flows.specs.Groups.{kept_in, put_entry, with_group}
pub use Rattle.fs_flows.specs.{Kept.{Kept}, Lending.{AreLent, chosen_in, group_at}}
pub use Rattle.fs_flows.specs.Destinations.{IsAmong, IsListed, Destinations, StaysListed, is_among, keep_along, lists}
pub use Rattle.fs_flows.specs.Parts.{AreWell, routes_in}
pub use Rattle.fs_flows.specs.Search.{AreRightSince, IsNextAfter, IsNextRelated, IsRightEither, IsRightWhere, Marks, Mends, MendsKept, Progress}
pub use Rattle.fs_flows.specs.Search.{WereRight, is_before, progress, size, touched}
pub use Rattle.fs_flows.specs.Table.{Held, admitted, beats, has_related, is_key, is_of_family, is_valid, key_cmp, put_route, related_count, same_rule}
pub use Rattle.fs_flows.specs.contracts.group.Group.{the_invariant, the_view}
