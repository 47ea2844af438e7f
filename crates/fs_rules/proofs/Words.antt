-- The words of the crates below, and of the specs, that lemmas here speak of.
pub use Rattle.std.proofs.Common.{Bool, Equal, Greater, IfSome, Less, List, None, Option, Ordering, Some, [], ap, ap₂, arith, cond, drop, false}
pub use Rattle.std.proofs.Common.{filter, find, get_or, if◌then◌else◌, inl, inr, is_eq, is_le, is_lt, is_some, length, length-append, map, nat_cmp}
pub use Rattle.std.proofs.Common.{nat_le, not, of_calls, option_map, refl, rules, slice_get, subst, suc, sym, take, true, true≢false, zero, zero-add}
pub use Rattle.std.proofs.Common.{ℕ, ◌&&◌, ◌++◌, ◌+◌, ◌-◌, ◌<◌, ◌==◌, ◌^◌, ◌||◌, ◌∙◌, ◌∷◌, ◌≡◌, ◌≤◌, ◌⊎◌}
pub use Rattle.std.proofs.lemmas.{Bool.Decides.{nat_tests}, List.{drop_all, length-map, map-append}, Map.Keys.{sorted_head, sorted_tail}}
pub use Rattle.std.proofs.lemmas.Option.{get_or_from_slice_get, slice_get-map}
pub use Rattle.std.specs.{BTreeMap.{insert_entry, is_at}, Cmp.{IsTotalOrder, alike_right, tied_back, tied_itself}}
pub use Rattle.std.specs.{List.{AllByRecursion, list_any, Sorted.{IsPartitionedBy}}, Map.{keys_of, lookup, remove_entry}}
pub use Rattle.std.specs.Ordering.{bool_cmp, is_gt, match_ordering, ordering_reverse, ordering_then}
unfoldable pub use Rattle.std.specs.List.Sorted.{IsStrictlySortedBy}
pub use Rattle.fs_base.proofs.Bools.{and_both, and_first, and_second, false_from, false_of_not, not_of_true, or_first, or_second, same_tests}
pub use Rattle.fs_base.proofs.Lists.{any_filter, any_on, each, each_both, each_insert, each_mapped, each_none, each_of_map, each_remove, each_weaker}
pub use Rattle.fs_base.proofs.Lists.{filter-remove_other, filter_all, filter_none, filter_on, find_on, none_each}
pub use Rattle.fs_base.proofs.Orderings.{equal_of_is_eq, is_eq_of_first, is_eq_of_nats, is_le_of_then, less_of_is_lt}
pub use Rattle.fs_base.proofs.SamePrefix.{same_from_cmp}
pub use Rattle.fs_base.specs.Prefix.{prefix_cmp, prefix_total}
pub use Rattle.fs_base.specs.declared.{config.Config.{Config}, path.Path.{Path}, prefix.{Family.{Family}, Prefix.{Prefix}}}
pub use Rattle.fs_nlri.specs.{Parts.{Ruled}, Rule.{IsRule, destination_prefix}}
pub use Rattle.fs_order.{proofs.Same.{first_equal, same_rules}, specs.{Comparison.{rule_cmp}, Ranked.{rule_total}}}
pub use Rattle.fs_unicast.proofs.{Best.{preference_total}, PlaceOrder.{place_total}, Ranges.{place, place_itself}}
pub use Rattle.fs_unicast.specs.{Preference.{path_length, preference_cmp, preferred}, Search.{held_by, is_from}}
pub use Rattle.fs_unicast.specs.Unicast.{IsSwapOf, Route, has_path, place_cmp, put_path, take_path}
pub use Rattle.fs_unicast.specs.declared.unicast.{Place.{Place}, Swap.{Swap}}
pub use Rattle.fs_validate.specs.{Validity.{validity}, declared.route.FlowRoute.{FlowRoute}}
pub use Rattle.fs_flows.proofs.Apart.{drop_each, ok_weaker}
pub use Rattle.fs_flows.proofs.Changed.{AgreeOff, agree_insert, agree_remove, any-routes, each-filtered, each-put_route, flow_total, keeps-filter}
pub use Rattle.fs_flows.proofs.Changed.{keeps-mended, keeps-put, remove_nothing, removes_one, routes-filter, routes-put, routes_mended, sorted-filter}
pub use Rattle.fs_flows.proofs.Changed.{unrelated}
pub use Rattle.fs_flows.proofs.Cutting.{sorted_each}
pub use Rattle.fs_flows.proofs.KeyPlaces.{NotBefore, is_after, least_after, no_rival, not_after_later, not_before, partitioned, place_from, tail_is}
pub use Rattle.fs_flows.specs.Blocks.{AreCut, AreEachSorted, flat}
pub use Rattle.fs_flows.specs.Changes.{AdmitsElsewhere, Covers, Noted, StaysNoted, is_noted, is_to, touched_by}
pub use Rattle.fs_flows.specs.Group.{AreRight, AreSorted, HaveRules, IsMarked, IsRight, IsRightAt, Keeps, chosen, has_key, is_beaten, is_chosen}
pub use Rattle.fs_flows.specs.Group.{is_related_kept, mended, of_family, place_in, put_kept, routes_of}
pub use Rattle.fs_flows.specs.{Groups.{Entry, HasSortedGroups, IsSound, kept_in}, Kept.{Kept}, Lending.{AreLent, chosen_in, group_at}}
pub use Rattle.fs_flows.specs.Search.{MendsKept, WereRight}
pub use Rattle.fs_flows.specs.Table.{AreOrdered, Held, IsAdmitted, IsRuleOf, admitted, beats, count_in, has_route, held_count, is_key}
pub use Rattle.fs_flows.specs.Table.{is_most_preferred, is_of_family, is_valid, key_cmp, put_route, related_count, related_sum, same_rule, stands}
pub use Rattle.fs_flows.specs.Table.{with_flow, without_path, without_peer, without_peer_flows, without_peer_unicast, without_route}
pub use Rattle.fs_rules.specs.Counts.{AreAmong, AreHeld, Counts, Holding, IsKept, StaysHeld, count_of, may_hold}
pub use Rattle.fs_rules.specs.Lent.{AreRising, Judged, held_flows, judged, judged_cmp, listed, shown_admitted, shown_held, shown_lent}
pub use Rattle.fs_rules.specs.{Lists.{judgement, listing, routes_chosen, shown_chosen}, Quiet.{StayAlong, StayThroughout, ValiditiesStay}}
pub use Rattle.fs_rules.specs.{Reading.{AreTold, chosen_flat, judgements_in, shown_in}, Rivals.{is_apart, is_before_rule}}
pub use Rattle.fs_rules.specs.Walk.{matching_from, next_match}
