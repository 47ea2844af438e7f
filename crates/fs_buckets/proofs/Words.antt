-- The words of the crates below, and of the specs, that lemmas here speak of.
pub use Rattle.std.proofs.Common.{Bool, Equal, Err, Greater, IfSome, Less, List, None, Ok, OnOk, Option, Ordering, Result, Some, [], ap, ap₂, arith}
pub use Rattle.std.proofs.Common.{cond, drop, false, filter, get_or, get_or-drop, if◌then◌else◌, inl, inr, is_le, is_some, length, length-append}
pub use Rattle.std.proofs.Common.{length-drop, length-take-le, map, min, nat_cmp, nat_le, nat_lt, not, of_calls, option_map, pow_pos, refl, replicate}
pub use Rattle.std.proofs.Common.{rules, subst, suc, sym, take, true, true≢false, zero, ℕ, ◌&&◌, ◌*◌, ◌++◌, ◌+◌, ◌-◌, ◌<◌, ◌==◌, ◌^◌, ◌||◌, ◌∙◌, ◌∷◌}
pub use Rattle.std.proofs.Common.{◌≡◌, ◌≤◌, ◌⊎◌}
pub use Rattle.std.proofs.Math.Nat.{add-mul, mod-eq_of_lt, mul-le-mul_right, mul_assoc}
pub use Rattle.std.proofs.lemmas.Bool.{cases_lt, cases_order, eq-eqb, eqb-true, le-leb, le-ltb, lt-leb, lt-ltb, ltb-false, ltb-true}
pub use Rattle.std.proofs.lemmas.List.{drop-map, get_or-append_right, get_or-map, get_or-replicate, get_or-take, get_or_append_left, get_or_default}
pub use Rattle.std.proofs.lemmas.List.{get_or_past, get_or_push, length-map, length-replicate, map-append, map_more, take-map}
pub use Rattle.std.proofs.lemmas.{Option.{none-some, same_Some, slice_get_read}, Result.{IfOk-weaker}}
pub use Rattle.std.specs.{Cmp.{nat_cmp_is}, List.{AllByRecursion, AllZip, insert, slice_get, splice}}
pub use Rattle.std.specs.Ordering.{MatchOrdering, is_eq, is_gt, is_lt, ordering_then}
pub use Rattle.fs_base.proofs.Lists.{each_append, each_filtered, each_weaker, filter-append, filter_all, filter_on}
pub use Rattle.fs_base.specs.{Bits.{IsBlock, afi_of, block_of, width_of}, declared.prefix.{Family.{Family, TheVariants.{V4, V6}}, Prefix.{Prefix}}}
pub use Rattle.fs_nlri.{proofs.Destination.{IsMade, made_parts}, specs.{Parts.{Ruled}, Rule.{IsRule, destination_of, shown}}}
pub use Rattle.fs_order.specs.Laws.{destination_cmp, last_shown, shown_cmp}
pub use Rattle.fs_rules.proofs.Noting.{family_of_destination}
pub use Rattle.fs_rules.specs.{Lent.{Listed, all_admitted, listed, shown_lent}, Table.{Held, admitted}}
pub use Rattle.fs_rules.specs.declared.{Change.{Change}, lent.LentRule.{LentRule}}
pub use Rattle.fs_buckets.specs.{Addresses.{node_width, nodes_in, numbers_in, width_in}, Between.{IsBetween, IsPlaceOf}}
pub use Rattle.fs_buckets.specs.Buckets.{AreAbove, AreBuckets, AreChanged, AreOpened, AreRising, IsSubnet, beside, moved, node_at, parent_beside}
pub use Rattle.fs_buckets.specs.Destinations.{AreAll, AreNarrow, AreTo, IsOfFamily, IsStretch, place_by, span_by, span_cmp, span_of, spans_of}
pub use Rattle.fs_buckets.specs.Destinations.{target_of}
pub use Rattle.fs_buckets.specs.Housed.{Adds, AreBucketsOf, AreHoused, AreSound, HasEmpty, HasStretch, IsGap, IsHolder, IsLeft, IsPassed, Keeps}
pub use Rattle.fs_buckets.specs.Housed.{Mends, Passes, bucket_span, span_at}
pub use Rattle.fs_buckets.specs.Mending.{AreOwn, admitted_in, put_in, replaced}
pub use Rattle.fs_buckets.specs.Runs.{AreNesting, AreNodes, ArePlain, AreRuns, EndsWith, Joined, Opened, RunsOf}
pub use Rattle.fs_buckets.specs.declared.{buckets.Buckets.{Buckets}, nodes.Node.{Node}}
