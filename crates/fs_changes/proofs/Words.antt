-- The words of the crates below, and of the specs, that lemmas here speak of.
pub use Rattle.std.proofs.Common.{Bool, IfSome, List, None, Option, Some, [], ap, ap₂, arith, cond, drop, false, get_or, if◌then◌else◌, inl, inr}
pub use Rattle.std.proofs.Common.{length, map, not, of_calls, option_map, refl, rules, string_bytes, subst, suc, sym, take, true, true≢false, zero, ℕ}
pub use Rattle.std.proofs.Common.{◌&&◌, ◌||◌, ◌++◌, ◌+◌, ◌-◌, ◌<◌, ◌==◌, ◌^◌, ◌∙◌, ◌∷◌, ◌≡◌, ◌≤◌, ◌⊎◌}
pub use Rattle.std.proofs.Math.Seq.{drop-append-add, drop-append_seam, take-append_seam}
pub use Rattle.std.proofs.lemmas.{Bool.{eq-eqb, eqb-true}, Cmp.{tied_itself}}
pub use Rattle.std.proofs.lemmas.List.{append-nil, append_assoc, length-append, length-map, map-append}
pub use Rattle.std.proofs.lemmas.{List.Elements.{filter-append}, List.Concat.{flat_map-append}, List.Sorted.{IsPartitionPoint-from_clause}}
pub use Rattle.std.specs.{List.{AllByRecursion, AllWithin, filter, slice_get}, List.Sorted.{IsPartitionedBy}}
pub use Rattle.std.specs.Ordering.{is_eq, is_gt, is_le, is_lt, ordering_then}
pub use Rattle.std.specs.declared.cmp.Ordering.{Ordering, TheVariants.{Less, Equal, Greater}}
pub use Rattle.fs_actions.specs.Same.{same_actions, same_actions_decides}
pub use Rattle.fs_base.proofs.Lists.{each_append, each_weaker}
pub use Rattle.fs_base.specs.{Bits.{afi_of}, declared.prefix.{Family.{Family, TheVariants.{V4, V6}}, Prefix.{Prefix}}}
pub use Rattle.fs_nlri.{proofs.Destination.{IsMade}, specs.{Parts.{Ruled}, Rule.{IsRule, destination_of, shown}}}
pub use Rattle.fs_order.{proofs.{First.{destinations_first}, Same.{same_rules}}, specs.{Comparison.{rule_cmp}, Laws.{destination_cmp}, Ranked.{rule_total}}}
pub use Rattle.fs_rules.proofs.Noting.{family_of_destination}
pub use Rattle.fs_rules.specs.Changes.{AdmitsElsewhere, IsOwn, is_to, touched_by}
pub use Rattle.fs_rules.specs.Table.{AreOrdered, Held, IsAdmitted, IsRuleOf, admitted, is_most_preferred}
pub use Rattle.fs_rules.specs.declared.Change.{Change}
pub use Rattle.fs_validate.specs.declared.route.FlowRoute.{FlowRoute}
pub use Rattle.fs_buckets.proofs.{Destinations.{made_destination}, ListMending.{shown_is}}
pub use Rattle.fs_buckets.proofs.Stretching.{Before, before_of, behind_of, equal_greater, less_equal, less_greater, of_before, of_behind, same_place}
pub use Rattle.fs_buckets.specs.Destinations.{place_by, span_by, span_of, target_of}
pub use Rattle.fs_changes.specs.Changes.{Act, AreRules, act_of, acts_of, changes, is_before, is_same, line_text, lines_text}
pub use Rattle.fs_changes.specs.Difference.{Line, Make, apply, come, come_while, difference, go_unless, gone}
pub use Rattle.fs_changes.specs.Noted.{is_due, is_later, is_sooner, next_of, soonest, targets}
pub use Rattle.fs_changes.specs.Places.{AreInOrder, AreInPlaces, HaveStretch, Puts, after_it, at_it, before_it}
pub use Rattle.fs_changes.specs.{Steps.{Tells}, declared.difference.Step.{TheVariants.{Gone, Stays}}}
