-- The words of the crates below, and of the specs, that lemmas here speak of.
pub use Rattle.std.proofs.Common.{Bool, List, None, Option, Some, [], ap, arith, cond, false, filter, map, nat_le, not, refl, subst, sym, true}
pub use Rattle.std.proofs.Common.{true≢false, ℕ, ◌&&◌, ◌==◌, ◌||◌, ◌∙◌, ◌∷◌, ◌≡◌, ◌≤◌}
pub use Rattle.std.proofs.{Math.Path.{ap₂}, lemmas.Bool.{Decides.{nat_tests}, true_from_ne_false}}
pub use Rattle.std.specs.{BTreeMap.{is_at}, List.{list_all, list_any}, Map.{lookup, remove_entry}, Option.{option_eq}}
pub use Rattle.fs_base.proofs.Bools.{and_false, and_first, and_parts, and_second, false_from, or_first, or_implied, or_second}
pub use Rattle.fs_base.proofs.Lists.{all_each, any_each, each_weaker, filter-remove_other, filter_none, none_each}
pub use Rattle.fs_base.proofs.{Nesting.{covered_back}, NumberTests.{equal_of_eq, le_true}}
pub use Rattle.fs_base.specs.Prefix.{covers}
pub use Rattle.fs_base.specs.declared.{config.{Address.{Address, TheVariants.{V4, V6}}, Config.{Config}}, path.Path.{Path}, prefix.Prefix.{Prefix}}
pub use Rattle.fs_nlri.specs.Rule.{destination_prefix}
pub use Rattle.fs_unicast.proofs.{Fronts.{strictly}, Parting.{same_is}, PlaceOrder.{exact_place}, Ranges.{best_at_longest}}
pub use Rattle.fs_unicast.specs.{Neighbour.{first_as, neighbour_as}, Preference.{best_of}}
pub use Rattle.fs_unicast.specs.Search.{best_at, best_match_of, candidate, is_longest, is_other, is_same_prefix, is_strictly_under, others_under}
pub use Rattle.fs_unicast.specs.{Unicast.{IsSwap, Route, path_at, place_cmp, take_path}, declared.unicast.{Place.{Place}, Swap.{Swap}}}
pub use Rattle.fs_validate.specs.Laws.{AgreeAt, AgreeFor, Stays, are_both_against, is_against, is_alike, is_related, related}
pub use Rattle.fs_validate.specs.Originator.{is_local, originator_of, same_address, same_originator}
pub use Rattle.fs_validate.specs.Validity.{has_leftmost, has_originator, neighbour_of_best, same_as, validity, validity_at, validity_to}
pub use Rattle.fs_validate.specs.declared.route.FlowRoute.{FlowRoute}
pub use Rattle.fs_validate.specs.declared.validity.Validity.{Validity, TheVariants.{LeftAs, MoreSpecific, Originator, Valid}}
