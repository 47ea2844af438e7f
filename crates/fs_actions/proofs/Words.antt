-- The words of the crates below, and of the specs, that lemmas here speak of.
pub use Rattle.std.proofs.Common.{Contains, List, None, Option, Ordering, Some, [], add-one, ap, append-nil, append_assoc, arith, drop, filter_map}
pub use Rattle.std.proofs.Common.{get_or, inl, inr, length, nat_lt, refl, slice_get, subst, suc, sym, take, zero, ℕ, ◌%◌, ◌&&◌, ◌*◌, ◌++◌, ◌+◌, ◌-◌}
pub use Rattle.std.proofs.Common.{◌/◌, ◌<◌, ◌==◌, ◌∙◌, ◌∷◌, ◌≡◌, ◌≤◌, ◌⊎◌}
pub use Rattle.std.proofs.{Math.Seq.{drop-append_seam, drop-cons, take-append_seam}, lemmas.Cmp.{alike_right, nat_list_cmp_total, tied_back}}
pub use Rattle.std.specs.List.{AllByRecursion, AllWithin, concat, cons_option, last_or, Sorted.{IsNonDecreasingBy}}
pub use Rattle.std.specs.Ordering.{is_lt, match_ordering, nat_cmp, ordering_index, ordering_reverse}
pub use Rattle.std.specs.declared.cmp.Ordering.TheVariants.{Equal, Greater, Less}
unfoldable pub use Rattle.std.specs.List.Sorted.{IsStrictlySortedBy}
pub use Rattle.fs_actions.specs.Actions.{IsAbove, IsActions, actions_of, are_communities, communities, first_of, with_action, with_actions}
pub use Rattle.fs_actions.specs.Community.{IsAction, limit_of, mark_of, normal_form, redirect_of}
