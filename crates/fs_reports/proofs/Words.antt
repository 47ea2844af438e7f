-- The words of the crates below, and of the specs, that lemmas here speak of.
pub use Rattle.std.proofs.Common.{All, BTreeSet, Bool, Contains, List, Some, [], ap, arith, cond, drop, eq-eqb, eqb, eqb-true, false, filter, get_or}
pub use Rattle.std.proofs.Common.{is_some, length, map, nat_cmp, not, refl, subst, suc, sym, take_all, true, true≢false, zero, ℕ, ⊎_elim, ◌++◌, ◌+◌}
pub use Rattle.std.proofs.Common.{◌<◌, ◌==◌, ◌∙◌, ◌∷◌, ◌≡◌}
pub use Rattle.std.proofs.lemmas.List.Kept.{Contains-dedup_nat, Contains-from_dedup, IsStrictlySortedBy-filter}
pub use Rattle.std.proofs.lemmas.List.Sorted.{All-permutation, Contains-permutation, IsPermutation-filter_both, IsPermutation-sym}
pub use Rattle.std.proofs.lemmas.Map.Keys.{IsStrictlyIncreasing-dedup, sorted_from_strictly_increasing}
pub use Rattle.std.specs.List.{dedup, range_with_len}
pub use Rattle.fs_rules.specs.Lent.{shown_held, shown_lent}
pub use Rattle.fs_desk.specs.Desk.{Desked, Played, standing_at_desk, standing_of}
pub use Rattle.fs_reports.specs.{Listing.{desk_text, listing, listing_of}, Peers.{numbers_of, peer_line, peers_text}}
pub use Rattle.fs_reports.specs.Rules.{admitted_lines, family_text, invalid_lines}
unfoldable pub use Rattle.fs_reports.specs.Peers.{numbers_below}
