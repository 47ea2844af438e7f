-- The words of the crates below, and of the specs, that lemmas here speak of.
pub use Rattle.std.proofs.Common.{Bool, Equal, Err, Greater, IsTrue, Less, List, None, Ok, Option, Ordering, Result, Some, [], ap, append_assoc}
pub use Rattle.std.proofs.Common.{arith, bit_xor, cond, div-add-mod', drop, false, filter, get_or, inl, inr, is_eq, is_le, le_trans, length}
pub use Rattle.std.proofs.Common.{length-append, lt_of_mul-lt-mul_right, map, min, mul-div_cancel, mul_assoc, nat_cmp, one-mul, pow_mono, pow_pos}
pub use Rattle.std.proofs.Common.{refl, rules, subst, suc, sym, take, true, true≢false, zero, zero-mul, ℕ, ◌%◌, ◌&&◌, ◌*◌, ◌++◌, ◌+◌, ◌-◌, ◌/◌, ◌<◌}
pub use Rattle.std.proofs.Common.{◌==◌, ◌^◌, ◌||◌, ◌∙◌, ◌∷◌, ◌≡◌, ◌≤◌, ◌⊎◌}
pub use Rattle.std.proofs.Math.Nat.{add-mul, div-eq_of_lt, div-mul-le_self, mod-eq_of_lt, mod-lt, mul-le-mul_right, ℕ_set}
pub use Rattle.std.proofs.Math.Seq.{drop-append-add, take-append-add}
pub use Rattle.std.proofs.lemmas.{Bool.{cases_lt, Decides.{nat_tests}}, Grind.{common_steps}}
pub use Rattle.std.proofs.lemmas.List.{append-nil, drop-append-le, drop-drop, drop-take, drop_all, drop_at, get_or_past, length-drop, length-take}
pub use Rattle.std.proofs.lemmas.List.{take-append-drop, take-append-le, take-replicate, take-take, take_at, take_rest}
pub use Rattle.std.proofs.lemmas.Nat.{div-mul-add, leading_length, mod_below, pow-add, shr_split, xor_lt, xor_shr}
pub use Rattle.std.proofs.lemmas.Nat.Bits.{bit_at-lt, bit_at-zero, bit_at_xor, ones_shr, same_from_bits}
pub use Rattle.std.proofs.lemmas.Slice.{drop-put_mid, take-put_mid_below}
pub use Rattle.std.specs.{Int.{bit_at, byte_at, bytes_high_first, bytes_low_first}, List.{AllByRecursion, concat, find, list_all, list_any}}
pub use Rattle.std.specs.{Ordering.{is_lt, match_ordering, ordering_then}, Prelude.{OnErr, nat_le, ◌↔◌}}
pub use Rattle.fs_base.specs.{Bits.{afi_of, cleared, width_of}, Draws.{Calls, Draws, Passed, Passes, PassesIn, PassesOn}}
pub use Rattle.fs_base.specs.Language.{Begins, IsCut, IsFirstFault, IsOctets}
pub use Rattle.fs_base.specs.Parts.{Shrinks, ShrinksBy, Stable, parts_then, window, with_part}
pub use Rattle.fs_base.specs.Prefix.{IsPrefixOf, covers, last_address, prefix_cmp, prefix_of, prefix_total}
pub use Rattle.fs_base.specs.Sink.{Grew, GrewPart}
pub use Rattle.fs_base.specs.declared.{counted.Counted.{Counted}, prefix.{Family.{Family, TheVariants.{V4, V6}}, Prefix.{Prefix}}}
unfoldable pub use Rattle.fs_base.specs.Parts.{parts_of, parts_within}
