-- The words of the crates below, and of the specs, that lemmas here speak of.
pub use Rattle.byteorder.specs.{Endian.{big_number}, Numbers.{big_from-lt, big_number-reads_back, length-bytes_high_first}}
pub use Rattle.std.proofs.Common.{All, Any, Bool, Contains, Err, IfErr, IfOk, IsNone, IsSome, List, None, Ok, Option, Result, Some, [], ap}
pub use Rattle.std.proofs.Common.{append_assoc, ap₂, arith, bit_and, cond, drop, false, get_or, if◌then◌else◌, inl, inr, length, length-append}
pub use Rattle.std.proofs.Common.{length-drop, length-take, map, min, nat_le, nat_lt, option_map, refl, replicate, subst, suc, sym, take, true, zero}
pub use Rattle.std.proofs.Common.{ℕ, ◌%◌, ◌&&◌, ◌*◌, ◌++◌, ◌+◌, ◌-◌, ◌/◌, ◌<◌, ◌==◌, ◌^◌, ◌||◌, ◌↔◌, ◌∙◌, ◌∷◌, ◌≡◌, ◌≤◌, ◌⊎◌}
pub use Rattle.std.proofs.Math.Nat.{div-lt_iff_lt-mul, mod-eq_of_lt, mul-lt-mul_of_pos_right, mul_assoc, pow-le-pow_right, pow-suc, pow-succ'}
pub use Rattle.std.proofs.lemmas.Bool.{and_from, and_parts, both_ways, cases_eq, cases_lt, cases_order, eq-eqb, eqb-true, false≢true, le-leb}
pub use Rattle.std.proofs.lemmas.Bool.{leb-true, lt-ltb, ltb-true, or_cases}
pub use Rattle.std.proofs.lemmas.List.{append-nil, length-replicate, length-take-le, map-append, take-append-drop, take-take, take_all, take_at}
pub use Rattle.std.proofs.lemmas.List.{take_rest, Elements.{All-cons, All-nil, All-replicate}}
pub use Rattle.std.proofs.lemmas.{Nat.{and_assoc, pow-add, pow_pos, shl-shr}, Result.{err_from_is_err_and}}
pub use Rattle.std.specs.{Int.Bits.{and_self}, List.{list_any, slice_get}}
pub use Rattle.fs_base.proofs.{Blocks.{block_below, block_of, cleared_again}, Bools.{or_first, or_second}}
pub use Rattle.fs_base.proofs.Languages.{Leads, cut_after, cut_as, cut_or_fault, fault_after, fault_as, fault_whole, one_fault}
pub use Rattle.fs_base.proofs.Octets.{append_same, octets_cons, octets_drop, octets_from, octets_left, octets_nil, octets_right, octets_tail}
pub use Rattle.fs_base.proofs.Octets.{octets_take, overlap}
pub use Rattle.fs_base.specs.{Bits.{afi_of, cleared, width_of}, Language.{Begins, IsCut, IsFirstFault, IsOctets, NoFront}}
pub use Rattle.fs_base.specs.declared.prefix.Family.{Family, TheVariants.{V4, V6}}
pub use Rattle.fs_ops.proofs.Canonical.{AreAllowed, canonical_size, canonical_spells, kept_allowed, kept_size, spelled_allowed}
pub use Rattle.fs_ops.proofs.{Grammar.{behind, no_list, same_list}, Normal.{kept_is_normal, spelled_normal, with_bits}}
pub use Rattle.fs_ops.specs.{Operator.{width_code}, OperatorList.{IsNormal, IsText, all_said, text}, declared.kind.Kind.{Kind}}
pub use Rattle.fs_nlri.specs.{Body.{IsBody, IsBodyBad, IsBodyFault, IsFaultAt}, Component.{body_of, part_of, parts_of}}
pub use Rattle.fs_nlri.specs.Fault.{HasRole, IsBadFrame, IsBodyPlace, IsFrameBad, IsFrameFault, IsOpen, IsRole, IsTypePlace, IsValueBad, IsValueFault}
pub use Rattle.fs_nlri.specs.Fault.{ReadsAs, list_fault, moved}
pub use Rattle.fs_nlri.specs.Feed.{Appends, Frames, Stops}
pub use Rattle.fs_nlri.specs.Forms.{Form, ListForm, V4Form, V6Form, all_allowed, form_of, forms, fragment_bits, kept_bits}
pub use Rattle.fs_nlri.specs.Making.{AreTyped, IsTyped, IsTypedAt, IsTypedBody, all_given, body_given, cleared_at, cleared_body, cleared_part}
pub use Rattle.fs_nlri.specs.Making.{cleared_parts, fault_in, given_at, is_range, part_given, rises, rule_of}
pub use Rattle.fs_nlri.specs.Outcome.{IsFieldOutcome, IsFrameOutcome}
pub use Rattle.fs_nlri.specs.Parts.{Body, ListBody, Part, Ruled, V4Body, V6Body, part, ruled}
pub use Rattle.fs_nlri.specs.Rule.{AreNormal, IsNormalAt, IsNormalBody, IsRule, canonical_body, canonical_frame, canonical_length, canonical_value}
pub use Rattle.fs_nlri.specs.Rule.{destination_body, destination_in, destination_of, destination_part, destination_prefix, first_octets, shown}
pub use Rattle.fs_nlri.specs.{Same.{same_part, same_rule}, Sound.{AreSound, IsSoundBody}}
pub use Rattle.fs_nlri.specs.Spelling.{IsFrame, IsLength, IsRange, IsValue, Spells, SpellsAt, SpellsBody, SpellsList, SpellsV4, SpellsV6, first_bits}
pub use Rattle.fs_nlri.specs.Spelling.{octets_for}
pub use Rattle.fs_nlri.specs.Writing.{IsWritable}
pub use Rattle.fs_nlri.specs.declared.component.{Component.{Component}, PrefixForm.{PrefixForm}}
pub use Rattle.fs_nlri.specs.declared.fault.NlriFault.{NlriFault, TheVariants.{Bad, Memory}}
pub use Rattle.fs_nlri.specs.declared.fault.Reason.{Reason, TheVariants.{Cut, Length, NoType, Offset, Order, PrefixLength, Width}}
pub use Rattle.fs_nlri.specs.declared.fault.RuleFault.TheVariants.{NotOfFamily, TooLong}
