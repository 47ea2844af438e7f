-- The words of the crates below, and of the specs, that lemmas here speak of.
pub use Rattle.byteorder.specs.{Endian.{big_bytes, big_number}, Numbers.{big_from-take, big_number-reads_back, length-bytes_high_first}}
pub use Rattle.hex.proofs.HexLemmas.{decode_sized-encode_lower, length-encode_with}
pub use Rattle.hex.specs.{Hex.{decode_sized, encode_lower, lower_digits}, declared.error.FromHexError.{FromHexError}}
unfoldable pub use Rattle.hex.specs.Hex.{encode_with}
pub use Rattle.std.proofs.Common.{Bool, Bor, Err, List, None, Ok, Option, Result, Some, [], ap, append_assoc, arith, bit_and, drop, false, get_or}
pub use Rattle.std.proofs.Common.{if◌then◌else◌, inl, inr, length, length-append, map, not, refl, subst, suc, sym, take, true, zero, ℕ, ⊎_elim, ◌%◌}
pub use Rattle.std.proofs.Common.{◌*◌, ◌++◌, ◌+◌, ◌-◌, ◌/◌, ◌<◌, ◌==◌, ◌^◌, ◌||◌, ◌∙◌, ◌∷◌, ◌≡◌, ◌≤◌, ◌⊎◌}
pub use Rattle.std.proofs.Math.Nat.{div-div-eq-div-mul, div-le_self, mod-eq_of_lt, mod-lt, mul-div_cancel, mul_assoc}
pub use Rattle.std.proofs.Math.Seq.{drop-append_seam, take-append_seam, take-length}
pub use Rattle.std.proofs.lemmas.Bool.{cases_lt, eqb-true, le-ltb, lt-ltb, ne_eqb, Decides.{Decides-eqb, nat_tests}}
pub use Rattle.std.proofs.lemmas.Fmt.{IsAscii-decimal, digits_is_IsNumeral, parse-decimal}
pub use Rattle.std.proofs.lemmas.List.{append-nil, drop-drop, length-drop, map-append, nil_from_length, take-append-drop, take_all, take_rest}
pub use Rattle.std.proofs.lemmas.List.Elements.{All-from_recursion}
pub use Rattle.std.proofs.lemmas.List.Splits.{join_with_byte-slice_split, slice_split_at, slice_split_none}
pub use Rattle.std.proofs.lemmas.{Nat.{and_le_r, pow-add, pow_pos}, Option.{none-some, same_Some, some_pair_parts}, Slice.Eq.{slice_eq-Decides}}
pub use Rattle.std.proofs.lemmas.Str.{IsUtf8-from_ascii}
pub use Rattle.std.specs.{Cmp.Lexicographic.{slice_cmp}, Fmt.{digits}, List.{AllByRecursion, join_with_byte, last_or, prefix_len}}
pub use Rattle.std.specs.{Option.{option_map_or}, Ordering.{nat_cmp, ordering_then}}
pub use Rattle.std.specs.Prelude.{IfErr, IfNone, IfSome, MatchResult, OkIff, codes, cond, decimal, find, flat_map, nat_le, nat_lt, option_map}
pub use Rattle.std.specs.Prelude.{slice_index}
pub use Rattle.std.specs.Result.{IfOk, IsErrAnd, result_ok}
pub use Rattle.std.specs.Str.{IsAscii, IsUtf8, bytes_eq, Parse.{AllDigits, IsNumeral, ParsesUnsigned, digits_value, without_leading_plus}}
unfoldable pub use Rattle.std.specs.List.Sorted.{IsStrictlySortedBy}
pub use Rattle.fs_base.proofs.{Digits.{big_below, big_octets, big_written}, Lists.{each_append, each_weaker}}
pub use Rattle.fs_base.proofs.Octets.{each_at, octets_at, octets_cons, octets_drop, octets_from, octets_head, octets_nil, octets_tail}
pub use Rattle.fs_base.specs.{Language.{IsOctets}, declared.prefix.Family.{Family, TheVariants.{V4, V6}}}
pub use Rattle.fs_ops.proofs.Normal.{first_normal}
pub use Rattle.fs_ops.specs.{Operator.{ends, joins, meant_bits, width_code, width_of}, OperatorList.{IsNormal, IsNormalPair}}
pub use Rattle.fs_ops.specs.declared.kind.Kind.{Kind, TheVariants.{Bitmask, Numeric}}
pub use Rattle.fs_nlri.specs.Component.{body_of, part_of}
pub use Rattle.fs_nlri.specs.Forms.{ListForm, V4Form, V6Form, form_of, fragment_bits, prefix_form}
pub use Rattle.fs_nlri.specs.Parts.{Body, ListBody, Part, Ruled, V4Body, V6Body, part, ruled}
pub use Rattle.fs_nlri.specs.{Rule.{AreNormal, IsNormalAt, IsNormalBody, IsRule}, declared.component.Component.{Component}}
pub use Rattle.fs_actions.specs.{Actions.{IsAbove}, Community.{IsAction, cleared, kind_of, listed, significant_of}, declared.community.Redirect.{Redirect}}
pub use Rattle.fs_words.specs.Actions.{action_name, action_text, name_at, plain_text, rate_text, target_text}
pub use Rattle.fs_words.specs.Figures.{hexadecimal, octets_text}
pub use Rattle.fs_words.specs.Operators.{joined_text, joiner, least_code, list_text, mask_sign, number_sign, operand_text, pair_text, sign}
pub use Rattle.fs_words.specs.Operators.{width_text, width_word}
pub use Rattle.fs_words.specs.Prefixes.{address_text, groups_text, offset_text, v4_text, v6_text, wide_address_text}
pub use Rattle.fs_words.specs.Printed.{action_words, component_words, family_word, text_of, then_words, words_of}
pub use Rattle.fs_words.specs.Values.{body_text, component_name, list_kind, value_text}
pub use Rattle.fs_text.specs.ActionParts.{Gives, GivesPlain, form_parts, ip4_parts, long_octets, pair_parts, rate_parts, short_octets}
pub use Rattle.fs_text.specs.ActionWord.{Compared, IsNamed}
pub use Rattle.fs_text.specs.ListWord.{code_at, is_sign, is_within, joined_bit, plain_of, relation_of}
pub use Rattle.fs_text.specs.Parts.{as_part}
pub use Rattle.fs_text.specs.Pieces.{Delimiter, Ends, Run, is_plain, parts_by, parts_of, with_octet}
pub use Rattle.fs_text.specs.PrefixParts.{GivesV4, GivesV6, address_parts, half_parts, offset_parts, range_parts, v4_parts, wide_parts}
pub use Rattle.fs_text.specs.Progress.{Acts, AreAll, Continues, Goes, Led, Rests, RestsOf, ahead, front, last_kind}
pub use Rattle.fs_text.specs.Reading.{Reads}
pub use Rattle.fs_text.specs.Steps.{CanStand, FitsAbove, FitsBehind, HasGreatest, IsActionFault, IsBadName, IsBadValue, IsGreatest, IsNext}
pub use Rattle.fs_text.specs.Steps.{IsNextPart, IsNoEnd, IsPartFault, ReadsAbove, StandsBehind, part_name}
pub use Rattle.fs_text.specs.Text.{AreActions, AreWords, Begin, IsBadWord, IsWhole, IsWordFault, Makes, ReadsAs, ReadsWords, words_in}
pub use Rattle.fs_text.specs.declared.fault.TextFault.TheVariants.{Bad, Memory, TooLong}
