-- The words of the crates below, and of the specs, that lemmas here speak of.
pub use Rattle.byteorder.specs.{Endian.{big_bytes, big_number}, Numbers.{big_number-reads_back, length-bytes_high_first}}
pub use Rattle.std.proofs.Common.{All, Bool, Err, List, None, Ok, OnOk, Option, Result, Some, [], ap, append_assoc, ap₂, arith}
pub use Rattle.std.proofs.Common.{bit_and, cond, drop, false, if◌then◌else◌, inl, inr, length, length-append, nat_le, nat_lt, not, refl}
pub use Rattle.std.proofs.Common.{rules, subst, suc, sym, take, true, ℕ, ◌%◌, ◌&&◌, ◌*◌, ◌++◌, ◌+◌, ◌-◌, ◌/◌, ◌<◌, ◌==◌, ◌^◌, ◌||◌, ◌∙◌, ◌∷◌}
pub use Rattle.std.proofs.Common.{◌≡◌, ◌≤◌}
pub use Rattle.std.proofs.lemmas.Bool.{and_parts, cases_lt, eqb-true, ltb-true}
pub use Rattle.std.proofs.lemmas.Bool.{not-true, Decides.{nat_tests}}
pub use Rattle.std.proofs.lemmas.List.{append-nil, drop_at, flat_map_more, get_or_past, map_push, nil_from_length, take_at}
pub use Rattle.std.proofs.lemmas.List.{take_more}
pub use Rattle.std.proofs.lemmas.List.Elements.{All-from_get_or, All-from_recursion, All-more}
pub use Rattle.std.proofs.lemmas.List.Elements.{recursion_from_All}
pub use Rattle.std.proofs.lemmas.List.Folds.{find-append, list_all-map}
pub use Rattle.std.specs.{List.{AllByRecursion, concat, list_all, list_any}, Option.{is_none, is_some, option_map_or, option_or}}
pub use Rattle.std.specs.Prelude.{IfSome, bit_or, filter, find, flat_map, map, option_and_then, option_map, unwrap_or}
pub use Rattle.fs_base.proofs.{Octets.{octets_append, octets_cons, octets_nil}, Parts.{parts_end, parts_step}}
pub use Rattle.fs_base.specs.{Bits.{afi_of, cleared, width_of}, Language.{IsOctets}, Parts.{Shrinks, parts_of, with_part}}
pub use Rattle.fs_base.specs.declared.{path.{Path.{Path}, Segment.{Segment}}, prefix.{Family.{Family, TheVariants.{V4, V6}}, Prefix.{Prefix}}}
pub use Rattle.fs_ops.specs.{Operator.{meant_bits}, OperatorList.{IsNormalPair, pair_octets}}
pub use Rattle.fs_nlri.proofs.{Again.{canonical_is_frame, octets_back}}
pub use Rattle.fs_nlri.specs.{Feed.{Appends, Frames}, Forms.{Form, ListForm, V4Form, V6Form, form_of, forms}}
pub use Rattle.fs_nlri.specs.{Outcome.{AreBadFrames}, Parts.{Body, ListBody, Part, Ruled, V4Body, V6Body}}
pub use Rattle.fs_nlri.specs.Rule.{AreNormal, IsNormalAt, IsNormalBody, IsRule, canonical_body, canonical_frame, canonical_length, canonical_part}
pub use Rattle.fs_nlri.specs.Rule.{canonical_value, first_octets, shown}
pub use Rattle.fs_nlri.specs.Spelling.{IsRange, first_bits, octets_for}
pub use Rattle.fs_nlri.specs.declared.fault.{NlriFault.TheVariants.{Bad}, Reason.{Reason}}
pub use Rattle.fs_attrs.specs.Attributes.{Attribute, Valued, are_attributes, attribute, attributes_of, body, body_of, first_attribute, has_kept}
pub use Rattle.fs_attrs.specs.Attributes.{is_doubled, kept_of, lent, lent_values, long_field, routes_doubled, short_field, sized, stands_before}
pub use Rattle.fs_attrs.specs.Attributes.{value_of, values_of, values_with}
pub use Rattle.fs_attrs.specs.{Lists.{IsPrefix}, Paths.{four_octets, path_of, path_wrong, withdraws}}
pub use Rattle.fs_attrs.specs.Prefixes.{Shown, are_prefixes, first_prefix, prefixes_of, shown_as}
pub use Rattle.fs_attrs.specs.Routes.{IsFieldFault, ReadsAs, Wrong, both_of, field_fault, flow_routes, has_routes, if_there, is_read, optional_of}
pub use Rattle.fs_attrs.specs.Routes.{reach_of, routes_of, unicast_routes, unreach_of}
pub use Rattle.fs_attrs.specs.Same.{same_prefix, same_prefixes}
pub use Rattle.fs_attrs.specs.Segments.{AreNumbers, are_low, are_segments, as_text, as_width, first_as, first_segment, is_confederation}
pub use Rattle.fs_attrs.specs.Segments.{is_written_segment, lent_segment, numbers_of, segment, segment_text, segments_of, segments_text}
pub use Rattle.fs_attrs.specs.Texts.{attribute_text, flags_of, long_text, prefix_text, prefixes_text, rules_text}
pub use Rattle.fs_attrs.specs.Writable.{announces, are_attribute_routes, are_prefixes_of, are_rules_of, has_its_path, if_routes, is_path_of_session}
pub use Rattle.fs_attrs.specs.Writable.{is_writable, is_written_path}
pub use Rattle.fs_attrs.specs.Write.{AreRoutes, IfRoutes, IsPath, IsSound, ReadsBack, Writes, actions_in, hop_of, keeps_numbers, local_pref_in}
pub use Rattle.fs_attrs.specs.Write.{next_hop_in, originator_in, path_in, path_kept, reach_in, reach_text, routes_text, unreach_in, unreach_text}
pub use Rattle.fs_attrs.specs.Write.{update_text, written_attributes}
pub use Rattle.fs_attrs.specs.declared.update.{Routes.{Routes, TheVariants.{Flow, Unicast}}, Terms.{Terms}, Update.{Update}}
pub use Rattle.fs_attrs.specs.declared.update.UpdateFault.{UpdateFault}
unfoldable pub use Rattle.fs_nlri.specs.Reading.{rules_of}
