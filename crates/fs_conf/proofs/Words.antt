-- The words of the crates below, and of the specs, that lemmas here speak of.
pub use Rattle.toml.proofs.Views.{items_view-drop}
pub use Rattle.toml.specs.Data.{Data, Items, Members, array, as_array, as_str, as_table, boolean, datetime, float, get_member, integer, item}
pub use Rattle.toml.specs.Data.{no_members, no_items, string, table}
pub use Rattle.toml.specs.{View.{items_view, members_view, table_view, view}, declared.value.Value.{Value}}
pub use Rattle.std.proofs.Common.{All, Bool, Bor, Err, Global, List, None, Ok, Option, Result, Some, String, [], ap, append-nil, append_assoc, arith}
pub use Rattle.std.proofs.Common.{bit_and, cond, decimal, drop, eq-eqb, eqb-true, false, filter_map, get_or, if◌then◌else◌, inl, inr, le-leb, length}
pub use Rattle.std.proofs.Common.{length-drop, lit≤, lt-ltb, ltb-true, map, nat_le, nat_lt, ne_eqb, not, option_map, refl, replicate, rules}
pub use Rattle.std.proofs.Common.{string_bytes, subst, suc, sym, take, true, true≢false, zero, ℕ, ◌%◌, ◌&&◌, ◌*◌, ◌++◌, ◌+◌, ◌-◌, ◌/◌, ◌<◌, ◌==◌, ◌^◌}
pub use Rattle.std.proofs.Common.{◌||◌, ◌∙◌, ◌∷◌, ◌≡◌, ◌≤◌, ◌⊎◌}
pub use Rattle.std.proofs.NetLemmas.Options.{and_then_some, cond_some, map_some, same_parts}
pub use Rattle.std.proofs.lemmas.Bool.{and_from, and_parts, leb-true}
pub use Rattle.std.proofs.lemmas.List.{drop_more, length-append, length-take-le, take-append-drop, take_all, Elements.{All-append, All-from_get_or}}
pub use Rattle.std.proofs.lemmas.{Option.{none-some, same_Some}, Slice.Eq.{bytes_eq-Decides}}
pub use Rattle.std.specs.Char.{digit_value, is_digit}
pub use Rattle.std.specs.List.{AllByRecursion, concat, cons_option, flat_map, list_all, list_any, range_with_len}
pub use Rattle.std.specs.Net.Grammar.{IsColonHex, IsDotted, IsGroup, IsGroups, IsGroupsAfter, IsIpv4Text, IsIpv6Text}
pub use Rattle.std.specs.{Ordering.{is_eq}, Prelude.{codes, find, is_some, negsuc, option_and_then, pos, ◌≢◌}}
pub use Rattle.std.specs.Str.{IsUtf8, bytes_eq, is_utf8, Parse.{AllDigits, digits_value}}
unfoldable pub use Rattle.std.specs.Net.Addr.{ipv4_bits, ipv6_bits}
pub use Rattle.fs_base.proofs.Lists.{all_each, each_append, each_mapped, each_weaker}
pub use Rattle.fs_base.proofs.Octets.{octets_drop, octets_from, octets_of_each, octets_take}
pub use Rattle.fs_base.specs.{Language.{IsOctets}, declared.{config.{Config.{Config}, Peer.{Peer}}, prefix.Family.{Family}}}
pub use Rattle.fs_nlri.specs.{Outcome.{IsFieldOutcome}, Parts.{Ruled}, Reading.{rules_of}}
pub use Rattle.fs_nlri.specs.Rule.{IsRule, canonical_frame, canonical_length, canonical_value}
pub use Rattle.fs_nlri.specs.{Spelling.{IsFrame}, declared.fault.Reason.{Reason}}
pub use Rattle.fs_order.specs.Comparison.{rule_cmp}
pub use Rattle.fs_actions.proofs.ReadBack.{communities_joined, each_length, read_back, whole_joined}
pub use Rattle.fs_text.specs.Text.{AreActions, ReadsAs}
pub use Rattle.fs_attrs.specs.Laws.{IsTheOutcome}
pub use Rattle.fs_speaker.specs.declared.Sent.{Sent}
pub use Rattle.fs_conf.specs.Address.{address_of, around_double_colon, begin_field, colon, decimal_octet, dot, each_of, exactly, fields_of, group_of}
pub use Rattle.fs_conf.specs.Address.{groups_of, ipv4_octets_of, ipv4_of, ipv6_form_2, ipv6_groups_of, ipv6_of}
pub use Rattle.fs_conf.specs.Config.{are_distinct, are_peers, as_number, config_keys, config_of_document, config_of_members, hold_time_in, identifier}
pub use Rattle.fs_conf.specs.Config.{kept_if, limit_in, peer_keys, peer_of_data, peer_of_members, peer_of_table, peers_in, peers_of_items, written}
pub use Rattle.fs_conf.specs.{Document.{document_of, each_item}, Fields.{flag_or, keys_among, number_in, number_or}}
pub use Rattle.fs_conf.specs.Laws.{AcceptsNumbers, AcceptsRules, HasNumbers, HasPeerNumbers, HasRules}
pub use Rattle.fs_conf.specs.Rules.{are_single, as_path_in, file_keys, has_seen, is_same, number_of, rules_in, sendable, sending_of_document}
pub use Rattle.fs_conf.specs.Rules.{sending_of_members}
pub use Rattle.fs_conf.specs.Sent.{actions_among, actions_in, actions_written, are_listed, family_of, if_ok, listed_actions, octets_of, only}
pub use Rattle.fs_conf.specs.Sent.{rule_keys, rule_of, rule_written, rules_among, sent_of_data, sent_of_members, sent_of_table, sents_among}
pub use Rattle.fs_conf.specs.Sent.{text_keys}
pub use Rattle.fs_conf.specs.Worded.{has_text, octet_lists, sent}
unfoldable pub use Rattle.fs_conf.specs.{Sent.{sent_of_text}, Worded.{lists_below}}
