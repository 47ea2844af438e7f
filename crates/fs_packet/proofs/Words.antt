-- The words of the crates below, and of the specs, that lemmas here speak of.
pub use Rattle.std.proofs.Common.{Bool, Err, List, None, Ok, Option, Some, [], ap, arith, bit_and, drop, false, if◌then◌else◌, length, nat_le, nat_lt}
pub use Rattle.std.proofs.Common.{not, refl, slice_index, subst, suc, sym, true, zero, ℕ, ◌%◌, ◌&&◌, ◌*◌, ◌+◌, ◌-◌, ◌/◌, ◌<◌, ◌==◌, ◌^◌, ◌∙◌, ◌∷◌}
pub use Rattle.std.proofs.Common.{◌≡◌, ◌≤◌}
pub use Rattle.std.proofs.lemmas.Bool.{eqb-true, le-ltb, leb-true, Decides.{nat_tests}}
pub use Rattle.std.specs.{List.{AllByRecursion, list_all}, Option.{unwrap_or}}
pub use Rattle.fs_base.specs.declared.prefix.Family.TheVariants.{V4, V6}
pub use Rattle.fs_ops.specs.Evaluation.{groups_of, has_bit, holds, masks, onto_group}
pub use Rattle.fs_nlri.specs.Sound.{AreSound, IsSoundBody}
pub use Rattle.fs_packet.specs.Chain.{behind_fragment, chain_of, extension_size, first_header, header_of, is_extension, last_field, protocol_at}
pub use Rattle.fs_packet.specs.Fields.{Viewed, icmp_number, number_at, protocol_of, upper_of, viewed}
pub use Rattle.fs_packet.specs.Matching.{part_matches, tcp_flags}
pub use Rattle.fs_packet.specs.Reading.{behind_tags, behind_type, held_from, is_tag, v4_fragment, v4_size, v4_starts, v4_transport, v4_view, v6_chain}
pub use Rattle.fs_packet.specs.Reading.{v6_fragment, v6_length, v6_view}
pub use Rattle.fs_packet.specs.declared.fields.{Unread.TheVariants.{Header, Length, Short, Version}, Upper.{Upper}}
