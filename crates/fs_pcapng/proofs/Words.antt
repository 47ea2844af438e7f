-- The words of the crates below, and of the specs, that lemmas here speak of.
pub use Rattle.byteorder.specs.Endian.{big_number}
pub use Rattle.std.proofs.Common.{Bool, Err, IsTrue, List, None, Ok, Option, Result, Some, [], ap, append-nil, append_assoc, arith, drop, false, inl}
pub use Rattle.std.proofs.Common.{inr, length, length-append, not, refl, rules, subst, suc, sym, take, true, zero, ℕ, ◌%◌, ◌&&◌, ◌*◌, ◌++◌, ◌+◌}
pub use Rattle.std.proofs.Common.{◌-◌, ◌<◌, ◌==◌, ◌↔◌, ◌∙◌, ◌∷◌, ◌≡◌, ◌≢◌, ◌≤◌}
pub use Rattle.std.proofs.lemmas.{Bool.Decides.{nat_tests}, List.{drop-drop, drop-take, drop_at, length-drop, length-take, take-take, take_all}}
pub use Rattle.std.specs.{List.{AllByRecursion}, Prelude.{IfErr, flat_map, if◌then◌else◌, nat_le, nat_lt, slice_get, slice_index, unwrap_or}}
pub use Rattle.fs_base.{proofs.NumberTests.{le_true}, specs.{Parts.{at_limit, window}, declared.counted.Counted.{Counted}}}
pub use Rattle.fs_input.proofs.Joining.{needs_false, needs_true}
pub use Rattle.fs_input.proofs.Lifting.{gives_for, reads_as, reads_ends, reads_fails, reads_gives, reads_then}
pub use Rattle.fs_input.proofs.Spelling.{Part, Spells, and_reads, and_spells, cut_at, fails_spells, field_reads, field_spells, gives_reads}
pub use Rattle.fs_input.proofs.Spelling.{gives_spells, map_reads, map_spells, needs_reads, needs_spells, part_spells, skips_reads, skips_spells}
pub use Rattle.fs_input.proofs.Spelling.{weaker_spells}
pub use Rattle.fs_input.proofs.Stages.{Going, behind_more, behind_none, going_more, going_start, going_then}
pub use Rattle.fs_input.proofs.Written.{IsSpelled, spelled_takes, told_text}
pub use Rattle.fs_input.specs.{Coming.{IsTextOf, Takes, only_told}, Judging.{scan_of, settled}}
pub use Rattle.fs_input.specs.Reads.{Fails, HasMore, Moment, Reads, Scanned, again, ahead, end_of, ends_by, moment, whole}
pub use Rattle.fs_input.specs.Records.{End, bad, done, limited}
pub use Rattle.fs_input.specs.Scan.{Scan, Scanner, and, and_then, behind, fails, field, gives, got, needs, partial, skips, wrong}
pub use Rattle.fs_input.specs.declared.fault.Fault.{Fault, TheVariants.{Bad, Limit, Read}}
pub use Rattle.fs_pcap.specs.{Head.{longest_record}, Order.{number}, declared.order.Endian.{Endian}}
pub use Rattle.fs_pcapng.specs.Block.{Packet, Stands, allows, behind_packet, block_in, body_in, close_in, cut_to, described_behind, described_in}
pub use Rattle.fs_pcapng.specs.Block.{end_in, enhanced_in, fitting, frame_of, kind_behind, kind_of, least_of, magic_behind, octets_in, opened}
pub use Rattle.fs_pcapng.specs.Block.{order_of, ordered_in, original_in, packet, plain_in, section_header, section_in, simple_behind, simple_by}
pub use Rattle.fs_pcapng.specs.Block.{simple_in, stamped, timed_behind, timed_in, total_behind, version_in, with_interface}
pub use Rattle.fs_pcapng.specs.Options.{cursor, option_behind, option_in, options_in, padded, sized_in, unit_in, value_in}
pub use Rattle.fs_pcapng.specs.Packets.{told_behind, told_by, told_in, told_of, told_timed}
pub use Rattle.fs_pcapng.specs.{Pcapng.{nothing, packets_to_come, pcapng_of, seen_from}, Time.{time_of}}
pub use Rattle.fs_pcapng.specs.Written.{Block, Choice, Description, Fits, IsBlock, IsChoice, IsDescription, IsFramed, IsPlain, IsRecord, IsSection}
pub use Rattle.fs_pcapng.specs.Written.{IsShort, Outer, Record, Section, Short, Written, block_gives, block_text, body_text, choice_text, described}
pub use Rattle.fs_pcapng.specs.Written.{enhanced, gives_by, interface_of, packet_of, section, short_of, simple, skipped, unit_behind, unit_of}
pub use Rattle.fs_pcapng.specs.declared.block.Kind.{Kind, TheVariants.{Described, Enhanced, Other, Simple}}
pub use Rattle.fs_pcapng.specs.declared.fault.NgReason.{NgReason, TheVariants.{Cut, Length, Magic, RecordTooLong, TooMany, Version}}
pub use Rattle.fs_pcapng.specs.declared.{fields.Frame.{Frame}, options.Cursor.{Cursor}, section.Interface.{Interface}}
