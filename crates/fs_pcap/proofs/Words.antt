-- The words of the crates below, and of the specs, that lemmas here speak of.
pub use Rattle.std.proofs.Common.{Bool, Err, List, None, Ok, Option, Result, Some, [], ap, append-nil, append_assoc, arith, drop, eqb-true, false}
pub use Rattle.std.proofs.Common.{length, length-append, not, refl, rules, subst, sym, take, take-append-drop, true, ℕ, ◌%◌, ◌++◌, ◌+◌, ◌<◌, ◌==◌}
pub use Rattle.std.proofs.Common.{◌^◌, ◌∙◌, ◌∷◌, ◌≡◌, ◌≤◌}
pub use Rattle.std.proofs.lemmas.{Bool.Decides.{nat_tests}, Grind.{common_steps}}
pub use Rattle.std.proofs.lemmas.List.{drop-drop, drop_at, length-drop, length-take, take-take, take_at}
pub use Rattle.std.specs.Prelude.{flat_map, if◌then◌else◌, max, nat_le, nat_lt}
pub use Rattle.fs_base.{proofs.Octets.{octets_drop, octets_take}, specs.{Language.{IsOctets}, declared.link.Link.{Link}}}
pub use Rattle.fs_input.proofs.{Fronts.{none_back, opened_whole, opens_not, opens_so}, Records.{HasHead, record_found}}
pub use Rattle.fs_input.specs.{Opening.{IsFrontWithin, opened_answer, opened_by}, Records.{End, done, first_record}}
pub use Rattle.fs_input.specs.declared.head.Head.TheVariants.{Partial, Whole, Wrong}
pub use Rattle.fs_pcap.specs.Capture.{CaptureState, Captured, Recorded, capture_of, heading_of, packet_of, packets_to_come, recorded, records}
pub use Rattle.fs_pcap.specs.Header.{header_of, link_field, ordered_header}
pub use Rattle.fs_pcap.specs.Laws.{Fits, HeaderWords, IsCaptureOf, IsHeaderOf, ReadsBack, after, header_text, octets_of, packet_text, stands}
pub use Rattle.fs_pcap.specs.Order.{number, order_of, time_of}
pub use Rattle.fs_pcap.specs.declared.fault.CaptureReason.{CaptureReason, TheVariants.{Cut, Magic, RecordTooLong, Version}}
pub use Rattle.fs_pcap.specs.declared.{head.Context.{Context}, header.Heading.{Heading}, order.Endian.{Endian, TheVariants.{Big, Little}}}
