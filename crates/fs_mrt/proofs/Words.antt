-- The words of the crates below, and of the specs, that lemmas here speak of.
pub use Rattle.byteorder.specs.{Endian.{big_number}, Numbers.{big_from-append, big_from-take}}
pub use Rattle.std.proofs.Common.{Bool, Err, List, None, Ok, Option, Result, Some, [], ap, append-nil, append_assoc, arith, drop, false, inl, inr}
pub use Rattle.std.proofs.Common.{length, length-append, max, min, refl, rules, subst, sym, take, true, ℕ, ◌&&◌, ◌*◌, ◌++◌, ◌+◌, ◌-◌, ◌<◌, ◌==◌, ◌^◌}
pub use Rattle.std.proofs.Common.{◌∙◌, ◌∷◌, ◌≡◌, ◌≤◌, ◌⊎◌}
pub use Rattle.std.proofs.lemmas.{Bool.Decides.{nat_tests}, List.{drop-drop, drop-take, drop_at, length-drop, take_all}}
pub use Rattle.std.specs.{Option.{option_map}, Prelude.{IsSome, find, if◌then◌else◌, nat_le, ⊤}}
pub use Rattle.fs_base.specs.declared.{config.{Address.{Address}, Peer.{Peer}}, counted.Counted.{Counted}, prefix.Family.{Family}}
pub use Rattle.fs_input.proofs.Lifting.{gives_for, reads_as, reads_ends, reads_gives, reads_then}
pub use Rattle.fs_input.specs.{Coming.{Placed, Takes, all_told, first_part, placed}, Reads.{Moment, Reads, moment, whole}}
pub use Rattle.fs_input.specs.{Scan.{Scanner, and, field, gives, got, skips}, declared.fault.Fault.{Fault}}
pub use Rattle.fs_mrt.specs.{Dump.{said_from, spoken_from}, Laws.{AreHeard, HeardFits, IsHeard, IsSaid, ReadsBack}}
pub use Rattle.fs_mrt.specs.Peers.{is_same, lesser, lowest, number_at}
pub use Rattle.fs_mrt.specs.Record.{Said, Spoken, addressed_in, body_in, change, ends_in, ends_size, family_in, front_behind, front_in, front_of}
pub use Rattle.fs_mrt.specs.Record.{asn_of, head_of, headed_in, heard_in, message, message_behind, message_in, moment_behind, record_behind}
pub use Rattle.fs_mrt.specs.Record.{record_in, said_at, said_in, spoken, states_behind, states_in, time_of}
pub use Rattle.fs_mrt.specs.Shape.{address_of, address_size, family_of, front_size, shape_of, states_size}
pub use Rattle.fs_mrt.specs.Written.{Body, Entry, Header, IsBody, IsEntry, IsHeader, IsSaidBy, body_text, entry_gives, entry_text, entry_told}
pub use Rattle.fs_mrt.specs.Written.{header_text, heard_as, peer_in, said_of, shape_in, told, unread}
pub use Rattle.fs_mrt.specs.declared.{fault.DumpReason.{DumpReason, TheVariants.{Cut, Length}}, «record».{Front.{Front}, Head.{Head}}}
