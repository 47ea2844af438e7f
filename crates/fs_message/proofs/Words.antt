-- The words of the crates below, and of the specs, that lemmas here speak of.
pub use Rattle.byteorder.specs.Endian.{big_bytes, big_from, big_number}
pub use Rattle.byteorder.specs.Numbers.{big_from-append, big_from-cons, big_from-lt, big_from-take, big_number-reads_back}
pub use Rattle.std.proofs.Common.{Bool, Err, IsTrue, List, None, Ok, Option, Result, Some, [], ap, ap₂, arith, drop, false, get_or, if◌then◌else◌}
pub use Rattle.std.proofs.Common.{inl, inr, length, min, nat_le, nat_lt, not, refl, slice_index, subst, suc, sym, take, true, zero, ℕ, ◌&&◌, ◌*◌}
pub use Rattle.std.proofs.Common.{◌++◌, ◌+◌, ◌-◌, ◌<◌, ◌==◌, ◌^◌, ◌||◌, ◌∙◌, ◌∷◌, ◌≡◌, ◌≢◌, ◌≤◌}
pub use Rattle.std.proofs.Math.Seq.{drop-append-add, take-add, take-append-add}
pub use Rattle.std.proofs.lemmas.Bool.{cases_eq, cases_lt, le-ltb, leb-true, lt-ltb, ne_eqb, Decides.{nat_tests}}
pub use Rattle.std.proofs.lemmas.Grind.{common_steps}
pub use Rattle.std.proofs.lemmas.List.{append_assoc, drop-append-le, drop-take, drop_at, get_or-take, length-append, length-drop, length-take}
pub use Rattle.std.proofs.lemmas.List.{take-append-le, take-take, take_all, take_at, take_min, take_rest, Folds.{list_any-append}}
pub use Rattle.std.specs.{Int.{byte_at}, List.{list_all, list_any}, Prelude.{find, flat_map, option_map, replicate}}
pub use Rattle.fs_base.{proofs.Parts.{parts_end, parts_step}, specs.Parts.{Shrinks, Stable, parts_of, with_part}}
pub use Rattle.fs_message.specs.Capabilities.{Field, added, all_gathered, are_fields, are_parameters, capabilities_of, field, field_of, fields_of}
pub use Rattle.fs_message.specs.Capabilities.{first_field, first_of_two, found_in, four_octet_as, gathered, is_capability, is_parameter, names_family}
pub use Rattle.fs_message.specs.Capabilities.{with_later}
pub use Rattle.fs_message.specs.Header.{allows, fault, header_fault, kind_at, kind_wrong, marker_wrong, size_at, size_wrong}
pub use Rattle.fs_message.specs.Open.{fields_fault, open_of, opened}
pub use Rattle.fs_message.specs.Stream.{Message, first_message, has_message, message_of, size_of, wrong_at}
pub use Rattle.fs_message.specs.Write.{as_field, family_text, message_text, open_body}
pub use Rattle.fs_message.specs.declared.{fault.MessageFault.{MessageFault}, open_.Open.{Open}}
