-- The words of the crates below, and of the specs, that lemmas here speak of.
pub use Rattle.byteorder.specs.{Endian.{big_bytes, big_number}, Numbers.{big_from-lt, big_number-reads_back, length-bytes_high_first}}
pub use Rattle.std.proofs.Common.{All, Any, Bool, Contains, List, [], ap, append_assoc, arith, bit_and, drop, false, get_or}
pub use Rattle.std.proofs.Common.{if◌then◌else◌, length, length-append, map, not, refl, replicate, subst, suc, sym, take, true, zero, ℕ}
pub use Rattle.std.proofs.Common.{◌&&◌, ◌*◌, ◌++◌, ◌+◌, ◌-◌, ◌/◌, ◌<◌, ◌==◌, ◌^◌, ◌||◌, ◌∙◌, ◌∷◌, ◌≡◌, ◌≤◌}
pub use Rattle.std.proofs.lemmas.Bool.{both_ways, eqb-true, ne_eqb, not-false}
pub use Rattle.std.proofs.lemmas.List.{append-nil, get_or_default, length-replicate, length-take, nil_from_length, take-append-drop}
pub use Rattle.std.proofs.lemmas.List.{take_all, take_at, take_more}
pub use Rattle.std.proofs.lemmas.List.Elements.{All-append, All-cons, All-nil, All-replicate}
pub use Rattle.std.proofs.lemmas.Nat.{and-not, and_assoc, and_comm, and_le_l, and_le_r, and_shr}
pub use Rattle.std.specs.List.{AllByRecursion, list_all, list_any}
pub use Rattle.fs_base.proofs.Octets.{append_same, octets_at, octets_from, octets_left, octets_right, octets_tail, octets_take, take-append-add}
pub use Rattle.fs_base.specs.Language.{Begins, IsOctets, NoFront}
pub use Rattle.fs_ops.specs.{Evaluation.{groups_of, holds, onto_group, test_of}, Fault.{IsBadWidth, IsCutList}}
pub use Rattle.fs_ops.specs.Operator.{Bitmask, Kind, Numeric, counted_bits, ends, first_bits, joins, meant_bits, width_code, width_of}
pub use Rattle.fs_ops.specs.OperatorList.{AreMiddle, AreNormal, IsList, IsNormal, IsNormalPair, IsPair, IsText, Spells, Written, all_said, canonical}
pub use Rattle.fs_ops.specs.OperatorList.{first_joins, octets_of, pair_octets, said, text}
