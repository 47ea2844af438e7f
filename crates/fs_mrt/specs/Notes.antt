-- What each record of a dump is, whether it is heard or not: who speaks in it, or which type of records it is of that
-- isn't read. A record is judged as where it is heard.
use Rattle.std.specs.Prelude.{ℕ, Bool, false, List, Option, Some, None, ◌+◌, ◌-◌, ◌*◌, ◌==◌, ◌&&◌, ◌++◌, drop, not}
use Rattle.byteorder.specs.Endian.{big_number}
use Rattle.fs_base.specs.declared.{config.{Address.{Address}, Config.{Config}, Peer.{Peer}}}
use Rattle.fs_input.specs.{Coming.{part_in, told_to_come}, Records.{End}, Scan.{Scanner, and, field, gives, skips}, declared.fault.Ended.{Ended}}
use Rattle.fs_mrt.specs.{Peers.{is_same, number_at}, Record.{ends_size, front_in, head_of, heard_in}, Shape.{address_of, address_size}}
use Rattle.fs_mrt.specs.declared.fault.DumpReason.{DumpReason, TheVariants.{Cut}}
use Rattle.fs_mrt.specs.declared.notes.{Note.{Note, TheVariants.{Skipped, Spoke}}, Notes.{Notes}}
use Rattle.fs_mrt.specs.declared.{«record».{Front.{Front}, Head.{Head}}, shape.Shape.{Shape as RecordShape}}

-- a message, or a change of state, of a peer of this address and AS, which may be configured
abbrev pub spoke : RecordShape → Front → Address → Option ℕ → Note
spoke shape front address number = Spoke address front.asn number (not shape.change)

-- what stands behind the addresses, judged as where it is heard
abbrev pub note_behind : List Peer → (size : ℕ) → RecordShape → Front → Address → Scanner (Option Note) DumpReason
note_behind peers size shape front address =
    and (heard_in 0 size shape (number_at address peers)) (λ _. gives (Some (spoke shape front address (number_at address peers))))

abbrev pub note_ends : List Peer → (size : ℕ) → RecordShape → Front → Scanner (Option Note) DumpReason
note_ends peers size shape front =
    and (field (2 * address_size front.family) (address_of front.family))
    (note_behind peers (size - ends_size shape front.family) shape front)

abbrev pub note_body : List Peer → (kind subtype : ℕ) → Head → Option RecordShape → Scanner (Option Note) DumpReason
note_body peers kind subtype head None = and (skips head.size) (λ _. gives (Some (Skipped kind subtype)))
note_body peers kind subtype head (Some shape) =
    and (front_in head.spot head.seconds head.size shape) (note_ends peers head.size shape)

abbrev pub note_headed : List Peer → (kind subtype : ℕ) → Notes → Head → Scanner (Option Note × Notes) DumpReason
note_headed peers kind subtype now head =
    and (note_body peers kind subtype head head.shape) (λ note. gives (note, now))

abbrev pub note_record : List Peer → Notes → (start : ℕ) → List ℕ → Scanner (Option Note × Notes) DumpReason
note_record peers now start octets =
    note_headed peers (big_number 2 (drop 4 octets)) (big_number 2 (drop 6 octets)) now (head_of (start + 8) octets)

-- of one address and AS, or of one type and subtype
abbrev pub same_note : Note → Note → Bool
same_note (Skipped kind subtype) (Skipped other lower) = (kind == other) && (subtype == lower)
same_note (Spoke address asn number is_message) (Spoke other as' number' is_message') = is_same address other && (asn == as')
same_note (Skipped kind subtype) (Spoke address asn number is_message) = false
same_note (Spoke address asn number is_message) (Skipped kind subtype) = false

-- what is noted of the records behind so many octets, and how the dump ends
abbrev pub notes_to_come : List Peer → (limit taken : ℕ) → Notes → List ℕ → List Note × End DumpReason
notes_to_come peers limit taken now left = told_to_come (part_in 12 (note_record peers)) Cut limit taken now left

-- What is noted of the records of a dump of this content, and how it ends. Only its first `limit` octets are judged.
abbrev pub notes_of : Config → ℕ → List ℕ → List Note × End DumpReason
notes_of config limit content = notes_to_come config.peers limit 0 (record {}) content

-- What a dump shows: its slot and limit, how many octets of it were taken, those that were put back, and how it ended,
-- where it did.
pub record NotedState : Type 0 where
  pub slot : ℕ
  pub limit : ℕ
  pub place : ℕ
  pub back : List ℕ
  pub end : Option (Ended DumpReason)
  pub notes : Notes

-- what is still to be noted of what its slot has left, behind what was put back
abbrev pub notes_coming : Config → NotedState → List ℕ → List Note × End DumpReason
notes_coming config dump left = notes_to_come config.peers dump.limit dump.place dump.notes (dump.back ++ left)

-- a dump of this slot and limit of which nothing was read yet, and these octets were put back
abbrev pub noted_none : (slot limit : ℕ) (back : List ℕ) → NotedState
noted_none slot limit back = record { slot = slot; limit = limit; place = 0; back = back; end = None; notes = record {} }
