-- The head of a record: its kind (one octet: 1 a peer came up, 2 it sent octets, 3 it was lost), the peer's number (two
-- octets), in the second version the moment (eight octets, nanoseconds since the start of 1970), and the payload's
-- length (four octets), big-endian. Each field is judged as soon as it stands whole.
use Rattle.std.specs.Prelude.{ℕ, List, [], ◌∷◌, Option, Some, None, IsSome, Bool, ◌≡◌, ◌≤◌, ◌==◌, length, drop, nat_le, nat_lt, if◌then◌else◌, is_none}
use Rattle.byteorder.specs.Endian.{big_number}
use Rattle.fs_base.specs.{Config.{peer_of}, declared.config.Config.{Config}}
use Rattle.fs_input.specs.declared.head.Head.{Head, TheVariants.{Whole, Wrong, Partial}}
use Rattle.fs_tape.specs.declared.fault.TapeReason.{TapeReason, TheVariants.{Kind, Peer, Length, Moment}}
use Rattle.fs_tape.specs.declared.header.Said.{Said}
use Rattle.fs_tape.specs.declared.item.Kind.{Kind as RecordKind, TheVariants.{Up, Received, Lost}}
use Rattle.fs_tape.specs.declared.magic.Version.{Version, TheVariants.{One, Two}}

abbrev pub kind_of : ℕ → Option RecordKind
kind_of octet =
    if octet == 1 then Some Up
    else if octet == 2 then Some Received
    else if octet == 3 then Some Lost
    else None

-- the octets of the longest payload
abbrev pub longest_payload : ℕ
longest_payload = 65536

-- only octets received have a payload
abbrev pub allows : RecordKind → ℕ → Bool
allows Up size = size == 0
allows Received size = nat_le size longest_payload
allows Lost size = size == 0

abbrev pub head_size : Version → ℕ
head_size One = 7
head_size Two = 15

abbrev pub size_field : (place : ℕ) → RecordKind → (peer moment : ℕ) → List ℕ → Head Said TapeReason
size_field place kind peer moment octets =
    if nat_lt (length octets) 4 then Partial
    else if allows kind (big_number 4 octets)
    then Whole (record { kind = kind; peer = peer; moment = moment }) (big_number 4 octets)
    else Wrong Length place

-- a moment isn't below that of the record before it
abbrev pub moment_field : (last : ℕ) → RecordKind → (peer : ℕ) → List ℕ → Head Said TapeReason
moment_field last kind peer octets =
    if nat_lt (length octets) 8 then Partial
    else if nat_lt (big_number 8 octets) last then Wrong Moment 3
    else size_field 11 kind peer (big_number 8 octets) (drop 8 octets)

-- in the first version each moment is 0
abbrev pub behind_peer : Version → (last : ℕ) → RecordKind → (peer : ℕ) → List ℕ → Head Said TapeReason
behind_peer One last kind peer octets = size_field 3 kind peer 0 octets
behind_peer Two last kind peer octets = moment_field last kind peer octets

abbrev pub peer_field : Config → Version → (last : ℕ) → RecordKind → List ℕ → Head Said TapeReason
peer_field config version last kind octets =
    if nat_lt (length octets) 2 then Partial
    else if is_none (peer_of (big_number 2 octets) config.peers) then Wrong Peer 1
    else behind_peer version last kind (big_number 2 octets) (drop 2 octets)

-- what a head says behind a record of the moment `last`
abbrev pub head_from : Config → Version → (last : ℕ) → List ℕ → Head Said TapeReason
head_from config version last [] = Partial
head_from config version last (octet ∷ octets) =
    elim (kind_of octet) [ None ↦ Wrong Kind 0 | Some kind ↦ peer_field config version last kind octets ]

-- what the reading of a head depends on: the configuration, the version, and the moment of the record before
pub record Stands : Type 0 where
  pub config : Config
  pub version : Version
  pub moment : ℕ

-- a moment may stand behind the one before it
abbrev pub IsTimed : Version → (last moment : ℕ) → Type 0
IsTimed One last moment = moment ≡ 0
IsTimed Two last moment = last ≤ moment

-- a head is of a configured peer, and its moment may stand behind the one before it
abbrev pub IsSaid : Stands → Said → Type 0
IsSaid now said = IsSome (peer_of said.peer now.config.peers) × IsTimed now.version now.moment said.moment
