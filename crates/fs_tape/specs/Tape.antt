-- A tape, in this project's own format: eight octets of magic, which tell the version, and then records. A record has a
-- head and the payload whose length the head tells. In the second version each has a moment, and moments don't fall.
use Rattle.std.specs.Prelude.{ℕ, List, [], Option, Some, None, IsSome, Result, Ok, Err, ◌≡◌, ◌≤◌, take, drop}
use Rattle.fs_base.specs.{Config.{peer_of}, declared.config.Config.{Config}}
use Rattle.fs_input.specs.{Opening.{opening}, Records.{End, Format, records_to_come}, declared.fault.{Ended.{Ended}, Fault.{Fault}}}
use Rattle.fs_tape.specs.{Header.{IsTimed, Stands, head_from, head_size, longest_payload}, Magic.{magic_field}}
use Rattle.fs_tape.specs.declared.{fault.TapeReason.{TapeReason, TheVariants.{Cut}}, header.Said.{Said}}
use Rattle.fs_tape.specs.declared.item.Kind.TheVariants.{Up, Received, Lost}
use Rattle.fs_tape.specs.declared.item.TapeItem.{TapeItem, TheVariants.{Up as UpItem, Octets, Lost as LostItem}}
use Rattle.fs_tape.specs.declared.magic.Version.{Version}

-- what a record says
pub data Item : Type 0 where
  came_up : ℕ → Item
  received : ℕ → List ℕ → Item
  was_lost : ℕ → Item

-- an item and its moment, in nanoseconds since the start of 1970; on a tape of the first version it is 0
pub record Timed : Type 0 where
  pub moment : ℕ
  pub item : Item

abbrev pub timed : ℕ → Item → Timed
timed moment item = record { moment = moment; item = item }

abbrev pub item_of : Said → List ℕ → Item
item_of said payload =
    elim said.kind [ Up ↦ came_up said.peer | Received ↦ received said.peer payload | Lost ↦ was_lost said.peer ]

abbrev pub stands : Config → Version → ℕ → Stands
stands config version moment = record { config = config; version = version; moment = moment }

abbrev pub records : Format Stands Said Timed TapeReason
records = record {
  head_size = λ now. head_size now.version;
  head_of = λ now. head_from now.config now.version now.moment;
  item_of = λ said payload. timed said.moment (item_of said payload);
  behind = λ now said. stands now.config now.version said.moment;
  cut = Cut;
}

-- the version of a tape of this content, or what ends it before its records
abbrev pub version_of : ℕ → List ℕ → Result Version (End TapeReason)
version_of limit content = opening 8 magic_field Cut limit content

-- the items that are still to come behind so many octets and an item of this moment, and how the tape ends
abbrev pub items_to_come : Config → Version → (limit taken moment : ℕ) → List ℕ → List Timed × End TapeReason
items_to_come config version limit taken moment left = records_to_come records limit taken (stands config version moment) left

-- The items of a tape of this content, and how it ends. Only its first `limit` octets are judged.
abbrev pub tape_of : Config → ℕ → List ℕ → List Timed × End TapeReason
tape_of config limit content =
    elim (version_of limit content) [
      | Ok version ↦ items_to_come config version limit 8 0 (drop 8 content)
      | Err end ↦ ([], end)
    ]

-- an item is of a configured peer, and its payload fits the buffer
abbrev pub IsItem : Config → TapeItem → Type 0
IsItem config (UpItem peer) = IsSome (peer_of peer config.peers)
IsItem config (Octets peer count) = IsSome (peer_of peer config.peers) × (count ≤ longest_payload)
IsItem config (LostItem peer) = IsSome (peer_of peer config.peers)

-- What a tape shows: its slot and limit, how many octets of it were taken, how it ended, where it did, its version, and
-- the moment of its last item, 0 before the first.
pub record TapeState : Type 0 where
  pub slot : ℕ
  pub limit : ℕ
  pub place : ℕ
  pub end : Option (Ended TapeReason)
  pub version : Version
  pub moment : ℕ

-- a tape of this slot and limit stands behind its magic, and hasn't ended
pub record IsBegun (slot limit : ℕ) (tape : TapeState) : Type 0 where
  pub slot_is : tape.slot ≡ slot
  pub limit_is : tape.limit ≡ limit
  pub place_is : tape.place ≡ 8
  pub open_is : tape.end ≡ None
  pub moment_is : tape.moment ≡ 0

-- the items that a tape which hasn't ended is still to give, of what its slot has left, and how it will end
abbrev pub coming : Config → TapeState → List ℕ → List Timed × End TapeReason
coming config tape left = items_to_come config tape.version tape.limit tape.place tape.moment left

-- an item as its record tells it; its payload stands at the front of the buffer
abbrev pub item_from : TapeItem → List ℕ → Item
item_from (UpItem peer) into = came_up peer
item_from (Octets peer count) into = received peer (take count into)
item_from (LostItem peer) into = was_lost peer

-- an item is what a head and the payload behind it say, whatever stands in the buffer
abbrev pub Tells : Said → (size : ℕ) → TapeItem → Type 0
Tells said size item = (into : List ℕ) → item_from item into ≡ item_of said (take size into)

-- An item's moment may stand behind the one before it. Where no item is given the last one's stays.
abbrev pub Times : Version → (old new : ℕ) → Result (Option TapeItem) (Fault TapeReason) → Type 0
Times version old new (Ok (Some item)) = IsTimed version old new
Times version old new (Ok None) = new ≡ old
Times version old new (Err fault) = new ≡ old
