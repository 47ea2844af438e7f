-- A tape is done exactly where it is the text of its items in one of the versions, and moments don't fall.
use Rattle.std.specs.{Prelude.{ℕ, List, [], ◌∷◌, ◌++◌, IsSome, ◌≡◌, ◌↔◌, ◌⊎◌, ◌<◌, ◌≤◌, ◌^◌, length, flat_map}, List.{AllByRecursion}}
use Rattle.byteorder.specs.Endian.{big_bytes}
use Rattle.fs_base.specs.{Language.{IsOctets}, Config.{peer_of}, declared.config.Config.{Config}}
use Rattle.fs_input.specs.{Parts.{AllFrom}, Records.{End, bad, done}}
use Rattle.fs_tape.specs.{Header.{IsTimed, Stands, longest_payload}, Magic.{magic_of}}
use Rattle.fs_tape.specs.Tape.{Item, Timed, came_up, items_to_come, received, stands, tape_of, was_lost}
use Rattle.fs_tape.specs.declared.{fault.TapeReason.{TapeReason, TheVariants.{Cut}}, magic.Version.{Version, TheVariants.{One, Two}}}

abbrev pub moment_text : Version → ℕ → List ℕ
moment_text One moment = []
moment_text Two moment = big_bytes 8 moment

abbrev pub record_text : Version → (kind peer moment : ℕ) → List ℕ → List ℕ
record_text version kind peer moment payload =
    kind ∷ (big_bytes 2 peer ++ (moment_text version moment ++ (big_bytes 4 (length payload) ++ payload)))

abbrev pub item_text_at : Version → (moment : ℕ) → Item → List ℕ
item_text_at version moment (came_up peer) = record_text version 1 peer moment []
item_text_at version moment (received peer payload) = record_text version 2 peer moment payload
item_text_at version moment (was_lost peer) = record_text version 3 peer moment []

abbrev pub item_text : Version → Timed → List ℕ
item_text version timed = item_text_at version timed.moment timed.item

abbrev pub tape_text : Version → List Timed → List ℕ
tape_text version items = magic_of version ++ flat_map (item_text version) items

abbrev pub IsNumbered : Config → ℕ → Type 0
IsNumbered config peer = (peer < 65536) × IsSome (peer_of peer config.peers)

-- the peer is configured, and the payload isn't too long
abbrev pub IsWritable : Config → Item → Type 0
IsWritable config (came_up peer) = IsNumbered config peer
IsWritable config (received peer payload) = IsNumbered config peer × (length payload ≤ longest_payload)
IsWritable config (was_lost peer) = IsNumbered config peer

-- an item can be written where a tape stands: behind an item of this moment, in this version
pub record Fits (now : Stands) (timed : Timed) : Type 0 where
  pub writable : IsWritable now.config timed.item
  pub room : timed.moment < 2 ^ 64
  pub is_timed : IsTimed now.version now.moment timed.moment

-- where a tape stands behind an item
abbrev pub after : Stands → Timed → Stands
after now timed = stands now.config now.version timed.moment

-- The content is the text of these items in this version, each of which can be written behind those before it, and lies
-- below the limit.
pub record IsTapeOf (config : Config) (limit : ℕ) (version : Version) (content : List ℕ) (items : List Timed) : Type 0 where
  pub spelled : content ≡ tape_text version items
  pub fit : AllFrom Fits after (stands config version 0) items
  pub below : length content < limit

abbrev pub ReadsBack : Type 0
ReadsBack =
    (config : Config) (limit : ℕ) (content : List ℕ) (items : List Timed) → IsOctets content
    → (tape_of config limit content ≡ (items, done)) ↔ ((version : Version) × IsTapeOf config limit version content items)

-- no item that is to come has a moment below this one
abbrev pub AreFrom : ℕ → List Timed → Type 0
AreFrom least items = AllByRecursion (λ (timed : Timed). least ≤ timed.moment) items

abbrev pub MomentsRise : Type 0
MomentsRise =
    (config : Config) (limit taken moment : ℕ) (left : List ℕ) → AreFrom moment (items_to_come config Two limit taken moment left).0

-- Of a front of so many octets these are the first items, and it is done behind them, or cut where it ends.
pub record IsFrontOf (items : List Timed) (size : ℕ) (told : List Timed × End TapeReason) : Type 0 where
  pub later : List Timed
  pub items_are : items ≡ told.0 ++ later
  pub end_is : (told.1 ≡ done) ⊎ (told.1 ≡ bad Cut size)

abbrev pub FrontReads : Type 0
FrontReads =
    (config : Config) (limit : ℕ) (content front rest : List ℕ) (items : List Timed) → IsOctets content
    → tape_of config limit content ≡ (items, done) → front ++ rest ≡ content
    → IsFrontOf items (length front) (tape_of config limit front)
