-- An MRT dump: records, one behind the other. Those of configured peers are heard.
use Rattle.std.specs.Prelude.{ℕ, List, Option, Some, None, Result, Ok, Err, ◌≡◌, ◌≤◌, ◌++◌, take, ⊤}
use Rattle.fs_base.specs.declared.config.{Config.{Config}, Peer.{Peer}}
use Rattle.fs_input.specs.{NextRecord.{Grows as GrowsBy}, Records.{End}, declared.fault.{Ended.{Ended}, Fault.{Fault}}, Coming.{told_to_come}}
use Rattle.fs_mrt.specs.Record.{Said, Spoken, change, message, record_in, spoken}
use Rattle.fs_mrt.specs.declared.{fault.DumpReason.{DumpReason, TheVariants.{Cut}}, heard.{Heard.{Heard}, What.{What, TheVariants.{Message, Change}}}}

-- what is still to be heard behind so many octets and a record of this moment, and how the dump ends
abbrev pub heard_to_come : List Peer → (limit taken moment : ℕ) → List ℕ → List Spoken × End DumpReason
heard_to_come peers limit taken moment left = told_to_come (record_in peers) Cut limit taken moment left

-- What is heard in a dump of this content, and how it ends. Only its first `limit` octets are judged.
abbrev pub dump_of : Config → ℕ → List ℕ → List Spoken × End DumpReason
dump_of config limit content = heard_to_come config.peers limit 0 0 content

-- What a dump shows: its slot and limit, how many octets of it were taken, those that were put back, how it ended, where
-- it did, and the moment of the last record of a configured peer, 0 before the first.
pub record DumpState : Type 0 where
  pub slot : ℕ
  pub limit : ℕ
  pub place : ℕ
  pub back : List ℕ
  pub end : Option (Ended DumpReason)
  pub moment : ℕ

-- what is still to be heard of what its slot has left, behind what was put back
abbrev pub coming : Config → DumpState → List ℕ → List Spoken × End DumpReason
coming config dump left = heard_to_come config.peers dump.limit dump.place dump.moment (dump.back ++ left)

-- a dump of this slot and limit of which nothing was read yet, and these octets were put back
pub record IsBegun (slot limit : ℕ) (back : List ℕ) (dump : DumpState) : Type 0 where
  pub slot_is : dump.slot ≡ slot
  pub limit_is : dump.limit ≡ limit
  pub place_is : dump.place ≡ 0
  pub back_is : dump.back ≡ back
  pub open_is : dump.end ≡ None
  pub moment_is : dump.moment ≡ 0

-- what was heard, as the answer tells it; a message stands at the front of the buffer
abbrev pub said_from : What → List ℕ → Said
said_from (Message count) into = message (take count into)
said_from (Change old new) into = change old new

abbrev pub spoken_from : Heard → List ℕ → Spoken
spoken_from heard into = spoken heard.peer heard.moment heard.wide (said_from heard.what into)

-- a message's octets fit the buffer
abbrev pub IsWithin : What → Type 0
IsWithin (Message count) = count ≤ 65536
IsWithin (Change old new) = ⊤

-- A record that is heard raises the place, up to the limit at most. Its message isn't too long.
abbrev pub Grows : (old new limit : ℕ) → Result (Option Heard) (Fault DumpReason) → Type 0
Grows old new limit result = GrowsBy (λ (heard : Heard). IsWithin heard.what) old new limit result

-- the moment of what was heard becomes the dump's; where nothing was, the last one's stays
abbrev pub Times : (old new : ℕ) → Result (Option Heard) (Fault DumpReason) → Type 0
Times old new (Ok (Some heard)) = (new ≡ heard.moment) × (old ≤ new)
Times old new (Ok None) = new ≡ old
Times old new (Err fault) = new ≡ old

-- The moment of what was heard becomes the dump's; it doesn't lie before the last one. A message isn't too long.
abbrev pub Moves : (old new : ℕ) → Option Heard → Type 0
Moves old new None = new ≡ old
Moves old new (Some heard) = (new ≡ heard.moment) × (old ≤ new) × IsWithin heard.what
