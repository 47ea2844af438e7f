-- A pcapng capture: blocks, the first of which is a section header. Those with packets give them (the pcapng draft's
-- sections 'Block Types' and 'Logical Block Hierarchy').
use Rattle.std.specs.Prelude.{ℕ, List, [], Option, Some, None, Result, ◌≡◌, ◌≤◌, ◌==◌, ◌&&◌, not, if◌then◌else◌, length, take}
use Rattle.fs_base.specs.{Parts.{at_limit, window}, declared.link.Link.{Link}}
use Rattle.fs_pcap.specs.Head.{longest_record}
use Rattle.fs_input.specs.{NextRecord.{Grows as GrowsBy}, Records.{End, bad}, declared.fault.{Ended.{Ended}, Fault.{Fault}}, Coming.{told_to_come}}
use Rattle.fs_pcapng.specs.Block.{Packet, Stands, block_in}
use Rattle.fs_pcapng.specs.declared.{caught.{NgCaught.{NgCaught}, Seen.{Seen}}, fault.NgReason.{NgReason, TheVariants.{Cut}}}

-- the packets that are still to come, where a capture stands so and so many octets of it were taken, and how it ends
abbrev pub packets_to_come : (limit taken : ℕ) → Stands → List ℕ → List Packet × End NgReason
packets_to_come limit taken now left = told_to_come block_in Cut limit taken now left

-- before the first section header
abbrev pub nothing : Stands
nothing = record { order = None; interfaces = []; moment = 0 }

-- The packets of a capture of this content, and how it ends. Only its first `limit` octets are judged. No octets at all
-- are no capture.
abbrev pub pcapng_of : ℕ → List ℕ → List Packet × End NgReason
pcapng_of limit content =
    if (length (window limit 0 content) == 0) && not (at_limit limit 0 content)
    then ([], bad Cut 0)
    else packets_to_come limit 0 nothing content

-- What a capture shows: its slot and limit, how many octets of it were taken, how it ended, where it did, where it
-- stands, and the link type of its last packet, where it is known.
pub record NgState : Type 0 where
  pub slot : ℕ
  pub limit : ℕ
  pub place : ℕ
  pub end : Option (Ended NgReason)
  pub context : Stands
  pub link : Option Link

-- the packets that a capture which hasn't ended is still to give, of what its slot has left, and how it will end
abbrev pub coming : NgState → List ℕ → List Packet × End NgReason
coming capture left = packets_to_come capture.limit capture.place capture.context left

-- a packet as the answer tells it; its octets stand at the front of the buffer
abbrev pub packet_from : Option Link → NgCaught → List ℕ → Packet
packet_from link caught into = record {
  time = caught.time;
  moment = caught.moment;
  link = link;
  original = caught.original;
  octets = take caught.taken into;
}

-- A packet raises the place, up to the limit at most. It isn't too long.
abbrev pub Grows : (old new limit : ℕ) → Result (Option NgCaught) (Fault NgReason) → Type 0
Grows old new limit result = GrowsBy (λ (caught : NgCaught). caught.taken ≤ longest_record) old new limit result

abbrev pub seen_from : List ℕ → Seen → Packet
seen_from into seen = packet_from seen.link seen.caught into

-- A block never lowers the moment; a packet's is the capture's then. A packet isn't too long.
abbrev pub Moves : (old new : Stands) → Option Seen → Type 0
Moves old new None = old.moment ≤ new.moment
Moves old new (Some seen) =
    (old.moment ≤ new.moment) × (seen.caught.moment ≡ new.moment) × (seen.caught.taken ≤ longest_record)
