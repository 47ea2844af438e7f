-- A capture of the libpcap file format, version 2.4: a header, and records. A record has a head and the captured
-- octets.
use Rattle.std.specs.Prelude.{ℕ, List, [], Option, Some, None, Result, Ok, Err, ◌≡◌, ◌≤◌, take, drop}
use Rattle.fs_input.specs.{NextRecord.{Grows as GrowsBy}, Opening.{opening}, Records.{End, Format, records_to_come}}
use Rattle.fs_input.specs.declared.fault.{Ended.{Ended}, Fault.{Fault}}
use Rattle.fs_pcap.specs.{Head.{head_of, longest_record}, Header.{header_of}}
use Rattle.fs_pcap.specs.declared.{capture.Caught.{Caught}, fault.CaptureReason.{CaptureReason, TheVariants.{Cut}}, head.Context.{Context}}
use Rattle.fs_pcap.specs.declared.header.Heading.{Heading}
use Rattle.fs_base.specs.declared.link.Link.{Link}

-- A captured packet. Its time is in nanoseconds since the start of 1970, and its moment is the greatest time of the
-- records up to and with its own.
pub record Captured : Type 0 where
  pub seconds : ℕ
  pub fraction : ℕ
  pub original : ℕ
  pub time : ℕ
  pub moment : ℕ
  pub octets : List ℕ

abbrev pub packet_of : Caught → List ℕ → Captured
packet_of caught octets = record {
  seconds = caught.seconds;
  fraction = caught.fraction;
  original = caught.original;
  time = caught.time;
  moment = caught.moment;
  octets = octets;
}

abbrev pub records : Format Context Caught Captured CaptureReason
records = record {
  head_size = λ now. 16;
  head_of = head_of;
  item_of = packet_of;
  behind = λ now said. record { order = now.order; unit = now.unit; moment = said.moment };
  cut = Cut;
}

-- the packets that are still to come behind so many octets and a record of this moment, and how the capture ends
abbrev pub packets_to_come : Heading → (limit taken moment : ℕ) → List ℕ → List Captured × End CaptureReason
packets_to_come heading limit taken moment left =
    records_to_come records limit taken (record { order = heading.order; unit = heading.unit; moment = moment }) left

-- what the header of a capture of this content says, or what ends it before its records
abbrev pub heading_of : ℕ → List ℕ → Result Heading (End CaptureReason)
heading_of limit content = opening 24 header_of Cut limit content

-- a capture: its link type, where its header has no fault; its packets; and how it ends
pub record Recorded : Type 0 where
  pub link : Option Link
  pub packets : List Captured
  pub end : End CaptureReason

abbrev pub recorded : Link → List Captured × End CaptureReason → Recorded
recorded link found = record { link = Some link; packets = found.0; end = found.1 }

-- The capture of this content. Only its first `limit` octets are judged.
abbrev pub capture_of : ℕ → List ℕ → Recorded
capture_of limit content =
    elim (heading_of limit content) [
      | Ok heading ↦ recorded heading.link (packets_to_come heading limit 24 0 (drop 24 content))
      | Err end ↦ record { link = None; packets = []; end = end }
    ]

-- What a capture shows: its slot and limit, how many octets of it were taken, how it ended, where it did, what its
-- header says, and the moment of its last record, 0 before the first.
pub record CaptureState : Type 0 where
  pub slot : ℕ
  pub limit : ℕ
  pub place : ℕ
  pub end : Option (Ended CaptureReason)
  pub heading : Heading
  pub moment : ℕ

-- the packets that a capture which hasn't ended is still to give, of what its slot has left, and how it will end
abbrev pub coming : CaptureState → List ℕ → List Captured × End CaptureReason
coming capture left = packets_to_come capture.heading capture.limit capture.place capture.moment left

-- a packet as its record tells it; its octets stand at the front of the buffer
abbrev pub packet_from : Caught → List ℕ → Captured
packet_from caught into = packet_of caught (take caught.taken into)

-- A record raises the place, up to the limit at most. Its octets are those that were captured, and none too many.
abbrev pub Grows : (old new limit : ℕ) → Result (Option Caught) (Fault CaptureReason) → Type 0
Grows old new limit result = GrowsBy (λ (caught : Caught). caught.taken ≤ longest_record) old new limit result

-- a record's moment becomes the capture's; where none is given the last one's stays
abbrev pub Times : (old new : ℕ) → Result (Option Caught) (Fault CaptureReason) → Type 0
Times old new (Ok (Some caught)) = (new ≡ caught.moment) × (old ≤ new)
Times old new (Ok None) = new ≡ old
Times old new (Err fault) = new ≡ old
