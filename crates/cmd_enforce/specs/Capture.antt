-- A capture of either format: of the pcapng format where its first four octets are the type of a section header, and of
-- the libpcap format else.
use Rattle.std.specs.Prelude.{ℕ, List, [], Option, Some, None, Bool, Result, Ok, Err, IfOk, ◌≡◌, ◌≤◌, ◌<◌, ◌^◌, ◌==◌, ◌&&◌, if◌then◌else◌, length}
use Rattle.std.specs.Prelude.{map, take, ⊤}
use Rattle.std.specs.Result.{IsErrOf}
use Rattle.byteorder.specs.Endian.{big_number}
use Rattle.fs_base.specs.{Files.{OnlySlot}, Outside.{Rose}, Parts.{window, with_part}}
use Rattle.fs_base.specs.declared.Files as files
use Rattle.fs_base.specs.declared.{counted.Counted.{Counted}, link.Link.{Link}}
use Rattle.fs_pcap.specs.Capture.{Captured as Record, Recorded as Records, capture_of as pcap_of, packets_to_come as records_to_come}
use Rattle.fs_pcap.specs.{Head.{longest_record}, declared.header.Heading.{Heading}}
use Rattle.fs_pcapng.specs.{Block.{Packet as Block, Stands, section_header}, Pcapng.{packets_to_come as blocks_to_come, pcapng_of}}
use Rattle.fs_pcapng.specs.declared.fault.NgReason.{NgReason}
use Rattle.fs_input.specs.{NextRecord.{GivesNext, Grows as GrowsBy}, Opening.{Begins}, Records.{End}}
use Rattle.fs_input.specs.declared.fault.{Ended.{Ended}, Fault.{Fault, TheVariants.{Read}}}
use Rattle.cmd_enforce.specs.{Answer.{end_as}, declared.{caught.Caught.{Caught}, fault.CaptureReason.{CaptureReason, TheVariants.{Pcap, Pcapng}}}}

-- A captured packet: the link type of its capture or interface, where it is one of the six that are read; its time, in
-- nanoseconds since the start of 1970; its moment, the greatest time of the packets up to and with it; and its captured
-- octets.
pub record Captured : Type 0 where
  pub link : Option Link
  pub time : ℕ
  pub moment : ℕ
  pub octets : List ℕ

abbrev pub of_record : Option Link → Record → Captured
of_record link found = record { link = link; time = found.time; moment = found.moment; octets = found.octets }

abbrev pub of_block : Block → Captured
of_block found = record { link = found.link; time = found.time; moment = found.moment; octets = found.octets }

-- the packets of a capture of the libpcap format, which are all of its link type, and how it ends
abbrev pub of_records : Records → List Captured × End CaptureReason
of_records found = (map (of_record found.link) found.packets, end_as Pcap found.end)

-- the packets of a capture of the pcapng format, and how it ends
abbrev pub of_blocks : List Block × End NgReason → List Captured × End CaptureReason
of_blocks found = (map of_block found.0, end_as Pcapng found.1)

-- four octets that are the type of a section header
abbrev pub is_section : List ℕ → Bool
is_section front = (length front == 4) && (big_number 4 front == section_header)

-- the packets of this content, where a section header begins it and where none does
abbrev pub captured_by : Bool → ℕ → List ℕ → List Captured × End CaptureReason
captured_by section limit content = if section then of_blocks (pcapng_of limit content) else of_records (pcap_of limit content)

-- The packets of a capture of this content, and how it ends. Only its first `limit` octets are judged.
abbrev pub captured_in : ℕ → List ℕ → List Captured × End CaptureReason
captured_in limit content = captured_by (is_section (take 4 (window limit 0 content))) limit content

-- the link type of a capture of the libpcap format, where its header has no fault
abbrev pub link_by : Bool → ℕ → List ℕ → Option Link
link_by section limit content = if section then None else (pcap_of limit content).link

abbrev pub link_in : ℕ → List ℕ → Option Link
link_in limit content = link_by (is_section (take 4 (window limit 0 content))) limit content

-- a capture: its packets, and how it ends
pub record Recorded : Type 0 where
  pub packets : List Captured
  pub end : End CaptureReason

abbrev pub recorded : List Captured × End CaptureReason → Recorded
recorded found = record { packets = found.0; end = found.1 }

-- the capture of this content
abbrev pub capture_of : ℕ → List ℕ → Recorded
capture_of limit content = recorded (captured_in limit content)

-- what the packets to come depend on: what the header says, or where the blocks stand
pub data Context : Type 0 where
  records : Heading → Context
  blocks : Stands → Context

-- the link type of a capture of the libpcap format
abbrev pub own_link : Context → Option Link
own_link (records heading) = Some heading.link
own_link (blocks now) = None

-- What a capture shows: its slot and limit, how many octets of it were taken, how it ended, where it did, the moment of
-- its last packet, 0 before the first, and where it stands.
pub record CaptureState : Type 0 where
  pub slot : ℕ
  pub limit : ℕ
  pub place : ℕ
  pub end : Option (Ended CaptureReason)
  pub moment : ℕ
  pub context : Context

-- it stands open in the slot of captures, and its packets are read into this buffer
pub record IsRead (capture : CaptureState) (buffer : List ℕ) : Type 0 where
  pub room : longest_record ≤ length buffer
  pub slot : capture.slot ≡ 2
  pub unended : capture.end ≡ None
  pub within : capture.place ≤ capture.limit
  pub fits : capture.limit < 2 ^ 64

abbrev pub coming_by : (limit place moment : ℕ) → Context → List ℕ → List Captured × End CaptureReason
coming_by limit place moment (records heading) left =
    let found = records_to_come heading limit place moment left in
    (map (of_record (Some heading.link)) found.0, end_as Pcap found.1)
coming_by limit place moment (blocks now) left = of_blocks (blocks_to_come limit place now left)

-- the packets that a capture which hasn't ended is still to give, of what its slot has left, and how it will end
abbrev pub coming : CaptureState → List ℕ → List Captured × End CaptureReason
coming capture left = coming_by capture.limit capture.place capture.moment capture.context left

-- a packet as the answer tells it; its octets stand at the front of the buffer
abbrev pub packet_from : Caught → List ℕ → Captured
packet_from caught into =
    record { link = caught.link; time = caught.time; moment = caught.moment; octets = take caught.taken into }

-- A packet raises the place, up to the limit at most. It isn't too long.
abbrev pub Grows : (old new limit : ℕ) → Result (Option Caught) (Fault CaptureReason) → Type 0
Grows old new limit result = GrowsBy (λ (caught : Caught). caught.taken ≤ longest_record) old new limit result

-- a packet's moment becomes the capture's, and doesn't fall
abbrev pub Times : (old new : ℕ) → Result (Option Caught) (Fault CaptureReason) → Type 0
Times old new (Ok (Some caught)) = (new ≡ caught.moment) × (old ≤ new)
Times old new (Ok None) = ⊤
Times old new (Err fault) = ⊤

-- a capture is begun behind the octets that were counted in a slot
pub record BeginsSo {F : Type 0} (of_files : files.Ghosts F) (old new : F) (counted : Counted) (result : Result CaptureState (Fault CaptureReason)) :
    Type 0 where
  pub later : of_files.faults old ≤ of_files.faults new
  pub read : IsErrOf result Read → Rose (of_files.faults old) (of_files.faults new)
  pub slot : IfOk result (λ capture. capture.slot ≡ counted.slot)
  pub limit : IfOk result (λ capture. capture.limit ≡ counted.limit)
  pub end : IfOk result (λ capture. capture.end ≡ None)
  pub moment : IfOk result (λ capture. capture.moment ≡ 0)
  pub within : IfOk result (λ capture. capture.place ≤ capture.limit)
  pub opened : of_files.opened new ≡ of_files.opened old
  pub others : OnlySlot of_files.tells of_files.left of_files.holds counted.slot old new

-- A capture of this link type is still to give all packets. A fault is what ends it before them.
pub record BeginsAs (link : Option Link) (all : List Captured × End CaptureReason) (left : List ℕ)
    (result : Result CaptureState (Fault CaptureReason)) : Type 0 where
  pub begins : Begins all (λ capture. coming capture left) result
  pub link_is : IfOk result (λ capture. own_link capture.context ≡ link)

-- the next packet is given, of which the octets stand at the front of the buffer
abbrev pub GivesPacket : {F : Type 0} → files.Ghosts F → (old new : F) → (before now : CaptureState) → List ℕ
    → Result (Option Caught) (Fault CaptureReason) → Type 0
GivesPacket of_files old new before now into result =
    GivesNext of_files old new before.slot now.slot before.limit now.limit before.end now.end (now ≡ before)
    (coming before (of_files.left old before.slot))
    (λ caught. with_part (packet_from caught into) (coming now (of_files.left new before.slot))) result
