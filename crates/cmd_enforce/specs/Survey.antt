-- What `check` says of a capture: how many packets it has, when they were captured, and behind which link types; or its
-- fault.
use Rattle.std.specs.Prelude.{ℕ, List, [], ◌∷◌, ◌++◌, Option, Some, None, Bool, not, ◌+◌, ◌==◌, codes}
use Rattle.std.specs.Prelude.{decimal, filter, flat_map, if◌then◌else◌, length, max, nat_lt, position}
use Rattle.std.specs.Option.{unwrap_or}
use Rattle.fs_base.specs.{Link.{link_number}, declared.link.Link.{Link}}
use Rattle.fs_pcap.specs.Fault.{reason_name as pcap_reason_name}
use Rattle.fs_pcapng.specs.Fault.{reason_name as ng_reason_name}
use Rattle.fs_input.specs.Records.{End, done, limited, bad}
use Rattle.cmd_enforce.specs.Capture.{Captured, captured_in, link_in}
use Rattle.cmd_enforce.specs.declared.fault.CaptureReason.{CaptureReason, TheVariants.{Pcap, Pcapng}}
use Rattle.cmd_enforce.specs.declared.tally.LinkCount.{LinkCount}
use Rattle.cmd_stages.specs.Load.{Names}
use Rattle.cmd_stages.specs.Refusal.{Stage, Found, Stopped, Verdict, or_stop, status_of, verdict_with}
use Rattle.cmd_stages.specs.declared.refusal.Refusal.TheVariants.{Outside}

-- a capture: its link type, where it is of the libpcap format; its packets; and how it ends
pub record Surveyed : Type 0 where
  pub link : Option Link
  pub packets : List Captured
  pub end : End CaptureReason

abbrev pub surveyed : Option Link → List Captured × End CaptureReason → Surveyed
surveyed link found = record { link = link; packets = found.0; end = found.1 }

-- The capture of this content. Only its first `limit` octets are judged.
abbrev pub survey_in : ℕ → List ℕ → Surveyed
survey_in limit content = surveyed (link_in limit content) (captured_in limit content)

-- the time of the first packet
abbrev pub first_time : List Captured → Option ℕ
first_time [] = None
first_time (packet ∷ packets) = Some packet.time

-- the greatest time: the moment that `enforce` has after the last packet
abbrev pub greatest_time : List Captured → ℕ
greatest_time [] = 0
greatest_time (packet ∷ packets) = max packet.time (greatest_time packets)

-- the time of the last packet behind one of this time
abbrev pub last_time : (time : ℕ) → List Captured → ℕ
last_time time [] = time
last_time time (packet ∷ packets) = last_time packet.time packets

-- the first packet whose time lies below that of the one before it, where so many stand before, the last of this time
abbrev pub fall_behind : (time count : ℕ) → List Captured → Option ℕ
fall_behind time count [] = None
fall_behind time count (packet ∷ packets) =
    if nat_lt packet.time time then Some (count + 1) else fall_behind packet.time (count + 1) packets

-- link types that are read differ by their numbers
abbrev pub link_key : Option Link → ℕ
link_key None = 0
link_key (Some link) = link_number link

abbrev pub same_link : Option Link → Option Link → Bool
same_link one other = link_key one == link_key other

abbrev pub link_count : Option Link → ℕ → LinkCount
link_count link packets = record { link = link; packets = packets }

-- how many of the packets have this link type
abbrev pub count_of : Option Link → List Captured → ℕ
count_of link [] = 0
count_of link (packet ∷ packets) = (if same_link packet.link link then 1 else 0) + count_of link packets

abbrev pub is_other : Option Link → LinkCount → Bool
is_other link count = not (same_link count.link link)

-- the link types in the order of their first packets, and how many packets have each
abbrev pub links_of : List Captured → List LinkCount
links_of [] = []
links_of (packet ∷ packets) =
    link_count packet.link (1 + count_of packet.link packets) ∷ filter (is_other packet.link) (links_of packets)

-- what is counted of packets
pub record Tallied : Type 0 where
  pub count : ℕ
  pub first : Option ℕ
  pub greatest : ℕ
  pub last : ℕ
  pub fall : Option ℕ
  pub links : List LinkCount

abbrev pub tallied : List Captured → Tallied
tallied packets = record {
  count = length packets;
  first = first_time packets;
  greatest = greatest_time packets;
  last = last_time 0 packets;
  fall = fall_behind 0 0 packets;
  links = links_of packets;
}

-- the format, with the link type of a capture that has one
abbrev pub format_text : Option Link → List ℕ
format_text (Some link) = codes "capture pcap link " ++ decimal (link_number link)
format_text None = codes "capture pcapng"

-- the time of the first packet and the greatest one
abbrev pub moments_text : Option ℕ → (greatest : ℕ) → List ℕ
moments_text None greatest = codes "- -"
moments_text (Some first) greatest = decimal first ++ (codes " " ++ decimal greatest)

abbrev pub head_line : Option Link → Tallied → List ℕ
head_line link found =
    format_text link
    ++ (codes " packets " ++ (decimal found.count ++ (codes " moments " ++ (moments_text found.first found.greatest ++ codes "\n"))))

abbrev pub fall_line : Option ℕ → List ℕ
fall_line None = []
fall_line (Some number) = codes "capture times fall at packet " ++ (decimal number ++ codes "\n")

abbrev pub link_text : Option Link → List ℕ
link_text None = codes "-"
link_text (Some link) = decimal (link_number link)

abbrev pub link_line : LinkCount → List ℕ
link_line count = codes "link " ++ (link_text count.link ++ (codes " packets " ++ (decimal count.packets ++ codes "\n")))

-- the link types of a capture that has none of its own
abbrev pub link_lines : Option Link → List LinkCount → List ℕ
link_lines (Some link) counts = []
link_lines None counts = flat_map link_line counts

abbrev pub tally_text : Option Link → Tallied → List ℕ
tally_text link found = head_line link found ++ (fall_line found.fall ++ link_lines link found.links)

abbrev pub reason_name : CaptureReason → List ℕ
reason_name (Pcap reason) = pcap_reason_name reason
reason_name (Pcapng reason) = ng_reason_name reason

-- what is wrong with a capture, and at which octet
abbrev pub capture_fault_line : CaptureReason → ℕ → List ℕ
capture_fault_line reason place = codes "capture " ++ (reason_name reason ++ (codes " at " ++ (decimal place ++ codes "\n")))

-- the status that a capture calls for, and the text
abbrev pub survey_verdict : Surveyed → Verdict
survey_verdict found =
    elim found.end [
      | done ↦ verdict_with 0 (tally_text found.link (tallied found.packets))
      | limited ↦ verdict_with 7 []
      | bad reason place ↦ verdict_with 5 (capture_fault_line reason place)
    ]

abbrev pub content_verdict : ℕ → Stage (List ℕ) → Verdict
content_verdict limit (Found content) = survey_verdict (survey_in limit content)
content_verdict limit (Stopped refusal) = verdict_with (status_of refusal) []

-- of the file of this name
abbrev pub capture_verdict : ℕ → Names → List ℕ → Verdict
capture_verdict limit holds name = content_verdict limit (or_stop Outside (holds name))

-- one packet more of this link type, behind which counts of others stand as they are
abbrev pub has_link : Option Link → LinkCount → Bool
has_link link count = same_link count.link link

abbrev pub one_more : LinkCount → LinkCount
one_more count = link_count count.link (count.packets + 1)

abbrev pub with_packet : Option Link → List LinkCount → List LinkCount
with_packet link [] = link_count link 1 ∷ []
with_packet link (count ∷ counts) =
    if same_link count.link link then one_more count ∷ counts else count ∷ with_packet link counts

abbrev pub link_place : Option Link → List LinkCount → Option ℕ
link_place link counts = position (has_link link) counts

-- the first fall, where one packet more comes
abbrev pub fall_with : Tallied → ℕ → Option ℕ
fall_with now time =
    elim now.fall [
      | Some number ↦ Some number
      | None ↦ if nat_lt time now.last then Some (now.count + 1) else None
    ]

-- what is counted with one packet more
abbrev pub noted : Tallied → Option Link → (time : ℕ) → Tallied
noted now link time = record {
  count = now.count + 1;
  first = Some (unwrap_or now.first time);
  greatest = max now.greatest time;
  last = time;
  fall = fall_with now time;
  links = with_packet link now.links;
}

-- and with these
abbrev pub all_noted : Tallied → List Captured → Tallied
all_noted now [] = now
all_noted now (packet ∷ packets) = all_noted (noted now packet.link packet.time) packets

abbrev pub nothing_noted : Tallied
nothing_noted = record { count = 0; first = None; greatest = 0; last = 0; fall = None; links = [] }
