-- The lines of a capture's packets under the rules that are admitted, and what becomes of them.
use Rattle.std.specs.Prelude.{ℕ, ◌+◌, List, [], ◌∷◌, ◌++◌, map, Option, Some, None, Result, Ok, Err, MatchResult, ◌≡◌, ◌≢◌, ◌⊎◌}
use Rattle.fs_base.specs.{declared.{prefix.Family.{Family, TheVariants.{V4, V6}}, link.Link.{Link}}, Parts.{with_part}}
use Rattle.fs_line.specs.Line.{line_of, unread_line_of}
use Rattle.fs_packet.specs.{Fields.{Viewed, unread_number}, Reading.{view_of}, declared.fields.Unread.{Unread, TheVariants.{Foreign}}}
use Rattle.cmd_enforce.specs.{Capture.{Captured, Recorded, capture_of, packet_from}, declared.{fault.CaptureReason.{CaptureReason}, caught.Caught.{Caught}}}
use Rattle.fs_rules.specs.{Table.{admitted, Held}, Lent.{Listed, listed}, Walk.{walk_of}}
use Rattle.fs_input.specs.Records.{End, done, limited, bad}
use Rattle.cmd_stages.specs.{Refusal.{Stage, Found, and_then, or_stop, status_of}, declared.refusal.Refusal.{Refusal, TheVariants.{Outside}}}
use Rattle.cmd_stages.specs.{Load.{Names}, Play.{EndsBy, IsOpenOrDone}, Player.{PlayerState}}

-- the admitted rules of each family in order
pub record AdmittedRules : Type 0 where
  pub v4 : List Listed
  pub v6 : List Listed

abbrev pub admitted_rules : Held → AdmittedRules
admitted_rules held = record { v4 = map listed (admitted V4 held); v6 = map listed (admitted V6 held) }

abbrev pub rules_for : Family → AdmittedRules → List Listed
rules_for V4 rules = rules.v4
rules_for V6 rules = rules.v6

-- the line of a record: of the walk over the admitted rules of the packet's family, or of why it isn't read
abbrev pub text_by : ℕ → AdmittedRules → Result Viewed Unread → List ℕ
text_by number rules (Ok view) = line_of number (walk_of view (rules_for view.family rules))
text_by number rules (Err unread) = unread_line_of number (unread_number unread)

-- what a packet shows, or why it isn't read: so of one whose link type isn't known
abbrev pub seen_of : Option Link → List ℕ → Result Viewed Unread
seen_of None octets = Err Foreign
seen_of (Some link) octets = view_of link octets

abbrev pub packet_text : ℕ → AdmittedRules → Option Link → List ℕ → List ℕ
packet_text number rules link octets = text_by number rules (seen_of link octets)

-- the admitted rules at each moment, of the routes that are held then
abbrev pub rules_by : (ℕ → Held) → ℕ → AdmittedRules
rules_by held moment = admitted_rules (held moment)

-- the same routes at each moment: so of a tape without moments
abbrev pub always : Held → ℕ → Held
always held moment = held

-- the lines of these packets, of which the first has the number behind this one: each by the rules at its moment
abbrev pub lines_from : ℕ → (ℕ → AdmittedRules) → List Captured → List ℕ
lines_from number rules [] = []
lines_from number rules (packet ∷ packets) =
    packet_text (number + 1) (rules packet.moment) packet.link packet.octets ++ lines_from (number + 1) rules packets

-- all lines of a capture, under the routes held at each moment
abbrev pub output_of : (ℕ → Held) → Recorded → List ℕ
output_of held capture = lines_from 0 (rules_by held) capture.packets

-- a capture's packets are judged up to its end, whatever that is
abbrev pub capture_stage : ℕ → Names → List ℕ → Stage Recorded
capture_stage limit holds name = and_then (or_stop Outside (holds name)) (λ octets. Found (capture_of limit octets))

-- the status at the end of a capture
abbrev pub status_at : End CaptureReason → ℕ
status_at done = 0
status_at limited = 7
status_at (bad reason place) = 5

-- a status of the capture: of no other input, and of no session
abbrev pub IsOfCapture : ℕ → Type 0
IsOfCapture status = (status ≢ 3) × (status ≢ 4) × (status ≢ 8) × (status ≢ 10)

-- a status at a packet: of the capture, and memory wasn't wanting
abbrev pub IsAtPacket : ℕ → Type 0
IsAtPacket status = IsOfCapture status × (status ≢ 6)

-- a status of the capture, or of the tape that is followed
abbrev pub IsOfPackets : ℕ → Type 0
IsOfPackets status = (status ≢ 3) × (status ≢ 8) × (status ≢ 10)

-- Where judging ends well the tape that is followed is open or done, and a fault of the tape is the one that ended it.
abbrev pub EndsTape : {T : Type 0} → PlayerState → Result T Refusal → Type 0
EndsTape player result =
    MatchResult result (λ _. IsOpenOrDone player.tape player.ahead) (λ refusal. status_of refusal ≡ 4 → EndsBy player.tape refusal)

-- a packet was given, and these are the packets to come behind it; or the capture is done
abbrev pub Yields : List Captured × End CaptureReason → List Captured × End CaptureReason → List ℕ → Option Caught → Type 0
Yields before now into (Some caught) = before ≡ with_part (packet_from caught into) now
Yields before now into None = before ≡ ([], done)

-- no packet is to come, for such a fault; or a call on the outside failed
abbrev pub Ceases : List Captured × End CaptureReason → Type 0 → Refusal → Type 0
Ceases before failed refusal = ((before.0 ≡ []) × (status_at before.1 ≡ status_of refusal)) ⊎ ((refusal ≡ Outside) × failed)

-- the packet that was found, and those to come behind it; where none was the capture is done
abbrev pub found_behind : Option Caught → List ℕ → List Captured × End CaptureReason → List Captured × End CaptureReason
found_behind None into rest = ([], done)
found_behind (Some caught) into rest = with_part (packet_from caught into) rest
